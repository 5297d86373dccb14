use Rattle.std.proofs.Common.{rules}
use lib.Seq.{take-set-lt}
use Rattle.table.proofs.table.Table.set.Goals as goal

pub returns-clause-after : goal.returns-clause-after
returns-clause-after g c = search (rules, take-set-lt)
