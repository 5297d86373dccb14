use Rattle.std.proofs.Common.{rules}
use Rattle.table.specs.Rows.{same_rows}
use Rattle.table.proofs.table.Table.copied.Goals as goal

pub returns-clause-value : goal.returns-clause-value
returns-clause-value g c = same_rows _ _ (search rules)
