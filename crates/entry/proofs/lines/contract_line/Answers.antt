use Rattle.std.proofs.Common.{rules}
use Rattle.entry.specs.Fields.{field_at}
use Rattle.entry.proofs.lines.contract_line.Goals as goal

pub returns-in_err-mark : goal.returns-in_err-mark
unfolding field_at
returns-in_err-mark c = search rules

pub returns : goal.returns
unfolding field_at
returns c = search rules
