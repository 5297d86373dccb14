use Rattle.std.proofs.Common.{rules}
use Rattle.entry.specs.Fields.{field_at}
use Rattle.entry.proofs.lines.order_line.Goals as goal

pub returns-in_err-lots : goal.returns-in_err-lots
unfolding field_at
returns-in_err-lots c = search rules

pub returns-in_err-price : goal.returns-in_err-price
unfolding field_at
returns-in_err-price c = search rules
