use Rattle.std.proofs.Common.{arith}
use Rattle.std.proofs.lemmas.Nat.{mul-le}
use Rattle.margin_rule.specs.Bounds.{highest_need}
use Rattle.margin_rule.proofs.raise.percent_of.Goals as goal

pub overflow_add-result : goal.overflow_add-result
overflow_add-result c = omega (arith, mul-le c.args.x c.args.percent highest_need 500 c.requires.x c.requires.percent)
