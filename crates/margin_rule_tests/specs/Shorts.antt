-- A margin rule under which a short lot needs twice the published figure. Assumes nothing.
use Rattle.std.specs.Prelude.{◌+◌, ◌*◌}
use Rattle.std.proofs.Common.{mul-le-mul_left, rules}
use Rattle.margin_rule.specs.Meanings.{Meaning}
use Rattle.margin_rule.specs.Laws.{Laws}

abbrev pub double_shorts : Meaning
double_shorts = record {
  need = λ long short figure. figure * (long + short * 2);
  lot = λ figure. figure * 2;
  reach = 200;
}

pub double_shorts_keeps : Laws double_shorts
double_shorts_keeps = search (rules, mul-le-mul_left)
