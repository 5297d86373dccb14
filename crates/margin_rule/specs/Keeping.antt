-- Outright, Spread and Raise keep the laws, Raise over any rule that keeps them. Assumes nothing.
use Rattle.std.proofs.Common.{arith, rules, mul-add, add-mul, mul-le-mul_left, mul-le-mul_right}
use Rattle.std.specs.Prelude.{ℕ, ◌+◌, ◌*◌, ◌≤◌}
use Rattle.std.proofs.lemmas.Bool.{leb-true, cond_both}
use Rattle.margin_rule.specs.Meanings.{Meaning}
use Rattle.margin_rule.specs.Laws.{Laws, Rise, furthest_reach}
use Rattle.margin_rule.specs.Rules.{outright, spread, raised, times, percent_of}

-- so many lots at a figure, where the lots grow by at most one
product_rises : (r n m : ℕ) → n ≤ m → m ≤ n + 1 → Rise (r * n) (r * m) r
product_rises r n m h k = record {
  least = mul-le-mul_left r h;
  within = omega (arith, mul-le-mul_left r k, mul-add r n 1);
}

pub outright_keeps : Laws outright
outright_keeps = search (rules, mul-le-mul_left)

pub spread_keeps : Laws spread
spread_keeps = search (rules, mul-le-mul_left, product_rises)

-- a percentage of 100 or more, rounded up, keeps order and lowers nothing
percent_grows : (p n m : ℕ) → n ≤ m → percent_of p n ≤ percent_of p m
percent_grows p n m h = omega (arith, mul-le-mul_right p h)

percent_rises : (p n m lot : ℕ) → Rise n m lot → Rise (percent_of p n) (percent_of p m) (percent_of p lot)
percent_rises p n m lot h = record {
  least = percent_grows p n m h.least;
  within = omega (arith, mul-le-mul_right p h.within, add-mul n lot p);
}

percent_covers : (p n : ℕ) → 100 ≤ p → n ≤ percent_of p n
percent_covers p n h = omega (arith, mul-le-mul_left n h)

module _ (below : Meaning) (laws : Laws below) where
  times_keeps : (p : ℕ) → 100 ≤ p → percent_of p below.reach ≤ furthest_reach → Laws (times p below)
  times_keeps p low high = record {
    none = λ r f. grind (arith, laws.none r f);
    one_more_long = search (percent_rises, laws.one_more_long);
    one_more_short = search (percent_rises, laws.one_more_short);
    covers = λ l s r hl hs f. omega (arith, laws.covers l s r hl hs f, percent_covers p (below.need l s r) low);
    higher_figure = search (percent_grows, laws.higher_figure);
    reach_least = omega (arith, percent_covers p below.reach low);
    reach_most = high;
    lot_within_reach = λ r f. omega (arith, mul-le-mul_right p (laws.lot_within_reach r f));
  }

  pub raised_keeps : (p : ℕ) → 100 ≤ p → Laws (raised p below)
  raised_keeps p low = cond_both _ _ _ Laws (λ e. times_keeps p low (leb-true _ _ e)) (λ e. laws)
