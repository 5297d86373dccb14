-- The five laws of a margin rule, for questions inside the ranges. Assumes nothing.
use Rattle.std.specs.Prelude.{◌≡◌, ℕ, ◌+◌, ◌*◌, ◌≤◌, max}
use Rattle.margin_rule.specs.Meanings.{Meaning, most_lots, highest_figure}

-- so many lots of a side, and a published figure, that a question may name
abbrev pub Lots : ℕ → Type 0
Lots n = n ≤ most_lots

pub record Figure (r : ℕ) : Type 0 where
  pub least : 1 ≤ r
  pub most : r ≤ highest_figure

-- the furthest Reach
abbrev pub furthest_reach : ℕ
furthest_reach = 2000

-- before rises to after, by at most so much
pub record Rise (before after most : ℕ) : Type 0 where
  pub least : before ≤ after
  pub within : after ≤ before + most

pub record Laws (rule : Meaning) : Type 0 where
  -- Need for no lots is 0
  pub none : (r : ℕ) → Figure r → rule.need 0 0 r ≡ 0
  -- one lot more on either side raises Need by at least 0 and at most Lot
  pub one_more_long : (l s r : ℕ) → Lots (l + 1) → Lots s → Figure r → Rise (rule.need l s r) (rule.need (l + 1) s r) (rule.lot r)
  pub one_more_short : (l s r : ℕ) → Lots l → Lots (s + 1) → Figure r → Rise (rule.need l s r) (rule.need l (s + 1) r) (rule.lot r)
  -- Need is at least the figure times the larger of the two
  pub covers : (l s r : ℕ) → Lots l → Lots s → Figure r → r * max l s ≤ rule.need l s r
  -- a higher figure never lowers Need
  pub higher_figure : (l s r q : ℕ) → Lots l → Lots s → Figure r → Figure q → r ≤ q → rule.need l s r ≤ rule.need l s q
  -- Reach is 100 to 2,000, and Lot at most Reach times 1,000,000
  pub reach_least : 100 ≤ rule.reach
  pub reach_most : rule.reach ≤ furthest_reach
  pub lot_within_reach : (r : ℕ) → Figure r → rule.lot r ≤ rule.reach * 1000000
