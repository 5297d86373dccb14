-- What follows from the laws of a margin rule, for questions inside the ranges and for every question. Assumes nothing.
use Rattle.std.specs.Prelude.{◌≡◌, ℕ, ◌+◌, ◌*◌, ◌≤◌, max}
use Rattle.margin_rule.specs.Meanings.{Meaning, asked, most_lots, nearest_lots, nearest_figure}
use Rattle.margin_rule.specs.Laws.{Lots, Figure, furthest_reach}

-- the most that any rule asks for one lot, and for as many lots as a question may name
abbrev pub highest_lot : ℕ
highest_lot = furthest_reach * 1000000

abbrev pub highest_need : ℕ
highest_need = highest_lot * (most_lots + most_lots)

-- inside the ranges
pub record Bounds (rule : Meaning) : Type 0 where
  -- more lots and a higher figure never lower Need
  pub grows : (l s r m t q : ℕ) → l ≤ m → s ≤ t → r ≤ q → Lots m → Lots t → Figure r → Figure q → rule.need l s r ≤ rule.need m t q
  -- j long and k short lots more raise Need by at most (j + k) times Lot
  pub more_lots : (l s j k r : ℕ) → Lots (l + j) → Lots (s + k) → Figure r → rule.need (l + j) (s + k) r ≤ rule.need l s r + (j + k) * rule.lot r
  -- Lot is at least the figure, at least 1, and at most 2,000,000,000
  pub lot_covers : (r : ℕ) → Figure r → r ≤ rule.lot r
  pub lot_is_some : (r : ℕ) → Figure r → 1 ≤ rule.lot r
  pub lot_bounded : (r : ℕ) → Figure r → rule.lot r ≤ highest_lot
  -- Need is at most 2,000,000,000 for each lot
  pub need_bounded : (l s r : ℕ) → Lots l → Lots s → Figure r → rule.need l s r ≤ highest_lot * (l + s)

-- at the nearest ends of the ranges, for every question
pub record BoundsEverywhere (rule : Meaning) : Type 0 where
  pub none : (r : ℕ) → (asked rule).need 0 0 r ≡ 0
  pub grows : (l s r m t q : ℕ) → l ≤ m → s ≤ t → r ≤ q → (asked rule).need l s r ≤ (asked rule).need m t q
  pub more_lots : (l s j k r : ℕ) → (asked rule).need (l + j) (s + k) r ≤ (asked rule).need l s r + (j + k) * (asked rule).lot r
  pub covers : (l s r : ℕ) → nearest_figure r * max (nearest_lots l) (nearest_lots s) ≤ (asked rule).need l s r
  pub lot_covers : (r : ℕ) → nearest_figure r ≤ (asked rule).lot r
  pub lot_is_some : (r : ℕ) → 1 ≤ (asked rule).lot r
  pub lot_bounded : (r : ℕ) → (asked rule).lot r ≤ highest_lot
  pub need_bounded : (l s r : ℕ) → (asked rule).need l s r ≤ highest_lot * (nearest_lots l + nearest_lots s)
