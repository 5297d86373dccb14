-- What follows from the laws of a margin rule, for any rule that keeps them. Assumes nothing.
use Rattle.std.proofs.Common.{◌≡◌, ℕ, zero, suc, ◌+◌, ◌-◌, ◌*◌, ◌≤◌, mul-le-mul_right, add-mul, mul-le-mul_left, refl, arith, rules}
use Rattle.margin_rule.specs.Meanings.{Meaning, asked, most_lots, nearest_lots, nearest_figure}
use Rattle.margin_rule.specs.Laws.{Laws, Lots, Figure, Rise}
use Rattle.margin_rule.specs.Bounds.{Bounds, BoundsEverywhere, highest_lot, highest_need}

-- what rises by at most `each` from one number to the next rises by at most k times that over k numbers
climbs : (f : ℕ → ℕ) (each most : ℕ) → ((n : ℕ) → n + 1 ≤ most → Rise (f n) (f (n + 1)) each) → (n m k : ℕ) → m ≡ n + k → m ≤ most → Rise (f n) (f m) (k * each)
climbs f each most step n m zero e h = grind arith
climbs f each most step n m (suc k) e h = grind (arith, climbs f each most step n (n + k) k refl (omega arith), step (n + k) (omega arith), add-mul k 1 each)

-- a question at the nearest ends is inside the ranges
lots_in_range : (n : ℕ) → Lots (nearest_lots n)
lots_in_range n = omega arith

figure_in_range : (r : ℕ) → Figure (nearest_figure r)
figure_in_range r = search rules

module _ (rule : Meaning) (laws : Laws rule) where
  -- j long and k short lots more raise Need, by at most as many times Lot
  rises : (l s m t j k r : ℕ) → m ≡ l + j → t ≡ s + k → Lots m → Lots t → Figure r → Rise (rule.need l s r) (rule.need m t r) ((j + k) * rule.lot r)
  rises l s m t j k r e d hm ht f =
      let more_long = climbs (λ n. rule.need n s r) (rule.lot r) most_lots (λ n h. laws.one_more_long n s r h (omega arith) f) l m j e hm in
      let more_short = climbs (λ n. rule.need m n r) (rule.lot r) most_lots (λ n h. laws.one_more_short m n r hm h f) s t k d ht in
      record { least = omega arith; within = omega (arith, add-mul j k (rule.lot r)) }

  lots_grow : (l s m t r : ℕ) → l ≤ m → s ≤ t → Lots m → Lots t → Figure r → rule.need l s r ≤ rule.need m t r
  lots_grow l s m t r hl hs hm ht f = omega (arith, rises l s m t (m - l) (t - s) r (omega arith) (omega arith) hm ht f)

  lot_bounded : (r : ℕ) → Figure r → rule.lot r ≤ highest_lot
  lot_bounded r f = omega (arith, laws.lot_within_reach r f, laws.reach_most)

  lot_covers : (r : ℕ) → Figure r → r ≤ rule.lot r
  lot_covers r f =
      omega (arith, laws.covers 1 0 r (omega arith) (omega arith) f, laws.none r f, laws.one_more_long 0 0 r (omega arith) (omega arith) f)

  need_bounded : (l s r : ℕ) → Lots l → Lots s → Figure r → rule.need l s r ≤ highest_lot * (l + s)
  need_bounded l s r hl hs f = omega (arith, rises 0 0 l s l s r (omega arith) (omega arith) hl hs f, laws.none r f, mul-le-mul_left (l + s) (lot_bounded r f))

  pub inside : Bounds rule
  inside = record {
    grows = λ l s r m t q hl hs hr hm ht f g. omega (arith, lots_grow l s m t r hl hs hm ht f, laws.higher_figure m t r q hm ht f g hr);
    more_lots = λ l s j k r hl hs f. (rises l s _ _ j k r refl refl hl hs f).within;
    lot_covers = lot_covers;
    lot_is_some = λ r f. omega (arith, lot_covers r f);
    lot_bounded = lot_bounded;
    need_bounded = need_bounded;
  }

  -- past the ends fewer lots are added than are asked for
  more_anywhere : (l s j k r : ℕ) → Figure r → rule.need (nearest_lots (l + j)) (nearest_lots (s + k)) r ≤ rule.need (nearest_lots l) (nearest_lots s) r + (j + k) * rule.lot r
  more_anywhere l s j k r f =
      let m = nearest_lots (l + j) - nearest_lots l in
      let t = nearest_lots (s + k) - nearest_lots s in
      let fewer : m + t ≤ j + k = omega arith in
      omega (arith, rises (nearest_lots l) (nearest_lots s) (nearest_lots (l + j)) (nearest_lots (s + k)) m t r (omega arith) (omega arith) (omega arith) (omega arith) f, mul-le-mul_right (rule.lot r) fewer)

  pub everywhere : BoundsEverywhere rule
  everywhere = record {
    none = λ r. laws.none (nearest_figure r) (figure_in_range r);
    grows = λ l s r m t q hl hs hr. inside.grows _ _ _ _ _ _ (omega arith) (omega arith) (omega arith) (lots_in_range m) (lots_in_range t) (figure_in_range r) (figure_in_range q);
    more_lots = λ l s j k r. more_anywhere l s j k (nearest_figure r) (figure_in_range r);
    covers = λ l s r. laws.covers (nearest_lots l) (nearest_lots s) (nearest_figure r) (lots_in_range l) (lots_in_range s) (figure_in_range r);
    lot_covers = λ r. lot_covers (nearest_figure r) (figure_in_range r);
    lot_is_some = λ r. inside.lot_is_some (nearest_figure r) (figure_in_range r);
    lot_bounded = λ r. lot_bounded (nearest_figure r) (figure_in_range r);
    need_bounded = λ l s r. need_bounded (nearest_lots l) (nearest_lots s) (nearest_figure r) (lots_in_range l) (lots_in_range s) (figure_in_range r);
  }

  -- any answer is within the bounds
  pub need_within : (l s r : ℕ) → (asked rule).need l s r ≤ highest_need
  need_within l s r = omega (arith, everywhere.need_bounded l s r)

  pub lot_within : (r : ℕ) → (asked rule).lot r ≤ highest_need
  lot_within r = omega (arith, everywhere.lot_bounded r)
