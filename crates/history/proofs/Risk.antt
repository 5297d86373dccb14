-- Maintenance is never above initial, den is never below zero at any prices in their bands, and every figure keeps within its bound.
use Rattle.std.proofs.Common.{◌≡◌, ℕ, ◌+◌, ◌-◌, ◌*◌, ◌<◌, ◌≤◌, max, List, [], ◌∷◌, length, pos, ◌≤ℤ◌, ap, mul-le-mul_right, arith}
use Rattle.std.proofs.lemmas.Int.{ints}
use Rattle.std.proofs.lemmas.Bool.Decides.{nat_tests}
use Rattle.std.proofs.ByRecursion.{All-from_get_or}
use Rattle.std.specs.List.{AllByRecursion}
use Rattle.entry.specs.declared.types.Kind.{Kind}
use Rattle.entry.specs.declared.types.Kind.TheVariants.{Futures, Options}
use Rattle.entry.specs.declared.types.Side.TheVariants.{Sell}
use Rattle.margin_rule.specs.Meanings.{Meaning, asked, most_lots, nearest_lots, nearest_figure}
use Rattle.margin_rule.specs.Laws.{Laws}
use Rattle.margin_rule.proofs.Following.{everywhere}
use Rattle.books.specs.declared.rows.Lots.{Lots}
use Rattle.books.specs.declared.rows.Position.{Position}
use Rattle.books.specs.Lots.{weigh, lots_of, one_if, sum_to}
use Rattle.books.specs.Market.{Prices, initially, to_maintain, by_kind, same_side, contract_at, product_at, product_of, marks, option_tick}
use Rattle.books.specs.Books.{Books, of_contract}
use Rattle.books.specs.Figures.{futures_need, series_need, initial_need, maintenance_need, den_at}
use Rattle.books.specs.Limits.{highest_worth}
use Rattle.books.specs.Sound.{Sound, no_line, InBands}
use Rattle.history.proofs.Sums.{sum_to-le, sum_to-has, sum_to-both}
use Rattle.history.proofs.Needs.{by_kind_le}
use Rattle.history.proofs.KeepsMoney.{lots_of_few}
use Rattle.history.proofs.KeepsAccount.{affordable, lots_few}

-- ---- maintenance and initial
module _ (rule : Meaning) (laws : Laws rule) (b : Books) (s : Sound b) where
  published_higher : (k : Kind) (a a' m m' worth out : ℕ) → a ≤ a' → m ≤ m' → by_kind k a (worth + max (a - out) m) ≤ by_kind k a' (worth + max (a' - out) m')
  published_higher k a a' m m' worth out p q = grind arith

  pub maintenance_below_initial : maintenance_need rule b ≤ initial_need rule b
  maintenance_below_initial =
      let m = b.market in
      let grows = (everywhere rule laws).grows in
      omega (
        arith,
        sum_to-le (length m.products) (futures_need rule m to_maintain b.lines) (futures_need rule m initially b.lines) (λ i l. by_kind_le (product_at m i).kind _ 0 _ 0 (grows _ _ _ _ _ _ (omega arith) (omega arith) (s.margins i l).1) (omega arith)),
        sum_to-le (length m.contracts) (series_need rule m to_maintain (marks m) b.lines) (series_need rule m initially (marks m) b.lines) (λ c l.
            let fit = s.margins (contract_at m c).product (s.contracts c l).0 in
            by_kind_le (product_of m c).kind 0 _ 0 _ (omega arith) (grows 0 _ _ 0 _ _ (omega arith) (omega arith) (published_higher (product_of m c).kind _ _ _ _ _ _ fit.1 fit.3))),
      )

  -- ---- den
  -- short lots, line by line or series by series
  of_series : (w : ℕ → ℕ) (l : Position) (k : ℕ) →
      k * (one_if (same_side l.side Sell) * w l.contract) ≡ w l.contract * (k * one_if (of_contract l.contract Sell l))
  of_series w l k = grind (arith, nat_tests)

  short_lots : (w : ℕ → ℕ) (n : ℕ) (ls : List (Lots Position)) → AllByRecursion (λ (l : Lots Position). l.of.contract < n) ls →
      weigh (λ l. one_if (same_side l.side Sell) * w l.contract) ls ≤ sum_to n (λ c. w c * lots_of (of_contract c Sell) ls)
  short_lots w n [] f = omega arith
  short_lots w n (l ∷ ls) f =
      let one = λ (c : ℕ). w c * (l.count * one_if (of_contract c Sell l.of)) in
      let rest = λ (c : ℕ). w c * lots_of (of_contract c Sell) ls in
      omega (
        arith,
        short_lots w n ls f.1,
        of_series w l.of l.count,
        sum_to-has n l.of.contract one f.0,
        sum_to-both n one rest,
        sum_to-le n (λ c. one c + rest c) (λ c. w c * lots_of (of_contract c Sell) (l ∷ ls)) (λ c h. omega arith),
      )

  -- a series needs at least what its short lots are worth
  series_covers : (k : Kind) (p tick n a x : ℕ) → p * tick ≤ highest_worth → n ≤ most_lots →
      p * by_kind k 0 tick * n ≤ by_kind k 0 ((asked rule).need 0 n (by_kind k a (p * tick + x)))
  series_covers Futures p tick n a x h l = omega arith
  series_covers Options p tick n a x h l =
      let r = p * tick + x in
      let f : p * tick ≤ nearest_figure r = omega arith in
      let e : max (nearest_lots 0) (nearest_lots n) ≡ n = omega arith in
      omega (arith, (everywhere rule laws).covers 0 n r, mul-le-mul_right n f, ap (λ z. nearest_figure r * z) e)

  pub den_not_negative : (price : Prices) → InBands b.market price → pos 0 ≤ℤ den_at rule b price
  den_not_negative price band =
      let m = b.market in
      let w = λ (c : ℕ). price c * option_tick m c in
      let listed = All-from_get_or (λ (l : Lots Position). l.of.contract < length m.contracts) b.lines no_line (λ i l. (s.lines i l).0) in
      omega (
        arith,
        ints,
        short_lots w (length m.contracts) b.lines listed,
        sum_to-le (length m.contracts) (λ c. w c * lots_of (of_contract c Sell) b.lines) (series_need rule m initially price b.lines) (λ c l.
            series_covers (product_of m c).kind (price c) (product_of m c).tick (lots_of (of_contract c Sell) b.lines) _ _ (affordable b s c (price c) l (band c l).1) (omega (arith, lots_few b s, lots_of_few (of_contract c Sell) b.lines))),
      )

  pub marks_in_bands : InBands b.market (marks b.market)
  marks_in_bands c l = ((s.contracts c l).2.1, (s.contracts c l).2.2)
