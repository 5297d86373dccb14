-- A fill: cash and results move by the fill measured to the prices, and available falls by fee and tax at most, because what the
-- reservation hands back covers what the filled lots take.
use Rattle.std.proofs.Common.{◌≡◌, ℕ, ◌+◌, ◌-◌, ◌*◌, ◌≤◌, max, List, pos, ◌+ℤ◌, ◌≤ℤ◌, Some, refl, ap, mul-le-mul_right, mul-le-mul_left, arith}
use borrow.Author.Differences.{up, down}
use Rattle.std.proofs.lemmas.Int.{ints}
use Rattle.std.specs.List.{find}
use Rattle.entry.specs.declared.types.Kind.{Kind}
use Rattle.entry.specs.declared.types.Side.{Side}
use Rattle.entry.specs.declared.types.Effect.{Effect}
use Rattle.entry.specs.declared.types.Effect.TheVariants.{Opening, Closing}
use Rattle.margin_rule.specs.Meanings.{Meaning, asked}
use Rattle.margin_rule.specs.Laws.{Laws}
use Rattle.books.specs.declared.rows.Lots.{Lots}
use Rattle.books.specs.declared.rows.Order.{Order}
use Rattle.books.specs.declared.rows.Position.{Position}
use Rattle.books.specs.Lots.{weigh, lots_of}
use Rattle.books.specs.Market.{Market, Prices, initially, by_kind, by_side, product_of, contract_at, marks, futures_tick, option_tick, worse, better, out_of_money}
use Rattle.books.specs.Books.{Books, by_effect, numbered, closable}
use Rattle.books.specs.Figures.{result, results, lot_gain, needs, lot_reserve, available}
use Rattle.books.specs.Effects.{opened_line, lines_filled, realised, fees_of, taxes_of, filled}
use Rattle.history.proofs.Sums.{weigh-push, weigh-left, weigh-left_le, weigh-first}
use Rattle.history.proofs.Results.{result_is, results_push, results_closed}
use Rattle.history.proofs.Needs.{needs_fewer, needs_opened, lot_share}

-- there are lots to close
abbrev pub Closes : Order → ℕ → List (Lots Position) → Type 0
Closes o k ls = o.effect ≡ Closing → k ≤ lots_of (closable o) ls

moves_by : (m : Market) (mk : Prices) (ls : List (Lots Position)) (o : Order) (k p : ℕ) (f : Effect) → (f ≡ Closing → k ≤ lots_of (closable o) ls) →
    realised m o k p f ls +ℤ results m mk (lines_filled o k p f ls) ≡ results m mk ls +ℤ result o.side (k * futures_tick m o.contract) (mk o.contract) p
moves_by m mk ls o k p Opening h = omega (arith, ints, results_push m mk ls (opened_line o k p))
moves_by m mk ls o k p Closing h = results_closed m mk o.contract k p o.side ls (h refl)

-- cash and results together move by the fill measured to the prices, whatever they are
pub fill_moves : (m : Market) (mk : Prices) (ls : List (Lots Position)) (o : Order) (k p : ℕ) → Closes o k ls →
    realised m o k p o.effect ls +ℤ results m mk (lines_filled o k p o.effect ls) ≡ results m mk ls +ℤ result o.side (k * futures_tick m o.contract) (mk o.contract) p
fill_moves m mk ls o k p h = moves_by m mk ls o k p o.effect h

-- ---- what the lots take
-- the ticks lost and those won between two prices
swing : (s : Side) (now p : ℕ) → by_side s now p + worse s p now ≡ by_side s p now + better s now p
swing s now p = grind arith

-- a price within the limit is no worse
within_limit : (s : Side) (p limit now : ℕ) → worse s p limit ≡ 0 → worse s p now ≤ worse s limit now
within_limit s p limit now h = grind arith

-- lots at a price within the limit are worth, beside what of it is gain, no less than was reserved
fills_within : (s : Side) (k now p limit : ℕ) → worse s p limit ≡ 0 → down (result s k now p) + k * better s now p ≤ up (result s k now p) + k * worse s limit now
fills_within s k now p limit h =
    omega (arith, result_is s k now p, ap (λ x. k * x) (swing s now p), mul-le-mul_left k (within_limit s p limit now h))

-- a premium within the limit
premium_within : (s : Side) (k p limit tick : ℕ) → worse s p limit ≡ 0 → by_side s (k * (p * tick)) 0 ≤ k * by_side s (limit * tick) 0
premium_within s k p limit tick h = let scaled = λ (l : p ≤ limit). mul-le-mul_left k (mul-le-mul_right tick l) in grind arith

-- a reservation is the ticks to the limit of a future, the premium at the limit of an option bought, and the share of an opened lot
reserve_parts : (kind : Kind) (s : Side) (f : Effect) (tick limit mark a b : ℕ) (lot : ℕ → ℕ) →
    by_kind kind (tick * worse s limit mark + by_effect f (lot (by_kind kind a b)) 0) (by_side s (limit * tick) (by_effect f (lot (by_kind kind a b)) 0))
    ≡ by_kind kind tick 0 * worse s limit mark + by_side s (limit * by_kind kind 0 tick) 0 + by_effect f (by_kind kind (lot a) (by_side s 0 (lot (by_kind kind a b)))) 0
reserve_parts kind s f tick limit mark a b lot = grind arith

-- ---- the figures after
needs_by : (rule : Meaning) (laws : Laws rule) (m : Market) (ls : List (Lots Position)) (o : Order) (k p : ℕ) (f : Effect) →
    needs rule m initially (marks m) (lines_filled o k p f ls) ≤ needs rule m initially (marks m) ls + k * by_effect f (lot_share rule m initially (marks m) (opened_line o k p).of) 0
needs_by rule laws m ls o k p Opening = needs_opened rule laws m initially (marks m) ls (opened_line o k p)
needs_by rule laws m ls o k p Closing =
    omega (arith, needs_fewer rule laws m initially (marks m) (lines_filled o k p Closing ls) ls (λ q. weigh-left_le _ (closable o) k ls))

gains_by : (u : Position → ℕ) (ls : List (Lots Position)) (o : Order) (k p : ℕ) (f : Effect) →
    weigh u (lines_filled o k p f ls) ≤ weigh u ls + k * u (opened_line o k p).of
gains_by u ls o k p Opening = omega (arith, weigh-push u ls (opened_line o k p))
gains_by u ls o k p Closing = omega (arith, weigh-left_le u (closable o) k ls)

-- available falls by fee and tax at most
pub fill_available : (rule : Meaning) (laws : Laws rule) (b : Books) (n k p : ℕ) (o : Lots Order) →
    find (λ x. numbered n x.of) b.orders ≡ Some o → worse o.of.side p o.of.limit ≡ 0 → k ≤ o.count → Closes o.of k b.lines →
    available rule b ≤ℤ (available rule (filled b n o.of k p) +ℤ pos (fees_of b.market o.of k + taxes_of b.market o.of k p))
fill_available rule laws b n k p o e w h room =
    let m = b.market in
    let s = o.of.side in
    let f = o.of.effect in
    let mk = marks m o.of.contract in
    let ft = futures_tick m o.of.contract in
    let pr = product_of m o.of.contract in
    let u = lot_reserve rule m in
    let worth = mk * pr.tick + max (pr.terms.ia - pr.tick * out_of_money (contract_at m o.of.contract).right (contract_at m o.of.contract).strike pr.spot) pr.terms.ib in
    omega (
      arith,
      ints,
      fill_moves m (marks m) b.lines o.of k p room,
      fills_within s (k * ft) mk p o.of.limit w,
      gains_by (lot_gain m (marks m)) b.lines o.of k p f,
      needs_by rule laws m b.lines o.of k p f,
      weigh-left u (numbered n) k b.orders,
      weigh-first u (numbered n) k b.orders o e h,
      ap (λ x. k * x) (reserve_parts pr.kind s f pr.tick o.of.limit mk pr.terms.ia worth (asked rule).lot),
      premium_within s k p o.of.limit (option_tick m o.of.contract) w,
    )
