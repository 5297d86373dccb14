-- A fill keeps the books sound.
use Rattle.std.proofs.Common.{◌≡◌, ℕ, ◌+◌, ◌*◌, ◌≤◌, true, false, List, get_or, ℤ, pos, ◌+ℤ◌, ◌-ℤ◌, Some, refl, ap, mul-le-mul_left, arith}
use Rattle.std.proofs.ByRecursion.{All-from_get_or, All-weaker}
use Rattle.std.proofs.lemmas.List.{length_push}
use Rattle.std.proofs.lemmas.Int.{ints}
use Rattle.std.specs.List.{find}
use Rattle.entry.specs.declared.types.Effect.{Effect}
use Rattle.entry.specs.declared.types.Effect.TheVariants.{Opening, Closing}
use Rattle.books.specs.declared.rows.Lots.{Lots}
use Rattle.books.specs.declared.rows.Order.{Order}
use Rattle.books.specs.declared.rows.Position.{Position}
use Rattle.books.specs.Limits.{highest_worth}
use Rattle.books.specs.Lots.{all_lots, one_if, left, part}
use Rattle.books.specs.Market.{contract_at, other_side, product_of, futures_tick}
use Rattle.books.specs.Books.{Books, no_order, by_effect, numbered, closable, opens_lots, in_session}
use Rattle.books.specs.Figures.{results}
use Rattle.books.specs.Effects.{opened_line, lines_filled, realised, premium_in, premium_out, fees_of, taxes_of, balance_filled, filled}
use Rattle.books.specs.Sound.{Sound, Each, Affordable, OrderFits, LineFits, Roomy, LotsCounted, BalanceFits, lots_moved, no_line}
use Rattle.history.proofs.Sums.{weigh-push, weigh-left, weigh-left_le, weigh-first, weigh-count}
use Rattle.history.proofs.KeepsRows.{each_push}
use Rattle.history.proofs.KeepsOrders.{left_length, each_left, numbers_left}
use Rattle.history.proofs.KeepsHeld.{closed_held, held_fill}
use Rattle.history.proofs.Results.{of_contract_lem}
use Rattle.history.proofs.KeepsMoney.{Bounded, Priced, results_bounded, futures_affordable, part_all, premiums_within, taxes_within, fill_fits}
use Rattle.history.proofs.KeepsAccount.{with_account, shorter_order, shorter_line}

-- the balance after k lots of an order at a price, of which closed futures lots paid r
abbrev balance_with : Books → Order → ℕ → ℕ → ℤ → ℤ
balance_with b o k price r =
    b.balance +ℤ r
    +ℤ pos (premium_in b.market o k price) -ℤ pos (premium_out b.market o k price)
    -ℤ pos (fees_of b.market o k) -ℤ pos (taxes_of b.market o k price)

-- k lots of the order o with the number n at a price, all as tested
module _ (b : Books) (s : Sound b) (n k price : ℕ) (o : Lots Order)
    (e : find (λ x. numbered n x.of) b.orders ≡ Some o) (fits : OrderFits b.market b.given o)
    (some : 1 ≤ k) (all : k ≤ o.count) (worth : Affordable b.market o.of.contract price) where
  standing_fewer : all_lots (left (numbered n) k b.orders) + k ≡ all_lots b.orders
  standing_fewer = omega (arith, weigh-left (λ o. 1) (numbered n) k b.orders, weigh-first (λ o. 1) (numbered n) k b.orders o e all)

  lines_more : all_lots (lines_filled o.of k price Opening b.lines) ≡ all_lots b.lines + k
  lines_more = omega (arith, weigh-push (λ l. 1) b.lines (opened_line o.of k price))

  closed_lots : o.of.effect ≡ Closing → all_lots (part (closable o.of) k b.lines) ≡ k
  closed_lots f = weigh-count (closable o.of) k b.lines (closed_held b.orders b.lines s.held n k o e all f)

  lines_fewer : o.of.effect ≡ Closing → all_lots (lines_filled o.of k price Closing b.lines) + k ≡ all_lots b.lines
  lines_fewer f = omega (arith, weigh-left (λ l. 1) (closable o.of) k b.lines, closed_lots f)

  lines_fit : (f : Effect) → Each no_line (LineFits b.market) (lines_filled o.of k price f b.lines)
  lines_fit Opening =
      let c = fits.1.1 in
      each_push no_line (LineFits b.market) b.lines (opened_line o.of k price) s.lines (fits.0, (some, omega arith), worth, worth)
  lines_fit Closing = each_left no_line (LineFits b.market) (shorter_line b.market) (closable o.of) k b.lines s.lines

  room_still : (f : Effect) → o.of.effect ≡ f → Roomy (left (numbered n) k b.orders) (lines_filled o.of k price f b.lines)
  room_still Opening i =
      let u = λ (q : Order). one_if (opens_lots q) in
      omega (
        arith,
        s.room,
        length_push b.lines (opened_line o.of k price),
        weigh-left u (numbered n) k b.orders,
        weigh-first u (numbered n) k b.orders o e all,
        ap (λ f. k * one_if (by_effect f true false)) i,
      )
  room_still Closing i = omega (arith, s.room, left_length (closable o.of) k b.lines, weigh-left_le (λ o. one_if (opens_lots o)) (numbered n) k b.orders)

  counted_still : (f : Effect) → o.of.effect ≡ f → LotsCounted b.given (left (numbered n) k b.orders) (lines_filled o.of k price f b.lines)
  counted_still Opening i = omega (arith, s.counted, standing_fewer, lines_more)
  counted_still Closing i = omega (arith, s.counted, standing_fewer, lines_fewer i)

  -- ---- money
  closed_bounded : o.of.effect ≡ Closing → Bounded (results b.market (λ c. price) (part (closable o.of) k b.lines)) (k * highest_worth)
  closed_bounded i =
      let m = b.market in
      let ls = part (closable o.of) k b.lines in
      let Entered = λ (l : Position). l.entry * futures_tick m l.contract ≤ highest_worth in
      let entered = All-from_get_or (λ (l : Lots Position). Entered l.of) b.lines no_line (λ j l. futures_affordable m (get_or b.lines j no_line).of.contract _ (s.lines j l).2) in
      let priced = futures_affordable m o.of.contract price worth in
      let fit = All-weaker _ (Priced m (λ c. price)) (λ l h. (rw (of_contract_lem o.of.contract (other_side o.of.side) l.of h.1).0 priced, h.0)) ls
      (part_all Entered (closable o.of) k b.lines entered) in
      rw (closed_lots i) at (results_bounded m (λ c. price) ls fit)

  balance_fits : (j : ℕ) (r : ℤ) (ls : List (Lots Position)) → Bounded r (j * highest_worth) → all_lots ls + j ≤ all_lots b.lines + k →
      BalanceFits (balance_with b o.of k price r) (lots_moved b.given (left (numbered n) k b.orders) ls)
  balance_fits j r ls bound lots =
      let m = b.market in
      let os = left (numbered n) k b.orders in
      let p = product_of m o.of.contract in
      let charges = s.charges (contract_at m o.of.contract).product (s.contracts o.of.contract fits.0).0 in
      let premiums = premiums_within o.of.side p.kind k price p.tick worth in
      let fees = mul-le-mul_left k charges.0 in
      let taxes = taxes_within k price p.tick p.terms.tax worth charges.1 in
      fill_fits b.balance r j k (premium_in m o.of k price) (premium_out m o.of k price) (fees_of m o.of k) (taxes_of m o.of k price)
      (lots_moved b.given b.orders b.lines) (lots_moved b.given os ls) s.balance bound premiums fees taxes (omega (arith, s.counted, standing_fewer))

  balance_still : (f : Effect) → o.of.effect ≡ f →
      BalanceFits (balance_with b o.of k price (realised b.market o.of k price f b.lines))
      (lots_moved b.given (left (numbered n) k b.orders) (lines_filled o.of k price f b.lines))
  balance_still Opening i =
      balance_fits 0 (pos 0) (lines_filled o.of k price Opening b.lines) (omega (arith, ints), omega (arith, ints)) (omega (arith, lines_more))
  balance_still Closing i =
      let r = results b.market (λ c. price) (part (closable o.of) k b.lines) in
      balance_fits k r (lines_filled o.of k price Closing b.lines) (closed_bounded i) (omega (arith, lines_fewer i))

  pub fill_kept : in_session b.phase ≡ true → Sound (filled b n o.of k price)
  fill_kept on =
      let f = o.of.effect in
      let os = left (numbered n) k b.orders in
      with_account b s (balance_filled b o.of k price) b.surcharge b.given b.phase b.call os (lines_filled o.of k price f b.lines) (record {
        orders_few = omega (arith, left_length (numbered n) k b.orders, s.orders_few);
        given_few = s.given_few;
        orders = each_left no_order (OrderFits b.market b.given) (shorter_order b.market b.given) (numbered n) k b.orders s.orders;
        numbers = numbers_left (numbered n) k b.orders s.numbers;
        idle = λ e. cc;
        lines = lines_fit f;
        held = held_fill b.orders b.lines s.held n k o e all price f refl;
        room = room_still f refl;
        counted = counted_still f refl;
        balance = balance_still f refl;
        surcharge = s.surcharge;
      })
