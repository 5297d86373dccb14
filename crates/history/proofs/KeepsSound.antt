-- New books are sound, and every entry keeps them so.
use Rattle.std.proofs.Common.{◌≡◌, ℕ, ◌+◌, ◌<◌, ◌≤◌, List, [], ◌∷◌, length, pos, ◌+ℤ◌, ◌-ℤ◌, refl, arith, rules}
use Rattle.std.proofs.ByRecursion.{All-from_get_or, All-get_or}
use Rattle.std.proofs.lemmas.Int.{ints}
use Rattle.std.proofs.lemmas.Bool.{leb-true, ltb-true, not-true}
use Rattle.std.specs.List.{AllByRecursion}
use Rattle.entry.specs.declared.types.Side.{Side}
use Rattle.entry.specs.declared.types.Effect.{Effect}
use Rattle.entry.specs.declared.types.Effect.TheVariants.{Opening, Closing}
use Rattle.entry.specs.Entries.{Said, lists_product, lists_contract, announces, sets_band, sets_spot, sets_mark, deposits, withdraws, cancels, orders, fills, opens, closes, ends_deadline}
use Rattle.margin_rule.specs.Meanings.{Meaning}
use Rattle.books.specs.declared.phase.Phase.{Phase}
use Rattle.books.specs.declared.phase.Phase.TheVariants.{Regular}
use Rattle.books.specs.declared.rows.Lots.{Lots}
use Rattle.books.specs.declared.rows.Order.{Order}
use Rattle.books.specs.declared.rows.Position.{Position}
use Rattle.books.specs.Limits.{most_orders, most_given, most_lines, most_lots_of_one}
use Rattle.books.specs.Lots.{lots_of, all_lots, one_if}
use Rattle.books.specs.Market.{Market, Prices, contract_at, contract_named, no_contract, other_side, marks}
use Rattle.books.specs.Books.{Books, new, no_order, ordered, numbered, of_contract, closes_on, opens_lots, in_session, next_phase, at_regular_close}
use Rattle.books.specs.Figures.{surcharge_of}
use Rattle.books.specs.Tests.{Answer, taken, declined, answer, tests, number, place_of, order_place, order_by, contract_by}
use Rattle.books.specs.Effects.{after, settled, effect_of, rebased, filled, closed}
use Rattle.books.specs.Sound.{Sound, Each, Affordable, OrderFits, LineFits, highest_surcharge, no_line}
use Rattle.history.proofs.Sums.{weigh-push}
use Rattle.history.proofs.Tested.{Passed, passed}
use Rattle.history.proofs.KeepsRows.{row_found}
use Rattle.history.proofs.KeepsMarket.{in_range, market_kept, product_listed_lem, contract_listed_lem, terms_announced, band_set, spot_set, mark_set_lem}
use Rattle.history.proofs.KeepsHeld.{held_opening, held_closing}
use Rattle.history.proofs.KeepsMoney.{surcharge_within}
use Rattle.history.proofs.KeepsAccount.{with_account, same_lots, affordable, mark_affordable, lots_few, lines_bounded, balance_kept, order_added, order_cut}
use Rattle.history.proofs.KeepsFill.{fill_kept}

pub sound_new : Sound new
sound_new = search (rules, arith, ints)

-- ---- a close
rebased_length : (price : Prices) (ls : List (Lots Position)) → length (rebased price ls) ≡ length ls
rebased_length price [] = refl
rebased_length price (l ∷ ls) = omega (arith, rebased_length price ls)

rebased_lots : (price : Prices) (ls : List (Lots Position)) → all_lots (rebased price ls) ≡ all_lots ls
rebased_lots price [] = refl
rebased_lots price (l ∷ ls) = omega (arith, rebased_lots price ls)

rebased_fit : (m : Market) (price : Prices) (ls : List (Lots Position)) → ((c : ℕ) → c < length m.contracts → Affordable m c (price c)) →
    AllByRecursion (LineFits m) ls → AllByRecursion (LineFits m) (rebased price ls)
rebased_fit m price [] a f = tt
rebased_fit m price (l ∷ ls) a f = search (rules, a, f, rebased_fit m price ls a f.1)

either_close : {A : Type 0} (P : A → Type 0) (phase : Phase) (r a : A) → P r → P a → P (at_regular_close phase r a)
either_close P Regular r a h k = h
either_close P _ r a h k = k

-- the lines that a close leaves
abbrev Settles : Books → List (Lots Position) → Type 0
Settles b ls = Each no_line (LineFits b.market) ls × (length ls ≡ length b.lines) × (all_lots ls ≡ all_lots b.lines)

module _ (rule : Meaning) (b : Books) (s : Sound b) where
  settles : Settles b (at_regular_close b.phase (rebased (marks b.market) b.lines) b.lines)
  settles =
      let price = marks b.market in
      let fit = rebased_fit b.market price b.lines (mark_affordable b s) (All-from_get_or (LineFits b.market) b.lines no_line s.lines) in
      let each : Each no_line (LineFits b.market) (rebased price b.lines) = λ i l. All-get_or (LineFits b.market) (rebased price b.lines) i no_line l fit in
      either_close (Settles b) b.phase (rebased price b.lines) b.lines (each, rebased_length price b.lines, rebased_lots price b.lines) (s.lines, refl, refl)

  close_kept : Sound (closed rule b)
  close_kept =
      let ls = at_regular_close b.phase (rebased (marks b.market) b.lines) b.lines in
      let surcharge = at_regular_close b.phase (surcharge_of b.market b.lines) b.surcharge in
      let same = settles in
      let computed = surcharge_within b.market b.lines s.products_few (λ i l. (s.margins i l).2) (lots_few b s) in
      let fits = balance_kept b s b.given [] ls (omega arith) same.2 in
      let charged = either_close (λ x. x ≤ highest_surcharge) b.phase (surcharge_of b.market b.lines) b.surcharge computed s.surcharge in
      with_account b s b.balance surcharge b.given (next_phase b.phase) (closed rule b).call [] ls (search (rules, arith, s, same))

  -- ---- orders and fills, by what an entry names
  module _ (name : List ℕ) (side : Side) (lots price : ℕ) where
    abbrev placed : Effect → Lots Order
    placed f = record { of = ordered (b.given + 1) (place_of (contract_named b.market name)) side f price; count = lots }

    placed_fits : (f : Effect) → Passed (tests rule b (orders name side f lots price)) → OrderFits b.market (b.given + 1) (placed f)
    placed_fits f p =
        let r = row_found _ no_contract b.market.contracts p.1.0 in
        let x = contract_by b.market name in
        let ceiling = rw r.1 at (in_range x.floor x.ceiling price p.1.1.1.0).1 in
        (r.0, in_range 1 most_lots_of_one lots p.1.1.0, (omega arith, omega arith), affordable b s (place_of (contract_named b.market name)) price r.0 ceiling)

    order_kept : (f : Effect) → Passed (tests rule b (orders name side f lots price)) → Sound (effect_of rule b (orders name side f lots price))
    order_kept Opening p =
        let q = p.1.1.1.1 in
        let fits = leb-true (length b.lines + lots_of opens_lots b.orders + lots) most_lines q.1.1.0 in
        order_added b s (placed Opening) p.0 (placed_fits Opening p) refl (ltb-true (length b.orders) most_orders q.0) (ltb-true b.given most_given q.1.0)
        (held_opening b.orders b.lines s.held (b.given + 1) (place_of (contract_named b.market name)) side lots price)
        (omega (arith, weigh-push (λ o. one_if (opens_lots o)) b.orders (placed Opening)))
    order_kept Closing p =
        let q = p.1.1.1.1 in
        let c = place_of (contract_named b.market name) in
        let fits = leb-true (lots_of (closes_on c (other_side side)) b.orders + lots) (lots_of (of_contract c (other_side side)) b.lines) q.0 in
        order_added b s (placed Closing) p.0 (placed_fits Closing p) refl (ltb-true (length b.orders) most_orders q.1.0) (ltb-true b.given most_given q.1.1.0)
        (held_closing b.orders b.lines s.held (b.given + 1) c side lots price fits)
        (omega (arith, s.room, weigh-push (λ o. one_if (opens_lots o)) b.orders (placed Closing)))

  fills_kept : (n lots price : ℕ) → Passed (tests rule b (fills n lots price)) → Sound (filled b n (order_by b n).of lots price)
  fills_kept n lots price p =
      let r = row_found (λ o. numbered n o.of) no_order b.orders p.1.0 in
      let o = order_by b n in
      let fits : OrderFits b.market b.given o = rw r.1 (s.orders (place_of (order_place b n)) r.0) in
      let x = contract_at b.market o.of.contract in
      let ceiling = (in_range x.floor x.ceiling price p.1.1.1.0).1 in
      let some = (in_range 1 most_lots_of_one lots p.1.1.0).0 in
      let all = leb-true lots o.count p.1.1.1.1.1.0 in
      fill_kept b s n lots price o r.2 fits some all (affordable b s o.of.contract price fits.0 ceiling) p.0

  -- ---- every taken entry
  taken_kept : (e : Said) → Passed (tests rule b e) → Sound (effect_of rule b e)
  taken_kept (lists_product name kind tick terms spot) p = market_kept b s _ (product_listed_lem b s rule name kind tick terms spot p)
  taken_kept (lists_contract name product right strike floor ceiling mark) p = market_kept b s _ (contract_listed_lem b s rule name product right strike floor ceiling mark p)
  taken_kept (announces name terms) p = market_kept b s _ (terms_announced b s rule name terms p)
  taken_kept (sets_band contract floor ceiling) p = market_kept b s _ (band_set b s rule contract floor ceiling p)
  taken_kept (sets_spot product price) p = market_kept b s _ (spot_set b s rule product price p)
  taken_kept (sets_mark contract price) p = market_kept b s _ (mark_set_lem b s rule contract price p)
  taken_kept (deposits amount) p =
      same_lots b s (b.balance +ℤ pos amount) b.phase b.call (search (arith, ints, s.balance, p.1.0)) s.idle
  taken_kept (withdraws amount) p =
      same_lots b s (b.balance -ℤ pos amount) b.phase b.call (search (arith, ints, s.balance, lines_bounded b s, lots_few b s, p.1.0)) s.idle
  taken_kept (cancels n) p = order_cut b s (numbered n) (order_by b n).count p.0
  taken_kept (orders contract side effect lots price) p = order_kept contract side lots price effect p
  taken_kept (fills n lots price) p = fills_kept n lots price p
  taken_kept opens p = same_lots b s b.balance (next_phase b.phase) b.call s.balance (λ e. s.idle (not-true (in_session b.phase) p.0))
  taken_kept closes p = close_kept
  taken_kept ends_deadline p = same_lots b s b.balance b.phase (effect_of rule b ends_deadline).call s.balance s.idle

  answered_kept : (e : Said) (x : Answer) → answer rule b e ≡ x → Sound (settled b (effect_of rule b e) x)
  answered_kept e (taken n) q = taken_kept e (passed (tests rule b e) (number b e) n q).0
  answered_kept e (declined n short) q = s

pub sound_step : (rule : Meaning) (b : Books) → Sound b → (e : Said) → Sound (after rule b e)
sound_step rule b s e = answered_kept rule b s e (answer rule b e) refl
