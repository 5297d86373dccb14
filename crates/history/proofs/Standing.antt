-- The order that a fill or a cancel names: it stands, its lots are there to be closed, and the history knows its contract and side.
use Rattle.std.proofs.Common.{◌≡◌, ℕ, ◌*◌, ◌<◌, ◌≤◌, true, List, length, get_or, is_some, Some, ap, ◌∙◌, ap₂, arith}
use Rattle.std.proofs.ByRecursion.{All-get_or}
use Rattle.std.proofs.lemmas.Bool.Decides.{nat_tests}
use Rattle.std.specs.List.{find}
use Rattle.entry.specs.declared.types.Side.{Side}
use Rattle.entry.specs.declared.types.Terms.{Terms}
use Rattle.books.specs.declared.rows.Lots.{Lots}
use Rattle.books.specs.declared.rows.Order.{Order}
use Rattle.books.specs.Names.{name_bytes}
use Rattle.books.specs.Market.{by_side, by_kind, contract_at, futures_tick, option_tick}
use Rattle.books.specs.Market as market
use Rattle.books.specs.Books.{Books, numbered, no_order}
use Rattle.books.specs.Figures.{result}
use Rattle.books.specs.Tests.{order_place, order_by, place_of}
use Rattle.books.specs.Effects.{fees_of, taxes_of, premium_in, premium_out}
use Rattle.books.specs.Sound.{Sound}
use Rattle.history.specs.Histories.{Event, Listing, Placed, Fill, terms_of, listing_of, product_of, terms_for, listing_for, placed_as, fees_in, taxes_in, premium, measure}
use Rattle.history.proofs.Tested.{some_place}
use Rattle.history.proofs.Sums.{found}
use Rattle.history.proofs.KeepsRows.{row_found}
use Rattle.history.proofs.KeepsHeld.{closed_held}
use Rattle.history.proofs.Filling.{Closes}
use Rattle.history.proofs.Markets.{contract_name}
use Rattle.history.proofs.Agreement.{MarketsAgree, OrdersAgree, placed_in}

module _ (b : Books) (n : ℕ) (known : is_some (order_place b n) ≡ true) where
  stands : (place_of (order_place b n) < length b.orders) × (order_by b n ≡ get_or b.orders (place_of (order_place b n)) no_order) × (find (λ o. numbered n o.of) b.orders ≡ Some (order_by b n))
  stands = row_found (λ o. numbered n o.of) no_order b.orders known

  pub order_first : find (λ o. numbered n o.of) b.orders ≡ Some (order_by b n)
  order_first = stands.2

  order_number : (order_by b n).of.number ≡ n
  order_number =
      let named = found (λ o. numbered n o.of) no_order b.orders (place_of (order_place b n)) (some_place (order_place b n) known) in
      let at = stands.1 in
      grind (arith, nat_tests)

  -- its lots are there to be closed
  pub order_closes : Sound b → (k : ℕ) → k ≤ (order_by b n).count → Closes (order_by b n).of k b.lines
  order_closes s k l = closed_held b.orders b.lines s.held n k (order_by b n) order_first l

  -- ---- what the history tells of it
  module _ (h : List Event) (s : Sound b) (a : MarketsAgree h b.market) (os : OrdersAgree h b.market b.orders) where
    placed_known : placed_as h n ≡ placed_in b.market (order_by b n).of
    placed_known =
        let placed = All-get_or (λ (o : Lots Order). placed_as h o.of.number ≡ placed_in b.market o.of) b.orders (place_of (order_place b n)) no_order stands.0 os in
        let at = stands.1 in
        let number = order_number in
        cc

    listed : (order_by b n).of.contract < length b.market.contracts
    listed = rw stands.1 (s.orders (place_of (order_place b n)) stands.0).0

    owner_known : product_of h (placed_as h n).contract ≡ name_bytes (market.product_of b.market (order_by b n).of.contract).name
    owner_known = ap (λ (q : Placed). product_of h q.contract) placed_known ∙ a.owners (order_by b n).of.contract listed

    terms_known : terms_for h (placed_as h n).contract ≡ (market.product_of b.market (order_by b n).of.contract).terms
    terms_known = ap (terms_of h) owner_known ∙ a.terms (contract_at b.market (order_by b n).of.contract).product (s.contracts (order_by b n).of.contract listed).0

    listing_known : listing_for h (placed_as h n).contract ≡ record { kind = (market.product_of b.market (order_by b n).of.contract).kind; tick = (market.product_of b.market (order_by b n).of.contract).tick }
    listing_known = ap (listing_of h) owner_known ∙ a.listings (contract_at b.market (order_by b n).of.contract).product (s.contracts (order_by b n).of.contract listed).0

    side_known : (placed_as h n).side ≡ (order_by b n).of.side
    side_known = ap (λ (q : Placed). q.side) placed_known

    name_known : (placed_as h n).contract ≡ contract_name (contract_at b.market (order_by b n).of.contract)
    name_known = ap (λ (q : Placed). q.contract) placed_known

    module _ (k p : ℕ) where
      abbrev x : Fill
      x = record { order = n; lots = k; price = p }

      pub fees_known : fees_in h (placed_as h n) x ≡ fees_of b.market (order_by b n).of k
      fees_known = ap (λ (t : Terms). k * t.fee) terms_known

      pub taxes_known : taxes_in h (placed_as h n) x ≡ taxes_of b.market (order_by b n).of k p
      taxes_known = let t = terms_known in let l = listing_known in cc

      premium_known : premium h (placed_as h n) x ≡ k * (p * option_tick b.market (order_by b n).of.contract)
      premium_known = ap (λ (l : Listing). k * (p * by_kind l.kind 0 l.tick)) listing_known

      pub received_known : by_side (placed_as h n).side 0 (premium h (placed_as h n) x) ≡ premium_in b.market (order_by b n).of k p
      received_known = ap₂ (λ (d : Side) (y : ℕ). by_side d 0 y) side_known premium_known

      pub paid_known : by_side (placed_as h n).side (premium h (placed_as h n) x) 0 ≡ premium_out b.market (order_by b n).of k p
      paid_known = ap₂ (λ (d : Side) (y : ℕ). by_side d y 0) side_known premium_known

      pub measure_known : (mk : List ℕ → ℕ) →
          measure mk h (placed_as h n) x ≡ result (order_by b n).of.side (k * futures_tick b.market (order_by b n).of.contract) (mk (contract_name (contract_at b.market (order_by b n).of.contract))) p
      measure_known mk =
          let d = side_known in
          let l = ap (λ (l : Listing). k * by_kind l.kind l.tick 0) listing_known in
          let c = name_known in
          cc
