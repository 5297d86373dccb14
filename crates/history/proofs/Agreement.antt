-- A history and the books that it ran to tell the same: phase, terms, listings, owners, marks and standing orders.
use Rattle.std.proofs.Common.{◌≡◌, ℕ, ◌<◌, cond, List, [], ◌∷◌, ◌++◌, length, get_or, is_some, true, Option, Some, None, sym, refl, ap, ◌∙◌, arith}
use Rattle.std.proofs.ByRecursion.{All-get_or, All-push, All-from_get_or}
use Rattle.std.proofs.lemmas.List.{get_or_append_left, take_at}
use Rattle.std.proofs.lemmas.Bool.Decides.{nat_tests as tests-tell}
use Rattle.std.specs.List.{AllByRecursion, position}
use Rattle.std.specs.Str.{bytes_eq}
use Rattle.entry.specs.Entries.{Said, lists_product, lists_contract, announces, sets_band, sets_spot, sets_mark, cancels, orders, fills, opens, closes}
use Rattle.margin_rule.specs.Meanings.{Meaning}
use Rattle.books.specs.declared.rows.Contract.{Contract}
use Rattle.books.specs.declared.rows.Lots.{Lots}
use Rattle.books.specs.declared.rows.Order.{Order}
use Rattle.books.specs.declared.rows.Product.{Product}
use Rattle.books.specs.Names.{name_of, name_bytes}
use Rattle.books.specs.Lots.{left}
use Rattle.books.specs.Market.{Market, contract_at, product_at, no_product, no_contract, product_named, contract_named, changed_at}
use Rattle.books.specs.Books.{Books, numbered, next_phase, no_order}
use Rattle.books.specs.Tests.{tests, number, place_of, order_by, taken}
use Rattle.books.specs.Effects.{effect_of, market_after, listed_product, listed_contract, with_terms, with_spot, with_band, with_mark}
use Rattle.books.specs.Sound.{Sound}
use Rattle.history.specs.Histories.{Event, Listing, Placed, phase_of, terms_of, listing_of, product_of, mark_of, placed_as}
use Rattle.history.specs.Law.{event}
use Rattle.history.proofs.Tested.{Passed, some_place}
use Rattle.history.proofs.Sums.{found, left_all}
use Rattle.history.proofs.Named.{Apart, Tells, bears, apart_set, apart_push, tells_kept, tells_set, tells_push, not_some, same_bytes}
use Rattle.history.proofs.KeepsRows.{changed_leaves}
use Rattle.history.proofs.Markets.{Owned, product_name, contract_name, market_keeps}

abbrev pub listing_in : Product → Listing
listing_in p = record { kind = p.kind; tick = p.tick }

abbrev pub placed_in : Market → Order → Placed
placed_in m o = record { contract = contract_name (contract_at m o.contract); side = o.side }

-- what is told of the market
pub record MarketsAgree (h : List Event) (m : Market) : Type 0 where
  pub terms : Tells product_name (λ p. p.terms) no_product (terms_of h) m.products
  pub listings : Tells product_name listing_in no_product (listing_of h) m.products
  pub owners : Tells contract_name (λ c. product_name (product_at m c.product)) no_contract (product_of h) m.contracts
  pub marks : Tells contract_name (λ c. c.mark) no_contract (mark_of h) m.contracts
  pub products_apart : Apart product_name no_product m.products
  pub contracts_apart : Apart contract_name no_contract m.contracts

-- what is told of the standing orders
abbrev pub OrdersAgree : List Event → Market → List (Lots Order) → Type 0
OrdersAgree h m os = AllByRecursion (λ (o : Lots Order). placed_as h o.of.number ≡ placed_in m o.of) os

-- a kept name is the name
name_kept : (bs : List ℕ) → name_bytes (name_of bs) ≡ bs
name_kept bs = take_at bs _ (length bs) refl

-- a row that an entry names bears that name
found_name : {A : Type 0} (name : A → List ℕ) (d : A) (xs : List A) (key : List ℕ) → is_some (position (bears name key) xs) ≡ true →
    name (get_or xs (place_of (position (bears name key) xs)) d) ≡ key
found_name name d xs key e = same_bytes _ key (found (bears name key) d xs _ (some_place (position (bears name key) xs) e)).2

-- a table with one row changed, where a name was found or not
module _ {A : Type 0} (name : A → List ℕ) (d : A) (f : A → A) (same : (x : A) → name (f x) ≡ name x) (xs : List A) where
  apart_changed : (place : Option ℕ) → Apart name d xs → Apart name d (changed_at d xs place f)
  apart_changed None a = a
  apart_changed (Some k) a = apart_set name d f same xs k a

  module _ {X : Type 0} (v : A → X) (look : List ℕ → X) where
    -- what the change leaves alone
    tells_changed : ((x : A) → v (f x) ≡ v x) → (place : Option ℕ) → Tells name v d look xs → Tells name v d look (changed_at d xs place f)
    tells_changed g None t = t
    tells_changed g (Some k) t = tells_kept name d v look f same g xs k t

    -- what it makes of the row under a name
    tells_found : (key : List ℕ) (y : X) → ((x : A) → v (f x) ≡ y) → (place : Option ℕ) → position (bears name key) xs ≡ place → is_some place ≡ true →
        Apart name d xs → Tells name v d look xs → Tells name v d (λ n. cond (bytes_eq key n) y (look n)) (changed_at d xs place f)
    tells_found key y g None q e a t = grind arith
    tells_found key y g (Some k) q e a t = tells_set name d v look f y same g xs key k a q t

module _ (rule : Meaning) (h : List Event) (b c : Books) (n : ℕ) (owned : Owned b.market) (a : MarketsAgree h b.market) where
  -- the name of a contract's product
  abbrev owner : Contract → List ℕ
  owner r = product_name (product_at b.market r.product)

  -- owners read the same of products that bear the same names
  owners_kept : (ps : List Product) → ((i : ℕ) → i < length b.market.products → product_name (get_or ps i no_product) ≡ product_name (product_at b.market i)) →
      Tells contract_name (λ r. product_name (get_or ps r.product no_product)) no_contract (product_of h) b.market.contracts
  owners_kept ps same i l = a.owners i l ∙ sym (same (contract_at b.market i).product (owned i l))

  pub markets_agree_step : (e : Said) → Passed (tests rule b e) → MarketsAgree (event rule b e (taken n) c ∷ h) (market_after b.market e)
  markets_agree_step (lists_product name kind tick terms spot) p =
      let ps = b.market.products in
      let y = listed_product name kind tick terms spot in
      let new' : product_named b.market name ≡ None = not_some (product_named b.market name) p.1.0 in
      record {
        terms = tells_push product_name no_product (λ p. p.terms) (terms_of h) terms ps y name (name_kept name) refl a.products_apart new' a.terms;
        listings = tells_push product_name no_product listing_in (listing_of h) (listing_in y) ps y name (name_kept name) refl a.products_apart new' a.listings;
        owners = owners_kept (ps ++ y ∷ []) (λ i l. ap product_name (get_or_append_left ps (y ∷ []) no_product i l));
        marks = a.marks;
        products_apart = apart_push product_name no_product ps y a.products_apart (rw (name_kept name) new');
        contracts_apart = a.contracts_apart;
      }
  markets_agree_step (lists_contract name product right strike floor ceiling mark) p =
      let rs = b.market.contracts in
      let y = listed_contract name (place_of (product_named b.market product)) right strike floor ceiling mark in
      let new' : contract_named b.market name ≡ None = not_some (contract_named b.market name) p.1.1.0 in
      let owns = found_name product_name no_product b.market.products product p.1.0 in
      record {
        terms = a.terms;
        listings = a.listings;
        owners = tells_push contract_name no_contract owner (product_of h) product rs y name (name_kept name) owns a.contracts_apart new' a.owners;
        marks = tells_push contract_name no_contract (λ r. r.mark) (mark_of h) mark rs y name (name_kept name) refl a.contracts_apart new' a.marks;
        products_apart = a.products_apart;
        contracts_apart = apart_push contract_name no_contract rs y a.contracts_apart (rw (name_kept name) new');
      }
  markets_agree_step (announces name terms) p =
      let ps = b.market.products in
      let at = product_named b.market name in
      let f = with_terms terms in
      record {
        terms = tells_found product_name no_product f (λ x. refl) ps (λ p. p.terms) (terms_of h) name terms (λ x. refl) at refl p.1.0 a.products_apart a.terms;
        listings = tells_changed product_name no_product f (λ x. refl) ps listing_in (listing_of h) (λ x. refl) at a.listings;
        owners = owners_kept (changed_at no_product ps at f) (λ i l. changed_leaves product_name no_product ps at f (λ x. refl) i);
        marks = a.marks;
        products_apart = apart_changed product_name no_product f (λ x. refl) ps at a.products_apart;
        contracts_apart = a.contracts_apart;
      }
  markets_agree_step (sets_spot product price) p =
      let ps = b.market.products in
      let at = product_named b.market product in
      let f = with_spot price in
      record {
        terms = tells_changed product_name no_product f (λ x. refl) ps (λ p. p.terms) (terms_of h) (λ x. refl) at a.terms;
        listings = tells_changed product_name no_product f (λ x. refl) ps listing_in (listing_of h) (λ x. refl) at a.listings;
        owners = owners_kept (changed_at no_product ps at f) (λ i l. changed_leaves product_name no_product ps at f (λ x. refl) i);
        marks = a.marks;
        products_apart = apart_changed product_name no_product f (λ x. refl) ps at a.products_apart;
        contracts_apart = a.contracts_apart;
      }
  markets_agree_step (sets_band contract floor ceiling) p =
      let rs = b.market.contracts in
      let at = contract_named b.market contract in
      let f = with_band floor ceiling in
      record {
        terms = a.terms;
        listings = a.listings;
        owners = tells_changed contract_name no_contract f (λ x. refl) rs owner (product_of h) (λ x. refl) at a.owners;
        marks = tells_changed contract_name no_contract f (λ x. refl) rs (λ r. r.mark) (mark_of h) (λ x. refl) at a.marks;
        products_apart = a.products_apart;
        contracts_apart = apart_changed contract_name no_contract f (λ x. refl) rs at a.contracts_apart;
      }
  markets_agree_step (sets_mark contract price) p =
      let rs = b.market.contracts in
      let at = contract_named b.market contract in
      let f = with_mark price in
      record {
        terms = a.terms;
        listings = a.listings;
        owners = tells_changed contract_name no_contract f (λ x. refl) rs owner (product_of h) (λ x. refl) at a.owners;
        marks = tells_found contract_name no_contract f (λ x. refl) rs (λ r. r.mark) (mark_of h) contract price (λ x. refl) at refl p.1.0 a.contracts_apart a.marks;
        products_apart = a.products_apart;
        contracts_apart = apart_changed contract_name no_contract f (λ x. refl) rs at a.contracts_apart;
      }
  markets_agree_step e p = record {
    terms = a.terms;
    listings = a.listings;
    owners = a.owners;
    marks = a.marks;
    products_apart = a.products_apart;
    contracts_apart = a.contracts_apart;
  }

-- ---- phases
pub phases_agree_step : (rule : Meaning) (h : List Event) (b c : Books) (n : ℕ) → phase_of h ≡ b.phase → (e : Said) →
    phase_of (event rule b e (taken n) c ∷ h) ≡ (effect_of rule b e).phase
phases_agree_step rule h b c n q opens = ap next_phase q
phases_agree_step rule h b c n q closes = ap next_phase q
phases_agree_step rule h b c n q e = q

-- ---- standing orders
module _ (rule : Meaning) (h : List Event) (b c : Books) (n : ℕ) (s : Sound b) (a : OrdersAgree h b.market b.orders) where
  -- the names of their contracts stay
  named_still : (e : Said) → AllByRecursion (λ (o : Lots Order). placed_as h o.of.number ≡ placed_in (market_after b.market e) o.of) b.orders
  named_still e =
      let keeps = market_keeps b.market (λ i l. (s.contracts i l).0) e in
      All-from_get_or (λ o. placed_as h o.of.number ≡ placed_in (market_after b.market e) o.of) b.orders no_order (λ i l.
      let same = keeps.names (get_or b.orders i no_order).of.contract (s.orders i l).0 in
      let old = All-get_or (λ o. placed_as h o.of.number ≡ placed_in b.market o.of) b.orders i no_order l a in
      cc)

  taken_from : (k p : ℕ) → OrdersAgree h b.market (left (numbered p) k b.orders)
  taken_from k p = left_all (λ o. placed_as h o.of.number ≡ placed_in b.market o.of) (λ x i q l u. q) (numbered p) k b.orders a

  pub orders_agree_step : (e : Said) → Passed (tests rule b e) → number b e ≡ n →
      OrdersAgree (event rule b e (taken n) c ∷ h) (market_after b.market e) (effect_of rule b e).orders
  orders_agree_step (cancels order) p q = taken_from (order_by b order).count order
  orders_agree_step (orders contract side effect lots price) p q =
      let name : contract_name (contract_at b.market (place_of (contract_named b.market contract))) ≡ contract = found_name contract_name no_contract b.market.contracts contract p.1.0 in
      let Agrees = λ (o : Lots Order). placed_as (event rule b (orders contract side effect lots price) (taken n) c ∷ h) o.of.number ≡ placed_in b.market o.of in
      All-push Agrees b.orders _
      (All-from_get_or Agrees b.orders no_order (λ i l.
      let given = (s.orders i l).2.1 in
      let old = All-get_or (λ o. placed_as h o.of.number ≡ placed_in b.market o.of) b.orders i no_order l a in
      grind (arith, tests-tell)))
      (grind (arith, tests-tell))
  orders_agree_step (fills order lots price) p q = taken_from lots order
  orders_agree_step closes p q = tt
  orders_agree_step e p q = named_still e
