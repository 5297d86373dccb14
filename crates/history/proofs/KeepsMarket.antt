-- A taken entry on the market keeps its rows sound, and the tick of every contract.
use Rattle.std.proofs.Common.{◌≡◌, ℕ, ◌*◌, ◌<◌, ◌≤◌, true, List, [], ◌∷◌, ◌++◌, length, get_or, refl, arith}
use Rattle.std.proofs.lemmas.List.{length_push, get_or_append_left}
use Rattle.std.proofs.lemmas.Bool.{ltb-true}
use Rattle.std.proofs.lemmas.Bool.Decides.{nat_tests}
use Rattle.entry.specs.declared.types.Kind.{Kind}
use Rattle.entry.specs.declared.types.Right.{Right}
use Rattle.entry.specs.declared.types.Terms.{Terms}
use Rattle.entry.specs.Entries.{Said, lists_product, lists_contract, announces, sets_band, sets_spot, sets_mark}
use Rattle.margin_rule.specs.Meanings.{Meaning}
use Rattle.books.specs.declared.rows.Contract.{Contract}
use Rattle.books.specs.declared.rows.Product.{Product}
use Rattle.books.specs.Limits.{most_products, most_contracts, highest_tick, highest_fee, highest_tax, highest_position_limit, highest_share, highest_margin, highest_strike, highest_worth, within}
use Rattle.books.specs.Market.{Market, product_at, contract_at, product_of, product_named, contract_named, changed_at, no_product, no_contract}
use Rattle.books.specs.Books.{Books, no_order}
use Rattle.books.specs.Sound.{Sound, Each, Between, TickFits, SpotFits, ContractFits, Affordable, no_line}
use Rattle.books.specs.Tests.{tests, place_of, terms_fit, margins_fit, spot_fits, band_fits, product_by, contract_by}
use Rattle.books.specs.Effects.{market_after, listed_product, listed_contract, with_terms, with_spot, with_band, with_mark, with_market}
use Rattle.history.proofs.KeepsRows.{row_found, each_push, each_changed, length-changed, changed_leaves}
use Rattle.history.proofs.Tested.{Passed}

-- ---- what the tests of ranges say
pub in_range : (low high x : ℕ) → within low high x ≡ true → Between low high x
in_range low high x e = grind (arith, nat_tests)

abbrev pub TermsFit : Terms → Type 0
TermsFit t =
    (t.fee ≤ highest_fee) × (t.tax ≤ highest_tax)
    × Between 1 highest_position_limit t.limit × Between 1 highest_share t.share
    × ((1 ≤ t.ma) × (t.ma ≤ t.ia) × (t.ia ≤ highest_margin) × (t.mb ≤ t.ib) × (t.ib ≤ highest_margin))

margins_fit_lem : (least maintenance initial : ℕ) → margins_fit least maintenance initial ≡ true → (least ≤ maintenance) × (maintenance ≤ initial) × (initial ≤ highest_margin)
margins_fit_lem least maintenance initial e = grind (arith, nat_tests)

terms_fit_lem : (kind : Kind) (t : Terms) → terms_fit kind t ≡ true → TermsFit t
terms_fit_lem kind t e =
    let a = margins_fit_lem 1 t.ma t.ia in
    let b = margins_fit_lem 0 t.mb t.ib in
    grind (arith, nat_tests)

spot_fits_lem : (kind : Kind) (x : ℕ) → spot_fits kind x ≡ true → x ≤ highest_strike
spot_fits_lem kind x e = grind (arith, nat_tests)

band_fits_lem : (tick floor mark ceiling : ℕ) → band_fits tick floor mark ceiling ≡ true → (1 ≤ floor) × (floor ≤ mark) × (mark ≤ ceiling) × (ceiling * tick ≤ highest_worth)
band_fits_lem tick floor mark ceiling e = grind (arith, nat_tests)

-- ---- products
abbrev pub ProductFits : Product → Type 0
ProductFits p = TickFits p × SpotFits p × TermsFit p.terms

pub products_fit : (b : Books) → Sound b → Each no_product ProductFits b.market.products
products_fit b s = λ i l.
    let c = s.charges i l in
    let k = s.limits i l in
    (s.ticks i l, s.spots i l, (c.0, c.1, k.0, k.1, s.margins i l))

-- what every entry on the market keeps
pub record MarketKept (m m' : Market) : Type 0 where
  pub products_few : length m'.products ≤ most_products
  pub contracts_few : length m'.contracts ≤ most_contracts
  pub products : Each no_product ProductFits m'.products
  pub contracts : Each no_contract (ContractFits m') m'.contracts
  -- no contract goes, and none changes its tick
  pub places : length m.contracts ≤ length m'.contracts
  pub ticks : (c : ℕ) → c < length m.contracts → (product_of m' c).tick ≡ (product_of m c).tick

abbrev pub KeptBy : Books → Said → Type 0
KeptBy b e = MarketKept b.market (market_after b.market e)

contract_carried : (m m' : Market) (c : Contract) → length m.products ≤ length m'.products →
    ((i : ℕ) → i < length m.products → (product_at m' i).tick ≡ (product_at m i).tick) → ContractFits m c → ContractFits m' c
contract_carried m m' c le ticks f = (omega arith, f.1, rw (ticks c.product f.0) f.2)

-- other products for the same contracts, and other contracts for the same products
module _ (b : Books) (s : Sound b) where
  other_products : (ps : List Product) → length b.market.products ≤ length ps → length ps ≤ most_products → Each no_product ProductFits ps →
      ((i : ℕ) → i < length b.market.products → (get_or ps i no_product).tick ≡ (product_at b.market i).tick) →
      MarketKept b.market (record { products = ps; contracts = b.market.contracts })
  other_products ps le few fit ticks = record {
    products_few = few;
    contracts_few = s.contracts_few;
    products = fit;
    contracts = λ c l. contract_carried b.market (record { products = ps; contracts = b.market.contracts }) (contract_at b.market c) le ticks (s.contracts c l);
    places = omega arith;
    ticks = λ c l. ticks (contract_at b.market c).product (s.contracts c l).0;
  }

  other_contracts : (cs : List Contract) → length b.market.contracts ≤ length cs → length cs ≤ most_contracts →
      Each no_contract (ContractFits b.market) cs →
      ((c : ℕ) → c < length b.market.contracts → (get_or cs c no_contract).product ≡ (contract_at b.market c).product) →
      MarketKept b.market (record { products = b.market.products; contracts = cs })
  other_contracts cs le few fit products = record {
    products_few = s.products_few;
    contracts_few = few;
    products = products_fit b s;
    contracts = fit;
    places = le;
    ticks = λ c l. rw (products c l);
  }

  -- ---- each entry
  pub product_listed_lem : (rule : Meaning) (name : List ℕ) (kind : Kind) (tick : ℕ) (terms : Terms) (spot : ℕ) →
      Passed (tests rule b (lists_product name kind tick terms spot)) → KeptBy b (lists_product name kind tick terms spot)
  product_listed_lem rule name kind tick terms spot p =
      let ps = b.market.products in
      let x = listed_product name kind tick terms spot in
      let n = length_push ps x in
      let few = ltb-true (length ps) most_products p.1.1.0 in
      let fits : ProductFits x = (in_range 1 highest_tick tick p.1.1.1.1.0, spot_fits_lem kind spot p.1.1.1.1.1.1.0, terms_fit_lem kind terms p.1.1.1.1.1.0) in
      other_products (ps ++ x ∷ []) (omega arith) (omega arith) (each_push no_product ProductFits ps x (products_fit b s) fits)
      (λ i l. rw (get_or_append_left ps (x ∷ []) no_product i l))

  pub contract_listed_lem : (rule : Meaning) (name product : List ℕ) (right : Right) (strike floor ceiling mark : ℕ) →
      Passed (tests rule b (lists_contract name product right strike floor ceiling mark)) →
      KeptBy b (lists_contract name product right strike floor ceiling mark)
  contract_listed_lem rule name product right strike floor ceiling mark p =
      let cs = b.market.contracts in
      let x = listed_contract name (place_of (product_named b.market product)) right strike floor ceiling mark in
      let n = length_push cs x in
      let few = ltb-true (length cs) most_contracts p.1.1.1.0 in
      let r = row_found _ no_product b.market.products p.1.0 in
      let band = band_fits_lem (product_by b.market product).tick floor mark ceiling p.1.1.1.1.1.1.1.0 in
      let fits : ContractFits b.market x = (r.0, spot_fits_lem (product_by b.market product).kind strike p.1.1.1.1.1.1.0, rw (← r.1) band) in
      other_contracts (cs ++ x ∷ []) (omega arith) (omega arith) (each_push no_contract (ContractFits b.market) cs x s.contracts fits)
      (λ i l. rw (get_or_append_left cs (x ∷ []) no_contract i l))

  product_changed : (name : List ℕ) (f : Product → Product) → ((q : Product) → (f q).tick ≡ q.tick) →
      ((q : Product) → ProductFits q → ProductFits (f q)) →
      MarketKept b.market (record { products = changed_at no_product b.market.products (product_named b.market name) f; contracts = b.market.contracts })
  product_changed name f tick fit =
      let ps = b.market.products in
      let x = product_named b.market name in
      let n = length-changed no_product ps x f in
      other_products (changed_at no_product ps x f) (omega arith) (omega (arith, s.products_few)) (each_changed no_product ProductFits ps x f (products_fit b s) (fit (product_by b.market name)))
      (λ i l. changed_leaves (λ (q : Product). q.tick) no_product ps x f tick i)

  contract_changed : (name : List ℕ) (f : Contract → Contract) → ((c : Contract) → (f c).product ≡ c.product) →
      (ContractFits b.market (contract_by b.market name) → ContractFits b.market (f (contract_by b.market name))) →
      MarketKept b.market (record { products = b.market.products; contracts = changed_at no_contract b.market.contracts (contract_named b.market name) f })
  contract_changed name f product fit =
      let cs = b.market.contracts in
      let x = contract_named b.market name in
      let n = length-changed no_contract cs x f in
      other_contracts (changed_at no_contract cs x f) (omega arith) (omega (arith, s.contracts_few)) (each_changed no_contract (ContractFits b.market) cs x f s.contracts fit)
      (λ i l. changed_leaves (λ (c : Contract). c.product) no_contract cs x f product i)

  pub terms_announced : (rule : Meaning) (name : List ℕ) (terms : Terms) → Passed (tests rule b (announces name terms)) → KeptBy b (announces name terms)
  terms_announced rule name terms p = product_changed name (with_terms terms) (λ q. refl) (λ q f. (f.0, f.1, terms_fit_lem (product_by b.market name).kind terms p.1.1.0))

  pub spot_set : (rule : Meaning) (name : List ℕ) (price : ℕ) → Passed (tests rule b (sets_spot name price)) → KeptBy b (sets_spot name price)
  spot_set rule name price p = product_changed name (with_spot price) (λ q. refl) (λ q f. (f.0, spot_fits_lem (product_by b.market name).kind price p.1.1.0, f.2))

  pub band_set : (rule : Meaning) (name : List ℕ) (floor ceiling : ℕ) → Passed (tests rule b (sets_band name floor ceiling)) → KeptBy b (sets_band name floor ceiling)
  band_set rule name floor ceiling p =
      let c = contract_by b.market name in
      contract_changed name (with_band floor ceiling) (λ c. refl) (λ f. (f.0, f.1, band_fits_lem (product_at b.market c.product).tick floor c.mark ceiling p.1.1.0))

  pub mark_set_lem : (rule : Meaning) (name : List ℕ) (price : ℕ) → Passed (tests rule b (sets_mark name price)) → KeptBy b (sets_mark name price)
  mark_set_lem rule name price p =
      let c = contract_by b.market name in
      let r = in_range c.floor c.ceiling price p.1.1.0 in
      contract_changed name (with_mark price) (λ c. refl) (λ f. (f.0, f.1, (f.2.0, r.0, r.1, f.2.3)))

  -- ---- the books with their market so changed
  pub market_kept : (m : Market) → MarketKept b.market m → Sound (with_market b m)
  market_kept m k = record {
    products_few = k.products_few;
    contracts_few = k.contracts_few;
    ticks = λ i l. (k.products i l).0;
    charges = λ i l. let t = (k.products i l).2 in (t.0, t.1);
    limits = λ i l. let t = (k.products i l).2 in (t.2, t.3);
    margins = λ i l. (k.products i l).2.4;
    spots = λ i l. (k.products i l).1;
    contracts = k.contracts;
    orders_few = s.orders_few;
    given_few = s.given_few;
    orders = λ i l.
        let o = s.orders i l in
        (omega (arith, k.places), o.1, o.2, affordable_still m k (get_or b.orders i no_order).of.contract _ o.0 o.3);
    numbers = s.numbers;
    idle = s.idle;
    lines = λ i l.
        let o = s.lines i l in
        let still = affordable_still m k (get_or b.lines i no_line).of.contract in
        (omega (arith, k.places), o.1, still _ o.0 o.2, still _ o.0 o.3);
    held = s.held;
    room = s.room;
    counted = s.counted;
    balance = s.balance;
    surcharge = s.surcharge;
  }
    where
      affordable_still : (m : Market) → MarketKept b.market m → (c price : ℕ) → c < length b.market.contracts → Affordable b.market c price →
          Affordable m c price
      affordable_still m k c price l h = rw (k.ticks c l) h
