-- Markets that only grew, or in which only bands changed: no figure of the account has moved, and available has not fallen.
use Rattle.std.proofs.Common.{◌≡◌, ℕ, ◌<◌, ◌≤◌, Bool, length, ◌≤ℤ◌, refl, ◌∙◌, arith}
use Rattle.std.proofs.lemmas.Int.{ints}
use Rattle.std.proofs.lemmas.Bool.Decides.{nat_tests}
use Rattle.std.proofs.ByRecursion.{All-from_get_or, All-weaker}
use Rattle.std.specs.List.{AllByRecursion}
use Rattle.entry.specs.declared.types.Side.{Side}
use Rattle.entry.specs.declared.types.Side.TheVariants.{Buy, Sell}
use Rattle.margin_rule.specs.Meanings.{Meaning, asked}
use Rattle.margin_rule.specs.Laws.{Laws}
use Rattle.margin_rule.proofs.Following.{everywhere}
use Rattle.books.specs.declared.rows.Lots.{Lots}
use Rattle.books.specs.declared.rows.Order.{Order}
use Rattle.books.specs.declared.rows.Position.{Position}
use Rattle.books.specs.Lots.{weigh, lots_of, one_if}
use Rattle.books.specs.Market.{Market, Level, initially, contract_at, product_at, product_of, marks, futures_tick, margin_a, published_at}
use Rattle.books.specs.Books.{Books, of_contract, of_product}
use Rattle.books.specs.Figures.{lot_gain, futures_need, series_need, lot_reserve, equity, gain, initial_need, reserved, available}
use Rattle.books.specs.Effects.{with_market}
use Rattle.books.specs.Sound.{Sound}
use Rattle.history.proofs.Sums.{weigh-agree, weigh-scale, sum_to-longer}
use Rattle.history.proofs.Needs.{by_kind_zero}
use Rattle.history.proofs.Results.{Alike, results_agree}

-- all that figures read of the products and contracts of m stands in n too
pub record Extends (m n : Market) : Type 0 where
  pub more_products : length m.products ≤ length n.products
  pub more_contracts : length m.contracts ≤ length n.contracts
  pub products : (i : ℕ) → i < length m.products → product_at n i ≡ product_at m i
  pub places : (c : ℕ) → c < length m.contracts → (contract_at n c).product ≡ (contract_at m c).product
  pub rights : (c : ℕ) → c < length m.contracts → (contract_at n c).right ≡ (contract_at m c).right
  pub strikes : (c : ℕ) → c < length m.contracts → (contract_at n c).strike ≡ (contract_at m c).strike
  pub same_marks : (c : ℕ) → c < length m.contracts → marks n c ≡ marks m c

-- lines and orders of listed contracts, contracts of listed products
abbrev pub Listed : Books → ℕ → Type 0
Listed b c = c < length b.market.contracts

pub record Referring (b : Books) : Type 0 where
  pub contracts : (c : ℕ) → Listed b c → (contract_at b.market c).product < length b.market.products
  pub orders : AllByRecursion (λ (o : Lots Order). Listed b o.of.contract) b.orders
  pub lines : AllByRecursion (λ (l : Lots Position). Listed b l.of.contract) b.lines

pub refers : (b : Books) → Sound b → Referring b
refers b s = record {
  contracts = λ c l. (s.contracts c l).0;
  orders = All-from_get_or (λ o. Listed b o.of.contract) b.orders _ (λ i l. (s.orders i l).0);
  lines = All-from_get_or (λ l. Listed b l.of.contract) b.lines _ (λ i l. (s.lines i l).0);
}

-- what holds wherever the contract is listed holds of every line
pub of_lines : (b : Books) → Referring b → (P : Position → Type 0) → ((l : Position) → Listed b l.contract → P l) → AllByRecursion (λ (l : Lots Position). P l.of) b.lines
of_lines b r P f = All-weaker (λ l. Listed b l.of.contract) (λ l. P l.of) (λ l h. f l.of h) b.lines r.lines

module _ (b : Books) (r : Referring b) (n : Market) (x : Extends b.market n) where
  -- the market before
  abbrev m : Market
  m = b.market

  -- sums over lines that agree wherever a contract is listed
  lines_alike : (u v : Position → ℕ) → ((l : Position) → Listed b l.contract → u l ≡ v l) → weigh u b.lines ≡ weigh v b.lines
  lines_alike u v f = weigh-agree u v b.lines (of_lines b r (λ l. u l ≡ v l) f)

  no_lots : (p : Position → Bool) → ((l : Position) → Listed b l.contract → one_if (p l) ≡ 0) → lots_of p b.lines ≡ 0
  no_lots p f = omega (arith, lines_alike (λ l. one_if (p l)) (λ l. 0) f, weigh-scale 0 b.lines)

  same_product : (c : ℕ) → Listed b c → product_of n c ≡ product_of m c
  same_product c l = rw (x.places c l) (x.products (contract_at m c).product (r.contracts c l))

  same_tick : (c : ℕ) → Listed b c → futures_tick n c ≡ futures_tick m c
  same_tick c l = let p = same_product c l in cc

  same_published : (level : Level) (c : ℕ) → Listed b c → published_at n level (marks n) c ≡ published_at m level (marks m) c
  same_published level c l =
      let p = same_product c l in
      let rt = x.rights c l in
      let st = x.strikes c l in
      let mk = x.same_marks c l in
      cc

  extends_equity : equity (with_market b n) ≡ equity b
  extends_equity =
      let alike = of_lines b r (Alike n m (marks n) (marks m)) (λ l h. (same_tick l.contract h, x.same_marks l.contract h)) in
      rw (results_agree n m (marks n) (marks m) b.lines alike)

  extends_gain : gain (with_market b n) ≡ gain b
  extends_gain = lines_alike (lot_gain n (marks n)) (lot_gain m (marks m)) (λ l h. let t = same_tick l.contract h in let p = x.same_marks l.contract h in cc)

  extends_reserved : (rule : Meaning) → reserved rule (with_market b n) ≡ reserved rule b
  extends_reserved rule = weigh-agree (lot_reserve rule n) (lot_reserve rule m) b.orders
      (All-weaker (λ o. Listed b o.of.contract) _ (λ o l.
      let p = same_product o.of.contract l in
      let f = same_published initially o.of.contract l in
      let mk = x.same_marks o.of.contract l in
      cc) b.orders r.orders)

  -- the lots of the products and series of old are the same, and there are none of the new
  same_lots : (i : ℕ) (s : Side) → lots_of (of_product n i s) b.lines ≡ lots_of (of_product m i s) b.lines
  same_lots i s = lines_alike (λ l. one_if (of_product n i s l)) (λ l. one_if (of_product m i s l)) (λ l h. let p = x.places l.contract h in cc)

  no_product_lots : (i : ℕ) (s : Side) → length m.products ≤ i → lots_of (of_product n i s) b.lines ≡ 0
  no_product_lots i s k = same_lots i s ∙ no_lots (of_product m i s) (λ l h. let placed = r.contracts l.contract h in grind (arith, nat_tests))

  no_series_lots : (c : ℕ) (s : Side) → length m.contracts ≤ c → lots_of (of_contract c s) b.lines ≡ 0
  no_series_lots c s k = no_lots (of_contract c s) (λ l h. grind (arith, nat_tests))

  module _ (rule : Meaning) (laws : Laws rule) where
    none_needed : (l s q : ℕ) → l ≡ 0 → s ≡ 0 → (asked rule).need l s q ≡ 0
    none_needed l s q e f = let none = (everywhere rule laws).none q in cc

    -- what futures and series need in the new market and in the old
    extends_needs : initial_need rule (with_market b n) ≤ initial_need rule b
    extends_needs =
        let futures_now = futures_need rule n initially b.lines in
        let futures_then = futures_need rule m initially b.lines in
        let series_now = series_need rule n initially (marks n) b.lines in
        let series_then = series_need rule m initially (marks m) b.lines in
        let futures : (i : ℕ) → i < length m.products → futures_now i ≤ futures_then i = λ i l.
        let p = x.products i l in
        let f = same_lots i Buy in
        let g = same_lots i Sell in
        grind arith in
        let no_futures : (i : ℕ) → length m.products ≤ i → futures_now i ≡ 0 = λ i l.
        by_kind_zero (product_at n i).kind _ 0 (none_needed _ _ (margin_a initially (product_at n i).terms) (no_product_lots i Buy l) (no_product_lots i Sell l)) refl in
        let series : (c : ℕ) → Listed b c → series_now c ≤ series_then c = λ c l.
        let p = same_product c l in
        let f = same_published initially c l in
        grind arith in
        let no_series : (c : ℕ) → length m.contracts ≤ c → series_now c ≡ 0 = λ c l.
        by_kind_zero (product_of n c).kind 0 _ refl (none_needed 0 _ (published_at n initially (marks n) c) refl (no_series_lots c Sell l)) in
        omega (
          arith,
          sum_to-longer (length m.products) (length n.products) futures_now futures_then x.more_products futures no_futures,
          sum_to-longer (length m.contracts) (length n.contracts) series_now series_then x.more_contracts series no_series,
        )

    pub extends_available : available rule b ≤ℤ available rule (with_market b n)
    extends_available =
        let equity = extends_equity in
        let gain = extends_gain in
        let needs = extends_needs in
        let reserved = extends_reserved rule in
        omega (arith, ints)
