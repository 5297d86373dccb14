-- How needs move: with the lots, with the level, with the prices; for any rule that keeps its laws.
use Rattle.std.proofs.Common.{◌≡◌, ℕ, ◌+◌, ◌*◌, ◌≤◌, Bool, List, [], ◌∷◌, ◌++◌, length, ap, arith}
use Rattle.std.proofs.lemmas.Bool.Decides.{nat_tests}
use Rattle.entry.specs.declared.types.Kind.{Kind}
use Rattle.entry.specs.declared.types.Side.{Side}
use Rattle.entry.specs.declared.types.Side.TheVariants.{Buy, Sell}
use Rattle.margin_rule.specs.Meanings.{Meaning, asked}
use Rattle.margin_rule.specs.Laws.{Laws}
use Rattle.margin_rule.proofs.Following.{everywhere}
use Rattle.books.specs.declared.rows.Lots.{Lots}
use Rattle.books.specs.declared.rows.Position.{Position}
use Rattle.books.specs.Lots.{lots_of, one_if}
use Rattle.books.specs.Market.{Market, Prices, Level, by_kind, by_side, same_side, contract_at, product_at, product_of, margin_a, published_at}
use Rattle.books.specs.Books.{of_contract, of_product}
use Rattle.books.specs.Figures.{futures_need, series_need, needs}
use Rattle.history.proofs.Sums.{weigh-push, sum_to-le, sum_to-one}

-- one kind of sum, and the other
pub by_kind_le : (k : Kind) (a b c d : ℕ) → a ≤ c → b ≤ d → by_kind k a b ≤ by_kind k c d
by_kind_le k a b c d p q = grind arith

by_kind_more : (k : Kind) (a b c d e f : ℕ) → a ≤ c + e → b ≤ d + f → by_kind k a b ≤ by_kind k c d + by_kind k e f
by_kind_more k a b c d e f p q = grind arith

pub by_kind_zero : (k : Kind) (a b : ℕ) → a ≡ 0 → b ≡ 0 → by_kind k a b ≡ 0
by_kind_zero k a b p q = grind arith

-- what one lot more of a kind may need: of a future Lot, of a short option Lot, of a long one nothing
abbrev pub lot_share : Meaning → Market → Level → Prices → Position → ℕ
lot_share rule m level price l =
    by_kind (product_of m l.contract).kind
    ((asked rule).lot (margin_a level (product_of m l.contract).terms))
    (by_side l.side 0 ((asked rule).lot (published_at m level price l.contract)))

-- the lots of one side are those of a line that is on it
on_sides : (side : Side) (k : ℕ) → k * one_if (same_side side Buy) + k * one_if (same_side side Sell) ≡ k
on_sides side k = grind arith

on_short_side : (side : Side) (k lot : ℕ) → k * one_if (same_side side Sell) * lot ≡ k * by_side side 0 lot
on_short_side side k lot = grind arith

shares : (k : Kind) (x y z : ℕ) → by_kind k (x * y) 0 + by_kind k 0 (x * z) ≡ x * by_kind k y z
shares k x y z = grind arith

-- the long and the short lots of a product, the short lots of a series
abbrev longs : Market → List (Lots Position) → ℕ → ℕ
longs m ls i = lots_of (of_product m i Buy) ls

abbrev shorts : Market → List (Lots Position) → ℕ → ℕ
shorts m ls i = lots_of (of_product m i Sell) ls

abbrev sold : List (Lots Position) → ℕ → ℕ
sold ls c = lots_of (of_contract c Sell) ls

module _ (rule : Meaning) (laws : Laws rule) where
  -- fewer lots at a lower figure never need more
  grows : (l s r n t q : ℕ) → l ≤ n → s ≤ t → r ≤ q → (asked rule).need l s r ≤ (asked rule).need n t q
  grows = (everywhere rule laws).grows

  module _ (m : Market) (level : Level) (ls ms : List (Lots Position)) where
    -- nor do fewer of a product
    futures_fewer : (i : ℕ) → longs m ls i ≤ longs m ms i → shorts m ls i ≤ shorts m ms i → futures_need rule m level ls i ≤ futures_need rule m level ms i
    futures_fewer i x y =
        let r = margin_a level (product_at m i).terms in
        by_kind_le (product_at m i).kind _ 0 _ 0 (grows (longs m ls i) (shorts m ls i) r (longs m ms i) (shorts m ms i) r x y (omega arith)) (omega arith)

    -- nor fewer short ones of a series
    series_fewer : (price : Prices) (c : ℕ) → sold ls c ≤ sold ms c → series_need rule m level price ls c ≤ series_need rule m level price ms c
    series_fewer price c y =
        let r = published_at m level price c in
        by_kind_le (product_of m c).kind 0 _ 0 _ (omega arith) (grows 0 (sold ls c) r 0 (sold ms c) r (omega arith) y (omega arith))

  -- fewer lots of each kind never need more
  pub needs_fewer : (m : Market) (level : Level) (price : Prices) (ls ms : List (Lots Position)) →
      ((p : Position → Bool) → lots_of p ls ≤ lots_of p ms) → needs rule m level price ls ≤ needs rule m level price ms
  needs_fewer m level price ls ms f = omega (
    arith,
    sum_to-le (length m.products) (futures_need rule m level ls) (futures_need rule m level ms) (λ i h. futures_fewer m level ls ms i (f (of_product m i Buy)) (f (of_product m i Sell))),
    sum_to-le (length m.contracts) (series_need rule m level price ls) (series_need rule m level price ms) (λ c h. series_fewer m level ls ms price c (f (of_contract c Sell))),
  )

  -- more lots on either side need at most as many times Lot
  more : (l s j k r : ℕ) → (asked rule).need (l + j) (s + k) r ≤ (asked rule).need l s r + (j + k) * (asked rule).lot r
  more = (everywhere rule laws).more_lots

  -- a line n at the end of the lines
  module _ (m : Market) (level : Level) (price : Prices) (ls : List (Lots Position)) (n : Lots Position) where
    abbrev lines : List (Lots Position)
    lines = ls ++ n ∷ []

    -- its contract, the place of its product, and what is published for it
    abbrev contract : ℕ
    contract = n.of.contract

    abbrev product : ℕ
    product = (contract_at m contract).product

    abbrev futures_figure : ℕ
    futures_figure = margin_a level (product_of m contract).terms

    abbrev series_figure : ℕ
    series_figure = published_at m level price contract

    -- its long and its short lots
    abbrev bought : ℕ
    bought = n.count * one_if (same_side n.of.side Buy)

    abbrev short : ℕ
    short = n.count * one_if (same_side n.of.side Sell)

    pushed_lots : (p : Position → Bool) → lots_of p lines ≡ lots_of p ls + n.count * one_if (p n.of)
    pushed_lots p = weigh-push (λ l. one_if (p l)) ls n

    -- another product, another series
    other_product : (j : ℕ) → (j ≡ product → ⊥) → futures_need rule m level lines j ≤ futures_need rule m level ls j
    other_product j ne =
        let same : (s : Side) → lots_of (of_product m j s) lines ≤ lots_of (of_product m j s) ls = λ s.
        let pushed = pushed_lots (of_product m j s) in grind (arith, nat_tests) in
        futures_fewer m level lines ls j (same Buy) (same Sell)

    other_series : (d : ℕ) → (d ≡ contract → ⊥) → series_need rule m level price lines d ≤ series_need rule m level price ls d
    other_series d ne =
        let pushed = pushed_lots (of_contract d Sell) in
        series_fewer m level lines ls price d (grind (arith, nat_tests))

    -- its own
    own_product : futures_need rule m level lines product ≤ futures_need rule m level ls product + by_kind (product_of m contract).kind (n.count * (asked rule).lot futures_figure) 0
    own_product =
        let at : (s : Side) → lots_of (of_product m product s) lines ≡ lots_of (of_product m product s) ls + n.count * one_if (same_side n.of.side s) = λ s.
        let pushed = pushed_lots (of_product m product s) in grind (arith, nat_tests) in
        let all = ap (λ x. x * (asked rule).lot futures_figure) (on_sides n.of.side n.count) in
        rw (at Buy, at Sell) (by_kind_more (product_of m contract).kind _ 0 _ 0 _ 0 (omega (arith, more (longs m ls product) (shorts m ls product) bought short futures_figure)) (omega arith))

    own_series : series_need rule m level price lines contract
        ≤ series_need rule m level price ls contract + by_kind (product_of m contract).kind 0 (n.count * by_side n.of.side 0 ((asked rule).lot series_figure))
    own_series =
        let at : sold lines contract ≡ sold ls contract + short =
        let pushed = pushed_lots (of_contract contract Sell) in grind (arith, nat_tests) in
        let all = on_short_side n.of.side n.count ((asked rule).lot series_figure) in
        rw at (by_kind_more (product_of m contract).kind 0 _ 0 _ 0 _ (omega arith) (omega (arith, more 0 (sold ls contract) 0 short series_figure)))

    -- one line more needs at most its lots' share
    pub needs_opened : needs rule m level price lines ≤ needs rule m level price ls + n.count * lot_share rule m level price n.of
    needs_opened =
        let k = (product_of m contract).kind in
        let lot = (asked rule).lot futures_figure in
        let option_lot = by_side n.of.side 0 ((asked rule).lot series_figure) in
        omega (
          arith,
          shares k n.count lot option_lot,
          sum_to-one (length m.products) product (by_kind k (n.count * lot) 0) (futures_need rule m level lines) (futures_need rule m level ls) other_product own_product,
          sum_to-one (length m.contracts) contract (by_kind k 0 (n.count * option_lot)) (series_need rule m level price lines) (series_need rule m level price ls) other_series own_series,
        )
