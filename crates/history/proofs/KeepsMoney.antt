-- What lots pay, cost and are charged lies within the bounds on money.
use Rattle.std.proofs.Common.{◌≡◌, ℕ, zero, suc, ◌+◌, ◌-◌, ◌*◌, ◌/◌, ◌<◌, ◌≤◌, max, Bool, true, List, [], ◌∷◌, length, ℤ, pos, ◌+ℤ◌, ◌-ℤ◌, ◌≤ℤ◌, mul-le-mul_left, arith}
use Rattle.std.proofs.lemmas.Int.{ints}
use Rattle.std.specs.List.{AllByRecursion}
use Rattle.entry.specs.declared.types.Kind.{Kind}
use Rattle.entry.specs.declared.types.Side.{Side}
use Rattle.entry.specs.declared.types.Side.TheVariants.{Buy, Sell}
use Rattle.books.specs.declared.rows.Lots.{Lots}
use Rattle.books.specs.declared.rows.Position.{Position}
use Rattle.books.specs.Limits.{most_products, most_lines, most_lots_of_one, highest_worth, highest_fee, highest_tax, highest_margin}
use Rattle.books.specs.Lots.{all_lots, lots_of, part, sum_to}
use Rattle.books.specs.Market.{Market, Prices, by_kind, by_side, product_at, futures_tick, tax_of, option_tick}
use Rattle.books.specs.Books.{of_product}
use Rattle.books.specs.Figures.{result, results, counted_lots, surcharge_for, surcharge_of}
use Rattle.books.specs.Sound.{Affordable, BalanceFits, highest_surcharge}
use Rattle.history.proofs.Results.{result_is}

-- ---- results
abbrev pub Bounded : ℤ → ℕ → Type 0
Bounded x n = (x ≤ℤ pos n) × (pos 0 ≤ℤ (x +ℤ pos n))

result_bounded : (side : Side) (n tick now was : ℕ) → now * tick ≤ highest_worth → was * tick ≤ highest_worth → Bounded (result side (n * tick) now was) (n * highest_worth)
result_bounded side n tick now was h k =
    let high : by_side side now was * tick ≤ highest_worth = grind arith in
    let low : by_side side was now * tick ≤ highest_worth = grind arith in
    let moved = result_is side (n * tick) now was in
    let a = mul-le-mul_left n high in
    let b = mul-le-mul_left n low in
    search (arith, ints)

abbrev pub Priced : Market → Prices → Lots Position → Type 0
Priced m price l = (price l.of.contract * futures_tick m l.of.contract ≤ highest_worth) × (l.of.entry * futures_tick m l.of.contract ≤ highest_worth)

pub results_bounded : (m : Market) (price : Prices) (ls : List (Lots Position)) → AllByRecursion (Priced m price) ls → Bounded (results m price ls) (all_lots ls * highest_worth)
results_bounded m price [] f = search (arith, ints)
results_bounded m price (l ∷ ls) f =
    let here = result_bounded l.of.side l.count (futures_tick m l.of.contract) (price l.of.contract) l.of.entry f.0.0 f.0.1 in
    let rest = results_bounded m price ls f.1 in
    search (arith, ints)

-- a tick of futures or of options is worth no more than a tick
pub futures_affordable : (m : Market) (c price : ℕ) → Affordable m c price → price * futures_tick m c ≤ highest_worth
futures_affordable m c price h = grind arith

pub options_affordable : (m : Market) (c price : ℕ) → Affordable m c price → price * option_tick m c ≤ highest_worth
options_affordable m c price h = grind arith

-- what holds of each, of what was taken
pub part_all : {A : Type 0} (P : A → Type 0) (p : A → Bool) (k : ℕ) (xs : List (Lots A)) → AllByRecursion (λ (x : Lots A). P x.of) xs →
    AllByRecursion (λ (x : Lots A). P x.of × (p x.of ≡ true)) (part p k xs)
part_all P p k [] f = tt
part_all P p k (x ∷ xs) f =
    let near = part_all P p (k - x.count) xs f.1 in
    let far = part_all P p k xs f.1 in
    grind arith

-- ---- premiums, fees and taxes
pub premiums_within : (side : Side) (kind : Kind) (lots price tick : ℕ) → price * tick ≤ highest_worth →
    (by_side side 0 (lots * (price * by_kind kind 0 tick)) ≤ lots * highest_worth) × (by_side side (lots * (price * by_kind kind 0 tick)) 0 ≤ lots * highest_worth)
premiums_within side kind lots price tick h = let worth = mul-le-mul_left lots h in grind arith

abbrev pub highest_tax_of_lot : ℕ
highest_tax_of_lot = highest_worth * highest_tax / 100000

tax_within : (worth tax : ℕ) → worth ≤ highest_worth → tax ≤ highest_tax → worth * tax / 100000 ≤ highest_tax_of_lot
tax_within worth tax h k = omega (arith, mul-le-mul_left tax h)

pub taxes_within : (lots price tick tax : ℕ) → price * tick ≤ highest_worth → tax ≤ highest_tax → lots * tax_of price tick tax ≤ lots * highest_tax_of_lot
taxes_within lots price tick tax h k = mul-le-mul_left lots (tax_within (price * tick) tax h k)

-- ---- the balance
-- a fill that pays r, within j worths, and premiums, fees and taxes of k lots
pub fill_fits : (balance r : ℤ) (j k i o f t moved moved' : ℕ) → BalanceFits balance moved → Bounded r (j * highest_worth) →
    (i ≤ k * highest_worth) × (o ≤ k * highest_worth) → f ≤ k * highest_fee → t ≤ k * highest_tax_of_lot → moved + k + j ≤ moved' →
    BalanceFits (balance +ℤ r +ℤ pos i -ℤ pos o -ℤ pos f -ℤ pos t) moved'
fill_fits balance r j k i o f t moved moved' b x p q y m = search (arith, ints)

pub moved_fits : (balance : ℤ) (moved moved' : ℕ) → BalanceFits balance moved → moved ≤ moved' → BalanceFits balance moved'
moved_fits balance moved moved' b l = search (arith, ints)

-- ---- the surcharge
pub lots_of_few : {A : Type 0} (p : A → Bool) (xs : List (Lots A)) → lots_of p xs ≤ all_lots xs
lots_of_few p [] = omega arith
lots_of_few p (x ∷ xs) =
    let r = lots_of_few p xs in
    grind arith

counted_by : (kind : Kind) (a b n : ℕ) → a ≤ n → b ≤ n → by_kind kind (max a b) b ≤ n
counted_by kind a b n h k = grind arith

counted_few : (m : Market) (ls : List (Lots Position)) (i : ℕ) → counted_lots m ls i ≤ all_lots ls
counted_few m ls i =
    let p = of_product m i in
    counted_by (product_at m i).kind (lots_of (p Buy) ls) (lots_of (p Sell) ls) (all_lots ls) (lots_of_few (p Buy) ls) (lots_of_few (p Sell) ls)

surcharge_for_lem : (limit share ia lots : ℕ) → lots ≤ most_lines * most_lots_of_one → ia ≤ highest_margin →
    surcharge_for limit share ia lots ≤ most_lines * most_lots_of_one * (highest_margin * 20 / 100)
surcharge_for_lem limit share ia lots h k = omega (arith, mul-le-mul_left (lots - limit * share / 100) k)

sum_to-within : (n c : ℕ) (f : ℕ → ℕ) → ((i : ℕ) → i < n → f i ≤ c) → sum_to n f ≤ n * c
sum_to-within zero c f h = omega arith
sum_to-within (suc n) c f h = omega (arith, sum_to-within n c f (λ i l. h i (omega arith)), h n (omega arith))

pub surcharge_within : (m : Market) (ls : List (Lots Position)) → length m.products ≤ most_products →
    ((i : ℕ) → i < length m.products → (product_at m i).terms.ia ≤ highest_margin) → all_lots ls ≤ most_lines * most_lots_of_one →
    surcharge_of m ls ≤ highest_surcharge
surcharge_within m ls few margins lots =
    let each = λ (i : ℕ) (l : i < length m.products).
    let t = (product_at m i).terms in
    surcharge_for_lem t.limit t.share t.ia (counted_lots m ls i) (omega (arith, counted_few m ls i)) (margins i l) in
    omega (arith, sum_to-within (length m.products) (most_lines * most_lots_of_one * (highest_margin * 20 / 100)) _ each)
