-- Results of futures lots as what they bring less what they cost; what closed lots pay, and what the rest keeps.
use Rattle.std.proofs.Common.{◌≡◌, ℕ, Bool, ◌+◌, ◌*◌, ◌≤◌, true, List, [], ◌∷◌, ◌++◌, pos, ◌+ℤ◌, ◌-ℤ◌, refl, ap, arith}
use borrow.Author.Differences.{up, down}
use Rattle.std.proofs.lemmas.Int.{ints}
use Rattle.std.proofs.lemmas.Bool.Decides.{nat_tests}
use Rattle.std.specs.List.{AllByRecursion}
use Rattle.entry.specs.declared.types.Side.{Side}
use Rattle.entry.specs.declared.types.Side.TheVariants.{Buy, Sell}
use Rattle.books.specs.declared.rows.Lots.{Lots}
use Rattle.books.specs.declared.rows.Position.{Position}
use Rattle.books.specs.Lots.{weigh, lots_of, all_lots, left, part}
use Rattle.books.specs.Market.{Market, Prices, by_side, same_side, other_side, futures_tick}
use Rattle.books.specs.Books.{of_contract}
use Rattle.books.specs.Figures.{result, results}
use Rattle.books.specs.Effects.{rebased}
use Rattle.history.proofs.Sums.{weigh-left, weigh-count, part_kind}

-- what a lot brings and costs between its entry price and the price given
abbrev brings : Market → Prices → Position → ℕ
brings m mk l = futures_tick m l.contract * by_side l.side (mk l.contract) l.entry

abbrev costs : Market → Prices → Position → ℕ
costs m mk l = futures_tick m l.contract * by_side l.side l.entry (mk l.contract)

pub difference : (a b : ℕ) → up (pos a -ℤ pos b) + b ≡ down (pos a -ℤ pos b) + a
difference a b = omega (arith, ints)

pub result_is : (s : Side) (k now was : ℕ) → up (result s k now was) + k * by_side s was now ≡ down (result s k now was) + k * by_side s now was
result_is Buy k now was = omega (arith, ints, ap (λ x. k * x) (difference now was))
result_is Sell k now was = omega (arith, ints, ap (λ x. k * x) (difference now was))

results_is : (m : Market) (mk : Prices) (ls : List (Lots Position)) → up (results m mk ls) + weigh (costs m mk) ls ≡ down (results m mk ls) + weigh (brings m mk) ls
results_is m mk [] = refl
results_is m mk (l ∷ ls) =
    omega (arith, ints, results_is m mk ls, result_is l.of.side (l.count * futures_tick m l.of.contract) (mk l.of.contract) l.of.entry)

pub results_push : (m : Market) (mk : Prices) (ls : List (Lots Position)) (l : Lots Position) →
    results m mk (ls ++ l ∷ []) ≡ results m mk ls +ℤ result l.of.side (l.count * futures_tick m l.of.contract) (mk l.of.contract) l.of.entry
results_push m mk [] l = omega (arith, ints)
results_push m mk (x ∷ ls) l = omega (arith, ints, results_push m mk ls l)

same_side_lem : (s t : Side) → same_side s t ≡ true → s ≡ t
same_side_lem s t e = grind arith

pub of_contract_lem : (c : ℕ) (s : Side) (l : Position) → of_contract c s l ≡ true → (l.contract ≡ c) × (l.side ≡ s)
of_contract_lem c s l e = grind (arith, nat_tests, same_side_lem l.side s)

-- what is left and what was taken are worth what all were
results_left : (m : Market) (mk : Prices) (q : Position → Bool) (k : ℕ) (ls : List (Lots Position)) → results m mk (part q k ls) +ℤ results m mk (left q k ls) ≡ results m mk ls
results_left m mk q k ls = omega (
  arith,
  ints,
  weigh-left (brings m mk) q k ls,
  weigh-left (costs m mk) q k ls,
  results_is m mk ls,
  results_is m mk (left q k ls),
  results_is m mk (part q k ls),
)

-- lots closed at a price are worth what they were and the fill measured to the prices
closed_result : (s : Side) (k now was p : ℕ) → result (other_side s) k p was ≡ (result (other_side s) k now was +ℤ result s k now p)
closed_result Buy k now was p = omega (arith, ints, result_is Sell k p was, result_is Sell k now was, result_is Buy k now p)
closed_result Sell k now was p = omega (arith, ints, result_is Buy k p was, result_is Buy k now was, result_is Sell k now p)

results_of_closed : (m : Market) (mk : Prices) (c p : ℕ) (s : Side) (ls : List (Lots Position)) → AllByRecursion (λ (l : Lots Position). of_contract c (other_side s) l.of ≡ true) ls →
    results m (λ d. p) ls ≡ (results m mk ls +ℤ result s (all_lots ls * futures_tick m c) (mk c) p)
results_of_closed m mk c p s [] f = omega (arith, ints, result_is s (0 * futures_tick m c) (mk c) p)
results_of_closed m mk c p s (l ∷ ls) f =
    let h = of_contract_lem c (other_side s) l.of f.0 in
    let t = futures_tick m c in
    rw (h.0, h.1) (omega (
      arith,
      ints,
      closed_result s (l.count * t) (mk c) l.of.entry p,
      results_of_closed m mk c p s ls f.1,
      result_is s (l.count * t) (mk c) p,
      result_is s (all_lots ls * t) (mk c) p,
      result_is s (all_lots (l ∷ ls) * t) (mk c) p,
    ))

-- what closed lots pay and what the rest is worth is what all were worth and the closing fill measured to the prices
pub results_closed : (m : Market) (mk : Prices) (c k p : ℕ) (s : Side) (ls : List (Lots Position)) → k ≤ lots_of (of_contract c (other_side s)) ls →
    results m (λ d. p) (part (of_contract c (other_side s)) k ls) +ℤ results m mk (left (of_contract c (other_side s)) k ls) ≡ results m mk ls +ℤ result s (k * futures_tick m c) (mk c) p
results_closed m mk c k p s ls h =
    let q = of_contract c (other_side s) in
    let n = weigh-count q k ls h in
    let closed = results_of_closed m mk c p s (part q k ls) (part_kind q k ls) in
    omega (arith, ints, rw n at closed, results_left m mk q k ls)

-- prices and ticks that agree where lots are held
abbrev pub Alike : Market → Market → Prices → Prices → Position → Type 0
Alike m n mk nk l = (futures_tick m l.contract ≡ futures_tick n l.contract) × (mk l.contract ≡ nk l.contract)

pub results_agree : (m n : Market) (mk nk : Prices) (ls : List (Lots Position)) → AllByRecursion (λ (l : Lots Position). Alike m n mk nk l.of) ls → results m mk ls ≡ results n nk ls
results_agree m n mk nk [] f = refl
results_agree m n mk nk (l ∷ ls) f = let a = results_agree m n mk nk ls f.1 in let b = f.0.0 in let c = f.0.1 in cc

-- a new base moves no result
pub results_rebased : (m : Market) (mk nk : Prices) (ls : List (Lots Position)) → results m mk (rebased nk ls) ≡ results m mk ls
results_rebased m mk nk [] = refl
results_rebased m mk nk (l ∷ ls) = ap (λ z. result l.of.side (l.count * futures_tick m l.of.contract) (mk l.of.contract) l.of.entry +ℤ z) (results_rebased m mk nk ls)
