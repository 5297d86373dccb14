-- What is left of orders or lines keeps what held of each, and the numbers of orders rise.
use Rattle.std.proofs.Common.{ℕ, zero, suc, ◌-◌, ◌*◌, ◌<◌, ◌≤◌, Bool, cond, eqb, List, [], ◌∷◌, ◌++◌, length, arith}
use Rattle.std.proofs.ByRecursion.{All-get_or, All-from_get_or}
use Rattle.std.proofs.lemmas.Bool.Decides.{nat_tests}
use Rattle.std.proofs.lemmas.Grind.{common_steps}
use Rattle.std.specs.List.{AllByRecursion}
use Rattle.books.specs.declared.rows.Lots.{Lots}
use Rattle.books.specs.declared.rows.Order.{Order}
use Rattle.books.specs.Lots.{all_lots, left}
use Rattle.books.specs.Books.{no_order}
use Rattle.books.specs.Sound.{Each, NumbersRise}
use Rattle.history.proofs.Sums.{Shortens, left_all}

-- ---- what is left
pub left_length : {A : Type 0} (p : A → Bool) (k : ℕ) (xs : List (Lots A)) → length (left p k xs) ≤ length xs
left_length p k [] = omega arith
left_length p k (x ∷ xs) =
    let near = left_length p (k - x.count) xs in
    let far = left_length p k xs in
    grind (arith, nat_tests)

pub each_left : {A : Type 0} (none : Lots A) (P : Lots A → Type 0) → Shortens P → (p : A → Bool) (k : ℕ) (xs : List (Lots A)) → Each none P xs → Each none P (left p k xs)
each_left none P s p k xs f = λ i l. All-get_or P (left p k xs) i none l (left_all P s p k xs (All-from_get_or P xs none f))

-- all lots, where no row has more than n
pub lots_within : {A : Type 0} (n : ℕ) (xs : List (Lots A)) → AllByRecursion (λ (x : Lots A). x.count ≤ n) xs → all_lots xs ≤ length xs * n
lots_within n [] f = omega arith
lots_within n (x ∷ xs) f = let c = f.0 in omega (arith, lots_within n xs f.1)

-- ---- numbers rise
abbrev Later : ℕ → Lots Order → Type 0
Later n o = n < o.of.number

-- one order before those that are later, and one of three lists
numbers_cons : (o : Lots Order) (os : List (Lots Order)) → Each no_order (Later o.of.number) os → NumbersRise os → NumbersRise (o ∷ os)
numbers_cons o os f h zero (suc j) l m = f j (omega arith)
numbers_cons o os f h (suc i) (suc j) l m = h i j (omega arith) (omega arith)
numbers_cons o os f h _ zero l m = absurd (omega arith)

numbers_cond : (t u : Bool) (near cut far : List (Lots Order)) → NumbersRise near → NumbersRise cut → NumbersRise far → NumbersRise (cond t (cond u near cut) far)
numbers_cond t u near cut far a b c i j l m = grind arith

pub numbers_left : (p : Order → Bool) (k : ℕ) (os : List (Lots Order)) → NumbersRise os → NumbersRise (left p k os)
numbers_left p k [] h = h
numbers_left p k (x ∷ xs) h =
    let later : Each no_order (Later x.of.number) xs = λ i l. h 0 (suc i) (omega arith) (omega arith) in
    let rest = λ (n : ℕ). numbers_left p n xs (λ i j l m. h (suc i) (suc j) (omega arith) (omega arith)) in
    let more = λ (n c : ℕ). numbers_cons (record { of = x.of; count = c }) (left p n xs) (each_left no_order (Later x.of.number) (λ y c h l m. h) p n xs later) (rest n) in
    numbers_cond (p x.of) (eqb (x.count - k) 0) _ _ _ (rest (k - x.count)) (more (k - x.count) (x.count - k)) (more k x.count)

pub numbers_push : (os : List (Lots Order)) (o : Lots Order) → NumbersRise os → Each no_order (λ x. x.of.number < o.of.number) os → NumbersRise (os ++ o ∷ [])
numbers_push os o h f i j l k = grind (arith, common_steps)
