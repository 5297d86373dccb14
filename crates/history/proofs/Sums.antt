-- Sums over lots, and over places.
use Rattle.std.proofs.Common.{◌≡◌, ℕ, zero, suc, ◌+◌, ◌-◌, ◌*◌, ◌<◌, ◌≤◌, min, Bool, true, List, [], ◌∷◌, ◌++◌, length, get_or, Some, refl, ap, mul-le-mul_left, arith}
use Rattle.std.proofs.lemmas.Bool.Decides.{nat_tests}
use Rattle.std.proofs.lemmas.List.Quantifiers.{position-Some}
use Rattle.std.proofs.lemmas.List.Folds.{find_at}
use Rattle.std.proofs.lemmas.Option.{slice_get-get_or}
use Rattle.std.specs.List.{AllByRecursion, find, position}
use Rattle.books.specs.declared.rows.Lots.{Lots}
use Rattle.books.specs.Lots.{weigh, lots_of, all_lots, put, left, part, sum_to}

-- ---- sums over lots
pub weigh-push : {A : Type 0} (u : A → ℕ) (xs : List (Lots A)) (x : Lots A) → weigh u (xs ++ x ∷ []) ≡ weigh u xs + x.count * u x.of
weigh-push u [] x = omega arith
weigh-push u (y ∷ xs) x = omega (arith, weigh-push u xs x)

weigh-put : {A : Type 0} (u : A → ℕ) (n : ℕ) (a : A) (xs : List (Lots A)) → weigh u (put n a xs) ≡ n * u a + weigh u xs
weigh-put u n a xs = grind (arith, nat_tests)

-- what k lots take from a line of n
cut : (n k u : ℕ) → (n - k) * u + min k n * u ≡ n * u
cut n k u = grind arith

-- what is left and what was taken make the whole, at any worth
pub weigh-left : {A : Type 0} (u : A → ℕ) (p : A → Bool) (k : ℕ) (xs : List (Lots A)) → weigh u (left p k xs) + weigh u (part p k xs) ≡ weigh u xs
weigh-left u p k [] = refl
weigh-left u p k (x ∷ xs) =
    let near = weigh-left u p (k - x.count) xs in
    let far = weigh-left u p k xs in
    grind (arith, nat_tests, weigh-put, cut)

pub weigh-left_le : {A : Type 0} (u : A → ℕ) (p : A → Bool) (k : ℕ) (xs : List (Lots A)) → weigh u (left p k xs) ≤ weigh u xs
weigh-left_le u p k xs = omega (arith, weigh-left u p k xs)

-- where none are asked for, none are taken
weigh-none : {A : Type 0} (u : A → ℕ) (p : A → Bool) (xs : List (Lots A)) → weigh u (part p 0 xs) ≡ 0
weigh-none u p [] = refl
weigh-none u p (x ∷ xs) = let a = weigh-none u p xs in grind (arith, nat_tests)

-- the lots of a kind that were taken are as many as were asked for, where there were so many
pub weigh-count : {A : Type 0} (p : A → Bool) (k : ℕ) (xs : List (Lots A)) → k ≤ lots_of p xs → all_lots (part p k xs) ≡ k
weigh-count p k [] h = omega arith
weigh-count p k (x ∷ xs) h =
    let a = weigh-count p (k - x.count) xs in
    let b = weigh-count p k xs in
    grind arith

-- what was taken is of the kind
pub part_kind : {A : Type 0} (p : A → Bool) (k : ℕ) (xs : List (Lots A)) → AllByRecursion (λ (x : Lots A). p x.of ≡ true) (part p k xs)
part_kind p k [] = tt
part_kind p k (x ∷ xs) =
    let near = part_kind p (k - x.count) xs in
    let far = part_kind p k xs in
    grind arith

-- two worths that agree on a kind agree on what was taken of it
pub weigh-kind : {A : Type 0} (u v : A → ℕ) (p : A → Bool) (k : ℕ) (xs : List (Lots A)) → ((a : A) → p a ≡ true → u a ≡ v a) →
    weigh u (part p k xs) ≡ weigh v (part p k xs)
weigh-kind u v p k [] f = refl
weigh-kind u v p k (x ∷ xs) f =
    let a = weigh-kind u v p (k - x.count) xs f in
    let b = weigh-kind u v p k xs f in
    let c = f x.of in
    grind arith

pub weigh-scale : {A : Type 0} (n : ℕ) (xs : List (Lots A)) → weigh (λ a. n) xs ≡ all_lots xs * n
weigh-scale n [] = omega arith
weigh-scale n (x ∷ xs) = omega (arith, weigh-scale n xs)

pub weigh-agree : {A : Type 0} (u v : A → ℕ) (xs : List (Lots A)) → AllByRecursion (λ (x : Lots A). u x.of ≡ v x.of) xs → weigh u xs ≡ weigh v xs
weigh-agree u v [] f = refl
weigh-agree u v (x ∷ xs) f = let a = weigh-agree u v xs f.1 in let b = f.0 in grind arith

pub weigh-le : {A : Type 0} (u v : A → ℕ) (xs : List (Lots A)) → AllByRecursion (λ (x : Lots A). u x.of ≤ v x.of) xs → weigh u xs ≤ weigh v xs
weigh-le u v [] f = omega arith
weigh-le u v (x ∷ xs) f = omega (arith, weigh-le u v xs f.1, mul-le-mul_left x.count f.0)

-- ---- the first of a kind
-- what was found stands in the list, passes, and is the first that does
pub found : {A : Type 0} (p : A → Bool) (d : A) (xs : List A) (i : ℕ) → position p xs ≡ Some i →
    (i < length xs) × (find p xs ≡ Some (get_or xs i d)) × (p (get_or xs i d) ≡ true)
found p d xs i e = grind (arith, nat_tests, position-Some, find_at, slice_get-get_or)

-- what was taken of the first of a kind, where it has so many lots
pub weigh-first : {A : Type 0} (u : A → ℕ) (p : A → Bool) (k : ℕ) (xs : List (Lots A)) (o : Lots A) → find (λ x. p x.of) xs ≡ Some o →
    k ≤ o.count → weigh u (part p k xs) ≡ k * u o.of
weigh-first u p k [] o e h = grind arith
weigh-first u p k (x ∷ xs) o e h =
    let a = weigh-first u p k xs o in
    let b = weigh-none u p xs in
    grind arith

-- ---- what holds of each, of what is left
-- a row shortened is still such a row
abbrev pub Shortens : {A : Type 0} → (Lots A → Type 0) → Type 0
Shortens {A} P = (x : Lots A) (n : ℕ) → P x → 1 ≤ n → n ≤ x.count → P (record { of = x.of; count = n })

pub left_all : {A : Type 0} (P : Lots A → Type 0) → Shortens P → (p : A → Bool) (k : ℕ) (xs : List (Lots A)) → AllByRecursion P xs → AllByRecursion P (left p k xs)
left_all P s p k [] f = tt
left_all P s p k (x ∷ xs) f =
    let near = left_all P s p (k - x.count) xs f.1 in
    let far = left_all P s p k xs f.1 in
    grind (arith, nat_tests)

-- ---- sums over places
pub sum_to-le : (n : ℕ) (f g : ℕ → ℕ) → ((i : ℕ) → i < n → f i ≤ g i) → sum_to n f ≤ sum_to n g
sum_to-le zero f g h = omega arith
sum_to-le (suc n) f g h = omega (arith, sum_to-le n f g (λ i l. h i (omega arith)), h n (omega arith))

-- one place more by at most x, the others by nothing
pub sum_to-one : (n i x : ℕ) (f g : ℕ → ℕ) → ((j : ℕ) → (j ≡ i → ⊥) → f j ≤ g j) → f i ≤ g i + x → sum_to n f ≤ sum_to n g + x
sum_to-one zero i x f g h k = omega arith
sum_to-one (suc n) i x f g h k =
    let before = sum_to-one n i x f g h k in
    let others = sum_to-le n f g in
    let here = h n in
    grind (arith, others)

-- places past the n-th that add nothing
pub sum_to-longer : (n N : ℕ) (f g : ℕ → ℕ) → n ≤ N → ((i : ℕ) → i < n → f i ≤ g i) → ((i : ℕ) → n ≤ i → f i ≡ 0) → sum_to N f ≤ sum_to n g
sum_to-longer n zero f g l h z = omega arith
sum_to-longer n (suc N) f g l h z =
    let all = sum_to-le (suc N) f g in
    let last = λ (e : n ≡ suc N). ap (λ k. sum_to k g) e in
    let before = sum_to-longer n N f g in
    let none = z N in
    grind arith

pub sum_to-has : (n i : ℕ) (f : ℕ → ℕ) → i < n → f i ≤ sum_to n f
sum_to-has zero i f l = omega arith
sum_to-has (suc n) i f l = let before = sum_to-has n i f in grind arith

pub sum_to-both : (n : ℕ) (f g : ℕ → ℕ) → sum_to n (λ i. f i + g i) ≡ sum_to n f + sum_to n g
sum_to-both zero f g = omega arith
sum_to-both (suc n) f g = omega (arith, sum_to-both n f g)
