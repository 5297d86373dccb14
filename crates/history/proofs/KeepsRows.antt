-- What holds of each row of a table, after a row was added, changed or found.
use Rattle.std.proofs.Common.{◌≡◌, ℕ, ◌<◌, Bool, true, List, [], ◌∷◌, ◌++◌, length, get_or, set, is_some, Some, Option, arith}
use Rattle.std.proofs.lemmas.Grind.{common_steps}
use Rattle.std.specs.List.{find, position}
use Rattle.books.specs.Market.{row_at, changed_at}
use Rattle.books.specs.Sound.{Each}
use Rattle.books.specs.Tests.{place_of}
use Rattle.history.proofs.Sums.{found}
use Rattle.history.proofs.Tested.{some_place}

-- ---- a row that was found
-- it stands in its table, and is the first that passes
pub row_found : {A : Type 0} (p : A → Bool) (none : A) (xs : List A) → is_some (position p xs) ≡ true →
    (place_of (position p xs) < length xs) × (row_at none xs (position p xs) ≡ get_or xs (place_of (position p xs)) none) × (find p xs ≡ Some (row_at none xs (position p xs)))
row_found p none xs e =
    let at = some_place (position p xs) e in
    let f = found p none xs (place_of (position p xs)) at in
    grind arith

-- ---- each row
pub each_push : {A : Type 0} (none : A) (P : A → Type 0) (xs : List A) (x : A) → Each none P xs → P x → Each none P (xs ++ x ∷ [])
each_push none P xs x f p i l = grind (arith, common_steps)

pub each_changed : {A : Type 0} (none : A) (P : A → Type 0) (xs : List A) (x : Option ℕ) (f : A → A) → Each none P xs →
    (P (row_at none xs x) → P (f (row_at none xs x))) → Each none P (changed_at none xs x f)
each_changed none P xs x f h g i l = grind (arith, common_steps)

pub length-changed : {A : Type 0} (none : A) (xs : List A) (x : Option ℕ) (f : A → A) → length (changed_at none xs x f) ≡ length xs
length-changed none xs x f = grind (arith, common_steps)

-- what a change leaves alone in its row stays so in every row
pub set_leaves : {A B : Type 0} (part : A → B) (none : A) (xs : List A) (i : ℕ) (a : A) → part a ≡ part (get_or xs i none) → (j : ℕ) →
    part (get_or (set xs i a) j none) ≡ part (get_or xs j none)
set_leaves part none xs i a e j = grind (arith, common_steps)

pub changed_leaves : {A B : Type 0} (part : A → B) (none : A) (xs : List A) (x : Option ℕ) (f : A → A) → ((a : A) → part (f a) ≡ part a) → (j : ℕ) →
    part (get_or (changed_at none xs x f) j none) ≡ part (get_or xs j none)
changed_leaves part none xs x f e j = grind (arith, common_steps, e)
