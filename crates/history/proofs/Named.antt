-- Rows that bear names, no name twice, and what is told under the names: changed in place, or with one row more.
use Rattle.std.proofs.Common.{◌≡◌, ℕ, ◌<◌, Bool, true, cond, not, List, [], ◌∷◌, ◌++◌, length, get_or, set, is_some, Some, None, Option, refl, arith}
use Rattle.std.proofs.lemmas.Slice.Eq.{bytes_eq-Decides}
use Rattle.std.proofs.lemmas.List.{length-append, length_push, length-set, get_or_append_left, get_or_push}
use Rattle.std.proofs.lemmas.List.Folds.{position_or_len-set, position_or_len_push, prefix_len-append}
use Rattle.std.proofs.lemmas.List.Sums.{prefix_len-le-length}
use Rattle.std.proofs.lemmas.Bool.Decides.{nat_tests}
use Rattle.std.proofs.lemmas.Grind.{common_steps}
use Rattle.std.specs.List.{position}
use Rattle.std.specs.Str.{bytes_eq}
use Rattle.history.proofs.Sums.{found}
use Rattle.history.proofs.KeepsRows.{set_leaves}

-- ---- one row more
first_before : {A : Type 0} (p : A → Bool) (xs ys : List A) (i : ℕ) → position p xs ≡ Some i → position p (xs ++ ys) ≡ Some i
first_before p xs ys i e = grind (arith, nat_tests, prefix_len-append, length-append)

first_after : {A : Type 0} (p : A → Bool) (xs : List A) (y : A) (n : ℕ) → p y ≡ true → n ≡ length xs → position p xs ≡ None →
    position p (xs ++ y ∷ []) ≡ Some n
first_after p xs y n t e none = grind (arith, nat_tests, length_push, position_or_len_push, prefix_len-le-length)

pub not_some : (x : Option ℕ) → not (is_some x) ≡ true → x ≡ None
not_some x e = grind arith

-- ---- names
pub same_bytes : (x y : List ℕ) → bytes_eq x y ≡ true → x ≡ y
same_bytes x y = (bytes_eq-Decides x y).0

abbrev pub bears : {A : Type 0} → (A → List ℕ) → List ℕ → A → Bool
bears name key a = bytes_eq (name a) key

-- each row is the first that bears its name
abbrev pub Apart : {A : Type 0} → (A → List ℕ) → A → List A → Type 0
Apart name d xs = (i : ℕ) → i < length xs → position (bears name (name (get_or xs i d))) xs ≡ Some i

-- what is told under the names is what stands in the rows
abbrev pub Tells : {A X : Type 0} → (A → List ℕ) → (A → X) → A → (List ℕ → X) → List A → Type 0
Tells name v d look xs = (i : ℕ) → i < length xs → look (name (get_or xs i d)) ≡ v (get_or xs i d)

module _ {A : Type 0} (name : A → List ℕ) (d : A) where
  pub apart_set : (f : A → A) → ((a : A) → name (f a) ≡ name a) → (xs : List A) (k : ℕ) → Apart name d xs → Apart name d (set xs k (f (get_or xs k d)))
  apart_set f h xs k apart i l =
      let same = set_leaves name d xs k (f (get_or xs k d)) (h (get_or xs k d)) i in
      let here = apart i in
      let first = h (get_or xs k d) in
      grind (arith, position_or_len-set, length-set)

  pub apart_push : (xs : List A) (y : A) → Apart name d xs → position (bears name (name y)) xs ≡ None → Apart name d (xs ++ y ∷ [])
  apart_push xs y apart new i l =
      let size = length_push xs y in
      let low = get_or_append_left xs (y ∷ []) d i in
      let last = get_or_push xs y d i in
      let old = first_before (bears name (name (get_or xs i d))) xs (y ∷ []) i in
      let fresh = first_after (bears name (name y)) xs y i ((bytes_eq-Decides (name y) (name y)).1 refl) in
      let here = apart i in
      grind arith

  -- a row that is found under a key bears it, and is the only one
  only : (xs : List A) (key : List ℕ) (k i : ℕ) → Apart name d xs → position (bears name key) xs ≡ Some k → i < length xs → key ≡ name (get_or xs i d) → i ≡ k
  only xs key k i apart f l e = let g = apart i l in cc

  module _ {X : Type 0} (v : A → X) (look : List ℕ → X) where
    -- what a change leaves alone is told as it was
    pub tells_kept : (f : A → A) → ((a : A) → name (f a) ≡ name a) → ((a : A) → v (f a) ≡ v a) → (xs : List A) (k : ℕ) → Tells name v d look xs →
        Tells name v d look (set xs k (f (get_or xs k d)))
    tells_kept f h g xs k t i l = let told = t i in grind (arith, common_steps, h, g)

    -- what a change makes of the row found under a key is what is told last under that key
    pub tells_set : (f : A → A) (x : X) → ((a : A) → name (f a) ≡ name a) → ((a : A) → v (f a) ≡ x) → (xs : List A) (key : List ℕ) (k : ℕ) →
        Apart name d xs → position (bears name key) xs ≡ Some k → Tells name v d look xs → Tells name v d (λ n. cond (bytes_eq key n) x (look n)) (set xs k (f (get_or xs k d)))
    tells_set f x h g xs key k apart q t i l =
        let at = found (bears name key) d xs k q in
        let one = only xs key k i apart q in
        let told = t i in
        grind (arith, common_steps, bytes_eq-Decides, h, g)

    -- and so of one row more, under a new key
    pub tells_push : (x : X) (xs : List A) (y : A) (key : List ℕ) → name y ≡ key → v y ≡ x → Apart name d xs → position (bears name key) xs ≡ None →
        Tells name v d look xs →
        Tells name v d (λ n. cond (bytes_eq key n) x (look n)) (xs ++ y ∷ [])
    tells_push x xs y key h g apart new t i l =
        let here = apart i in
        let told = t i in
        grind (arith, common_steps, bytes_eq-Decides)
