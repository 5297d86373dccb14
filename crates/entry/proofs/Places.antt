-- Two texts are compared by their length and the bytes at their places, which is what a match on one has tested.
use Rattle.std.proofs.Common.{◌≡◌, ℕ, suc, Bool, true, eqb, ◌&&◌, List, [], ◌∷◌, length, get_or, refl, arith}
use Rattle.std.specs.Str.{bytes_eq}

abbrev stands_at : (ℕ → ℕ) → List ℕ → Bool
stands_at at [] = true
stands_at at (y ∷ ys) = eqb (at 0) y && stands_at (λ k. at (suc k)) ys

pub same_at_places : (bs ys : List ℕ) → bytes_eq bs ys ≡ (eqb (length bs) (length ys) && stands_at (λ k. get_or bs k 0) ys)
same_at_places [] [] = refl
same_at_places [] (y ∷ ys) = grind arith
same_at_places (b ∷ bs) [] = grind arith
same_at_places (b ∷ bs) (y ∷ ys) = grind (arith, same_at_places bs ys)
