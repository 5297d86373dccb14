-- A taken entry has passed each of its tests.
use Rattle.std.proofs.Common.{◌≡◌, ℕ, true, List, [], ◌∷◌, is_some, Some, Option, arith}
use Rattle.std.specs.List.{AllByRecursion}
use Rattle.books.specs.Tests.{Test, taken, down, place_of}

abbrev pub Passed : List Test → Type 0
Passed ts = AllByRecursion (λ (t : Test). t.passes ≡ true) ts

pub passed : (ts : List Test) (n m : ℕ) → down ts n ≡ taken m → Passed ts × (n ≡ m)
passed [] n m e = (tt, cc)
passed (t ∷ ts) n m e =
    let r = passed ts n m in
    grind arith

-- what is known has a place
pub some_place : (x : Option ℕ) → is_some x ≡ true → x ≡ Some (place_of x)
some_place x e = grind arith
