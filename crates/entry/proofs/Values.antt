-- What stands at a place of a line: a key behind a blank, a value up to the next blank.
use Rattle.std.proofs.Common.{◌≡◌, ℕ, ◌+◌, Bool, true, false, List, [], ◌∷◌, ◌++◌, length, drop, Ok, refl, ◌∙◌, sym, arith}
use Rattle.std.proofs.lemmas.Slice.Eq.{starts_is}
use Rattle.std.proofs.lemmas.List.{drop-drop, drop_more, get_or_past, get_or-drop}
use Rattle.std.proofs.lemmas.List.Prefix.{front_rest}
use Rattle.std.proofs.lemmas.Bool.{cases_lt}
use Rattle.std.proofs.lemmas.Bool.Decides.{Decides-eqb, nat_tests}
use Rattle.std.specs.List.{list_all}
use Rattle.entry.specs.Fields.{word, key_at}
use Rattle.entry.specs.Lines.{keyed}

-- what is left ends a value: nothing, or a blank
abbrev pub Stops : List ℕ → Type 0
Stops [] = Unit {0}
Stops (b ∷ bs) = b ≡ 32

-- no byte is a blank
abbrev pub Unbroken : List ℕ → Type 0
Unbroken [] = Unit {0}
Unbroken (b ∷ bs) = (b ≡ 32 → ⊥) × Unbroken bs

-- bytes of a kind that a blank is not
pub unbroken_from_all : (test : ℕ → Bool) → test 32 ≡ false → (bs : List ℕ) → list_all test bs ≡ true → Unbroken bs
unbroken_from_all test not_blank [] h = tt
unbroken_from_all test not_blank (b ∷ bs) h = grind (arith, unbroken_from_all test not_blank bs)

-- a value, and what stands behind it
pub value_stands : (bs : List ℕ) → bs ≡ word bs ++ drop (length (word bs)) bs
value_stands [] = refl
value_stands (b ∷ bs) = grind (arith, value_stands bs)

-- a value is all that stands before the blank or the end
pub value_is : (v rest : List ℕ) → Unbroken v → Stops rest → word (v ++ rest) ≡ v
value_is [] [] u s = refl
value_is [] (b ∷ rest) u s = grind (arith, nat_tests)
value_is (b ∷ v) rest u s = grind (arith, nat_tests, value_is v rest u.1 s)

-- behind what stands at a place
pub behind : (line front rest : List ℕ) (at : ℕ) → drop at line ≡ front ++ rest → drop (at + length front) line ≡ rest
behind line front rest at stands = sym (drop-drop (length front) at line) ∙ front_rest (drop at line) front rest stands

module _ (key line : List ℕ) (at : ℕ) where
  -- a key that was read stands there, behind a blank
  pub key_stands : (start : ℕ) → key_at key line at ≡ Ok start → drop at line ≡ keyed key (drop start line)
  key_stands start told =
      grind (arith, nat_tests, cases_lt at (length line), drop_more line at 0, get_or_past line at 0, drop-drop (length key) (at + 1) line, (starts_is Decides-eqb (drop (at + 1) line) key _ refl).0)

  -- and one that stands there is read
  pub key_is : (rest : List ℕ) → drop at line ≡ keyed key rest → key_at key line at ≡ Ok (at + 1 + length key)
  key_is rest stands = grind (arith, nat_tests, get_or-drop at line 0 0, drop-drop 1 at line, (starts_is Decides-eqb (drop (at + 1) line) key _ refl).1 rest)
