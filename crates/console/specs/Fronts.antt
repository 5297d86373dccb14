-- What a clause sees of a front: its bytes, of which there are at most 201.
use Rattle.std.specs.Prelude.{◌≡◌, ℕ, ◌≤◌, List, length, take}
use Rattle.std.specs.Coded.{Coded, code_by, coded_list, coded_ℕ, le_prop}
use Rattle.std.proofs.Common.{subst, arith, le_refl}
use Rattle.std.proofs.lemmas.List.{length-take, take_all}

-- the bytes that are held, in their order, and that they are at most 201
pub record Held : Type 0 where
  pub bytes : List ℕ
  pub few : length bytes ≤ 201

abbrev pub held : (bs : List ℕ) → length bs ≤ 201 → Held
held bs few = record { bytes = bs; few = few }

pub few_taken : (k : ℕ) (bs : List ℕ) → k ≤ 201 → length (take k bs) ≤ 201
few_taken k bs few = omega (arith, length-take k bs)

-- of bytes the first k, where k is at most 201
abbrev pub first_bytes : (k : ℕ) → List ℕ → k ≤ 201 → Held
first_bytes k bs few = held (take k bs) (few_taken k bs few)

-- equal bytes make equal fronts
pub same_bytes : (f g : Held) → f.bytes ≡ g.bytes → f ≡ g
same_bytes f g e = subst (λ bs. (few : length bs ≤ 201) → f ≡ held bs few) e (λ few i. held f.bytes (le_prop f.few few i)) g.few

-- a front is stored as its bytes
abbrev pub held_code : Coded Held
held_code = code_by (List ℕ) (coded_list coded_ℕ) (λ f. f.bytes) (λ bs. first_bytes 201 bs (le_refl 201)) (λ f. same_bytes (first_bytes 201 f.bytes (le_refl 201)) f (take_all 201 f.bytes f.few))
