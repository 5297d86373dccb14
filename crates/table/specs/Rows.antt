-- What a clause sees of a table: its rows, of which there are at most so many.
use Rattle.std.specs.Prelude.{◌≡◌, ℕ, ◌≤◌, List, length, take}
use Rattle.std.specs.Coded.{Coded, code_by, coded_list, le_prop}
use Rattle.std.proofs.Common.{subst, arith, le_refl}
use Rattle.std.proofs.lemmas.List.{length-take, take_all}

-- the rows, in the order in which they came, and that they are at most n
pub record Rows (T : Type 0) (n : ℕ) : Type 0 where
  pub items : List T
  pub few : length items ≤ n

module _ {T : Type 0} {n : ℕ} where
  abbrev pub rows : (xs : List T) → length xs ≤ n → Rows T n
  rows xs few = record { items = xs; few = few }

  pub few_taken : (k : ℕ) (xs : List T) → k ≤ n → length (take k xs) ≤ n
  few_taken k xs few = omega (arith, length-take k xs)

  -- of a list the first k, where k is at most n
  abbrev pub first_rows : (k : ℕ) → List T → k ≤ n → Rows T n
  first_rows k xs few = rows (take k xs) (few_taken k xs few)

  -- equal items make equal rows
  pub same_rows : (r s : Rows T n) → r.items ≡ s.items → r ≡ s
  same_rows r s e = subst (λ xs. (few : length xs ≤ n) → r ≡ rows xs few) e (λ few i. rows r.items (le_prop r.few few i)) s.few

  -- rows are stored as their items
  abbrev pub rows_code : Coded T → Coded (Rows T n)
  rows_code c =
      code_by (List T) (coded_list c) (λ r. r.items) (λ xs. first_rows n xs (le_refl n)) (λ r. same_rows (first_rows n r.items (le_refl n)) r (take_all n r.items r.few))
