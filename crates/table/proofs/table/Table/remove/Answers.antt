use Rattle.std.proofs.Common.{◌≡◌, ℕ, ◌+◌, ◌-◌, ◌<◌, ◌≤◌, List, length, take, arith, rules}
use Rattle.std.specs.List.{remove, copy_within}
use Rattle.std.proofs.lemmas.List.{same_lists, places}
use Rattle.std.proofs.lemmas.Bool.{cases_lt}
use Rattle.table.proofs.table.Table.remove.Goals as goal

-- of the first n those behind the i-th are copied one place down
take-copy_within : {T : Type 0} (xs : List T) (i n : ℕ) → i < n → n ≤ length xs → take (n - 1) (copy_within xs (i + 1) n i) ≡ remove (take n xs) i
take-copy_within xs i n lt few = same_lists _ _ (search (rules, places)) (λ k d h. grind (arith, places, cases_lt k i))

pub returns-clause-after : goal.returns-clause-after
returns-clause-after g c =
    let t = c.self.inside in
    rw (c.copy_within.ensures.after, ← c.self.view_is) (take-copy_within t.rows c.args.place t.len (omega arith) (omega (arith, c.self.invariant)))
