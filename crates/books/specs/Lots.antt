-- Lots of a kind, which are a standing order's or a line's: their sums, and some of them taken, the oldest first. Assumes nothing.
use Rattle.std.specs.Prelude.{ℕ, zero, suc, ◌+◌, ◌-◌, ◌*◌, min, Bool, cond, List, [], ◌∷◌, ◌==◌}
use Rattle.books.specs.declared.rows.Lots.{Lots}

abbrev pub one_if : Bool → ℕ
one_if b = cond b 1 0

-- all the lots, each at its worth
abbrev pub weigh : {A : Type 0} → (A → ℕ) → List (Lots A) → ℕ
weigh worth [] = 0
weigh worth (x ∷ xs) = x.count * worth x.of + weigh worth xs

-- the lots of a kind
abbrev pub lots_of : {A : Type 0} → (A → Bool) → List (Lots A) → ℕ
lots_of kind = weigh (λ a. one_if (kind a))

abbrev pub all_lots : {A : Type 0} → List (Lots A) → ℕ
all_lots = weigh (λ a. 1)

-- n lots in front, or nothing where n is 0
abbrev pub put : {A : Type 0} → ℕ → A → List (Lots A) → List (Lots A)
put n a xs = cond (n == 0) xs (record { of = a; count = n } ∷ xs)

-- k lots of a kind are taken, the oldest first: what is left of all lots, and what was taken
abbrev pub left : {A : Type 0} → (A → Bool) → ℕ → List (Lots A) → List (Lots A)
left kind k [] = []
left kind k (x ∷ xs) = cond (kind x.of) (put (x.count - k) x.of (left kind (k - x.count) xs)) (x ∷ left kind k xs)

abbrev pub part : {A : Type 0} → (A → Bool) → ℕ → List (Lots A) → List (Lots A)
part kind k [] = []
part kind k (x ∷ xs) = cond (kind x.of) (record { of = x.of; count = min k x.count } ∷ part kind (k - x.count) xs) (part kind k xs)

-- a sum over the places below n
abbrev pub sum_to : ℕ → (ℕ → ℕ) → ℕ
sum_to zero f = 0
sum_to (suc n) f = sum_to n f + f n
