-- Closing orders find their lots after an order more, and after a fill.
use Rattle.std.proofs.Common.{◌≡◌, ℕ, ◌+◌, ◌*◌, ◌≤◌, Bool, true, ◌&&◌, eqb, List, [], ◌∷◌, ◌++◌, Some, ap, arith}
use Rattle.std.proofs.lemmas.Bool.Decides.{nat_tests}
use Rattle.std.specs.List.{find}
use Rattle.entry.specs.declared.types.Side.{Side}
use Rattle.entry.specs.declared.types.Effect.{Effect}
use Rattle.entry.specs.declared.types.Effect.TheVariants.{Opening, Closing}
use Rattle.books.specs.declared.rows.Lots.{Lots}
use Rattle.books.specs.declared.rows.Order.{Order}
use Rattle.books.specs.declared.rows.Position.{Position}
use Rattle.books.specs.Lots.{lots_of, one_if, left, part}
use Rattle.books.specs.Market.{same_side, other_side}
use Rattle.books.specs.Books.{ordered, numbered, of_contract, closable, closes_on}
use Rattle.books.specs.Effects.{lines_filled, opened_line}
use Rattle.books.specs.Sound.{Held}
use Rattle.history.proofs.Results.{of_contract_lem}
use Rattle.history.proofs.Sums.{weigh-push, weigh-left, weigh-first, weigh-count, weigh-kind, weigh-scale}

-- ---- kinds of lots
aimed : (d c : ℕ) (t z : Side) → (eqb d c && same_side t (other_side z)) ≡ true → (d ≡ c) × (other_side t ≡ z)
aimed d c t z e = grind (arith, nat_tests)

-- a lot that an order closes is of a kind just where the order closes that kind
closes_like : (c : ℕ) (z : Side) (o : Order) (l : Position) → o.effect ≡ Closing → closable o l ≡ true → one_if (of_contract c z l) ≡ one_if (closes_on c z o)
closes_like c z o l e h =
    let g = of_contract_lem o.contract (other_side o.side) l h in
    grind arith

closes_itself : (o : Order) → o.effect ≡ Closing → one_if (closes_on o.contract (other_side o.side) o) ≡ 1
closes_itself o e = grind (arith, nat_tests)

-- ---- orders and fills
module _ (os : List (Lots Order)) (ls : List (Lots Position)) (h : Held os ls) where
  pub held_opening : (n d : ℕ) (t : Side) (k q : ℕ) → Held (os ++ record { of = ordered n d t Opening q; count = k } ∷ []) ls
  held_opening n d t k q c z = omega (arith, weigh-push (λ o. one_if (closes_on c z o)) os (record { of = ordered n d t Opening q; count = k }), h c z)

  pub held_closing : (n d : ℕ) (t : Side) (k q : ℕ) → lots_of (closes_on d (other_side t)) os + k ≤ lots_of (of_contract d (other_side t)) ls →
      Held (os ++ record { of = ordered n d t Closing q; count = k } ∷ []) ls
  held_closing n d t k q l c z =
      let o = ordered n d t Closing q in
      let pushed = weigh-push (λ o. one_if (closes_on c z o)) os (record { of = o; count = k }) in
      let before = h c z in
      let free = λ (e : closes_on c z o ≡ true). let g = aimed d c t z e in rw (g.0, g.1) at l in
      grind arith

  pub held_left : (p : Order → Bool) (k : ℕ) → Held (left p k os) ls
  held_left p k c z = omega (arith, weigh-left (λ o. one_if (closes_on c z o)) p k os, h c z)

  module _ (n k : ℕ) (o : Lots Order) (e : find (λ x. numbered n x.of) os ≡ Some o) (l : k ≤ o.count) where
    -- a closing order's lots are there
    pub closed_held : o.of.effect ≡ Closing → k ≤ lots_of (closable o.of) ls
    closed_held f =
        let u = λ (q : Order). one_if (closes_on o.of.contract (other_side o.of.side) q) in
        omega (
          arith,
          h o.of.contract (other_side o.of.side),
          weigh-left u (numbered n) k os,
          weigh-first u (numbered n) k os o e l,
          ap (λ x. k * x) (closes_itself o.of f),
        )

    pub held_fill : (price : ℕ) (f : Effect) → o.of.effect ≡ f → Held (left (numbered n) k os) (lines_filled o.of k price f ls)
    held_fill price Opening i c z = omega (arith, held_left (numbered n) k c z, weigh-push (λ l. one_if (of_contract c z l)) ls (opened_line o.of k price))
    held_fill price Closing i c z =
        let u = λ (q : Order). one_if (closes_on c z q) in
        let v = λ (q : Position). one_if (of_contract c z q) in
        let y = one_if (closes_on c z o.of) in
        omega (
          arith,
          h c z,
          weigh-left u (numbered n) k os,
          weigh-first u (numbered n) k os o e l,
          weigh-left v (closable o.of) k ls,
          weigh-kind v (λ q. y) (closable o.of) k ls (λ q m. closes_like c z o.of q i m),
          weigh-scale y (part (closable o.of) k ls),
          ap (λ x. x * y) (weigh-count (closable o.of) k ls (closed_held i)),
        )
