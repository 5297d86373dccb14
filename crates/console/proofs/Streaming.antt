-- Where a stream is cut does not matter to its lines.
use Rattle.std.proofs.Common.{◌≡◌, ℕ, zero, suc, ◌+◌, Bool, true, false, cond, eqb, List, [], ◌∷◌, ◌++◌, length, take, drop, Some, None, Option, sym, refl, ap, ◌∙◌, inl, inr, append_assoc, append-nil, arith}
use Rattle.std.proofs.lemmas.List.{length-take-le, take-append-le, take_all, take-take}
use Rattle.std.proofs.lemmas.Bool.{cases_lt, cond-true, cond-false, false_from_ne_true}
use Rattle.memchr.specs.Find.{IsFirstByte, is_byte}
use Rattle.console.specs.Streams.{line_front, line_rest, lines_from, lines_after, GoesOn}

-- the line and what is behind it, by the place of the first line feed
pub record Cut (block : List ℕ) (end : ℕ) : Type 0 where
  pub front : line_front block ≡ take end block
  pub rest : line_rest block ≡ Some (drop (end + 1) block)

pub cut : (block : List ℕ) (end : ℕ) → IsFirstByte (is_byte 10) block (Some end) → Cut block end
cut [] end first = absurd (omega (arith, first.0.high))
cut (b ∷ bs) zero first = record { front = cond-true _ _ _ first.1; rest = cond-true _ _ _ first.1 }
cut (b ∷ bs) (suc k) first =
    let other : eqb b 10 ≡ false = false_from_ne_true (eqb b 10) (first.0.before 0 (omega arith) (omega arith)) in
    let later = cut bs k (record { low = omega arith; high = omega (arith, first.0.high); before = λ j low high. first.0.before (suc j) (omega arith) (omega arith) }, first.1) in
    let place : suc k + 1 ≡ suc (k + 1) = omega arith in
    record {
      front = cond-false _ _ _ other ∙ ap (λ r. b ∷ r) later.front;
      rest = cond-false _ _ _ other ∙ later.rest ∙ ap (λ n. Some (drop n (b ∷ bs))) (sym place);
    }

-- the same where there is none
pub record Uncut (block : List ℕ) : Type 0 where
  pub front : line_front block ≡ block
  pub rest : line_rest block ≡ None

pub uncut : (block : List ℕ) → IsFirstByte (is_byte 10) block None → Uncut block
uncut [] none = record { front = refl; rest = refl }
uncut (b ∷ bs) none =
    let other : eqb b 10 ≡ false = false_from_ne_true (eqb b 10) (none 0 (omega arith) (omega arith)) in
    let later = uncut bs (λ k low high. none (suc k) (omega arith) (omega arith)) in
    record { front = cond-false _ _ _ other ∙ ap (λ r. b ∷ r) later.front; rest = cond-false _ _ _ other ∙ later.rest }

pub lines_go_on : (block begun more : List ℕ) → lines_from begun (block ++ more) ≡ lines_after (line_rest block) (begun ++ line_front block) more
lines_go_on [] begun more = ap (λ l. lines_from l more) (sym (append-nil begun))
lines_go_on (b ∷ bs) begun more = go (eqb b 10) (lines_go_on bs (begun ++ b ∷ []) more)
  where
    go : (t : Bool) → lines_from (begun ++ b ∷ []) (bs ++ more) ≡ lines_after (line_rest bs) ((begun ++ b ∷ []) ++ line_front bs) more
        → cond t (begun ∷ lines_from [] (bs ++ more)) (lines_from (begun ++ b ∷ []) (bs ++ more)) ≡ lines_after (cond t (Some bs) (line_rest bs)) (begun ++ cond t [] (b ∷ line_front bs)) more
    go true later = ap (λ l. l ∷ lines_from [] (bs ++ more)) (sym (append-nil begun))
    go false later = later ∙ ap (λ l. lines_after (line_rest bs) l more) (append_assoc begun (b ∷ []) (line_front bs))

-- what is cut off a front is not missed by a longer one
pub kept_again : (begun more : List ℕ) (m : ℕ) → take m (take m begun ++ more) ≡ take m (begun ++ more)
kept_again begun more m = elim (cases_lt (length begun) m) [
  | inl few ↦ ap (λ l. take m (l ++ more)) (take_all m begun (omega arith))
  | inr many ↦
      take-append-le m (take m begun) more (omega (arith, length-take-le m begun many))
      ∙ take-take m m begun (omega arith)
      ∙ sym (take-append-le m begun more many)
]

pub goes_on : (n : ℕ) (before block after : List ℕ) (rest : Option (List ℕ)) → after ≡ take n (before ++ line_front block) → rest ≡ line_rest block → GoesOn n before block after rest
goes_on n before block after rest keeps is = record {
  line = λ begun cut_off. keeps ∙ ap (λ l. take n (l ++ line_front block)) cut_off ∙ kept_again begun (line_front block) n;
  lines = λ begun more. lines_go_on block begun more ∙ ap (λ r. lines_after r (begun ++ line_front block) more) (sym is);
}
