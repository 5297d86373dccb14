-- A desk that goes through a block prints what the lines of the input are answered, wherever the input is cut.
use Rattle.std.proofs.Common.{◌≡◌, ◌≢◌, ℕ, List, [], ◌∷◌, ◌++◌, take, Some, None, vec_items, refl, ap, ◌∙◌, append_assoc, append-nil}
use Rattle.console.specs.declared.front.Front.{Front}
use Rattle.console.specs.Streams.{line_front, GoesOn}
use Rattle.proofread.specs.declared.desk.Desk.{Desk}
use Rattle.proofread.specs.Proof.{proof_text, next, answers, printed, EachLineOf, Answered}

module _ (before at : Desk) (filled : Front) (block left begun : List ℕ) (sofar : Answered before at block left begun) where
  -- the line ended, was answered, and the next begins
  pub line_answered : (after : Desk) (behind : List ℕ) → GoesOn 201 at.line.bytes left filled.bytes (Some behind)
      → EachLineOf filled.bytes (λ all. vec_items after.out ≡ vec_items at.out ++ proof_text (next at.number) all)
      → after.number ≡ next at.number → after.line.bytes ≡ [] → Answered before after block behind begun
  line_answered after behind goes answered counted cleared =
      let told = answered (sofar.begun_now ++ line_front left) (goes.line sofar.begun_now sofar.line) in
      record {
        begun_now = [];
        line = cleared;
        same = λ more. rw (counted, told, append_assoc) (sofar.same more ∙ ap (λ ls. vec_items at.out ++ answers at.number ls) (goes.lines sofar.begun_now more));
      }

  -- the block ended before the line
  pub block_answered : GoesOn 201 at.line.bytes left filled.bytes None → Answered before (record { line = filled; number = at.number; text = at.text; out = at.out }) block [] begun
  block_answered goes = record {
    begun_now = sofar.begun_now ++ line_front left;
    line = goes.line sofar.begun_now sofar.line;
    same = λ more. sofar.same more ∙ ap (λ ls. vec_items at.out ++ answers at.number ls) (goes.lines sofar.begun_now more);
  }

-- a last line without a line feed
pub last_printed : (number : ℕ) (begun : List ℕ) → take 201 begun ≢ [] → printed number begun [] ≡ proof_text (next number) begun
last_printed number [] some = absurd (some refl)
last_printed number (b ∷ bs) some = append-nil (proof_text (next number) (b ∷ bs))

pub none_printed : (number : ℕ) (begun : List ℕ) → take 201 begun ≡ [] → printed number begun [] ≡ []
none_printed number [] none = refl
none_printed number (b ∷ bs) none = let cut : b ∷ take 200 bs ≡ [] = none in absurd (cc)
