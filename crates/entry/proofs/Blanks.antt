-- A word runs to the first blank, or to the end where there is none.
use Rattle.std.proofs.Common.{◌≡◌, ℕ, ◌+◌, ◌==◌, List, [], ◌∷◌, take, Some, None, refl, arith}
use Rattle.std.proofs.lemmas.Grind.{common_steps}
use Rattle.std.specs.List.{position, position_or_len}
use Rattle.entry.specs.Fields.{word}

-- the bytes before the first blank
word_is : (bs : List ℕ) → take (position_or_len (λ b. b == 32) bs) bs ≡ word bs
word_is [] = refl
word_is (b ∷ bs) =
    let step : take (1 + position_or_len (λ b. b == 32) bs) (b ∷ bs) ≡ b ∷ take (position_or_len (λ b. b == 32) bs) bs = grind (arith, common_steps) in
    grind (arith, common_steps, step, word_is bs)

-- what a search for a blank tells: where the word ends, or that all is the word
pub word_found : (bs : List ℕ) (end : ℕ) → Some end ≡ position (λ b. b == 32) bs → take end bs ≡ word bs
word_found bs end found = grind (arith, common_steps, word_is bs, found)

pub word_alone : (bs : List ℕ) → None ≡ position (λ b. b == 32) bs → bs ≡ word bs
word_alone bs found = grind (arith, common_steps, word_is bs, found)
