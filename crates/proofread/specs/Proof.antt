-- What a list of lines is answered where no account stands behind it, however it comes in.
use Rattle.std.specs.Prelude.{◌≡◌, ℕ, ◌+◌, ◌-◌, ◌^◌, min, List, [], ◌∷◌, ◌++◌, take, Ok, Err, vec_items, Result}
use Rattle.console.specs.Streams.{lines_from}
use Rattle.console.specs.Texts.{done_text, decline_text}
use Rattle.entry.specs.declared.fault.Decline.{Decline}
use Rattle.entry.specs.Entries.{Asked}
use Rattle.entry.specs.Lines.{answer_to}
use Rattle.proofread.specs.declared.desk.Desk.{Desk}

abbrev pub answer_text : ℕ → Result Asked Decline → List ℕ
answer_text number (Ok asked) = done_text number 0
answer_text number (Err decline) = decline_text number decline

-- taken, with no order, or declined
abbrev pub proof_text : ℕ → List ℕ → List ℕ
proof_text number line = answer_text number (answer_to line)

-- the number of the line after
abbrev pub next : ℕ → ℕ
next number = min (number + 1) (2 ^ 64 - 1)

-- the answers to lines, one after another
abbrev pub answers : ℕ → List (List ℕ) → List ℕ
answers number [] = []
answers number (line ∷ lines) = proof_text (next number) line ++ answers (next number) lines

-- what is still to be printed of an input, of which some bytes of the first line are behind us
abbrev pub printed : ℕ → List ℕ → List ℕ → List ℕ
printed number begun input = answers number (lines_from begun input)

-- so of every line of which these bytes are the front, its first 201 bytes
abbrev pub EachLineOf : List ℕ → (List ℕ → Type 0) → Type 0
EachLineOf front So = (all : List ℕ) → front ≡ take 201 all → So all

-- a desk went through a block up to what is left of it: what it has answered, and what is still to be printed of the input,
-- are together what they were, whatever comes after the block
pub record Answered (before after : Desk) (block left begun : List ℕ) : Type 0 where
  pub begun_now : List ℕ
  pub line : after.line.bytes ≡ take 201 begun_now
  pub same : (more : List ℕ) → vec_items before.out ++ printed before.number begun (block ++ more) ≡ vec_items after.out ++ printed after.number begun_now (left ++ more)

-- what was held out is written, and nothing else has changed
pub record Emptied (before after : Desk) : Type 0 where
  pub out : vec_items after.out ≡ []
  pub line : after.line ≡ before.line
  pub number : after.number ≡ before.number
