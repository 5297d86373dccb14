-- Lines out of a stream of bytes: a line ends before a line feed, and a last line without one is a line too.
use Rattle.std.specs.Prelude.{◌≡◌, ℕ, cond, List, [], ◌∷◌, ◌++◌, take, Some, None, Option, ◌==◌}

-- the bytes before the first line feed, and those behind it
abbrev pub line_front : List ℕ → List ℕ
line_front [] = []
line_front (b ∷ bs) = cond (b == 10) [] (b ∷ line_front bs)

abbrev pub line_rest : List ℕ → Option (List ℕ)
line_rest [] = None
line_rest (b ∷ bs) = cond (b == 10) (Some bs) (line_rest bs)

-- the lines of an input of which some bytes of the first line are behind us
abbrev pub lines_from : List ℕ → List ℕ → List (List ℕ)
lines_from [] [] = []
lines_from (b ∷ begun) [] = (b ∷ begun) ∷ []
lines_from begun (b ∷ bs) = cond (b == 10) (begun ∷ lines_from [] bs) (lines_from (begun ++ b ∷ []) bs)

-- the same after a block in which the line ended, with what the block has left, or did not end
abbrev pub lines_after : Option (List ℕ) → List ℕ → List ℕ → List (List ℕ)
lines_after (Some left) line more = line ∷ lines_from [] (left ++ more)
lines_after None line more = lines_from line more

-- a block goes on with the line whose first n bytes are kept, whatever of it is behind us and whatever comes after the
-- block: the lines of the input do not depend on where it is cut
pub record GoesOn (n : ℕ) (before block after : List ℕ) (rest : Option (List ℕ)) : Type 0 where
  pub line : (begun : List ℕ) → before ≡ take n begun → after ≡ take n (begun ++ line_front block)
  pub lines : (begun more : List ℕ) → lines_from begun (block ++ more) ≡ lines_after rest (begun ++ line_front block) more
