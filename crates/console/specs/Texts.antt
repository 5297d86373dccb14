-- The texts of answers: the line's number, and what came of it.
use Rattle.std.specs.Prelude.{ℕ, List, [], ◌∷◌, ◌++◌, codes, decimal}
use Rattle.entry.specs.declared.fault.Decline.{Decline}

abbrev pub field : List ℕ → ℕ → List ℕ
field key n = key ++ decimal n

abbrev pub line_feed : List ℕ
line_feed = 10 ∷ []

-- taken: the order's number, or 0
abbrev pub done_text : ℕ → ℕ → List ℕ
done_text line order = field (codes "line=") line ++ field (codes " ok=") order ++ line_feed

-- declined
abbrev pub decline_text : ℕ → Decline → List ℕ
decline_text line d =
    field (codes "line=") line
    ++ field (codes " refused=") d.number
    ++ field (codes " layer=") d.layer
    ++ field (codes " at=") d.at
    ++ field (codes " short=") d.short
    ++ line_feed
