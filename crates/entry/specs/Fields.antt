-- One field of a line, read at a place: the value and the place behind it, or the fault with its column. Columns count
-- from 1, places from 0.
use Rattle.std.specs.Prelude.{ℕ, ◌+◌, Bool, cond, ◌&&◌, ◌||◌, List, [], ◌∷◌, length, take, drop, Some, None, Ok, Err, Option, Result, ◌==◌, nat_le, nat_lt, slice_index}
use Rattle.std.specs.Str.{bytes_eq}
use Rattle.std.specs.List.{list_all}
use Rattle.figure.specs.Figure.{and_then, figure_of}
use Rattle.figure.specs.declared.FigureFault.{FigureFault}
use Rattle.entry.specs.declared.fault.LineFault.{LineFault}
use Rattle.entry.specs.declared.fault.LineFault.TheVariants.{Figure, Form}
use Rattle.entry.specs.declared.fault.Misfigure.{Misfigure}

abbrev pub map_ok : {A B E : Type 0} → (A → B) → Result A E → Result B E
map_ok f (Ok x) = Ok (f x)
map_ok f (Err e) = Err e

-- what was read, with the place behind it
abbrev pub ending : {A E : Type 0} → ℕ → Result A E → Result (A × ℕ) E
ending end r = map_ok (λ x. (x, end)) r

-- a line of at most 200 bytes, and the place where it begins
abbrev pub all_of : List ℕ → Result (List ℕ × ℕ) LineFault
all_of line = cond (nat_lt 200 (length line)) (Err (Form 201)) (Ok (line, 0))

-- the bytes up to the next blank
abbrev pub word : List ℕ → List ℕ
word [] = []
word (b ∷ bs) = cond (b == 32) [] (b ∷ word bs)

-- a value runs to the next blank or the line's end
abbrev pub value_at : List ℕ → ℕ → List ℕ
value_at line at = word (drop at line)

-- a blank and the key: where the value begins
abbrev pub key_at : List ℕ → List ℕ → ℕ → Result ℕ LineFault
key_at key line at =
    cond (slice_index line at == 32)
    (cond (bytes_eq key (take (length key) (drop (at + 1) line))) (Ok (at + 1 + length key)) (Err (Form (at + 2))))
    (Err (Form (at + 1)))

-- the line ends here, or a fault stands at what follows
abbrev pub end_at : List ℕ → ℕ → Result (Unit {0}) LineFault
end_at line at = cond (nat_lt at (length line)) (Err (Form (at + 1))) (Ok tt)

-- a figure's fault with its column
abbrev pub placed : ℕ → Result ℕ FigureFault → Result ℕ Misfigure
placed column (Ok n) = Ok n
placed column (Err f) = Err (record { at = column; fault = f })

-- carried whole inside the line's fault
abbrev pub carried : {A : Type 0} → Result A Misfigure → Result A LineFault
carried (Ok x) = Ok x
carried (Err f) = Err (Figure f)

-- a field: its key, and its value read by a reader that is told the column where the value begins
unfoldable pub field_at : {A : Type 0} → (ℕ → List ℕ → Result A LineFault) → List ℕ → List ℕ → ℕ → Result (A × ℕ) LineFault
field_at reader key line at =
    and_then (key_at key line at) (λ start.
    and_then (reader (start + 1) (value_at line start)) (λ value.
    Ok (value, start + length (value_at line start))))

-- a value as it stands, with its column
abbrev pub unread : ℕ → List ℕ → Result (ℕ × List ℕ) LineFault
unread column bs = Ok (column, bs)

-- a figure
abbrev pub figure_in : ℕ → List ℕ → Result ℕ LineFault
figure_in column bs = carried (placed column (figure_of bs))

-- capitals and digits
abbrev pub is_name_byte : ℕ → Bool
is_name_byte b = (nat_le 65 b && nat_le b 90) || (nat_le 48 b && nat_le b 57)

-- 1 to 8 of them
abbrev pub is_name : List ℕ → Bool
is_name bs = nat_lt 0 (length bs) && (nat_le (length bs) 8 && list_all is_name_byte bs)

abbrev pub name_in : ℕ → List ℕ → Result (List ℕ) LineFault
name_in column bs = cond (is_name bs) (Ok bs) (Err (Form column))

-- a single letter that stands for something
abbrev pub or_form : {A : Type 0} → ℕ → Option A → Result A LineFault
or_form column (Some x) = Ok x
or_form column None = Err (Form column)

abbrev pub letter_in : {A : Type 0} → (ℕ → Option A) → ℕ → List ℕ → Result A LineFault
letter_in meant column bs = cond (length bs == 1) (or_form column (meant (slice_index bs 0))) (Err (Form column))
