-- A name as it is kept in a row, and the rows that bear it. Assumes nothing.
use Rattle.std.specs.Prelude.{ℕ, ◌-◌, Bool, cond, List, ◌++◌, length, take, replicate, Some, None, Option}
use Rattle.std.specs.Str.{bytes_eq}
use Rattle.entry.specs.Fields.{is_name}
use Rattle.books.specs.declared.name.Name.{Name}
use Rattle.books.specs.Limits.{longest_name}

-- a name of at most 8 bytes, kept: its bytes, and zeros behind them
abbrev pub name_of : List ℕ → Name
name_of bs = record { bytes = bs ++ replicate (longest_name - length bs) 0; len = length bs }

-- bytes that can be a name, kept
abbrev pub name_if_fit : List ℕ → Option Name
name_if_fit bs = cond (is_name bs) (Some (name_of bs)) None

abbrev pub name_bytes : Name → List ℕ
name_bytes n = take n.len n.bytes

abbrev pub is_same_name : List ℕ → Name → Bool
is_same_name bs n = bytes_eq (name_bytes n) bs
