-- A line is one entry, whole: it is answered exactly as what it writes, and nothing else writes that.
use Rattle.std.proofs.Common.{◌≡◌, ℕ, ◌+◌, ◌≤◌, ltb, List, [], ◌∷◌, ◌++◌, length, take, drop, Ok, Result, sym, refl, ap, ◌∙◌, subst, inl, inr, append-nil, arith}
use Rattle.std.proofs.lemmas.Slice.Eq.{bytes_eq-Decides}
use Rattle.std.proofs.lemmas.List.{drop_all, length-drop, length-take-le, take_all}
use Rattle.std.proofs.lemmas.List.Prefix.{front_rest}
use Rattle.std.proofs.lemmas.Bool.{ltb-false, le-ltb, cases_lt}
use Rattle.std.proofs.lemmas.Bool.Decides.{nat_tests}
use Rattle.figure.proofs.Bind.{ok_past}
use Rattle.entry.specs.declared.fault.LineFault.{LineFault}
use Rattle.entry.specs.declared.fault.LineFault.TheVariants.{Form}
use Rattle.entry.specs.declared.words.Word.{Word}
use Rattle.entry.specs.declared.words.Word.TheVariants.{Product, Contract, Announce, Band, Spot, Mark, Deposit, Withdraw, Cancel, Order, Fill, Open, Close, Deadline, Report}
use Rattle.entry.specs.Entries.{lists_product, lists_contract, announces, sets_band, sets_spot, sets_mark, deposits, withdraws, cancels, orders, fills, opens, closes, ends_deadline, Asked, enters, reports}
use Rattle.entry.specs.Fields.{value_at, end_at}
use Rattle.entry.specs.Lines.{Values, texts, fields_of, word_text, said_by, words, word_in, line_of, Written, Writes, Whole}
use Rattle.entry.proofs.FieldKinds.{reads_figure, reads_name, reads_kind, reads_right, reads_side, reads_effect, reads_terms}
use Rattle.entry.proofs.Reading.{through, AllRead, fields_sound, stops_before, fields_complete}
use Rattle.entry.proofs.Values.{Stops, Unbroken, value_stands, value_is, behind}

-- each field of a word is read where it is written
fields_read : (w : Word) → AllRead (fields_of w)
fields_read w = grind (arith, reads_figure, reads_name, reads_kind, reads_right, reads_side, reads_effect, reads_terms)

-- the end of the line
end_sound : (line : List ℕ) (end : ℕ) (u : Unit {0}) → end_at line end ≡ Ok u → drop end line ≡ []
end_sound line end u told = drop_all end line (grind (arith, nat_tests))

end_complete : (line : List ℕ) (end : ℕ) → drop end line ≡ [] → end_at line end ≡ Ok tt
end_complete line end none = grind (arith, nat_tests, length-drop end line)

-- a word is found by its text, which no blank breaks
word_sound : (ws : List Word) (bs : List ℕ) (w : Word) → word_in ws bs ≡ Ok w → bs ≡ word_text w
word_sound [] bs w told = cc
word_sound (v ∷ ws) bs w told = grind (arith, word_sound ws bs w, bytes_eq-Decides bs (word_text v))

word_found : (w : Word) → (word_in words (word_text w) ≡ Ok w) × Unbroken (word_text w)
word_found w = grind arith

-- what is asked, as a word and the values of its fields
record Row (a : Asked) : Type 0 where
  word : Word
  values : Values (fields_of word)
  says : said_by word values ≡ a

row_of : (a : Asked) → Row a
row_of (enters (lists_product name kind tick terms spot)) = record { word = Product; values = (name, (kind, (tick, (terms, (spot, tt))))); says = refl }
row_of (enters (lists_contract name product right strike floor ceiling mark)) = record { word = Contract; values = (name, (product, (right, (strike, (floor, (ceiling, (mark, tt))))))); says = refl }
row_of (enters (announces name terms)) = record { word = Announce; values = (name, (terms, tt)); says = refl }
row_of (enters (sets_band contract floor ceiling)) = record { word = Band; values = (contract, (floor, (ceiling, tt))); says = refl }
row_of (enters (sets_spot product price)) = record { word = Spot; values = (product, (price, tt)); says = refl }
row_of (enters (sets_mark contract price)) = record { word = Mark; values = (contract, (price, tt)); says = refl }
row_of (enters (deposits amount)) = record { word = Deposit; values = (amount, tt); says = refl }
row_of (enters (withdraws amount)) = record { word = Withdraw; values = (amount, tt); says = refl }
row_of (enters (cancels order)) = record { word = Cancel; values = (order, tt); says = refl }
row_of (enters (orders contract side effect lots price)) = record { word = Order; values = (contract, (side, (effect, (lots, (price, tt))))); says = refl }
row_of (enters (fills order lots price)) = record { word = Fill; values = (order, (lots, (price, tt))); says = refl }
row_of (enters opens) = record { word = Open; values = tt; says = refl }
row_of (enters closes) = record { word = Close; values = tt; says = refl }
row_of (enters ends_deadline) = record { word = Deadline; values = tt; says = refl }
row_of reports = record { word = Report; values = tt; says = refl }

-- the clauses of the relation, word by word
writes_said : (w : Word) (vs : Values (fields_of w)) → Writes (said_by w vs) ≡ Written w vs
writes_said Product vs = refl
writes_said Contract vs = refl
writes_said Announce vs = refl
writes_said Band vs = refl
writes_said Spot vs = refl
writes_said Mark vs = refl
writes_said Deposit vs = refl
writes_said Withdraw vs = refl
writes_said Cancel vs = refl
writes_said Order vs = refl
writes_said Fill vs = refl
writes_said Open vs = refl
writes_said Close vs = refl
writes_said Deadline vs = refl
writes_said Report vs = refl

-- what is asked is written by the word and the values of its row
row_writes : {a : Asked} (row : Row a) → Writes a ≡ Written row.word row.values
row_writes row = ap Writes (sym row.says) ∙ writes_said row.word row.values

-- a taken line is the one that writes what was answered: a word with the texts of its fields
line_sound : (line : List ℕ) (a : Asked) → line_of line ≡ Ok a → (length line ≤ 200) × Writes a line
line_sound line a told =
    let short = ok_past a (Form 201) (ltb 200 (length line)) _ told in
    let first = through (word_in words (value_at line 0)) _ a short.1 in
    let gave = fields_sound (fields_of first.value) (fields_read first.value) line (length (value_at line 0)) _ a first.rest in
    let ended = through (end_at line gave.end) _ a gave.rest in
    let stands = simp (end_sound line gave.end ended.value ended.first, append-nil) at gave.stands in
    let text : line ≡ word_text first.value ++ texts (fields_of first.value) gave.values = cc (value_stands line, word_sound words (value_at line 0) first.value first.first, stands) in
    let row : Row a = record { word = first.value; values = gave.values; says = cc ended.rest } in
    (ltb-false 200 (length line) short.0, subst (λ P. P line) (sym (row_writes row)) (record { valid = gave.valid; text = text }))

-- and a line that is a word with the texts of its fields is taken
line_complete : (w : Word) (vs : Values (fields_of w)) (line : List ℕ) → length line ≤ 200 → Written w vs line → line_of line ≡ Ok (said_by w vs)
line_complete w vs line short written =
    let stops : Stops (texts (fields_of w) vs) = rw append-nil at (stops_before (fields_of w) (fields_read w) vs [] tt) in
    let first : value_at line 0 ≡ word_text w = rw written.text (value_is (word_text w) (texts (fields_of w) vs) (word_found w).1 stops) in
    let rest : drop (length (word_text w)) line ≡ texts (fields_of w) vs ++ [] = rw append-nil (front_rest line (word_text w) (texts (fields_of w) vs) written.text) in
    rw (le-ltb 200 (length line) short, first, (word_found w).0)
    (fields_complete (fields_of w) (fields_read w) line (length (word_text w)) _ vs [] written.valid rest tt
    ∙ rw (end_complete line (length (word_text w) + length (texts (fields_of w) vs)) (behind line (texts (fields_of w) vs) [] (length (word_text w)) rest)))

line_whole : (line : List ℕ) → Whole line (line_of line)
line_whole line = record {
  taken = line_sound line;
  every = λ a short h. let row = row_of a in line_complete row.word row.values line short (subst (λ P. P line) (row_writes row) h) ∙ ap Ok row.says;
  alone = λ a other told k. let row = row_of a in (subst (λ P. P other) (row_writes row) k).text ∙ sym (subst (λ P. P line) (row_writes row) (line_sound line a told).1).text;
}

-- the first 201 bytes tell what a line of any length says
front_tells : (line : List ℕ) → line_of (take 201 line) ≡ line_of line
front_tells line = elim (cases_lt 200 (length line)) [
  | inl over ↦ grind (arith, nat_tests, length-take-le 201 line)
  | inr fits ↦ ap line_of (take_all 201 line (omega arith))
]

-- so of any reader that answers what the line says
module _ (line : List ℕ) (r : Result Asked LineFault) (told : r ≡ line_of line) where
  pub told_whole : Whole line r
  told_whole = subst (Whole line) (sym told) (line_whole line)

  pub told_front : (all : List ℕ) → line ≡ take 201 all → r ≡ line_of all
  told_front all is = told ∙ ap line_of is ∙ front_tells all
