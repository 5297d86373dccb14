-- The lines of a day: each word with its fields in their order, what a line says, and the law that a line is one entry, whole.
use Rattle.std.specs.Prelude.{◌≡◌, ℕ, ◌^◌, ◌<◌, ◌≤◌, true, cond, List, [], ◌∷◌, ◌++◌, length, Ok, Err, codes, decimal, Option, Result, nat_lt}
use Rattle.std.specs.Str.{bytes_eq}
use Rattle.figure.specs.Figure.{and_then}
use Rattle.entry.specs.declared.fault.Decline.{Decline}
use Rattle.entry.specs.declared.fault.LineFault.{LineFault}
use Rattle.entry.specs.declared.fault.LineFault.TheVariants.{Form}
use Rattle.entry.specs.declared.types.Terms.{Terms}
use Rattle.entry.specs.declared.words.Word.{Word}
use Rattle.entry.specs.declared.words.Word.TheVariants.{Product as ProductWord, Contract as ContractWord, Announce as AnnounceWord, Band as BandWord, Spot as SpotWord, Mark as MarkWord, Deposit as DepositWord, Withdraw as WithdrawWord, Cancel as CancelWord, Order as OrderWord, Fill as FillWord, Open as OpenWord, Close as CloseWord, Deadline as DeadlineWord, Report as ReportWord}
use Rattle.entry.specs.Entries.{lists_product, lists_contract, announces, sets_band, sets_spot, sets_mark, deposits, withdraws, cancels, orders, fills, opens, closes, ends_deadline, Asked, enters, reports}
use Rattle.entry.specs.Faults.{map_err, decline_of}
use Rattle.entry.specs.Fields.{value_at, end_at, field_at, figure_in, name_in, letter_in, is_name}
use Rattle.entry.specs.Letters.{kind_letter, right_letter, side_letter, effect_letter, kind_of, right_of, side_of, effect_of}

-- a kind of field: what it holds, how it is read at a place of a line, which values a line may give it, how one is written
pub record Field : Type 1 where
  pub Value : Type 0
  pub read : List ℕ → ℕ → Result (Value × ℕ) LineFault
  pub Valid : Value → Type 0
  pub text : Value → List ℕ

-- one blank before each field, then its key, then its value
abbrev pub keyed : List ℕ → List ℕ → List ℕ
keyed key value = 32 ∷ (key ++ value)

abbrev pub figure : List ℕ → Field
figure key = record { Value = ℕ; read = field_at figure_in key; Valid = λ n. n < 10 ^ 15; text = λ n. keyed key (decimal n) }

abbrev pub name : List ℕ → Field
name key = record { Value = List ℕ; read = field_at name_in key; Valid = λ bs. is_name bs ≡ true; text = keyed key }

abbrev pub letter : {A : Type 0} → (ℕ → Option A) → (A → ℕ) → List ℕ → Field
letter {A} meant byte key = record { Value = A; read = field_at (letter_in meant) key; Valid = λ x. Unit {0}; text = λ x. keyed key (byte x ∷ []) }

abbrev pub kind : Field
kind = letter kind_of kind_letter (codes "kind=")

abbrev pub right : Field
right = letter right_of right_letter (codes "right=")

abbrev pub side : Field
side = letter side_of side_letter (codes "side=")

abbrev pub effect : Field
effect = letter effect_of effect_letter (codes "effect=")

-- fields one after another: their values, read and written in their order
abbrev pub Values : List Field → Type 0
Values [] = Unit {0}
Values (f ∷ fs) = f.Value × Values fs

abbrev pub Valids : (fs : List Field) → Values fs → Type 0
Valids [] vs = Unit {0}
Valids (f ∷ fs) vs = f.Valid vs.0 × Valids fs vs.1

abbrev pub texts : (fs : List Field) → Values fs → List ℕ
texts [] vs = []
texts (f ∷ fs) vs = f.text vs.0 ++ texts fs vs.1

-- the first fault met is the answer; what comes of the values is asked with the place behind the last field
abbrev pub fields_at : {A : Type 0} (fs : List Field) → List ℕ → ℕ → (Values fs → ℕ → Result A LineFault) → Result A LineFault
fields_at [] line at then = then tt at
fields_at (f ∷ fs) line at then = and_then (f.read line at) (λ x. fields_at fs line x.1 (λ vs end. then (x.0, vs) end))

-- what is published of a product: eight figures
abbrev pub term_fields : List Field
term_fields =
    figure (codes "fee=") ∷ figure (codes "tax=") ∷ figure (codes "limit=") ∷ figure (codes "share=")
    ∷ figure (codes "ia=") ∷ figure (codes "ib=") ∷ figure (codes "ma=") ∷ figure (codes "mb=") ∷ []

abbrev pub terms_of : Values term_fields → Terms
terms_of (fee, (tax, (limit, (share, (ia, (ib, (ma, (mb, _)))))))) = record { fee = fee; tax = tax; limit = limit; share = share; ia = ia; ib = ib; ma = ma; mb = mb }

abbrev pub term_values : Terms → Values term_fields
term_values t = (t.fee, (t.tax, (t.limit, (t.share, (t.ia, (t.ib, (t.ma, (t.mb, tt))))))))

unfoldable pub terms_at : List ℕ → ℕ → Result (Terms × ℕ) LineFault
terms_at line at = fields_at term_fields line at (λ vs end. Ok (terms_of vs, end))

abbrev pub terms : Field
terms = record { Value = Terms; read = terms_at; Valid = λ t. Valids term_fields (term_values t); text = λ t. texts term_fields (term_values t) }

-- each word, and its fields in their order
abbrev pub word_text : Word → List ℕ
word_text ProductWord = codes "product"
word_text ContractWord = codes "contract"
word_text AnnounceWord = codes "announce"
word_text BandWord = codes "band"
word_text SpotWord = codes "spot"
word_text MarkWord = codes "mark"
word_text DepositWord = codes "deposit"
word_text WithdrawWord = codes "withdraw"
word_text CancelWord = codes "cancel"
word_text OrderWord = codes "order"
word_text FillWord = codes "fill"
word_text OpenWord = codes "open"
word_text CloseWord = codes "close"
word_text DeadlineWord = codes "deadline"
word_text ReportWord = codes "report"

abbrev pub fields_of : Word → List Field
fields_of ProductWord = name (codes "name=") ∷ kind ∷ figure (codes "tick=") ∷ terms ∷ figure (codes "spot=") ∷ []
fields_of ContractWord = name (codes "name=") ∷ name (codes "product=") ∷ right ∷ figure (codes "strike=") ∷ figure (codes "floor=") ∷ figure (codes "ceiling=") ∷ figure (codes "mark=") ∷ []
fields_of AnnounceWord = name (codes "name=") ∷ terms ∷ []
fields_of BandWord = name (codes "contract=") ∷ figure (codes "floor=") ∷ figure (codes "ceiling=") ∷ []
fields_of SpotWord = name (codes "product=") ∷ figure (codes "price=") ∷ []
fields_of MarkWord = name (codes "contract=") ∷ figure (codes "price=") ∷ []
fields_of DepositWord = figure (codes "amount=") ∷ []
fields_of WithdrawWord = figure (codes "amount=") ∷ []
fields_of CancelWord = figure (codes "order=") ∷ []
fields_of OrderWord = name (codes "contract=") ∷ side ∷ effect ∷ figure (codes "lots=") ∷ figure (codes "price=") ∷ []
fields_of FillWord = figure (codes "order=") ∷ figure (codes "lots=") ∷ figure (codes "price=") ∷ []
fields_of OpenWord = []
fields_of CloseWord = []
fields_of DeadlineWord = []
fields_of ReportWord = []

-- what the word says of the values of its fields
abbrev pub said_by : (w : Word) → Values (fields_of w) → Asked
said_by ProductWord (name, (kind, (tick, (terms, (spot, _))))) = enters (lists_product name kind tick terms spot)
said_by ContractWord (name, (product, (right, (strike, (floor, (ceiling, (mark, _))))))) = enters (lists_contract name product right strike floor ceiling mark)
said_by AnnounceWord (name, (terms, _)) = enters (announces name terms)
said_by BandWord (contract, (floor, (ceiling, _))) = enters (sets_band contract floor ceiling)
said_by SpotWord (product, (price, _)) = enters (sets_spot product price)
said_by MarkWord (contract, (price, _)) = enters (sets_mark contract price)
said_by DepositWord (amount, _) = enters (deposits amount)
said_by WithdrawWord (amount, _) = enters (withdraws amount)
said_by CancelWord (order, _) = enters (cancels order)
said_by OrderWord (contract, (side, (effect, (lots, (price, _))))) = enters (orders contract side effect lots price)
said_by FillWord (order, (lots, (price, _))) = enters (fills order lots price)
said_by OpenWord _ = enters opens
said_by CloseWord _ = enters closes
said_by DeadlineWord _ = enters ends_deadline
said_by ReportWord _ = reports

abbrev pub words : List Word
words = ProductWord ∷ ContractWord ∷ AnnounceWord ∷ BandWord ∷ SpotWord ∷ MarkWord ∷ DepositWord ∷ WithdrawWord ∷ CancelWord ∷ OrderWord ∷ FillWord ∷ OpenWord ∷ CloseWord ∷ DeadlineWord ∷ ReportWord ∷ []

-- an unknown or empty word is a fault at column 1
abbrev pub word_in : List Word → List ℕ → Result Word LineFault
word_in [] bs = Err (Form 1)
word_in (w ∷ ws) bs = cond (bytes_eq bs (word_text w)) (Ok w) (word_in ws bs)

-- the fields of the word, and nothing after the last
abbrev pub rest_at : Word → List ℕ → ℕ → Result Asked LineFault
rest_at w line at = fields_at (fields_of w) line at (λ vs end. and_then (end_at line end) (λ _. Ok (said_by w vs)))

-- over 200 bytes before anything else; then the word, which runs to the first blank or the end; then its fields
abbrev pub line_of : List ℕ → Result Asked LineFault
line_of line =
    cond (nat_lt 200 (length line)) (Err (Form 201))
    (and_then (word_in words (value_at line 0)) (λ w. rest_at w line (length (value_at line 0))))

-- the same with the numbers of a decline
abbrev pub answer_to : List ℕ → Result Asked Decline
answer_to line = map_err decline_of (line_of line)

-- the line is the word with these values written in its fields, each value one that a line may give
pub record Written (w : Word) (vs : Values (fields_of w)) (line : List ℕ) : Type 0 where
  pub valid : Valids (fields_of w) vs
  pub text : line ≡ word_text w ++ texts (fields_of w) vs

-- the one line that writes what is asked
abbrev pub Writes : Asked → List ℕ → Type 0
Writes (enters (lists_product name kind tick terms spot)) = Written ProductWord (name, (kind, (tick, (terms, (spot, tt)))))
Writes (enters (lists_contract name product right strike floor ceiling mark)) = Written ContractWord (name, (product, (right, (strike, (floor, (ceiling, (mark, tt)))))))
Writes (enters (announces name terms)) = Written AnnounceWord (name, (terms, tt))
Writes (enters (sets_band contract floor ceiling)) = Written BandWord (contract, (floor, (ceiling, tt)))
Writes (enters (sets_spot product price)) = Written SpotWord (product, (price, tt))
Writes (enters (sets_mark contract price)) = Written MarkWord (contract, (price, tt))
Writes (enters (deposits amount)) = Written DepositWord (amount, tt)
Writes (enters (withdraws amount)) = Written WithdrawWord (amount, tt)
Writes (enters (cancels order)) = Written CancelWord (order, tt)
Writes (enters (orders contract side effect lots price)) = Written OrderWord (contract, (side, (effect, (lots, (price, tt)))))
Writes (enters (fills order lots price)) = Written FillWord (order, (lots, (price, tt)))
Writes (enters opens) = Written OpenWord tt
Writes (enters closes) = Written CloseWord tt
Writes (enters ends_deadline) = Written DeadlineWord tt
Writes reports = Written ReportWord tt

-- what a reader answered of a line is the whole line: a is answered exactly if the line has at most 200 bytes and
-- writes a, and no other line writes what was answered
pub record Whole (line : List ℕ) (r : Result Asked LineFault) : Type 0 where
  pub taken : (a : Asked) → r ≡ Ok a → (length line ≤ 200) × Writes a line
  pub every : (a : Asked) → length line ≤ 200 → Writes a line → r ≡ Ok a
  pub alone : (a : Asked) (other : List ℕ) → r ≡ Ok a → Writes a other → other ≡ line
