-- A field is read exactly where it is written, and so are fields one after another.
use Rattle.std.proofs.Common.{◌≡◌, ℕ, ◌+◌, List, [], ◌∷◌, ◌++◌, length, drop, Ok, Err, Result, refl, ap, ◌∙◌, append_assoc, add-zero, arith}
use Rattle.std.proofs.lemmas.List.{length-append, drop-drop}
use Rattle.figure.specs.Figure.{and_then}
use Rattle.entry.specs.declared.fault.LineFault.{LineFault}
use Rattle.entry.specs.Fields.{value_at, key_at, field_at}
use Rattle.entry.specs.Lines.{Field, keyed, Values, Valids, texts, fields_at}
use Rattle.entry.proofs.Values.{Stops, Unbroken, value_stands, value_is, behind, key_stands, key_is}

-- a chain that answered went through its first step
pub record Through {A B : Type 0} (r : Result A LineFault) (f : A → Result B LineFault) (b : B) : Type 0 where
  pub value : A
  pub first : r ≡ Ok value
  pub rest : f value ≡ Ok b

pub through : {A B : Type 0} (r : Result A LineFault) (f : A → Result B LineFault) (b : B) → and_then r f ≡ Ok b → Through r f b
through (Ok x) f b told = record { value = x; first = refl; rest = told }
through (Err e) f b told = cc

-- a reader of values that answers v exactly of what shows v
pub record ReadsValue {A : Type 0} (reader : ℕ → List ℕ → Result A LineFault) (Valid : A → Type 0) (shown : A → List ℕ) : Type 0 where
  pub sound : (column : ℕ) (bs : List ℕ) (v : A) → reader column bs ≡ Ok v → Valid v × (bs ≡ shown v)
  pub complete : (column : ℕ) (v : A) → Valid v → reader column (shown v) ≡ Ok v
  pub unbroken : (v : A) → Valid v → Unbroken (shown v)

-- a field that is read as v, up to a place, exactly where its text of v stands and then stops
pub record Reads (f : Field) : Type 0 where
  pub sound : (line : List ℕ) (at : ℕ) (v : f.Value) (end : ℕ) → f.read line at ≡ Ok (v, end) → f.Valid v × (drop at line ≡ f.text v ++ drop end line)
  pub complete : (line : List ℕ) (at : ℕ) (v : f.Value) (rest : List ℕ) → f.Valid v → drop at line ≡ f.text v ++ rest → Stops rest → f.read line at ≡ Ok (v, at + length (f.text v))
  pub begins : (v : f.Value) (rest : List ℕ) → Stops (f.text v ++ rest)

module _ {A : Type 0} (reader : ℕ → List ℕ → Result A LineFault) (Valid : A → Type 0) (shown : A → List ℕ) (reads : ReadsValue reader Valid shown) (key : List ℕ) where
  keyed_sound : (line : List ℕ) (at : ℕ) (v : A) (end : ℕ) → field_at reader key line at ≡ Ok (v, end) → Valid v × (drop at line ≡ keyed key (shown v) ++ drop end line)
  unfolding field_at
  keyed_sound line at v end told =
      let k = through (key_at key line at) _ (v, end) told in
      let r = through (reader (k.value + 1) (value_at line k.value)) _ (v, end) k.rest in
      let pair : ◌≡◌ {A = A × ℕ} (r.value, k.value + length (value_at line k.value)) (v, end) = cc r.rest in
      let s = reads.sound (k.value + 1) (value_at line k.value) v (r.first ∙ ap (λ x. Ok x.0) pair) in (
        s.0,
        cc (s.1, key_stands key line at k.value k.first, value_stands (drop k.value line), drop-drop (length (value_at line k.value)) k.value line, append_assoc key (shown v) (drop end line), ap (λ x. x.1) pair),
      )

  keyed_complete :
      (line : List ℕ) (at : ℕ) (v : A) (rest : List ℕ) →
      Valid v → drop at line ≡ keyed key (shown v) ++ rest → Stops rest → field_at reader key line at ≡ Ok (v, at + length (keyed key (shown v)))
  unfolding field_at
  keyed_complete line at v rest valid stands stops =
      let here : drop at line ≡ keyed key (shown v ++ rest) = rw append_assoc at stands in
      let after : drop (at + 1 + length key) line ≡ shown v ++ rest = behind line key (shown v ++ rest) (at + 1) (behind line (32 ∷ []) (key ++ (shown v ++ rest)) at here) in
      let value : value_at line (at + 1 + length key) ≡ shown v = rw after (value_is (shown v) rest (reads.unbroken v valid) stops) in
      let end : at + 1 + length key + length (shown v) ≡ at + length (keyed key (shown v)) = omega (arith, length-append key (shown v)) in
      rw (key_is key line at (shown v ++ rest) here, value, reads.complete (at + 1 + length key + 1) v valid) (ap (λ n. Ok (v, n)) end)

  pub reads_keyed : Reads (record { Value = A; read = field_at reader key; Valid = Valid; text = λ v. keyed key (shown v) })
  reads_keyed = record { sound = keyed_sound; complete = keyed_complete; begins = λ v rest. refl }

-- each field of a list is read where it is written
abbrev pub AllRead : List Field → Type 0
AllRead [] = Unit {0}
AllRead (f ∷ fs) = Reads f × AllRead fs

-- the values that fields gave, and the place behind them
pub record Gave {A : Type 0} (fs : List Field) (line : List ℕ) (at : ℕ) (then : Values fs → ℕ → Result A LineFault) (a : A) : Type 0 where
  pub values : Values fs
  pub end : ℕ
  pub valid : Valids fs values
  pub stands : drop at line ≡ texts fs values ++ drop end line
  pub rest : then values end ≡ Ok a

-- fields that gave an answer stand there, one behind another
pub fields_sound : {A : Type 0} (fs : List Field) → AllRead fs → (line : List ℕ) (at : ℕ) (then : Values fs → ℕ → Result A LineFault) (a : A) → fields_at fs line at then ≡ Ok a → Gave fs line at then a
fields_sound [] reads line at then a told = record { values = tt; end = at; valid = tt; stands = refl; rest = told }
fields_sound (f ∷ fs) reads line at then a told =
    let t = through (f.read line at) _ a told in
    let one = reads.0.sound line at t.value.0 t.value.1 t.first in
    let more = fields_sound fs reads.1 line t.value.1 _ a t.rest in
    record {
      values = (t.value.0, more.values);
      end = more.end;
      valid = (one.0, more.valid);
      stands = rw (append_assoc, ← more.stands) one.1;
      rest = more.rest;
    }

-- texts of fields stop what stands before them
pub stops_before : (fs : List Field) → AllRead fs → (vs : Values fs) (rest : List ℕ) → Stops rest → Stops (texts fs vs ++ rest)
stops_before [] reads vs rest stops = stops
stops_before (f ∷ fs) reads vs rest stops = rw append_assoc (reads.0.begins vs.0 (texts fs vs.1 ++ rest))

-- and fields that stand there are read
pub fields_complete : {A : Type 0} (fs : List Field) → AllRead fs → (line : List ℕ) (at : ℕ) (then : Values fs → ℕ → Result A LineFault) (vs : Values fs) (rest : List ℕ) → Valids fs vs → drop at line ≡ texts fs vs ++ rest → Stops rest → fields_at fs line at then ≡ then vs (at + length (texts fs vs))
fields_complete [] reads line at then vs rest valid stands stops = rw add-zero
fields_complete (f ∷ fs) reads line at then vs rest valid stands stops =
    let here : drop at line ≡ f.text vs.0 ++ (texts fs vs.1 ++ rest) = rw append_assoc at stands in
    let end : at + length (f.text vs.0) + length (texts fs vs.1) ≡ at + length (f.text vs.0 ++ texts fs vs.1) = omega (arith, length-append (f.text vs.0) (texts fs vs.1)) in
    rw (reads.0.complete line at vs.0 (texts fs vs.1 ++ rest) valid.0 here (stops_before fs reads.1 vs.1 rest stops), ← end)
    (fields_complete fs reads.1 line (at + length (f.text vs.0)) _ vs.1 rest valid.1 (behind line (f.text vs.0) (texts fs vs.1 ++ rest) at here) stops)
