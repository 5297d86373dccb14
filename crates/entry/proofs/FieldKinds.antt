-- Every kind of field is read exactly where it is written: figures, names, letters, and the eight figures of a product's terms.
use Rattle.std.proofs.Common.{◌≡◌, ℕ, ◌^◌, ◌<◌, true, List, [], ◌∷◌, ◌++◌, get_or, drop, Some, None, Ok, codes, decimal, Result, refl, ap, ◌∙◌, subst, arith}
use Rattle.std.proofs.lemmas.Bool.Decides.{nat_tests}
use Rattle.std.proofs.lemmas.Slice.Eq.{text_from_reads}
use Rattle.std.specs.List.{list_all}
use Rattle.figure.specs.Figure.{is_digit, figure_of}
use Rattle.figure.specs.declared.FigureFault.{FigureFault}
use Rattle.figure.proofs.Exactly.{figure_exact, decimal_digits}
use Rattle.entry.specs.declared.types.Effect.TheVariants.{Opening, Closing}
use Rattle.entry.specs.declared.types.Kind.TheVariants.{Futures, Options}
use Rattle.entry.specs.declared.types.Right.TheVariants.{Neither, Call, Put}
use Rattle.entry.specs.declared.types.Side.TheVariants.{Buy, Sell}
use Rattle.entry.specs.declared.types.Terms.{Terms}
use Rattle.entry.specs.Fields.{placed, carried, figure_in, is_name_byte, is_name, name_in, letter_in}
use Rattle.entry.specs.Letters.{kind_letter, right_letter, side_letter, effect_letter, case_of}
use Rattle.entry.specs.Lines.{figure, name, letter, kind, right, side, effect, Valids, texts, term_fields, terms_of, term_values, terms_at, terms}
use Rattle.entry.proofs.Values.{unbroken_from_all}
use Rattle.entry.proofs.Reading.{Reads, reads_keyed, AllRead, fields_sound, fields_complete}

-- figures
placed_ok : (column n : ℕ) (r : Result ℕ FigureFault) → carried (placed column r) ≡ Ok n → r ≡ Ok n
placed_ok column n r told = grind arith

pub reads_figure : (key : List ℕ) → Reads (figure key)
reads_figure = reads_keyed figure_in (λ n. n < 10 ^ 15) decimal (record {
  sound = λ column bs n told. let w = (figure_exact bs n).0 (placed_ok column n (figure_of bs) told) in (w.1, w.0);
  complete = λ column n h. rw ((figure_exact (decimal n) n).1 (refl, h));
  unbroken = λ n h. unbroken_from_all is_digit refl (decimal n) (decimal_digits n h);
})

-- names
name_sound : (column : ℕ) (bs v : List ℕ) → name_in column bs ≡ Ok v → (is_name v ≡ true) × (bs ≡ v)
name_sound column bs v told = grind arith

name_bytes_lem : (bs : List ℕ) → is_name bs ≡ true → list_all is_name_byte bs ≡ true
name_bytes_lem bs h = grind arith

pub reads_name : (key : List ℕ) → Reads (name key)
reads_name = reads_keyed name_in (λ bs. is_name bs ≡ true) (λ bs. bs) (record {
  sound = name_sound;
  complete = λ column v h. rw h;
  unbroken = λ v h. unbroken_from_all is_name_byte refl v (name_bytes_lem v h);
})

-- letters: each case has one, and a blank is none
case_letter : {A : Type 0} (byte : A → ℕ) (xs : List A) (b : ℕ) (x : A) → case_of byte xs b ≡ Some x → b ≡ byte x
case_letter byte [] b x told = cc
case_letter byte (y ∷ ys) b x told = grind (arith, nat_tests, case_letter byte ys b x)

module _ {A : Type 0} (byte : A → ℕ) (xs : List A) (forth : (x : A) → case_of byte xs (byte x) ≡ Some x) (blank : case_of byte xs 32 ≡ None) where
  letter_sound : (column : ℕ) (bs : List ℕ) (x : A) → letter_in (case_of byte xs) column bs ≡ Ok x → Unit {0} × (bs ≡ byte x ∷ [])
  letter_sound column bs x told = grind (arith, nat_tests, case_letter byte xs (get_or bs 0 0) x, text_from_reads bs (byte x ∷ []))

  reads_letter : (key : List ℕ) → Reads (letter (case_of byte xs) byte key)
  reads_letter = reads_keyed (letter_in (case_of byte xs)) (λ x. Unit {0}) (λ x. byte x ∷ []) (record {
    sound = letter_sound;
    complete = λ column x valid. rw (forth x);
    unbroken = λ x valid. (λ is. cc (forth x, blank), tt);
  })

pub reads_kind : Reads kind
reads_kind = reads_letter kind_letter (Futures ∷ Options ∷ []) (λ x. grind arith) refl (codes "kind=")

pub reads_right : Reads right
reads_right = reads_letter right_letter (Neither ∷ Call ∷ Put ∷ []) (λ x. grind arith) refl (codes "right=")

pub reads_side : Reads side
reads_side = reads_letter side_letter (Buy ∷ Sell ∷ []) (λ x. grind arith) refl (codes "side=")

pub reads_effect : Reads effect
reads_effect = reads_letter effect_letter (Opening ∷ Closing ∷ []) (λ x. grind arith) refl (codes "effect=")

-- terms
terms_read : AllRead term_fields
terms_read = search reads_figure depth 12

terms_sound : (line : List ℕ) (at : ℕ) (t : Terms) (end : ℕ) → terms_at line at ≡ Ok (t, end) → Valids term_fields (term_values t) × (drop at line ≡ texts term_fields (term_values t) ++ drop end line)
unfolding terms_at
terms_sound line at t end told =
    let gave = fields_sound term_fields terms_read line at (λ vs e. Ok (terms_of vs, e)) (t, end) told in
    let pair : ◌≡◌ {A = Terms × ℕ} (terms_of gave.values, gave.end) (t, end) = cc gave.rest in
    (subst (λ x. Valids term_fields (term_values x.0)) pair gave.valid, gave.stands ∙ ap (λ x. texts term_fields (term_values x.0) ++ drop x.1 line) pair)

pub reads_terms : Reads terms
unfolding terms_at
reads_terms = record {
  sound = terms_sound;
  complete = λ line at t. fields_complete term_fields terms_read line at (λ vs e. Ok (terms_of vs, e)) (term_values t);
  begins = λ t rest. refl;
}
