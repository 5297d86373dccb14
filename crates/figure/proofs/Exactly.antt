-- A figure is read exactly: the bytes are the decimal writing of what is answered, and every such writing is answered.
use Rattle.std.proofs.Common.{◌≡◌, ℕ, ◌^◌, ◌<◌, ◌≤◌, true, false, List, length, get_or, Ok, decimal, sym, refl, ap, ◌∙◌, arith, rules}
use Rattle.std.proofs.lemmas.Bool.{cond-true}
use Rattle.std.proofs.lemmas.Str.Parse.{IsNumeralModel, numerals_by_fold, digits_value_short}
use Rattle.std.proofs.lemmas.Fmt.{decimal_nonempty, length-decimal-le, first_decimal, digits_decimal, digits_value-decimal, decimal-digits_value}
use Rattle.std.specs.List.{list_all}
use Rattle.figure.specs.Figure.{is_digit, value_after, padded, numbered, figure_of, Writes, Exact}

digits_write : IsNumeralModel (λ ds. list_all is_digit ds ≡ true) (value_after 0)
digits_write = numerals_by_fold _ (search rules) value_after (search rules)

-- digits that keep the rules are what printing their value gives; the first part shows `grind` where it fits
pub digits_are_written : (bs : List ℕ) → (length bs ≡ 0 → ⊥) → length bs ≤ 15 → padded bs ≡ false → list_all is_digit bs ≡ true → (value_after 0 bs ≡ value_after 0 bs) × Writes (value_after 0 bs) bs
digits_are_written bs some short plain digits =
    let small : value_after 0 bs < 10 ^ 15 = digits_value_short digits_write bs 15 digits short in
    let single : get_or bs 0 0 ≡ 48 → length bs ≡ 1 = λ first. grind arith in
    (refl, (sym (decimal-digits_value digits_write bs digits (omega arith) single (omega arith)), small))

pub decimal_digits : (n : ℕ) → n < 10 ^ 15 → list_all is_digit (decimal n) ≡ true
decimal_digits n h = digits_decimal digits_write n (omega arith)

-- what printing a number below 10^15 gives keeps the rules, and reads as that number
pub decimal_reads : (n : ℕ) → n < 10 ^ 15 → (decimal n ≡ decimal n) × (0 < length (decimal n)) × (length (decimal n) ≤ 15) × (padded (decimal n) ≡ false) × (numbered 0 (decimal n) ≡ Ok n)
decimal_reads n h =
    let word : n < 2 ^ 64 = omega arith in
    let plain : padded (decimal n) ≡ false = grind (arith, first_decimal, length-decimal-le 1 n) in
    (refl, decimal_nonempty n word, length-decimal-le 15 n (omega arith) h word, plain, cond-true _ _ _ (decimal_digits n h) ∙ ap Ok (digits_value-decimal digits_write n word))

pub figure_exact : (bs : List ℕ) → Exact bs (figure_of bs)
figure_exact bs n = grind (arith, digits_are_written, decimal_reads)
