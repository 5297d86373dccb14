-- What a figure is, over lists of bytes, and the law that none is dropped and none is guessed.
use Rattle.std.specs.Prelude.{◌≡◌, ℕ, ◌+◌, ◌-◌, ◌*◌, ◌^◌, ◌<◌, Bool, cond, ◌&&◌, List, [], ◌∷◌, length, ℤ, pos, negsuc, Ok, Err, decimal, Result, ◌==◌, nat_le, nat_lt, slice_index}
use Rattle.std.specs.List.{list_all}
use Rattle.figure.specs.declared.FigureFault.{FigureFault}
use Rattle.figure.specs.declared.FigureFault.TheVariants.{Empty, TooLong, LeadingZero, NotDigit}

-- go on with the value, or stop at the fault
abbrev pub and_then : {A B E : Type 0} → Result A E → (A → Result B E) → Result B E
and_then (Ok x) f = f x
and_then (Err e) f = Err e

-- the bytes of the characters 0 to 9
abbrev pub is_digit : ℕ → Bool
is_digit b = nat_le 48 b && nat_le b 57

-- the number that digits write behind those of n
abbrev pub value_after : ℕ → List ℕ → ℕ
value_after n [] = n
value_after n (b ∷ bs) = value_after (n * 10 + (b - 48)) bs

-- a 0 with more behind it
abbrev pub padded : List ℕ → Bool
padded bs = nat_lt 1 (length bs) && slice_index bs 0 == 48

-- the digit that a byte stands for
abbrev pub digit_of : ℕ → Result ℕ FigureFault
digit_of b = cond (is_digit b) (Ok (b - 48)) (Err NotDigit)

-- the number that bytes write behind the digits of n, all of them digits
abbrev pub numbered : ℕ → List ℕ → Result ℕ FigureFault
numbered n bs = cond (list_all is_digit bs) (Ok (value_after n bs)) (Err NotDigit)

-- 1 to 15 digits, no leading zero but in 0 itself, nothing after
abbrev pub figure_of : List ℕ → Result ℕ FigureFault
figure_of bs =
    cond (length bs == 0) (Err Empty)
    (cond (nat_lt 15 (length bs)) (Err TooLong)
    (cond (padded bs) (Err LeadingZero)
    (numbered 0 bs)))

-- the bytes are the decimal writing of n, and n is below 10^15
abbrev pub Writes : ℕ → List ℕ → Type 0
Writes n bs = (bs ≡ decimal n) × (n < 10 ^ 15)

-- n is answered exactly if the bytes write n: nothing is dropped, nothing is guessed
abbrev pub Exact : List ℕ → Result ℕ FigureFault → Type 0
Exact bs r = (n : ℕ) → (r ≡ Ok n → Writes n bs) × (Writes n bs → r ≡ Ok n)

-- the value, or -1
abbrev pub or_minus_one : Result ℕ FigureFault → ℤ
or_minus_one (Ok n) = pos n
or_minus_one (Err fault) = negsuc 0
