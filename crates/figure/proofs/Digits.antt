-- The first digit decides how the rest is read, and 15 digits stay below 10^15.
use Rattle.std.proofs.Common.{◌≡◌, ℕ, ◌+◌, ◌*◌, ◌^◌, ◌<◌, ◌≤◌, List, length, get_or, drop, arith}
use native.Mathlib.Nat.{pow-le-pow_right}
use Rattle.std.proofs.lemmas.List.{drop_more}
use Rattle.figure.specs.Figure.{and_then, digit_of, numbered}

pub numbered_more : (n i : ℕ) (bs : List ℕ) → i < length bs → numbered n (drop i bs) ≡ and_then (digit_of (get_or bs i 0)) (λ d. numbered (n * 10 + d) (drop (i + 1) bs))
numbered_more n i bs h = rw (drop_more bs i 0 h) (grind arith)

pub power_within : (i : ℕ) → i ≤ 15 → 10 ^ i ≤ 10 ^ 15
power_within i h = pow-le-pow_right (omega arith) h
