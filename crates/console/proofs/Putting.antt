-- What is put after one another is put as one.
use Rattle.std.proofs.Common.{◌≡◌, ℕ, ◌+◌, ◌-◌, ◌^◌, ◌<◌, ◌≤◌, min, List, [], ◌∷◌, ◌++◌, length, take, set, decimal, sym, ap, ◌∙◌, append_assoc, arith}
use Rattle.std.proofs.Math.Seq.{take-append-add}
use Rattle.std.proofs.lemmas.Fmt.{length-decimal-le}
use Rattle.std.proofs.lemmas.List.{length_push, length-take-le, take-append-le, take_all, take_min, take_more_set}
use Rattle.std.proofs.lemmas.Slice.{take-put_mid}
use borrow.Rule.Slice.PartMut.{put_mid}
use Rattle.console.proofs.Streaming.{kept_again}

-- as much of a part as there is room for
pub put_room : (held part : List ℕ) (m : ℕ) → length held ≤ m → held ++ take (min (m - length held) (length part)) part ≡ take m (held ++ part)
put_room held part m fits =
    let all : length held + (m - length held) ≡ m = omega arith in
    ap (λ p. held ++ p) (take_min (m - length held) part)
    ∙ sym (take-append-add held part (m - length held))
    ∙ ap (λ k. take k (held ++ part)) all

-- stored behind what is held
pub stored : (xs part ys : List ℕ) (size a k n : ℕ) → a ≤ size → length xs ≡ size → n ≡ min (length part) (size - a) → ys ≡ take n part → take (a + n) (put_mid a k xs ys) ≡ take size (take a xs ++ part)
stored xs part ys size a k n fits all is copied =
    let some : length ys ≡ n = ap length copied ∙ length-take-le n part (omega arith) in
    let front : length (take a xs) ≡ a = length-take-le a xs (omega arith) in
    let room : n ≡ min (size - length (take a xs)) (length part) = omega arith in
    take-put_mid a k xs ys (a + n) (omega arith) (omega arith)
    ∙ ap (λ r. take a xs ++ r) (copied ∙ ap (λ m. take m part) room)
    ∙ put_room (take a xs) part size (omega arith)

-- one byte
pub byte_put : (bytes : List ℕ) (len byte : ℕ) → len < 201 → length bytes ≡ 201 → take (len + 1) (set bytes len byte) ≡ take 201 (take len bytes ++ byte ∷ [])
byte_put bytes len byte room all =
    take_more_set bytes len byte (omega arith)
    ∙ sym (take_all 201 (take len bytes ++ byte ∷ []) (omega (arith, length_push (take len bytes) byte, length-take-le len bytes (omega arith))))

-- where there is no room
pub byte_left : (held : List ℕ) (byte : ℕ) → length held ≤ 201 → 201 ≤ length held → held ≡ take 201 (held ++ byte ∷ [])
byte_left held byte few full = sym (take-append-le 201 held (byte ∷ []) full ∙ take_all 201 held few)

-- one part after another
pub put_then : (k₀ a b k₁ k₂ : List ℕ) → k₁ ≡ take 201 (k₀ ++ a) → k₂ ≡ take 201 (k₁ ++ b) → k₂ ≡ take 201 (k₀ ++ (a ++ b))
put_then k₀ a b k₁ k₂ first second = second ∙ ap (λ k. take 201 (k ++ b)) first ∙ kept_again (k₀ ++ a) b 201 ∙ ap (take 201) (append_assoc k₀ a b)

-- a text that is short enough is put whole
pub put_whole : (k₀ text k₁ : List ℕ) → k₀ ≡ [] → k₁ ≡ take 201 (k₀ ++ text) → length text ≤ 201 → k₁ ≡ text
put_whole k₀ text k₁ none all short = all ∙ ap (λ k. take 201 (k ++ text)) none ∙ take_all 201 text short

-- a number of at most 20 digits
pub digits_length : (n : ℕ) → n < 2 ^ 64 → length (decimal n) ≤ 20
digits_length n fits = length-decimal-le 20 n (omega arith) (omega arith) fits
