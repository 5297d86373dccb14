-- What an answer tells of a test before it.
use Rattle.std.proofs.Common.{◌≡◌, Bool, false, cond, Ok, Err, Result, arith}

module _ {A E : Type 0} (x : A) (e : E) where
  -- a fault that the test did not raise
  pub ok_past : (b : Bool) (r : Result A E) → cond b (Err e) r ≡ Ok x → (b ≡ false) × (r ≡ Ok x)
  ok_past b r h = grind arith
