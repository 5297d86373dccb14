-- The letters of a line, as bytes, and what each stands for.
use Rattle.std.specs.Prelude.{ℕ, cond, List, [], ◌∷◌, Some, None, Option, ◌==◌}
use Rattle.entry.specs.declared.types.Effect.{Effect}
use Rattle.entry.specs.declared.types.Effect.TheVariants.{Opening, Closing}
use Rattle.entry.specs.declared.types.Kind.{Kind}
use Rattle.entry.specs.declared.types.Kind.TheVariants.{Futures, Options}
use Rattle.entry.specs.declared.types.Right.{Right}
use Rattle.entry.specs.declared.types.Right.TheVariants.{Neither, Call, Put}
use Rattle.entry.specs.declared.types.Side.{Side}
use Rattle.entry.specs.declared.types.Side.TheVariants.{Buy, Sell}

abbrev pub kind_letter : Kind → ℕ
kind_letter Futures = 70  -- F
kind_letter Options = 79  -- O

abbrev pub right_letter : Right → ℕ
right_letter Neither = 78  -- N
right_letter Call = 67  -- C
right_letter Put = 80  -- P

abbrev pub side_letter : Side → ℕ
side_letter Buy = 66  -- B
side_letter Sell = 83  -- S

abbrev pub effect_letter : Effect → ℕ
effect_letter Opening = 79  -- O
effect_letter Closing = 67  -- C

-- the first of the cases whose letter it is
abbrev pub case_of : {A : Type 0} → (A → ℕ) → List A → ℕ → Option A
case_of letter [] b = None
case_of letter (x ∷ xs) b = cond (b == letter x) (Some x) (case_of letter xs b)

abbrev pub kind_of : ℕ → Option Kind
kind_of = case_of kind_letter (Futures ∷ Options ∷ [])

abbrev pub right_of : ℕ → Option Right
right_of = case_of right_letter (Neither ∷ Call ∷ Put ∷ [])

abbrev pub side_of : ℕ → Option Side
side_of = case_of side_letter (Buy ∷ Sell ∷ [])

abbrev pub effect_of : ℕ → Option Effect
effect_of = case_of effect_letter (Opening ∷ Closing ∷ [])
