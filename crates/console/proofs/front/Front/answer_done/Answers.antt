use Rattle.std.proofs.Common.{arith, rules}
use Rattle.std.proofs.lemmas.List.{length-append}
use Rattle.console.proofs.Putting.{put_then, put_whole, digits_length}
use Rattle.console.proofs.front.Front.answer_done.Goals as goal

pub returns : goal.returns
returns c = put_whole _ _ _ c.clear.ensures (search (rules, put_then)) (simp length-append (omega (arith, digits_length)))
