use Rattle.std.proofs.Common.{length}
use Rattle.proofread.specs.Proof.{EachLineOf, Answered}
use Rattle.proofread.proofs.desk.Desk.answer_block.Given as goal

abbrev pub invariant-loop-behind : goal.invariant-loop-behind
invariant-loop-behind l = EachLineOf l.initial.self.line.bytes (λ begun. Answered l.initial.self l.self l.block l.rest begun)

abbrev pub decreases-loop-behind : goal.decreases-loop-behind
decreases-loop-behind l = length l.rest
