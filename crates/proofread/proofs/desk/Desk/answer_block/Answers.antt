use Rattle.proofread.proofs.Desks.{line_answered, block_answered}
use Rattle.proofread.proofs.desk.Desk.answer_block.Goals as goal

pub loop-behind-preserved : goal.loop-behind-preserved
loop-behind-preserved c = λ begun is.
    line_answered _ _ c.fill.new.self _ _ begun (c.loop-behind.invariant begun is) _ _ c.in-Some.ensures.same_lines c.in_ok-answer.ensures.out c.answer.ensures.number c.answer.ensures.line

pub returns : goal.returns
returns c = λ begun is. block_answered _ _ c.fill.new.self _ _ begun (c.loop-behind.invariant begun is) c.in_default.ensures.same_lines
