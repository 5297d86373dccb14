use Rattle.std.proofs.Common.{◌++◌, take, ap, ◌∙◌, arith}
use Rattle.console.proofs.Putting.{stored}
use Rattle.console.proofs.front.Front.put.Goals as goal

pub returns : goal.returns
returns c =
    stored c.self.inside.bytes c.args.part.now c.copy_from_slice.new.self 201 c.self.inside.len _ c.min-n.result (omega arith) (omega arith) c.min-n.ensures c.copy_from_slice.ensures.after
    ∙ ap (λ held. take 201 (held.bytes ++ c.args.part.now)) c.self.view_is
