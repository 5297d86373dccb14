use Rattle.std.proofs.Common.{[], ◌∷◌, ◌++◌, length, take, ap, ◌∙◌, arith}
use Rattle.std.proofs.lemmas.List.{length-take-le}
use Rattle.console.proofs.Putting.{byte_put, byte_left}
use Rattle.console.proofs.front.Front.put_byte.Goals as goal

pub returns-then-self-lt-SIZE : goal.returns-then-self-lt-SIZE
returns-then-self-lt-SIZE c = byte_put c.self.inside.bytes c.self.inside.len c.args.byte (omega arith) (omega arith) ∙ ap (λ held. take 201 (held.bytes ++ c.args.byte ∷ [])) c.self.view_is

pub returns-else-self-lt-SIZE : goal.returns-else-self-lt-SIZE
returns-else-self-lt-SIZE c = byte_left c.args.self.now.bytes c.args.byte c.args.self.now.few (omega (arith, ap (λ held. length held.bytes) c.self.view_is, length-take-le c.self.inside.len c.self.inside.bytes (omega arith)))
