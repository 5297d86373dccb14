use Rattle.std.proofs.Common.{◌++◌, take, ap, sym, ◌∙◌, arith}
use Rattle.std.proofs.lemmas.Fmt.{decimal_digit}
use Rattle.console.proofs.front.Front.put_number.Goals as goal

pub returns-then-n-lt10 : goal.returns-then-n-lt10
returns-then-n-lt10 c = c.put_byte.ensures ∙ ap (λ ds. take 201 (c.args.self.now.bytes ++ ds)) (sym (decimal_digit c.args.n (omega arith)))

pub returns-else-n-lt10 : goal.returns-else-n-lt10
returns-else-n-lt10 c = c.put.ensures ∙ ap (λ ds. take 201 (c.args.self.now.bytes ++ ds)) (c.as_bytes.ensures.value ∙ c.format.ensures.text)
