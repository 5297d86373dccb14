-- At each exit the answer is what the line says, so it is whole and the front tells it.
use Rattle.std.proofs.Common.{rules, arith}
use Rattle.std.proofs.lemmas.Grind.{common_steps}
use Rattle.entry.proofs.WholeLine.{told_whole, told_front}
use Rattle.entry.proofs.read_line.Goals as goal

pub returns-in_err-rest-clause-front : goal.returns-in_err-rest-clause-front
returns-in_err-rest-clause-front c = told_front c.args.line.now _ (search rules)

pub returns-in_err-word-clause-front : goal.returns-in_err-word-clause-front
returns-in_err-word-clause-front c = told_front c.args.line.now _ (search rules)

pub returns-clause-whole : goal.returns-clause-whole
returns-clause-whole c = told_whole c.args.line.now _ (grind (arith, common_steps))

pub returns-clause-front : goal.returns-clause-front
returns-clause-front c = told_front c.args.line.now _ (grind (arith, common_steps))
