use Rattle.std.proofs.Common.{◌≡◌, ◌+◌, ◌++◌, take, Some, sym, ap, ◌∙◌, rules}
use Rattle.std.proofs.lemmas.List.{take_rest}
use Rattle.console.specs.Streams.{line_front}
use Rattle.console.proofs.Streaming.{cut, uncut, goes_on}
use Rattle.console.proofs.front.Front.fill.Goals as goal

pub returns-in_default : goal.returns-in_default
returns-in_default c =
    let whole = uncut c.args.block.now c.in_default.ensures in
    let keeps : c.put.new.self.bytes ≡ take 201 (c.args.self.now.bytes ++ line_front c.args.block.now) = c.put.ensures ∙ ap (λ p. take 201 (c.args.self.now.bytes ++ p)) (sym whole.front) in
    record { kept = keeps; rest = sym whole.rest; shorter = tt; same_lines = goes_on 201 _ _ _ _ keeps (sym whole.rest) }

pub returns : goal.returns
returns c =
    let at = cut c.args.block.now c.in-Some.end c.in-Some.ensures in
    let keeps : c.put-2.new.self.bytes ≡ take 201 (c.args.self.now.bytes ++ line_front c.args.block.now) = c.put-2.ensures ∙ ap (λ p. take 201 (c.args.self.now.bytes ++ p)) (sym at.front) in
    let behind = ap Some (take_rest c.args.block.now (c.in-Some.end + 1)) ∙ sym at.rest in
    record { kept = keeps; rest = behind; shorter = search rules; same_lines = goes_on 201 _ _ _ _ keeps behind }
