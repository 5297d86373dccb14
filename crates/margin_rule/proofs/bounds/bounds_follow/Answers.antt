use Rattle.margin_rule.proofs.Following.{inside, everywhere}
use Rattle.margin_rule.proofs.bounds.bounds_follow.Goals as goal

pub returns : goal.returns
returns g c =
    let laws = g.met.R.MarginRule.keeps c.args.rule.now in
    record { inside = inside _ laws; everywhere = everywhere _ laws }
