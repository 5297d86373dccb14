use Rattle.console.proofs.Putting.{put_then}
use Rattle.console.proofs.front.Front.put_field.Goals as goal

pub returns : goal.returns
returns c = put_then _ _ _ _ _ c.put.ensures c.put_number.ensures
