use Rattle.heard_captures.proofs.SeenLaws.{one_more}
use Rattle.heard_captures.proofs.laws.one_entry_more.Goals as goal

pub returns : goal.returns
returns c = one_more
