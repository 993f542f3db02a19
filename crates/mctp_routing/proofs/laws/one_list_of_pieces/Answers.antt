use Rattle.mctp_routing.proofs.OnePieces.{one_list}
use Rattle.mctp_routing.proofs.laws.one_list_of_pieces.Goals as goal

pub returns : goal.returns
returns c rows first last pieces others table are also = one_list rows first last table pieces others are also
