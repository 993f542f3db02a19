use Rattle.std.{proofs.Common.{◌≡◌, ◌-◌, length, take, drop, arith}, proofs.lemmas.List.{take_all, length-drop}}
use Rattle.mctp_routing.proofs.PieceWholes.{are_pieces}
use Rattle.mctp_routing.proofs.pieces.Pieces.of.Goals as goal

pub returns : goal.returns
returns c =
    let rows = c.args.rows.now in
    let passed = c.ended_before-passed.result in
    let told = c.ended_before-passed.ensures in
    let rest : take (length rows - passed) (drop passed rows) ≡ drop passed rows =
    take_all (length rows - passed) (drop passed rows) (omega (arith, length-drop passed rows)) in
    rw (c.from.ensures, c.from-2.ensures) (are_pieces rows _ c.args.first.value c.args.last.value passed c.requires.table c.requires.ordered told.within told.ended told.reaching rest)
