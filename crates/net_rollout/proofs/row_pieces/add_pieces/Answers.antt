use Rattle.std.{proofs.Common.{◌≡◌, ◌≤◌, Some, length, arith}, specs.Prelude.{slice_get}, proofs.lemmas.Option.{slice_get_read}}
use Rattle.net_rollout.proofs.Sending.{all_pieces, no_pieces, one_row_more}
use Rattle.net_rollout.proofs.row_pieces.add_pieces.Goals as goal

pub loop-row-init : goal.loop-row-init
loop-row-init c = no_pieces c.args.made.now.items c.args.rows.now c.args.from c.args.to

pub loop-row-preserved : goal.loop-row-preserved
loop-row-preserved c =
    let row = c.row-item.result in
    let rows = c.args.rows.now in
    let here : slice_get rows c.loop-row.row-index ≡ Some row = slice_get_read rows (length rows) c.loop-row.row-index row (omega arith) (omega arith) c.row-item.is in
    one_row_more c.args.made.now.items c.loop-row.made.items c.add_piece.new.made.items rows c.loop-row.row-index row c.args.from c.args.to
    here c.in_ok-add_piece.ensures c.loop-row.invariant

pub returns : goal.returns
returns c =
    let all : length c.args.rows.now ≤ c.loop-row.row-index = omega arith in
    all_pieces c.args.made.now.items c.loop-row.made.items c.args.rows.now c.loop-row.row-index c.args.from c.args.to all c.loop-row.invariant
