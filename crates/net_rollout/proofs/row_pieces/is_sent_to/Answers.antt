use Rattle.std.{proofs.Common.{◌≡◌, ◌≤◌, ◌+◌, Bool, Some, length, arith, subst, sym, rules}, specs.Prelude.{slice_get}, proofs.lemmas.Option.{slice_get_read}}
use Rattle.net_rollout.{proofs.Sending.{IsSentBefore, none_yet, one_sends, one_passes, sent_to_it, sent_nowhere}, proofs.row_pieces.is_sent_to.Goals.{then-covers+else-not-is_next, else-covers}}
use Rattle.net_rollout.proofs.row_pieces.is_sent_to.Goals as goal

pub loop-row-init : goal.loop-row-init
loop-row-init c = none_yet c.args.rows.now c.args.eid.value c.args.next

pub loop-row-preserved : goal.loop-row-preserved
loop-row-preserved c =
    let rows = c.args.rows.now in
    let row = c.row-item.result in
    let k = c.loop-row.row-index in
    let here : slice_get rows k ≡ Some row = slice_get_read rows (length rows) k row (omega arith) (omega arith) c.row-item.is in
    let P : Bool → Type 0 = IsSentBefore rows (k + 1) c.args.eid.value c.args.next in
    elim c.if-covers.branch [
      | then-covers+else-not-is_next w ↦ subst P (sym w.is_sent-is) (one_sends rows k c.args.eid.value c.args.next c.loop-row.is_sent row here (search rules) (search rules) c.loop-row.invariant)
      | else-covers w ↦ subst P (sym w.is_sent-is) (one_passes rows k c.args.eid.value c.args.next c.loop-row.is_sent row here (search rules) c.loop-row.invariant)
    ]

pub returns-then-is_sent : goal.returns-then-is_sent
returns-then-is_sent c =
    let rows = c.args.rows.now in
    let all : length rows ≤ c.loop-row.row-index = omega arith in
    λ _. sent_to_it rows c.loop-row.row-index c.args.eid.value c.args.next c.loop-row.is_sent all (search rules) c.loop-row.invariant

pub returns : goal.returns
returns c =
    let rows = c.args.rows.now in
    let all : length rows ≤ c.loop-row.row-index = omega arith in
    λ none. sent_nowhere rows c.loop-row.row-index c.args.eid.value c.args.next c.loop-row.is_sent all (search rules) (search rules) c.loop-row.invariant
