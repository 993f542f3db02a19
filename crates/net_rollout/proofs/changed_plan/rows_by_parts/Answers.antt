use Rattle.std.{proofs.Common.{◌≡◌, ◌≢◌, ◌+◌, ◌≤◌, List, Some, length, arith, subst, sym, rules}, specs.Prelude.{slice_get}, proofs.lemmas.Option.{slice_get_read}}
use Rattle.plan_values.specs.declared.nodes.Row.{Row}
use Rattle.net_tables.specs.Routing.{rows_of}
use Rattle.net_rollout.{specs.Steps.{SendAs}, proofs.Made.{IsTakenBefore, none_taken, other_node, its_part, all_taken}, proofs.changed_plan.rows_by_parts.Goals.{then-part-node+in_ok-rows-2, else-part-node}}
use Rattle.net_rollout.proofs.changed_plan.rows_by_parts.Goals as goal

pub loop-part-init : goal.loop-part-init
loop-part-init c =
    let parts = c.args.parts.now in
    let n = c.args.node in
    let before = rows_of c.args.here.now n in
    let new = rows_of c.args.new.now n in
    let copied : c.in_ok-rows.rows.items ≡ before = search rules in
    subst (λ xs. SendAs (IsTakenBefore parts 0 n) before new xs) (sym copied) (none_taken parts n before new)

pub loop-part-preserved : goal.loop-part-preserved
loop-part-preserved c =
    let parts = c.args.parts.now in
    let n = c.args.node in
    let k = c.loop-part.part-index in
    let part = c.part-item.result in
    let before = rows_of c.args.here.now n in
    let new = rows_of c.args.new.now n in
    let rows = c.loop-part.rows.items in
    let here : slice_get parts k ≡ Some part = slice_get_read parts (length parts) k part (omega arith) (omega arith) c.part-item.is in
    let P : List Row → Type 0 = SendAs (IsTakenBefore parts (k + 1) n) before new in
    elim c.if-part-node.branch [
      | then-part-node+in_ok-rows-2 w ↦ (
          let its : part.node ≡ n = search rules in
          let made : c.if-part-node.rows.items ≡ w.in_ok-rows-2.rows.items = search rules in
          let old : w.deref.result.now ≡ rows = search rules in
          let now : w.rows_at-then-part-node.result.now ≡ new = search rules in
          let Q : List Row → List Row → Type 0 = λ old new. SendAs (λ e. (part.first.value ≤ e) × (e ≤ part.last.value)) old new w.in_ok-rows-2.rows.items in
          let sends : Q rows new = subst (λ x. Q x new) old (subst (λ x. Q w.deref.result.now x) now w.in_ok-rows-2.ensures) in
          subst P (sym made) (its_part parts k n part before new rows w.in_ok-rows-2.rows.items here its sends c.loop-part.invariant))
      | else-part-node w ↦ (
          let other : part.node ≢ n = search rules in
          let kept : c.if-part-node.rows.items ≡ rows = search rules in
          subst P (sym kept) (other_node parts k n part before new rows here other c.loop-part.invariant))
    ]

pub returns : goal.returns
returns c =
    let all : length c.args.parts.now ≤ c.loop-part.part-index = omega arith in
    all_taken c.args.parts.now c.loop-part.part-index c.args.node (rows_of c.args.here.now c.args.node) (rows_of c.args.new.now c.args.node) c.loop-part.rows.items all c.loop-part.invariant
