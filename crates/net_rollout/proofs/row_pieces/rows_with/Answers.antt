use Rattle.std.proofs.Common.{◌≡◌, ◌+◌, [], List, ℕ, ◌↔◌, ◌⊎◌, ◌≤◌, ◌<◌, arith, subst}
use Rattle.plan_values.specs.declared.nodes.Row.{Row}
use Rattle.net_rollout.{specs.Steps.{SendsBy}, proofs.Sending.{three_runs}}
use Rattle.net_rollout.proofs.row_pieces.rows_with.Goals as goal

pub returns : goal.returns
returns c =
    let rows = c.args.rows.now in
    let low = c.add_pieces.new.made.items in
    let both = c.add_pieces-2.new.made.items in
    let made = c.add_pieces-3.new.made.items in
    let first = c.from-first.result in
    let at_first : first ≡ c.args.first.value = omega (arith, c.from-first.ensures) in
    let at_last : c.from-behind.result + 1 ≡ c.args.last.value + 1 = omega (arith, c.from-behind.ensures) in
    let P : List Row → Type 0 = λ xs. (e port m : ℕ) → SendsBy low e port m ↔ (SendsBy xs e port m ⊎ (SendsBy rows e port m × (0 ≤ e) × (e < first))) in
    let one : P [] = subst P c.new-made.ensures.items c.in_ok-add_pieces.ensures in
    three_runs c.args.first.value c.args.last.value first (c.from-behind.result + 1) rows c.args.new.now low both made at_first at_last one
    c.in_ok-add_pieces-2.ensures c.in_ok-add_pieces-3.ensures
