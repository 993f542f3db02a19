use Rattle.std.{proofs.Common.{List, ℕ, string_bytes, get_or, subst, sym, arith}, proofs.lemmas.Option.{slice_get-get_or}}
use Rattle.net_rules.{specs.declared.mixed_loop.Side.{Side}, specs.declared.mixed_loop.Side.TheVariants.{Old}}
use Rattle.explain_commands.{specs.MoveRows.{AreHopsTold, IsHopTold, file_of}, proofs.Hops.{one_more, all_hops}}
use Rattle.explain_commands.proofs.explain.moved.rows.hops_text.Goals as goal

pub loop-hop-init : goal.loop-hop-init
loop-hop-init c =
    let before = file_of c.args.name.now c.args.before.now in
    let after = file_of c.args.new_name.now c.args.after.now in
    subst (AreHopsTold before after c.args.eid.value c.args.nodes.now c.args.sides.now 0) (sym c.new-text.ensures.bytes) AreHopsTold.none

pub loop-hop-preserved : goal.loop-hop-preserved
loop-hop-preserved c =
    let before = file_of c.args.name.now c.args.before.now in
    let after = file_of c.args.new_name.now c.args.after.now in
    let e = c.args.eid.value in
    let nodes = c.args.nodes.now in
    let sides = c.args.sides.now in
    let hop = c.loop-hop.hop in
    let n : ℕ = get_or nodes hop 0 in
    let side : Side = get_or sides hop Old in
    let line = c.deref.result.now in
    let same : IsHopTold before after e n side line = subst (λ (l : List ℕ). IsHopTold before after e n side l) (sym c.deref.ensures) c.in_ok-line.ensures in
    one_more before after e nodes sides hop n side (string_bytes c.loop-hop.text) line (string_bytes c.push_str.new.self) c.loop-hop.invariant
    (slice_get-get_or nodes hop 0 (omega arith)) (slice_get-get_or sides hop Old c.loop-hop-test.true) same c.in_ok-push_str.ensures.bytes

pub returns : goal.returns
returns c =
    let before = file_of c.args.name.now c.args.before.now in
    let after = file_of c.args.new_name.now c.args.after.now in
    all_hops before after c.args.eid.value c.args.nodes.now c.args.sides.now c.loop-hop.hop (string_bytes c.loop-hop.text) c.loop-hop.invariant (omega arith) (omega arith)
