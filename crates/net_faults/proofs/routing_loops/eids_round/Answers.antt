use Rattle.std.{proofs.Common.{arith}, proofs.lemmas.Option.{slice_get_within}}
use Rattle.net_faults.{specs.FirstRows.{IsJoinedBy}, proofs.RoutingLoopLaws.{no_eids, eid_pushed, eid_skipped, all_eids, table_at_index, joined_here}, proofs.routing_loops.eids_round.Goals.{then-are_joined+in_ok-push, else-are_joined}}
use Rattle.net_faults.proofs.routing_loops.eids_round.Goals as goal

pub loop-eid-init : goal.loop-eid-init
loop-eid-init c = rw c.new-eids.ensures.items (no_eids (λ e. IsJoinedBy c.args.tables.now e c.args.nodes.now))

pub loop-eid-preserved : goal.loop-eid-preserved
loop-eid-preserved c =
    let tables = c.args.tables.now in
    let nodes = c.args.nodes.now in
    let e = c.loop-eid.eid in
    let table = c.index-tables-from.result in
    let at = table_at_index tables c.from.result e table c.index-tables-from.is c.from.ensures c.requires c.loop-eid-test.true in
    let told = joined_here tables e table c.deref.result.now nodes at c.deref.ensures.value in
    elim c.if-are_joined.branch [
      | then-are_joined+in_ok-push w ↦ rw w.eids-is (rw w.in_ok-push.ensures.items (eid_pushed (λ k. IsJoinedBy tables k nodes) e c.loop-eid.eids.items c.loop-eid.invariant (told.0 (c.are_joined.ensures.0 w.if-are_joined.true))))
      | else-are_joined w ↦ rw w.eids-is (eid_skipped (λ k. IsJoinedBy tables k nodes) e c.loop-eid.eids.items c.loop-eid.invariant (λ joined. cc (c.are_joined.ensures.1 (told.1 joined), w.if-are_joined.false)))
    ]

pub returns : goal.returns
returns c = all_eids (λ e. IsJoinedBy c.args.tables.now e c.args.nodes.now) c.loop-eid.eid c.loop-eid.eids.items
    (λ e (table, is, joined). omega (arith, slice_get_within c.args.tables.now e table is, c.requires, c.loop-eid-test.false)) c.loop-eid.invariant
