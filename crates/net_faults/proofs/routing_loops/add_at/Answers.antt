use Rattle.std.{proofs.Common.{◌≡◌, ◌<◌, ◌+◌, ℕ, List, length, Some, inl, arith, refl, sym, ap, ◌∙◌, subst}, specs.Prelude.{slice_get}}
use Rattle.net_rules.specs.Circles.{MovesBy}
use Rattle.net_faults.{specs.Circles.{IsNotLeast}, proofs.RoutingLoopLaws.{IsFoundRound, table_there, found_round, first_round, not_least_for, loop_skipped, loop_listed, loop_pushed}}
use Rattle.net_faults.proofs.routing_loops.add_at.Goals as goal

pub returns-in_default : goal.returns-in_default
returns-in_default c =
    let plan = c.args.plan.now in
    let tables = c.args.tables.now in
    let e = c.args.eid.value in
    let table = c.index-tables-from.result in
    let at = table_there plan tables c.requires.tables c.from.result e table c.index-tables-from.is c.from.ensures c.args.eid.in_range in
    let not = subst (λ t. IsNotLeast (MovesBy t) c.args.node) c.deref.ensures.value (rw c.in_default.is at c.in_ok-nodes.ensures) in
    loop_skipped plan e c.args.node c.args.loops.now.items c.requires.before (inl (not_least_for plan tables c.requires.tables e c.args.node table at not))

pub least_of-least-requires : goal.least_of-least-requires
least_of-least-requires c =
    let plan = c.args.plan.now in
    let tables = c.args.tables.now in
    let e = c.args.eid.value in
    let table = c.index-tables-from.result in
    let at = table_there plan tables c.requires.tables c.from.result e table c.index-tables-from.is c.from.ensures c.args.eid.in_range in
    let found : IsFoundRound plan e c.args.node c.in-Some.nodes.items c.in_ok-eids.eids.items = found_round plan tables c.requires.tables e c.args.node table c.in-Some.nodes.items c.in_ok-eids.eids.items c.deref-2.result.now c.deref.result.now at c.deref.ensures.value (rw c.in-Some.is at c.in_ok-nodes.ensures) c.deref-2.ensures.value c.in_ok-eids.ensures in
    subst (λ (xs : List ℕ). 0 < length xs) (sym c.deref-3.ensures.value) found.some

pub returns-then-least-eid : goal.returns-then-least-eid
returns-then-least-eid c =
    let plan = c.args.plan.now in
    let tables = c.args.tables.now in
    let e = c.args.eid.value in
    let m = c.args.node in
    let nodes = c.in-Some.nodes.items in
    let eids = c.in_ok-eids.eids.items in
    let table = c.index-tables-from.result in
    let at = table_there plan tables c.requires.tables c.from.result e table c.index-tables-from.is c.from.ensures c.args.eid.in_range in
    let found : IsFoundRound plan e m nodes eids = found_round plan tables c.requires.tables e m table nodes eids c.deref-2.result.now c.deref.result.now at c.deref.ensures.value (rw c.in-Some.is at c.in_ok-nodes.ensures) c.deref-2.ensures.value c.in_ok-eids.ensures in
    let d = c.least_of-least.result in
    let first : slice_get eids 0 ≡ Some d = subst (λ (xs : List ℕ). slice_get xs 0 ≡ Some d) c.deref-3.ensures.value c.least_of-least.ensures in
    let before = c.requires.before in
    loop_skipped plan e m c.args.loops.now.items before (loop_listed plan e m c.args.loops.now.items before d nodes c.if-least-eid.true (first_round plan e m nodes eids found d first).0 found.circle)

pub others_of-more-requires : goal.others_of-more-requires
others_of-more-requires c =
    let plan = c.args.plan.now in
    let tables = c.args.tables.now in
    let e = c.args.eid.value in
    let table = c.index-tables-from.result in
    let at = table_there plan tables c.requires.tables c.from.result e table c.index-tables-from.is c.from.ensures c.args.eid.in_range in
    let found : IsFoundRound plan e c.args.node c.in-Some.nodes.items c.in_ok-eids.eids.items = found_round plan tables c.requires.tables e c.args.node table c.in-Some.nodes.items c.in_ok-eids.eids.items c.deref-2.result.now c.deref.result.now at c.deref.ensures.value (rw c.in-Some.is at c.in_ok-nodes.ensures) c.deref-2.ensures.value c.in_ok-eids.ensures in
    subst (λ (xs : List ℕ). 0 < length xs) (sym c.deref-4.ensures.value) found.some

pub returns : goal.returns
returns c =
    let plan = c.args.plan.now in
    let tables = c.args.tables.now in
    let e = c.args.eid.value in
    let m = c.args.node in
    let nodes = c.in-Some.nodes.items in
    let eids = c.in_ok-eids.eids.items in
    let table = c.index-tables-from.result in
    let at = table_there plan tables c.requires.tables c.from.result e table c.index-tables-from.is c.from.ensures c.args.eid.in_range in
    let found : IsFoundRound plan e m nodes eids = found_round plan tables c.requires.tables e m table nodes eids c.deref-2.result.now c.deref.result.now at c.deref.ensures.value (rw c.in-Some.is at c.in_ok-nodes.ensures) c.deref-2.ensures.value c.in_ok-eids.ensures in
    let d = c.least_of-least.result in
    let first : slice_get eids 0 ≡ Some d = subst (λ (xs : List ℕ). slice_get xs 0 ≡ Some d) c.deref-3.ensures.value c.least_of-least.ensures in
    let same : d ≡ e = omega (arith, (first_round plan e m nodes eids found d first).1, c.if-least-eid.false) in
    let many : length eids ≡ c.others_of-more.result + 1 = subst (λ (xs : List ℕ). length xs ≡ c.others_of-more.result + 1) c.deref-4.ensures.value c.others_of-more.ensures in
    rw c.in_ok-push.ensures.items (loop_pushed plan e m c.args.loops.now.items c.requires.before c.args.eid c.in-Some.nodes c.others_of-more.result eids refl found.circle found.round (first ∙ ap Some same) many)
