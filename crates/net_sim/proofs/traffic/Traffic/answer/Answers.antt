use Rattle.std.{proofs.Common.{◌≡◌, ℕ, ◌<◌, length, List, Option, Some, refl, sym, ◌∙◌, ap, subst, arith}, specs.Prelude.{slice_get}, proofs.lemmas.Bool.{not-true, not-false}, proofs.lemmas.Option.{slice_get_read}}
use Rattle.net_runs.specs.States.{Flight}
use Rattle.mctp_transport.specs.Packets.{key_value}
use Rattle.net_sim.{specs.Flights.{slots_of}, specs.Effects.{effect_value}, specs.Routers.{RouterValue}, specs.Sending.{Sends}, proofs.Slots.{same_means}, proofs.Changes.{same_marks}, proofs.Entering.{queue_there}, proofs.Packing.{silent_by, sent_by, queue_set, some_out}}
use Rattle.net_sim.proofs.traffic.Traffic.answer.Goals as goal

pub send-requires-clause-some : goal.send-requires-clause-some
send-requires-clause-some g c =
    subst (λ (bs : List ℕ). 0 < length bs) (sym c.deref.ensures.0)
    (some_out _ _ _ c.in-Some-answer_at.asked.answered c.answer_at.new.out.items (not-false _ c.if-not-asked.false) c.in-Some-answer_at.ensures.asked)

pub returns-then-not-asked-clause-plays : goal.returns-then-not-asked-clause-plays
returns-then-not-asked-clause-plays g c =
    let now = c.args.self.now in
    let within = c.has_node.ensures.0 c.if-not-has_node.false in
    let queues = c.reserve.new.self.queues.items in
    let short : c.args.node < length queues = omega (arith, within, now.queued, ap length c.reserve.ensures.queues) in
    let there = slice_get_read queues _ c.args.node c.index_mut.result.now refl short c.index_mut.ensures.value in
    let here = subst (λ ds. slice_get ds c.args.node ≡ Some c.index_mut.result.now) c.reserve.ensures.queues there in
    silent_by now.router.tables _ _ c.args.node within _ _ (queue_there _ now.queues.items c.args.node c.index_mut.result.now here) (key_value c.in-Some-answer_at.asked.key) (omega (arith, c.left.ensures, c.if-left-lt64.false)) c.reserve.ensures.assemblers
    (queue_set _ _ _ _ _ c.reserve.ensures.queues) (same_marks _ _ c.reserve.ensures.router) c.in-Some-answer_at.asked.answered c.answer_at.new.out.items (not-true _ c.if-not-asked.true) c.in-Some-answer_at.ensures.asked
    c.reserve.ensures.flights

pub returns-clause-plays : goal.returns-clause-plays
returns-clause-plays g c =
    let now = c.args.self.now in
    let within = c.has_node.ensures.0 c.if-not-has_node.false in
    let queues = c.reserve.new.self.queues.items in
    let short : c.args.node < length queues = omega (arith, within, now.queued, ap length c.reserve.ensures.queues) in
    let there = slice_get_read queues _ c.args.node c.index_mut.result.now refl short c.index_mut.ensures.value in
    let here = subst (λ ds. slice_get ds c.args.node ≡ Some c.index_mut.result.now) c.reserve.ensures.queues there in
    let key = key_value c.in-Some-answer_at.asked.key in
    let outcome = effect_value c.send.result in
    let new = slots_of c.send.new.self.flights in
    let out = c.answer_at.new.out.items in
    let sends = subst (λ (r : RouterValue). Sends r.tables.plan c.args.node key c.deref.result.now (slots_of c.reserve.new.self.flights) outcome new) c.reserve.ensures.router c.send.ensures.sends in
    let told = subst (λ (bs : List ℕ). Sends now.router.tables.plan c.args.node key bs (slots_of c.reserve.new.self.flights) outcome new) c.deref.ensures.0 sends in
    let sent = subst (λ (fs : List (Option Flight)). Sends now.router.tables.plan c.args.node key out fs outcome new) c.reserve.ensures.flights told in
    sent_by now.router.tables _ _ c.args.node within _ _ (queue_there _ now.queues.items c.args.node c.index_mut.result.now here) key (omega (arith, c.left.ensures, c.if-left-lt64.false))
    (c.send.ensures.assemblers ∙ c.reserve.ensures.assemblers) (same_means _ _ _ c.send.ensures.queues ∙ queue_set _ _ _ _ _ c.reserve.ensures.queues)
    (same_marks _ _ (c.send.ensures.router ∙ c.reserve.ensures.router))
    c.in-Some-answer_at.asked.answered out outcome (not-false _ c.if-not-asked.false) c.in-Some-answer_at.ensures.asked sent
