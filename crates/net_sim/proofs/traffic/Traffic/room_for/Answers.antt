use Rattle.std.{proofs.Common.{◌<◌, length, refl, sym, ◌∙◌, subst, arith}, proofs.lemmas.Option.{slice_get_read, same_Some}}
use Rattle.net_sim.{specs.TerminusQueues.{HasRoomFor}, proofs.Entering.{map_set_same}}
use Rattle.net_tables.proofs.Elements.{set_there}
use Rattle.net_sim.proofs.traffic.Traffic.room_for.Goals as goal

pub returns-in_err-reserve_at-clause-termini : goal.returns-in_err-reserve_at-clause-termini
returns-in_err-reserve_at-clause-termini g c =
    let queues = c.args.self.now.queues.items in
    let short : c.args.decided.now.node < length queues = omega (arith, c.requires, c.args.self.now.queued) in
    map_set_same _ queues c.args.decided.now.node _ _ (slice_get_read queues _ _ c.index_mut.result.now refl short c.index_mut.ensures.value) c.reserve_at.ensures.state

pub returns-clause-termini : goal.returns-clause-termini
returns-clause-termini g c =
    let queues = c.args.self.now.queues.items in
    let short : c.args.decided.now.node < length queues = omega (arith, c.requires, c.args.self.now.queued) in
    map_set_same _ queues c.args.decided.now.node _ _ (slice_get_read queues _ _ c.index_mut.result.now refl short c.index_mut.ensures.value) c.reserve_at.ensures.state

pub returns-clause-enough : goal.returns-clause-enough
returns-clause-enough g c = λ here.
    let queues = c.args.self.now.queues.items in
    let short : c.args.decided.now.node < length queues = omega (arith, c.requires, c.args.self.now.queued) in
    (c.in_ok-told.ensures.empty, c.in_ok-told.ensures.room, c.in_ok-kept.ensures.empty, c.in_ok-kept.ensures.room, λ d is. subst (λ o. HasRoomFor o) (same_Some _ d (sym (set_there queues c.reserve_at.new.queue c.args.decided.now.node short) ∙ is)) c.in_ok-reserve_at.ensures.room)
