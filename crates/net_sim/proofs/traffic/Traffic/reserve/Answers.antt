use Rattle.net_sim.proofs.traffic.Traffic.reserve.Goals as goal

pub invariant_of-self : goal.invariant_of-self
invariant_of-self g c =
    let now = c.args.self.now in
    record { queued = now.queued; assembled = now.assembled; sized = now.sized; placed = λ k f is. now.placed k f (rw c.reserve.ensures.same at is) }
