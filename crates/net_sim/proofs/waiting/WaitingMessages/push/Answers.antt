use Rattle.std.proofs.Common.{sym, subst}
use Rattle.mctp_transport.specs.Packets.{key_value}
use Rattle.net_sim.{specs.Tallies.{waits_under, AreCounted}, proofs.Tallying.{push_tally, enters}}
use Rattle.net_sim.proofs.waiting.WaitingMessages.push.Goals as goal

pub invariant_of-self : goal.invariant_of-self
invariant_of-self c =
    let now = c.args.self.now in
    let counts = c.enter.new.self in
    let more = enters now.counts counts (key_value c.args.message.key) c.here.result.value c.here.ensures c.enter.ensures in
    record { tallied = subst (AreCounted counts) (sym c.push_back_reserved.ensures.items) (push_tally waits_under now.counts counts now.messages.items c.args.message now.tallied more) }
