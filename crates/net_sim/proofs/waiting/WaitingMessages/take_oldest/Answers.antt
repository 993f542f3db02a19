use Rattle.std.proofs.Common.{◌≡◌, ◌∷◌, rules, subst}
use Rattle.mctp_transport.specs.Packets.{key_value}
use Rattle.net_sim.{specs.Tallies.{waits_under, AreCounted}, proofs.Tallying.{rest_tally, leaves}}
use Rattle.net_sim.proofs.waiting.WaitingMessages.take_oldest.Goals as goal

pub invariant_of-self-2 : goal.invariant_of-self-2
invariant_of-self-2 c =
    let now = c.args.self.now in
    let counts = c.leave.new.self in
    let oldest = c.in_ok-oldest.oldest in
    let is : now.messages.items ≡ oldest ∷ c.pop_front.new.self.items = search rules in
    let fewer = leaves now.counts counts (key_value oldest.key) c.here.result.value c.here.ensures c.leave.ensures in
    record { tallied = rest_tally waits_under now.counts counts c.pop_front.new.self.items oldest (subst (AreCounted now.counts) is now.tallied) fewer }
