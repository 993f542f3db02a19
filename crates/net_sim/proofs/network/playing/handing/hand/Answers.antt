use Rattle.std.proofs.Common.{List, ℕ, refl, ap, subst}
use Rattle.mctp_transport.specs.Packets.{key_value}
use Rattle.net_sim.{specs.Effects.{effect_value}, specs.NetworkWalkers.{walker_value, HasTakenMessage}}
use Rattle.net_sim.proofs.network.playing.handing.hand.Goals as goal

pub returns : goal.returns
returns c = (
  refl,
  c.in-Whole.number,
  c.in-Whole.node,
  key_value c.in-Whole.key,
  c.in-Whole.bytes.items,
  ap effect_value c.in-Whole.is,
  subst (λ (m : List ℕ). HasTakenMessage (walker_value c.args.walker.now) m c.take-result.result (walker_value c.take-result.new.self)) c.deref.ensures.value c.take-result.ensures,
)
