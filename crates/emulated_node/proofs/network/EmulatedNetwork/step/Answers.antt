use Rattle.std.proofs.Common.{◌≤◌, refl, subst}
use Rattle.emulated_node.{specs.Emulations.{world_of}, specs.Networks.{sent_value}, specs.Unread.{IsNoPacketFor}, proofs.Spreading.{alone_becomes, no_packet}}
use Rattle.emulated_node.specs.declared.handled.Handled.TheVariants as handled
use Rattle.emulated_node.proofs.network.EmulatedNetwork.step.Goals as goal

pub returns-in_default-clause-becomes : goal.returns-in_default-clause-becomes
returns-in_default-clause-becomes g c = λ s stands. (
  s,
  alone_becomes (world_of c.args.self.now) s s (sent_value c.args.packet.now) c.alone.result.handled handled.Out c.alone.result.sent.items c.alone.ensures.handled c.alone.ensures.sent
      (c.in_default.ensures, (refl, refl)),
  stands,
)

pub returns-then-packet-gt-MOST_HOPS-clause-becomes : goal.returns-then-packet-gt-MOST_HOPS-clause-becomes
returns-then-packet-gt-MOST_HOPS-clause-becomes g c = λ s stands.
    let alone = c.alone-then-packet-gt-MOST_HOPS in (
      s,
      alone_becomes (world_of c.args.self.now) s s (sent_value c.args.packet.now) alone.result.handled handled.Worn alone.result.sent.items alone.ensures.handled alone.ensures.sent
          ((c.in-Some.node, c.in-Some.ensures.1.0, c.in-Some.ensures.1.1), c.if-packet-gt-MOST_HOPS.true, (refl, refl)),
      stands,
    )

pub returns-in-Err-clause-becomes : goal.returns-in-Err-clause-becomes
returns-in-Err-clause-becomes g c = λ s stands.
    let alone = c.alone-in-Err in
    let few : c.args.packet.now.hops ≤ 64 = c.if-packet-gt-MOST_HOPS.false in
    let reads = c.read_within.ensures in
    let why = no_packet c.from.result c.in-Err.why c.deref.result.now c.read_within.result c.in-Err.is reads.short reads.empty reads.long reads.version in
    let unread = subst (λ b. IsNoPacketFor c.args.self.now.plan.now.unit c.in-Err.why b) c.deref.ensures.value (subst (λ u. IsNoPacketFor u c.in-Err.why c.deref.result.now) c.from.ensures why) in (
      s,
      alone_becomes (world_of c.args.self.now) s s (sent_value c.args.packet.now) alone.result.handled (handled.NoPacket c.in-Err.why) alone.result.sent.items alone.ensures.handled alone.ensures.sent
          ((c.in-Some.node, c.in-Some.ensures.1.0, c.in-Some.ensures.1.1), few, unread, (refl, refl)),
      stands,
    )
