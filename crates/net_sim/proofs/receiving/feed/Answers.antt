use Rattle.std.proofs.Common.{◌≡◌, sym, subst, arith}
use Rattle.mctp_transport.{specs.PacketValues.{PacketValue}, specs.Histories.{Comes, Arrived, after}, specs.Hearing.{IsDropped}, specs.Assembly.{assembler_slots, assembler_limit}}
use Rattle.net_sim.{specs.KeptPackets.{kept_frame}, proofs.Entering.{comes_ends}}
use Rattle.net_sim.proofs.receiving.feed.Goals as goal

pub returns-in-Whole-clause-hears : goal.returns-in-Whole-clause-hears
returns-in-Whole-clause-hears c h stands =
    let slots = assembler_slots c.args.assembler.now in
    let limit = assembler_limit c.args.assembler.now in
    let message = c.in-Whole.message.now in
    let came : Comes slots limit (after h (Arrived (kept_frame c.args.packet.now))) message =
    subst (λ (p : PacketValue). Comes slots limit (after h (Arrived p)) message) c.view.ensures (c.in-Whole.ensures.hears h stands).hears in
    let room = c.requires.room (comes_ends slots limit h (kept_frame c.args.packet.now) message came) in
    let same : c.kept.result.items ≡ message = c.kept.ensures (omega (arith, came.fits, room, c.requires.limit)) in
    subst (Comes slots limit (after h (Arrived (kept_frame c.args.packet.now)))) (sym same) came

pub returns-in-Dropped-clause-hears : goal.returns-in-Dropped-clause-hears
returns-in-Dropped-clause-hears c h stands =
    subst (λ p. IsDropped (assembler_slots c.args.assembler.now) (assembler_limit c.args.assembler.now) h p c.in-Dropped.why)
    c.view.ensures (c.in-Dropped.ensures.hears h stands).hears
