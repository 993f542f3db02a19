use Rattle.std.proofs.Common.{List, ℕ, subst, refl}
use Rattle.mctp_transport.{specs.PacketValues.{Spelled}, specs.Packets.{packet_value_of}}
use Rattle.heard_captures.{specs.Seen.{IsNoPacketFor}, proofs.SeenLaws.{no_packet_for}}
use Rattle.heard_captures.proofs.seeing.see_packet.Goals as goal

pub returns-in_ok-heard-in-Ok : goal.returns-in_ok-heard-in-Ok
returns-in_ok-heard-in-Ok c =
    let p = packet_value_of c.in-Ok.packet in
    let spelled = subst (λ (bytes : List ℕ). Spelled c.args.unit p bytes) c.deref.ensures.value c.in-Ok.ensures.ok in
    (c.requires.kind, refl, spelled, c.in_ok-heard-in-Ok.ensures)

pub returns-in-Err : goal.returns-in-Err
returns-in-Err c =
    let reads = c.read_within.ensures in
    let why = c.in-Err.error in
    let no = no_packet_for c.args.unit why c.deref.result.now c.read_within.result c.in-Err.is reads.short.0 reads.empty.0 reads.long.0 reads.version.0 in
    (c.requires.kind, subst (λ (bytes : List ℕ). IsNoPacketFor c.args.unit why bytes) c.deref.ensures.value no, refl)
