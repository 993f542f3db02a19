use Rattle.std.proofs.Common.{List, ℕ, refl, map, subst, sym}
use Rattle.bus_captures.specs.Values.{entry_value}
use Rattle.bus_commands.specs.PacketLines.{IsOnePacket}
use Rattle.bus_commands.proofs.line.read_packet.Goals as goal

pub returns-in-Some : goal.returns-in-Some
returns-in-Some c =
    let capture = c.in_ok-capture.capture in
    let entries = map entry_value capture.entries.items in
    let one = subst (λ (bytes : List ℕ). IsOnePacket entries capture.end bytes) (sym c.in_ok-from_slice-in-Some.ensures.items) c.in-Some.ensures in
    (refl, (entries, capture.end, c.in_ok-capture.ensures, one))
