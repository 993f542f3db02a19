use Rattle.std.proofs.Common.{◌≡◌, ◌++◌, map}
use Rattle.mctp_transport.{specs.PacketValues.{packet_value_bytes}, specs.PacketsLeft.{frames_left}}
use Rattle.emulated_node.proofs.sending.cut.Given as goal

abbrev pub invariant-loop-packet : goal.invariant-loop-packet
invariant-loop-packet l =
    map (λ v. v.items) l.cut.items ++ map packet_value_bytes (frames_left l.packet-iterator) ≡ map packet_value_bytes (frames_left l.initial.packet-iterator)
