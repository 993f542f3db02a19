-- What an iterator over a message's packets has yet to give.
use Rattle.std.specs.Prelude.{ℕ, zero, suc, ◌+◌, ◌%◌, false, ◌==◌, if◌then◌else◌, nat_le, List, [], ◌∷◌, length, take, drop}
use Rattle.mctp_transport.{specs.PacketValues.{PacketValue}, specs.Packets.{packet_value}, specs.declared.cutting.Packets.{Packets}}

-- the packets that come of a packet_value that has all bytes that are left, at most so many packets
unfoldable pub cut : ℕ → ℕ → PacketValue → List PacketValue
cut unit zero f = []
cut unit (suc n) f =
    if length f.payload == 0 then []
    else (record f { payload = take unit f.payload; eom = nat_le (length f.payload) unit }
    ∷ cut unit n (record f { payload = drop unit f.payload; som = false; number = (f.number + 1) % 4 }))

-- all that are left
abbrev pub frames_left : Packets → List PacketValue
frames_left s = cut s.unit (length s.rest.now) (packet_value s.header s.rest.now)
