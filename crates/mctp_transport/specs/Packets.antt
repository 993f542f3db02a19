-- What the packets and keys of the code stand for.
use Rattle.std.specs.Prelude.{ℕ, List}
use Rattle.mctp_transport.{specs.declared.address.Key.{Key}, specs.declared.packet.Header.{Header}, specs.declared.packet.Packet.{Packet}, specs.declared.packet.PacketView.{PacketView}, specs.PacketValues.{PacketValue, KeyValue}}

abbrev pub packet_value : Header → List ℕ → PacketValue
packet_value h payload = record {
  reserved = h.reserved.value;
  destination = h.destination.value;
  source = h.source.value;
  som = h.som;
  eom = h.eom;
  number = h.number.value;
  owner = h.owner;
  tag = h.tag.value;
  payload = payload;
}

abbrev pub packet_value_of : PacketView → PacketValue
packet_value_of p = packet_value p.header p.payload.now

abbrev pub owned_packet_value : Packet → PacketValue
owned_packet_value p = packet_value p.header p.payload.items

abbrev pub key_value : Key → KeyValue
key_value k = record { source = k.source.value; tag = k.tag.value; owner = k.owner }
