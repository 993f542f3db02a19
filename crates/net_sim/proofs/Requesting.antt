-- A walker's request is one packet, which is put in at its node.
use Rattle.std.proofs.Common.{◌≡◌, ℕ, ◌<◌, ◌≤◌, List, [], ◌∷◌, ◌++◌, length, map, refl, ap, subst, arith}
use Rattle.mctp_transport.{specs.PacketValues.{PacketValue, KeyValue, IsPacketValue, packet_value_bytes}, specs.Cutting.{ArePacketsOf}, proofs.Sending.{few_packets, many_packets}}
use Rattle.net_tables.specs.TwoPlans.{Tables}
use Rattle.net_runs.{specs.States.{unit_of}, proofs.Units.{least_unit}, specs.Events.{most_flights}}
use Rattle.net_sim.{specs.Flights.{begun}, specs.Standing.{TrafficValue}, specs.Sending.{PutsOne}, proofs.Putting.{puts}}

-- packets of one unit are those of the same unit
pub as_cut : {unit same : ℕ} {message : List ℕ} {d : ℕ} {key : KeyValue} {start : ℕ} {ps : List PacketValue} → unit ≡ same → ArePacketsOf unit message d key start ps → ArePacketsOf same message d key start ps
as_cut {unit} {same} {message} {d} {key} {start} {ps} is are = subst (λ u. ArePacketsOf u message d key start ps) is are

-- the packet of such a message fits its bits
one_is_frame : (unit : ℕ) (message : List ℕ) (d : ℕ) (key : KeyValue) (p : PacketValue) → ArePacketsOf unit message d key 0 (p ∷ []) → d < 256 → key.source < 256 → key.tag < 8 → IsPacketValue unit p
one_is_frame unit message d key p are small source tag =
    let of_key = are.of_key 0 p refl in
    let last = are.cut.last 0 p.payload refl (omega arith) in
    record {
      reserved = omega (arith, are.reserved 0 p refl);
      destination = omega (arith, are.addressed 0 p refl, small);
      source = omega (arith, ap (λ (k : KeyValue). k.source) of_key, source);
      number = omega (arith, are.numbers 0 p refl);
      tag = omega (arith, ap (λ (k : KeyValue). k.tag) of_key, tag);
      some = last.0;
      most = last.1;
    }

pub puts_one : (tables : Tables) (v u : TrafficValue) (node number : ℕ) (message : List ℕ) (d : ℕ) (key : KeyValue) → node < length tables.plan.nodes.items
    → length v.flights ≤ most_flights → number ≡ length v.flights → 0 < length message → length message ≤ 64 → d < 256 → key.source < 256 → key.tag < 8
    → (ps : List PacketValue) → ArePacketsOf (unit_of tables.plan) message d key 0 ps → u.flights ≡ v.flights ++ map (begun node) ps → u.assemblers ≡ v.assemblers → u.termini ≡ v.termini
    → u.switched ≡ v.switched → PutsOne tables v node message d key number u
puts_one tables v u node number message d key within few is some most small source tag [] are flights assemblers termini switched =
    absurd (omega (arith, some, many_packets (unit_of tables.plan) message d key 0 [] are))
puts_one tables v u node number message d key within few is some most small source tag (p ∷ q ∷ ps) are flights assemblers termini switched =
    absurd (omega (arith, few_packets (unit_of tables.plan) 1 message d key 0 (p ∷ q ∷ ps) are (omega (arith, most, least_unit tables.plan))))
puts_one tables v u node number message d key within few is some most small source tag (p ∷ []) are flights assemblers termini switched =
    let lawful : IsPacketValue (unit_of tables.plan) p = one_is_frame (unit_of tables.plan) message d key p are small source tag in
    record {
      packet = p;
      bytes = packet_value_bytes p;
      cut = are;
      spelled = (lawful, refl);
      plays = puts tables v node (packet_value_bytes p) u p number within (lawful, refl) few is flights assemblers termini switched;
    }
