-- What is sent where a message has come for a node.
use Rattle.std.specs.Prelude.{◌≡◌, ℕ, true, false, List, map, Option, None, Some}
use Rattle.mctp_control.{specs.Devices.{DeviceValue, present_eid}, specs.RouteEntries.{EntryValue}}
use Rattle.mctp_transport.{specs.Cutting.{ArePacketsOf}, specs.PacketValues.{PacketValue, KeyValue, packet_value_bytes}}
use Rattle.emulated_node.{specs.Nodes.{TerminusValue}, specs.ReceivedValues.{ReceivedValue, Sent, Dropped}, specs.Responding.{Responds}}
use Rattle.emulated_node.specs.declared.received.Reason.TheVariants as reason

-- the key of an answer: from the endpoint ID that the device holds now, 0 for none, with the tag of the request, and
-- without the owner bit
abbrev pub answer_key : DeviceValue → (tag : ℕ) → KeyValue
answer_key device tag = record { source = present_eid device.eid; tag = tag; owner = false }

-- A reply, and its packets.
pub record SendsReply (unit : ℕ) (device : DeviceValue) (terminus : Option TerminusValue) (bus : ℕ)
    (entries : List EntryValue) (key : KeyValue) (request : List ℕ) (packets : List (List ℕ))
    (device_then : DeviceValue) (terminus_then : Option TerminusValue) : Type 0 where
  pub owner : key.owner ≡ true
  pub reply : List ℕ
  pub frames : List PacketValue
  pub responds : Responds device terminus bus entries request (Some reply) device_then terminus_then
  pub cut : ArePacketsOf unit reply key.source (answer_key device_then key.tag) 0 frames
  pub bytes : packets ≡ map packet_value_bytes frames

-- What becomes of a message of the key that came over the bus, and what is held then.
abbrev pub RepliesTo : (unit : ℕ) → DeviceValue → Option TerminusValue → (bus : ℕ) → List EntryValue → KeyValue
    → List ℕ → ReceivedValue → DeviceValue → Option TerminusValue → Type 0
RepliesTo unit device terminus bus entries key request (Sent over packets) device_then terminus_then =
    (over ≡ bus) × SendsReply unit device terminus bus entries key request packets device_then terminus_then
RepliesTo unit device terminus bus entries key request (Dropped reason.NoRequest) device_then terminus_then =
    (key.owner ≡ false) × (device_then ≡ device) × (terminus_then ≡ terminus)
RepliesTo unit device terminus bus entries key request (Dropped reason.NoAnswer) device_then terminus_then =
    (key.owner ≡ true) × Responds device terminus bus entries request None device_then terminus_then
RepliesTo unit device terminus bus entries key request _ device_then terminus_then = ⊥
