-- What becomes of a packet, as plain values.
use Rattle.std.specs.Prelude.{ℕ, List, map}
use Rattle.emulated_node.{specs.declared.received.Reason.{Reason}, specs.declared.received.Received.{Received}}
use Rattle.emulated_node.specs.declared.received.Received.TheVariants as received

pub data ReceivedValue : Type 0 where
  Sent : (bus : ℕ) → (packets : List (List ℕ)) → ReceivedValue
  Held : ReceivedValue
  Dropped : Reason → ReceivedValue

abbrev pub received_value : Received → ReceivedValue
received_value (received.Sent bus packets) = Sent bus (map (λ v. v.items) packets.items)
received_value received.Held = Held
received_value (received.Dropped why) = Dropped why
