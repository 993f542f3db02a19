-- What an assembler made of a packet, as its answer, and the room that a message takes.
use Rattle.std.specs.Prelude.{◌≡◌, ℕ, ◌≤◌, true, Vec, vec_capacity}
use Rattle.mctp_transport.{specs.declared.packet.Header.{Header}, specs.Hearing.{Answer, Whole, Held, Dropped}}
use Rattle.net_sim.specs.declared.receiving.Receipt.{Receipt}
use Rattle.net_sim.specs.declared.receiving.Receipt.TheVariants as receipt

abbrev pub receipt_value : Receipt → Answer
receipt_value (receipt.Whole bytes) = Whole bytes.items
receipt_value receipt.Held = Held
receipt_value (receipt.Dropped why) = Dropped why

-- a message that ends with a packet of this header has room
abbrev pub HasRoomAfter : {Z : Type 0} → Header → Vec ℕ Z → Type 0
HasRoomAfter header room = header.eom ≡ true → 4096 ≤ vec_capacity room
