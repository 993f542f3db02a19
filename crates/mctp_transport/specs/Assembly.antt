-- What an assembler stands for, and what feeding it does.
use Rattle.std.specs.Prelude.{◌≡◌, ℕ, List, length, take, Option, Some, None, vec_capacity}
use Rattle.mctp_transport.{specs.PacketValues.{PacketValue}, specs.Histories.{History, Arrived, after}, specs.Hearing.{Answer, Whole, Held, Dropped, HearsOnly}, specs.Tables.{Partial, Table, TableStandsFor}, specs.Packets.{key_value}, specs.Parts.{rows}, specs.declared.assembler.open_message.OpenMessage.{OpenMessage}, specs.declared.assembler.Assembler.{Assembler}, specs.declared.assembler.Fed.{Fed}}
use Rattle.mctp_transport.specs.declared.assembler.Fed.TheVariants as fed

-- the message that is open in a slot, by the slot's part of the block
abbrev pub partial_of : Option OpenMessage → List ℕ → Option Partial
partial_of None bytes = None
partial_of (Some o) bytes =
    Some (record { key = key_value o.key; number = o.number.value; unit = o.unit; bytes = take o.len bytes })

-- slot by slot, the message that is open there
abbrev pub table_of : Assembler → Table
table_of a = rows partial_of a.limit a.block.items 0 a.slots.items

abbrev pub assembler_slots : Assembler → ℕ
assembler_slots a = length a.slots.items

abbrev pub assembler_limit : Assembler → ℕ
assembler_limit a = a.limit

-- for how many slots and for how many bytes the assembler has memory
abbrev pub assembler_memory : Assembler → ℕ × ℕ
assembler_memory a = (vec_capacity a.slots, vec_capacity a.block)

-- The assembler stands for the history: the keys that it holds are those that are open after the history,
-- each with what was given since its last start.
pub record HoldsHistory (a : Assembler) (history : History) : Type 0 where
  pub table : TableStandsFor (assembler_slots a) (assembler_limit a) (table_of a) history

-- `feed`'s answer without where it lies in memory
abbrev pub answer_of : Fed → Answer
answer_of (fed.Whole r) = Whole r.now
answer_of fed.Held = Held
answer_of (fed.Dropped w) = Dropped w

-- Packet p is fed: for each history that the assembler stood for, the answer is what is heard of the
-- packet after it, no other answer is, and the assembler then stands for the history with the packet
-- at its end. Its memory stays the same.
pub record Feeds (old : Assembler) (p : PacketValue) (answer : Answer) (new : Assembler) : Type 0 where
  pub slots : assembler_slots new ≡ assembler_slots old
  pub limit : assembler_limit new ≡ assembler_limit old
  pub memory : assembler_memory new ≡ assembler_memory old
  pub hears : (history : History) → HoldsHistory old history
      → HearsOnly (assembler_slots old) (assembler_limit old) history p answer
  pub stands : (history : History) → HoldsHistory old history → HoldsHistory new (after history (Arrived p))
