-- What becomes of a line that a node is given: the lines that it sends, and what is noted of what it drops.
use Rattle.std.{specs.Prelude.{◌≡◌, ◌⊎◌, ℕ, ◌&&◌, Bool, true, false, nat_le, List, [], ◌∷◌, ◌++◌, map, codes, if◌then◌else◌, slice_index}, specs.List.{flat_map}}
use Rattle.hex.specs.Hex.{encode_lower}
use Rattle.emulated_node.{specs.Nodes.{NodeState, Setting}, specs.ReceivedValues.{ReceivedValue, Sent, Held, Dropped}, specs.Receiving.{Receives}, specs.Unread.{IsNoPacketFor}, specs.Ways.{way_address, way_of}, specs.declared.received.Reason.{Reason}, specs.declared.way.Way.{Way}}
use Rattle.mctp_routing.specs.Decisions.{forward_fault_code}
use Rattle.mctp_transport.{specs.Causes.{cause_code}, specs.PacketValues.{PacketValue, Spelled}, specs.declared.packet_error.PacketError.{PacketError}}
use Rattle.plan_values.specs.declared.plan.Plan.{Plan}
use Rattle.net_tables.specs.Names.{bus_name}
use Rattle.command_questions.specs.declared.emulation.LineForm.{LineForm}
use Rattle.bus_commands.specs.PacketLines.{SaidValue, Says}
use Rattle.emulated_node.specs.declared.received.Reason.TheVariants as reason
use Rattle.mctp_transport.specs.Refusals as refusals
use Rattle.bus_commands.specs.PacketLines as said

-- a packet that is sent over a bus
abbrev pub answer_line : Plan → ℕ → List ℕ → List ℕ
answer_line plan bus bytes = bus_name plan bus ++ (codes " " ++ (encode_lower bytes ++ codes "\n"))

-- a physical address in hex; a dash for one without bytes
abbrev pub address_word : List ℕ → List ℕ
address_word [] = codes "-"
address_word (b ∷ bytes) = encode_lower (b ∷ bytes)

-- a packet that goes this way: the bus, the physical address of the next node there, and the packet
abbrev pub addressed_line : Plan → Way → List ℕ → List ℕ
addressed_line plan way bytes = bus_name plan way.bus
    ++ (codes " " ++ (address_word (way_address plan way) ++ (codes " " ++ (encode_lower bytes ++ codes "\n"))))

-- a packet that the node sends for one to `asked` that came over a bus: its second byte is its destination, and it goes
-- along the row for that
abbrev pub onward_line : Setting → (over asked : ℕ) → List ℕ → List ℕ
onward_line set over asked bytes =
    addressed_line set.plan (way_of set.plan set.node set.rows over asked (slice_index bytes 1)) bytes

-- what is sent, each packet in a line, with physical addresses or without
abbrev pub sent_text : (addressed : Bool) → Setting → (over asked : ℕ) → ReceivedValue → List ℕ
sent_text true set over asked (Sent bus packets) = flat_map (onward_line set over asked) packets
sent_text false set over asked (Sent bus packets) = flat_map (answer_line set.plan bus) packets
sent_text addressed set over asked Held = []
sent_text addressed set over asked (Dropped why) = []

-- what stands behind what is sent for a line; nothing where the line is empty
abbrev pub end_mark : Bool → List ℕ → List ℕ
end_mark true (b ∷ line) = codes ".\n"
end_mark true [] = []
end_mark false line = []

-- a printable ASCII character as it is, and a question mark for any other byte
abbrev pub shown_byte : ℕ → ℕ
shown_byte b = if nat_le 32 b && nat_le b 126 then b else 63

-- why nothing is sent, and the line
abbrev pub note_line : List ℕ → List ℕ → List ℕ
note_line why line = codes "# " ++ why ++ codes ": " ++ map shown_byte line ++ codes "\n"

abbrev pub reason_words : Reason → List ℕ
reason_words (reason.ForwardFault why) = codes "dropped " ++ forward_fault_code why
reason_words reason.NoPort = codes "no port"
reason_words (reason.Unassembled why) = codes "dropped " ++ cause_code why
reason_words reason.NoRequest = codes "no request"
reason_words reason.NoAnswer = codes "no answer"

-- what is noted: nothing where something is sent or waits
abbrev pub note_text : ReceivedValue → List ℕ → List ℕ
note_text (Sent bus packets) line = []
note_text Held line = []
note_text (Dropped why) line = note_line (reason_words why) line

-- the answer and the note are those of what became of a packet to `asked` that came over a bus
abbrev pub IsToldOf : (addressed : Bool) → Setting → (over asked : ℕ) → ReceivedValue → List ℕ → (answer note : List ℕ)
    → Type 0
IsToldOf addressed set over asked received line answer note =
    (answer ≡ sent_text addressed set over asked received) × (note ≡ note_text received line)

-- The bytes are a packet that comes over the bus, and this becomes of it.
pub record ComesOver (addressed : Bool) (set : Setting) (s : NodeState) (bus : ℕ) (bytes line answer note : List ℕ)
    (next : NodeState) : Type 0 where
  pub frame : PacketValue
  pub received : ReceivedValue
  pub spelled : Spelled set.plan.unit frame bytes
  pub receives : Receives set s bus frame received next
  pub told : IsToldOf addressed set bus frame.destination received line answer note

-- nothing is sent, and this is noted
abbrev pub IsNoted : NodeState → (why line answer note : List ℕ) → NodeState → Type 0
IsNoted s why line answer note next = (answer ≡ []) × (note ≡ note_line why line) × (next ≡ s)

-- nothing is sent, and nothing noted
abbrev pub IsSilent : NodeState → (answer note : List ℕ) → NodeState → Type 0
IsSilent s answer note next = (answer ≡ []) × (note ≡ []) × (next ≡ s)

-- the bytes are no packet
abbrev pub IsRefused : Setting → NodeState → (bytes line answer note : List ℕ) → NodeState → Type 0
IsRefused set s bytes line answer note next = (why : PacketError) × IsNoPacketFor set.plan.unit why bytes
    × IsNoted s (codes "dropped " ++ refusals.code_of why) line answer note next

-- these bytes came over the bus
abbrev pub TakesBytes : (addressed : Bool) → Setting → NodeState → ℕ → (bytes line answer note : List ℕ) → NodeState
    → Type 0
TakesBytes addressed set s bus bytes line answer note next =
    ComesOver addressed set s bus bytes line answer note next ⊎ IsRefused set s bytes line answer note next

-- The line said so. A packet that is sent to another physical address changes nothing.
abbrev pub Gives : (addressed : Bool) → Setting → NodeState → SaidValue → (line answer note : List ℕ) → NodeState
    → Type 0
Gives addressed set s said.Nothing line answer note next = IsSilent s answer note next
Gives addressed set s said.NoBus line answer note next = IsNoted s (codes "no bus") line answer note next
Gives addressed set s said.NoAddress line answer note next = IsNoted s (codes "no address") line answer note next
Gives addressed set s said.Elsewhere line answer note next = IsSilent s answer note next
Gives addressed set s said.NoPacket line answer note next = IsNoted s (codes "no packet") line answer note next
Gives addressed set s (said.Packet bus bytes) line answer note next =
    TakesBytes addressed set s bus bytes line answer note next

-- what the line says is given to the node
abbrev pub GivesLine : (addressed : Bool) → Setting → NodeState → (line answer note : List ℕ) → NodeState → Type 0
GivesLine addressed set s line answer note next = (says : SaidValue)
    × Says addressed set.plan set.node line says × Gives addressed set s says line answer note next

-- The node in this state is given the line: it sends the answer, the note tells what it dropped, and it is in that
-- state then. The end mark, where lines have it, stands behind all that is sent.
abbrev pub Takes : LineForm → Setting → NodeState → (line answer note : List ℕ) → NodeState → Type 0
Takes form set s line answer note next = (sent : List ℕ) × GivesLine form.is_addressed set s line sent note next
    × (answer ≡ sent ++ end_mark form.has_ends line)
