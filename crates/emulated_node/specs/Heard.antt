-- What assemblers of a node's buses were given.
use Rattle.std.specs.Prelude.{◌≡◌, ℕ, ◌==◌, List, Some, if◌then◌else◌, slice_get}
use Rattle.mctp_transport.{specs.Assembly.{HoldsHistory, assembler_slots, assembler_limit}, specs.declared.assembler.Assembler.{Assembler}, specs.PacketValues.{PacketValue}, specs.Histories.{History, Arrived, after}}

-- each has 16 slots for messages of at most 4096 bytes
abbrev pub AreSized : List Assembler → Type 0
AreSized assemblers = (b : ℕ) (a : Assembler) → slice_get assemblers b ≡ Some a
    → (assembler_slots a ≡ 16) × (assembler_limit a ≡ 4096)

-- the assembler of each bus was given what came over it
abbrev pub HaveBeenGiven : List Assembler → (ℕ → History) → Type 0
HaveBeenGiven assemblers history =
    (b : ℕ) (a : Assembler) → slice_get assemblers b ≡ Some a → HoldsHistory a (history b)

-- besides, the packet came over the bus
abbrev pub with_arrival : (ℕ → History) → ℕ → PacketValue → ℕ → History
with_arrival history bus p = λ b. if b == bus then after (history b) (Arrived p) else history b
