-- Why bytes are no packet: each cause by itself.
use Rattle.std.specs.Prelude.{◌≡◌, ◌≢◌, ℕ, ◌<◌, ◌+◌, ◌%◌, List, length, slice_index, codes}
use Rattle.mctp_transport.{specs.declared.packet_error.PacketError.{PacketError}, specs.declared.packet_error.PacketError.TheVariants.{Short, Empty, Long, Version}}

-- not even a header
abbrev pub IsShort : List ℕ → Type 0
IsShort bytes = length bytes < 4

-- a header and no payload
abbrev pub IsEmpty : List ℕ → Type 0
IsEmpty bytes = length bytes ≡ 4

-- a payload over the transmission unit
abbrev pub IsLong : ℕ → List ℕ → Type 0
IsLong unit bytes = 4 + unit < length bytes

-- bits 3 to 0 of the first byte aren't 1
abbrev pub HasOtherVersion : List ℕ → Type 0
HasOtherVersion bytes = slice_index bytes 0 % 16 ≢ 1

-- the code that users see
abbrev pub code_of : PacketError → List ℕ
code_of Short = codes "P01"
code_of Empty = codes "P02"
code_of Long = codes "P03"
code_of Version = codes "P04"
