-- Lines of the code.
use Rattle.std.specs.Prelude.{⊤, ◌≡◌, ◌<◌, List, ℕ, [], length, None}
use Rattle.bus_captures.{specs.declared.capture.Kind.{Kind}, specs.declared.line.Line.{Line}, specs.declared.line.Head.{Head}, specs.Lines.{IsBlank, IsEntryText, IsBadText, HeadValue, IsTextRead}, specs.Values.{entry_value, time_value, nowhere}}
use Rattle.bus_captures.specs.declared.capture.Kind.TheVariants as kind
use Rattle.bus_captures.specs.declared.line.Line.TheVariants as line

-- what the text of a line says
abbrev pub Says : List ℕ → Line → Type 0
Says text line.Nothing = IsBlank text
Says text (line.Entry e) = IsEntryText text (entry_value e)
Says text line.Bad = IsBadText text

abbrev pub head_value : Head → HeadValue
head_value h = record { time = time_value h.time; direction = h.direction; kind = h.kind; hex = h.hex.now }

-- the line of these bytes behind that head
abbrev pub IsLineOf : HeadValue → List ℕ → Line → Type 0
IsLineOf head bytes line.Nothing = ⊥
IsLineOf head bytes (line.Entry e) =
    (0 < length bytes) × IsTextRead head.kind bytes (entry_value e).kind (entry_value e).bytes
    × ((entry_value e).time ≡ head.time) × ((entry_value e).direction ≡ head.direction)
    × ((entry_value e).interface ≡ nowhere) × ((entry_value e).name ≡ None)
IsLineOf head bytes line.Bad = bytes ≡ []

-- what a line may be
abbrev pub IsPacketOrMessage : Kind → Type 0
IsPacketOrMessage kind.Packet = ⊤
IsPacketOrMessage kind.Message = ⊤
IsPacketOrMessage (kind.Other protocol) = ⊥
IsPacketOrMessage (kind.Unread why) = ⊥
