-- A line of a text capture: a time, words up to a colon, bytes in hex, and a comment. All but the bytes may be missing.
use Rattle.std.{specs.Prelude.{◌≡◌, ℕ, ◌+◌, ◌-◌, ◌<◌, ◌==◌, ◌&&◌, Bool, nat_lt, List, length, take, drop, slice_index, codes, Option, None, Some, if◌then◌else◌}, specs.List.{ends_with}}
use Rattle.bus_captures.{specs.declared.capture.Direction.{Direction}, specs.declared.capture.Kind.{Kind}, specs.Hex.{IsHex}, specs.Smbus.{IsUnframed}, specs.Sorts.{before, behind}, specs.Values.{TimeValue, Unknown, Written, EntryValue, nowhere}}
use Rattle.bus_captures.specs.declared.capture.Direction.TheVariants as direction
use Rattle.bus_captures.specs.declared.capture.Kind.TheVariants as kind
use Rattle.bus_captures.specs.declared.sort.Sort.TheVariants as sort

-- what stands before the comment
abbrev pub uncommented : List ℕ → List ℕ
uncommented line = take (before sort.Hash line) line

-- digits, a point, digits
abbrev pub is_time : List ℕ → Bool
is_time word =
    let digits = before sort.NoDecimal word in
    nat_lt 0 digits && nat_lt (digits + 1) (length word) && (slice_index word digits == 46)
    && (before sort.NoDecimal (drop (digits + 1) word) == length word - (digits + 1))

-- the text from its first word on, that word, and what stands behind it
abbrev pub from_word : List ℕ → List ℕ
from_word text = drop (before sort.NoSpace text) text

abbrev pub word : List ℕ → List ℕ
word text = take (before sort.Space (from_word text)) (from_word text)

abbrev pub behind_word : List ℕ → List ℕ
behind_word text = drop (before sort.Space (from_word text)) (from_word text)

-- the time with which the text begins
abbrev pub time_of : List ℕ → TimeValue
time_of text = if is_time (word text) then Written (word text) else Unknown

-- the text without that time
abbrev pub untimed : List ℕ → List ℕ
untimed text = if is_time (word text) then behind_word text else text

-- the words before the last colon end with the way that the bytes went
abbrev pub direction_in : List ℕ → Option Direction
direction_in words =
    if ends_with ◌==◌ words (codes "Tx") then Some direction.Sent
    else if ends_with ◌==◌ words (codes "Rx") then Some direction.Received else None

-- what a line says, with its bytes still in hex
pub record HeadValue : Type 0 where
  pub time : TimeValue
  pub direction : Option Direction
  pub kind : Kind
  pub hex : List ℕ

abbrev pub packet_head : List ℕ → HeadValue
packet_head text = record { time = time_of text; direction = None; kind = kind.Packet; hex = untimed text }

-- the words before the last colon, and the bytes behind it
abbrev pub message_head : List ℕ → List ℕ → HeadValue
message_head words hex =
    record { time = time_of words; direction = direction_in words; kind = kind.Message; hex = hex }

-- a text without a colon is a packet, and with one a message
abbrev pub head_of : List ℕ → HeadValue
head_of text =
    if nat_lt (behind sort.Colon text) (length text)
    then message_head
    (take (length text - behind sort.Colon text - 1) text)
    (drop (length text - behind sort.Colon text) text)
    else packet_head text

-- nothing but spaces
abbrev pub IsBlank : List ℕ → Type 0
IsBlank text = before sort.NoSpace text ≡ length text

-- what is read of bytes: of a packet that which stands in its frame of SMBus, if it has one, and a message as it is
abbrev pub IsTextRead : Kind → List ℕ → Kind → List ℕ → Type 0
IsTextRead kind.Packet raw what read = IsUnframed raw what read
IsTextRead kind.Message raw what read = (what ≡ kind.Message) × (read ≡ raw)
IsTextRead (kind.Other protocol) raw what read = ⊥
IsTextRead (kind.Unread why) raw what read = ⊥

-- the text is this entry
pub record IsEntryText (text : List ℕ) (e : EntryValue) : Type 0 where
  pub time : e.time ≡ (head_of text).time
  pub direction : e.direction ≡ (head_of text).direction
  pub interface : e.interface ≡ nowhere
  pub name : e.name ≡ None
  pub raw : List ℕ
  pub hex : IsHex (head_of text).hex raw
  pub some : 0 < length raw
  pub read : IsTextRead (head_of text).kind raw e.kind e.bytes

-- the text is something, and no entry
abbrev pub IsBadText : List ℕ → Type 0
IsBadText text = ¬ IsBlank text × ((e : EntryValue) → ¬ IsEntryText text e)

-- a line is what stands in it before the comment
abbrev pub IsNothing : List ℕ → Type 0
IsNothing line = IsBlank (uncommented line)

abbrev pub IsEntryLine : List ℕ → EntryValue → Type 0
IsEntryLine line e = IsEntryText (uncommented line) e

abbrev pub IsBad : List ℕ → Type 0
IsBad line = IsBadText (uncommented line)
