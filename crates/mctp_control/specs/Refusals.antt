-- Why bytes are no entry, no request and no response: each cause by itself.
use Rattle.std.specs.Prelude.{◌≡◌, ◌≢◌, ◌⊎◌, ◌<◌, ◌≤◌, ◌+◌, ◌-◌, ◌/◌, ℕ, List, length, drop, slice_index}
use Rattle.mctp_control.{specs.RouteEntries.{EntryValue}, specs.EntryLists.{SpellsEntries}}

-- fewer bytes than an entry without its address
abbrev pub IsShortEntry : List ℕ → Type 0
IsShortEntry bytes = length bytes < 6

-- as long as byte 5 says, with an address of at most 52 bytes
abbrev pub HasEntryLength : List ℕ → Type 0
HasEntryLength bytes = (length bytes ≡ 6 + slice_index bytes 5) × (length bytes ≤ 58)

-- fewer bytes than the shortest request
abbrev pub IsShortRequest : List ℕ → Type 0
IsShortRequest bytes = length bytes < 3

-- byte 0 isn't 0, or the Rq bit is clear
abbrev pub IsNoRequest : List ℕ → Type 0
IsNoRequest bytes = (slice_index bytes 0 ≢ 0) ⊎ (slice_index bytes 1 / 128 ≡ 0)

-- none of the four commands
abbrev pub IsUnknown : ℕ → Type 0
IsUnknown number = (number ≢ 1) × (number ≢ 2) × (number ≢ 8) × (number ≢ 10)

-- byte 2 is none of the four commands
abbrev pub HasUnknownCommand : List ℕ → Type 0
HasUnknownCommand bytes = IsUnknown (slice_index bytes 2)

-- how many bytes of data each command's request has
abbrev pub IsCommandLength : ℕ → ℕ → Type 0
IsCommandLength number count =
    (number ≡ 1 → count ≡ 2) × (number ≡ 2 → count ≡ 0) × (number ≡ 8 → count ≡ 3) × (number ≡ 10 → count ≡ 1)

-- a request is as long as its command asks for
abbrev pub HasRequestLength : List ℕ → Type 0
HasRequestLength bytes = IsCommandLength (slice_index bytes 2) (length bytes - 3)

-- fewer bytes than the shortest response
abbrev pub IsShortResponse : List ℕ → Type 0
IsShortResponse bytes = length bytes < 4

-- byte 0 isn't 0, or the Rq bit is set
abbrev pub IsNoResponse : List ℕ → Type 0
IsNoResponse bytes = (slice_index bytes 0 ≢ 0) ⊎ (slice_index bytes 1 / 128 ≢ 0)

-- a handle, a count and so many entries, in a body of at most 64 bytes
abbrev pub IsTableData : List ℕ → Type 0
IsTableData rest = (2 ≤ length rest) × (length rest ≤ 60)
    × ((es : List EntryValue) × SpellsEntries es (drop 2 rest) × (length es ≡ slice_index rest 1))

-- what may follow a completion code: nothing after another code than success, three bytes after the success of
-- commands 1, 2 and 8, a part of a table after that of command 10
abbrev pub IsAnswerData : ℕ → ℕ → List ℕ → Type 0
IsAnswerData number code rest =
    (code ≢ 0 → length rest ≡ 0) × (code ≡ 0 → number ≢ 10 → length rest ≡ 3)
    × (code ≡ 0 → number ≡ 10 → IsTableData rest)

-- the response is as its command and its completion code ask for
abbrev pub HasResponseLength : List ℕ → Type 0
HasResponseLength bytes = IsAnswerData (slice_index bytes 2) (slice_index bytes 3) (drop 4 bytes)
