-- Routing table entries that were read, beside those of the plan.
use Rattle.std.{specs.Prelude.{ℕ, ◌==◌, ◌&&◌, Bool, not, false, List, [], ◌∷◌, ◌++◌, length, codes, find, nat_eq, Option, None, Some, if◌then◌else◌}, specs.Option.{option_or}, specs.Fmt.{decimal}, specs.List.{flat_map, list_any}, specs.Cmp.Lexicographic.{pointwise}}
use Rattle.hex.specs.Hex.{encode_lower}
use Rattle.mctp_control.specs.RouteEntries.{EntryValue}
use Rattle.audited_captures.{specs.Failures.{failures_in, failed_lines}, specs.Lines.{LineValue, difference, note, differences_or}, specs.Readings.{PartValue, ReadingValue, Read, Refused, Unended, begun_with, readings}}

-- the entries are for the same endpoint IDs
abbrev pub same_range : EntryValue → EntryValue → Bool
same_range e f = e.first == f.first && e.size == f.size

abbrev pub has_range : List EntryValue → EntryValue → Bool
has_range fs e = list_any (same_range e) fs

abbrev pub range_words : EntryValue → List ℕ
range_words e = decimal e.first ++ (codes " size " ++ decimal e.size)

abbrev pub two_words : (name planned found : List ℕ) → List ℕ
two_words name planned found =
    name ++ (codes " " ++ (planned ++ (codes " found " ++ (name ++ (codes " " ++ found)))))

abbrev pub unlike_number : List ℕ → (planned found : ℕ) → Option (List ℕ)
unlike_number name planned found =
    if planned == found then None else Some (two_words name (decimal planned) (decimal found))

-- an address in hex, or a dash where it is empty
abbrev pub address_words : List ℕ → List ℕ
address_words address = if length address == 0 then codes "-" else encode_lower address

abbrev pub unlike_address : (planned found : List ℕ) → Option (List ℕ)
unlike_address planned found =
    if pointwise nat_eq planned found then None
    else Some (two_words (codes "address") (address_words planned) (address_words found))

-- The first thing in which an entry that was found is another than the planned one. Whether it is static isn't planned.
abbrev pub unlike : (planned found : EntryValue) → Option (List ℕ)
unlike e f =
    option_or (unlike_number (codes "type") e.kind f.kind)
    (option_or (unlike_number (codes "port") e.port f.port)
    (option_or (unlike_number (codes "binding") e.binding f.binding)
    (option_or (unlike_number (codes "media") e.media f.media) (unlike_address e.address f.address))))

abbrev pub missing_line : List ℕ → EntryValue → LineValue
missing_line name e = difference (name ++ (codes " routes missing " ++ range_words e))

abbrev pub extra_line : List ℕ → EntryValue → LineValue
extra_line name e = difference (name ++ (codes " routes extra " ++ range_words e))

abbrev pub unlike_line : List ℕ → EntryValue → List ℕ → LineValue
unlike_line name e words = difference (name ++ (codes " routes differs " ++ (range_words e ++ (codes " " ++ words))))

abbrev pub match_line : List ℕ → List EntryValue → LineValue
match_line name found = note (name ++ (codes " routes match " ++ decimal (length found)))

abbrev pub incomplete_line : List ℕ → LineValue
incomplete_line name = difference (name ++ codes " routes incomplete")

abbrev pub line_if_unlike : List ℕ → EntryValue → Option (List ℕ) → List LineValue
line_if_unlike name e None = []
line_if_unlike name e (Some words) = unlike_line name e words ∷ []

abbrev pub line_beside : List ℕ → EntryValue → Option EntryValue → List LineValue
line_beside name e None = missing_line name e ∷ []
line_beside name e (Some f) = line_if_unlike name e (unlike e f)

-- what is told of a planned entry: it is missing, or the first entry for its endpoint IDs is another
abbrev pub planned_lines : List ℕ → List EntryValue → EntryValue → List LineValue
planned_lines name found e = line_beside name e (find (same_range e) found)

-- An entry is extra where the plan has none for its endpoint IDs, and where one more for these follows.
abbrev pub lines_if_extra : List ℕ → List EntryValue → EntryValue → List EntryValue → List LineValue
lines_if_extra name planned f later =
    if has_range planned f && not (has_range later f) then [] else extra_line name f ∷ []

abbrev pub extra_lines : List ℕ → (planned found : List EntryValue) → List LineValue
extra_lines name planned [] = []
extra_lines name planned (f ∷ fs) = lines_if_extra name planned f fs ++ extra_lines name planned fs

abbrev pub unlike_lines : List ℕ → (planned found : List EntryValue) → List LineValue
unlike_lines name planned found = flat_map (planned_lines name found) planned ++ extra_lines name planned found

-- What is told of a reading. Where an answer fails, the line of failures tells it.
abbrev pub reading_lines : List ℕ → List EntryValue → ReadingValue → List LineValue
reading_lines name planned Unended = incomplete_line name ∷ []
reading_lines name planned Refused = []
reading_lines name planned (Read found) = differences_or (match_line name found) (unlike_lines name planned found)

-- what is told of the reading that the first of these parts begins, if it begins one
abbrev pub begun_lines : List ℕ → List EntryValue → List PartValue → List LineValue
begun_lines name planned [] = []
begun_lines name planned (p ∷ ps) = flat_map (reading_lines name planned) (begun_with p ps)

-- what is told of all readings of a node's table, by its name
abbrev pub readings_lines : List ℕ → List EntryValue → List ReadingValue → List LineValue
readings_lines name planned rs = flat_map (reading_lines name planned) rs

-- what is told of a node's table: of all readings, and of the answers about it that fail
abbrev pub routes_lines : List ℕ → List EntryValue → List PartValue → List LineValue
routes_lines name planned parts =
    readings_lines name planned (readings parts)
    ++ failed_lines false (name ++ codes " routes") (failures_in parts)
