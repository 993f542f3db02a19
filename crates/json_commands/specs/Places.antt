-- Places in texts, as JSON.
use Rattle.std.{specs.Prelude.{◌≡◌, ℕ, ◌+◌, nat_le, List, [], length, take, count_by, codes, if◌then◌else◌, Option, Some, None, option_map, MatchOption}, specs.List.{flat_map}}
use Rattle.percent_encoding.{specs.declared.ascii_set.AsciiSet.{AsciiSet}, specs.Percent.{percent_encode}}
use Rattle.serde_json.specs.Data.{Data, null, string, object, member, no_members}
use Rattle.json.specs.Json.{Json as Tree}
use Rattle.net_plan.{specs.Finding.{Step}, specs.Texts.{IsTree}, specs.Trees.{data_of}}
use Rattle.net_pointers.{specs.declared.position.Position.{Position}, specs.declared.spots.Spot.{Spot}, specs.Offsets.{LeadsTo}, specs.Pointers.{value_at}, specs.Positions.{is_line_feed, begins_character, last_line}, specs.Spots.{IsAt}}
use Rattle.reading_texts.specs.ReadingLines.{step_text}
use Rattle.command_questions.{specs.declared.form.Form.{Form}, specs.declared.form.Form.TheVariants.{Json, Sarif}}
use Rattle.json_commands.specs.Values.{empty_data, number_data, number_or_null, one_data}

abbrev pub string_or_null : Option (List ℕ) → Data
string_or_null (Some text) = string text
string_or_null None = null

-- ---- where

-- a JSON pointer (RFC 6901); the one to the whole text is empty
abbrev pub json_pointer : List Step → List ℕ
json_pointer pointer = flat_map step_text pointer

-- the line and the column of an offset, from 1; columns count characters
abbrev pub position_of : List ℕ → ℕ → Position
position_of text offset = record {
  line = count_by is_line_feed (take offset text) + 1;
  column = count_by begins_character (last_line (take offset text)) + 1;
}

-- the same, where the offset is known and in the text
abbrev pub position_in : List ℕ → Option ℕ → Option Position
position_in text None = None
position_in text (Some offset) = if nat_le offset (length text) then Some (position_of text offset) else None

-- ---- the place in the JSON value that the commands share

-- the file, the line and the column, and the pointer that leads there; null for what is not known
abbrev pub place_data : List ℕ → Option Position → Option (List ℕ) → Data
place_data name position pointer =
    object (member (codes "column") (number_or_null (option_map (λ (p : Position). p.column) position))
    (member (codes "file") (string name)
    (member (codes "line") (number_or_null (option_map (λ (p : Position). p.line) position))
    (member (codes "pointer") (string_or_null pointer) no_members))))

-- ---- the location in SARIF

-- All characters but letters, digits, '-', '.', '_', '~' and '/', as the bits of a number: bit n is set where character
-- n is escaped. From the right, eight digits stand for 32 characters: ffffffff for control characters, fc001fff for
-- those from ' ' on without '-', '.', '/' and the digits, 78000001 for those from '@' on without the capitals and '_',
-- b8000001 for those from '`' on without the small letters and '~'.
abbrev pub escaped : AsciiSet
escaped = record { mask = 0xb800000178000001fc001fffffffffff }

-- the name of a file as a reference (RFC 3986)
abbrev pub uri_bytes : List ℕ → List ℕ
uri_bytes name = percent_encode escaped name

abbrev pub artifact_data : List ℕ → Data
artifact_data name = object (member (codes "uri") (string (uri_bytes name)) no_members)

abbrev pub region_data : Position → Data
region_data position = object (member (codes "startColumn") (number_data position.column)
    (member (codes "startLine") (number_data position.line) no_members))

abbrev pub physical_data : List ℕ → Option Position → Data
physical_data name (Some position) = object (member (codes "artifactLocation") (artifact_data name)
    (member (codes "region") (region_data position) no_members))
physical_data name None = object (member (codes "artifactLocation") (artifact_data name) no_members)

-- the pointer as the name of a logical location
abbrev pub logical_data : Option (List ℕ) → Data
logical_data (Some pointer) =
    one_data (object (member (codes "fullyQualifiedName") (string pointer) no_members))
logical_data None = empty_data

abbrev pub location_data : List ℕ → Option Position → Option (List ℕ) → Data
location_data name position pointer = object (member (codes "logicalLocations") (logical_data pointer)
    (member (codes "physicalLocation") (physical_data name position) no_members))

-- ---- either

-- the place at a line and a column of the file of this name, and the pointer that leads there, in the form
abbrev pub located_data : Form → List ℕ → Option Position → Option (List ℕ) → Data
located_data Json name position pointer = place_data name position pointer
located_data Sarif name position pointer = location_data name position pointer

-- that of an offset in the text of this name, where no pointer is known
abbrev pub spot_data : Form → (name text : List ℕ) → Option ℕ → Data
spot_data form name text offset = located_data form name (position_in text offset) None

-- the spot is where the value stands to which the pointer leads in the text; there is none where it leads nowhere
abbrev pub IsSpotOf : List ℕ → List Step → Option Spot → Type 0
IsSpotOf text pointer spot = (tree : Tree) × IsTree text tree
    × MatchOption spot (value_at pointer (data_of tree) ≡ None)
    (λ found. LeadsTo text pointer found.offset × IsAt text found.offset found.position)

-- the value tells, in the form, where in the text of this name the pointer leads
abbrev pub IsPlaceTold : Form → (name text : List ℕ) → List Step → Data → Type 0
IsPlaceTold form name text pointer d = (spot : Option Spot) × IsSpotOf text pointer spot
    × (d ≡ located_data form name (option_map (λ (s : Spot). s.position) spot) (Some (json_pointer pointer)))
