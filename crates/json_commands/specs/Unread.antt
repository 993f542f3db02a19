-- What is answered where there is no plan or no certificate, or where nothing has a name.
use Rattle.std.specs.Prelude.{◌≡◌, ℕ, ◌+◌, List, [], ◌∷◌, codes, Some, None}
use Rattle.serde_json.specs.Data.{Data}
use Rattle.net_plan.specs.Finding.{Step, key, index, located}
use Rattle.net_pointers.{specs.Asks.{list_key, name_key}, specs.Offsets.{LeadsToKey}, specs.TextTroubles.{cause_of}, specs.declared.doubled.DoubledKey.{DoubledKey}, specs.declared.order.NameList.{NameList}, specs.declared.order.Trouble.{Trouble}, specs.declared.syntax.JsonFault.{JsonFault}, specs.declared.syntax.JsonFault.TheVariants.{NotUtf8, Unreadable}, specs.declared.texts.TextTrouble.{TextTrouble}}
use Rattle.command_answers.specs.declared.inputs.Unread.{Unread}
use Rattle.reading_texts.specs.ReadingLines.{unread_code}
use Rattle.command_questions.specs.declared.form.Form.{Form}
use Rattle.json_commands.{specs.Answers.{IsAnswer, IsItem}, specs.Places.{IsPlaceTold, spot_data}, specs.Values.{one_data}}
use Rattle.net_pointers.specs.declared.order.Trouble.TheVariants as wrong
use Rattle.net_pointers.specs.declared.texts.TextTrouble.TheVariants as trouble
use Rattle.command_answers.specs.declared.inputs.Unread.TheVariants as unread
use Rattle.command_answers.specs.declared.status.Status.TheVariants as status

-- the code of why a source gave nothing; `file` where it failed
abbrev pub code_of : Unread → List ℕ
code_of unread.NoMemory = codes "no memory"
code_of unread.Failed = codes "file"
code_of unread.TooLong = codes "J08"
code_of (unread.Text text fault) = unread_code (cause_of fault.trouble)

-- ---- places

-- a file, and no place in it
abbrev pub nowhere_data : Form → List ℕ → Data
nowhere_data form name = spot_data form name [] None

-- the name of an entry of a list
abbrev pub entry_pointer : NameList → ℕ → List Step
entry_pointer list i = key (list_key list) ∷ index i ∷ key (name_key list) ∷ []

abbrev pub range_pointer : ℕ → ℕ → List Step
range_pointer entry range = key (codes "ranks") ∷ index entry ∷ key (codes "ranges") ∷ index range ∷ []

-- where an object has a key again
abbrev pub IsKeyPlace : Form → (name text : List ℕ) → DoubledKey → Data → Type 0
IsKeyPlace form name text k place = (again : ℕ) × LeadsToKey text k.path.items k.members.second again
    × (place ≡ spot_data form name text (Some again))

-- where what is wrong with a text that is JSON stands: of what stands twice the second, of ranges that meet the next
abbrev pub IsTroublePlace : Form → (name text : List ℕ) → Trouble → Data → Type 0
IsTroublePlace form name text (wrong.Value found) place =
    IsPlaceTold form name text (located found).pointer place
IsTroublePlace form name text (wrong.DoubledName list twins) place =
    IsPlaceTold form name text (entry_pointer list twins.second) place
IsTroublePlace form name text (wrong.Overlap o) place =
    IsPlaceTold form name text (range_pointer o.entry (o.range + 1)) place
IsTroublePlace form name text (wrong.DoubledKey doubled) place = IsKeyPlace form name text doubled place
IsTroublePlace form name text (wrong.UnknownName found) place =
    IsPlaceTold form name text (located found).pointer place

-- where a text stops being JSON
abbrev pub offset_of : JsonFault → ℕ
offset_of (NotUtf8 offset) = offset
offset_of (Unreadable offset wanted) = offset

-- where what is wrong with the text of this name stands
abbrev pub IsTextPlace : Form → (name text : List ℕ) → TextTrouble → Data → Type 0
IsTextPlace form name text (trouble.TooLong count) place = place ≡ nowhere_data form name
IsTextPlace form name text (trouble.NotJson fault) place =
    place ≡ spot_data form name text (Some (offset_of fault))
IsTextPlace form name text (trouble.Wrong t) place = IsTroublePlace form name text t place

-- where what is wrong with the text that was given stands, if one was given
abbrev pub IsUnreadPlace : Form → List ℕ → Unread → Data → Type 0
IsUnreadPlace form name unread.NoMemory place = ⊥
IsUnreadPlace form name unread.Failed place = place ≡ nowhere_data form name
IsUnreadPlace form name unread.TooLong place = place ≡ nowhere_data form name
IsUnreadPlace form name (unread.Text text fault) place = IsTextPlace form name text.items fault.trouble place

-- ---- answers

-- the value answers with one result alone, with this code and this place
abbrev pub IsItemAlone : Form → (code : List ℕ) → (place d : Data) → Type 0
IsItemAlone form code place d =
    (item : Data) × IsItem form code place item × IsAnswer form status.Unreadable (one_data item) d

-- The value answers why a source gave nothing to read: with its code, and where the text that it gave has its first
-- fault. The name is that of its file.
abbrev pub IsUnreadSaid : Form → (name : List ℕ) → Unread → Data → Type 0
IsUnreadSaid form name why d =
    (place : Data) × IsUnreadPlace form name why place × IsItemAlone form (code_of why) place d

-- the value answers that nothing in the plan of this name has a name that is asked for
abbrev pub IsUnknownSaid : Form → (name : List ℕ) → Data → Type 0
IsUnknownSaid form name d = IsItemAlone form (codes "J06") (nowhere_data form name) d
