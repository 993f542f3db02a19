-- Which entries a capture has, by all of its bytes.
use Rattle.std.{specs.Prelude.{◌≡◌, ◌⊎◌, ℕ, ◌+◌, List, [], ◌∷◌, ◌++◌, length, map}, specs.List.{slice_split}}
use Rattle.bus_captures.{specs.declared.capture.Capture.{Capture}, specs.declared.capture.End.{End}, specs.declared.format.Order.{Order}, specs.declared.format.TimeUnit.{TimeUnit}, specs.Blocks.{BeginsBlocks, IsBlockFile}, specs.Files.{magic, IsFile}, specs.Lines.{IsNothing, IsEntryLine, IsBad}, specs.Numbers.{number_bytes}, specs.Sorts.{is_of}, specs.Values.{most_entries, EntryValue, entry_value}}
use Rattle.bus_captures.specs.declared.capture.CaptureFault.TheVariants as fault
use Rattle.bus_captures.specs.declared.capture.End.TheVariants as end
use Rattle.bus_captures.specs.declared.sort.Sort.TheVariants as sort

-- the lines of a text: what stands between line ends
abbrev pub lines_of : List ℕ → List (List ℕ)
lines_of text = slice_split (is_of sort.LineEnd) text

-- the lines are these entries, in their order; some of the lines are nothing
abbrev pub AreEntries : List (List ℕ) → List EntryValue → Type 0
AreEntries [] entries = entries ≡ []
AreEntries (line ∷ lines) entries =
    (IsNothing line × AreEntries lines entries)
    ⊎ ((e : EntryValue) × (more : List EntryValue) × IsEntryLine line e × (entries ≡ e ∷ more) × AreEntries lines more)

-- how reading ends behind so many lines with so many entries, where these lines are left
abbrev pub EndsText : ℕ → ℕ → List (List ℕ) → End → Type 0
EndsText lines entries left end.Whole = left ≡ []
EndsText lines entries left end.Full =
    (entries ≡ most_entries)
    × ((line : List ℕ) × (more : List (List ℕ)) × (e : EntryValue) × (left ≡ line ∷ more) × IsEntryLine line e)
EndsText lines entries left (end.Broken place why) =
    (place ≡ lines + 1) × (why ≡ fault.Line)
    × ((line : List ℕ) × (more : List (List ℕ)) × (left ≡ line ∷ more) × IsBad line)

-- The text's lines are the entries, up to those that are left.
pub record IsText (text : List ℕ) (entries : List EntryValue) (how : End) : Type 0 where
  pub done : List (List ℕ)
  pub left : List (List ℕ)
  pub spelled : lines_of text ≡ done ++ left
  pub each : AreEntries done entries
  pub ends : EndsText (length done) (length entries) left how

-- the bytes begin as a capture file does, and so go on
abbrev pub BeginsFile : Order → TimeUnit → List ℕ → List ℕ → Type 0
BeginsFile order unit bytes behind = bytes ≡ number_bytes order (magic unit) ++ behind

-- a file of blocks, or else a text
abbrev pub IsOtherCapture : List ℕ → List EntryValue → End → Type 0
IsOtherCapture bytes entries how =
    (BeginsBlocks bytes × IsBlockFile bytes entries how) ⊎ (¬ BeginsBlocks bytes × IsText bytes entries how)

-- the bytes are these entries, and reading them ends so: a capture file of records or of blocks by its first four
-- bytes, or else a text
abbrev pub IsCapture : List ℕ → List EntryValue → End → Type 0
IsCapture bytes entries how =
    ((order : Order) × (unit : TimeUnit) × (behind : List ℕ) × BeginsFile order unit bytes behind
    × IsFile order unit behind entries how)
    ⊎ (((order : Order) (unit : TimeUnit) (behind : List ℕ) → ¬ BeginsFile order unit bytes behind)
    × IsOtherCapture bytes entries how)

abbrev pub IsCaptureOf : List ℕ → Capture → Type 0
IsCaptureOf bytes capture = IsCapture bytes (map entry_value capture.entries.items) capture.end
