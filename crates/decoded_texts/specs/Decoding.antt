-- What is said of a whole capture.
use Rattle.std.{specs.Prelude.{◌≡◌, ℕ, List, [], ◌∷◌, ◌++◌, length, map, codes, Option, Some}, specs.Fmt.{decimal}}
use Rattle.bus_captures.{specs.Values.{EntryValue, entry_value}, specs.declared.capture.Capture.{Capture}, specs.declared.capture.CaptureFault.{CaptureFault}, specs.declared.capture.End.{End}}
use Rattle.heard_captures.specs.Seen.{Seen, AreSeen}
use Rattle.plan_values.specs.declared.plan.Plan.{Plan}
use Rattle.decoded_texts.specs.Seen.{IsToldAs, link_words}
use Rattle.bus_captures.specs.declared.capture.CaptureFault.TheVariants as fault
use Rattle.bus_captures.specs.declared.capture.End.TheVariants as end

-- These are the lines of entries and of what became of them, one after the other, with the names that a plan has, each
-- behind words for the entry's number, time, interface and way.
pub data AreTold (plan : Option Plan) : List EntryValue → List Seen → List ℕ → Type 0 where
  None : AreTold plan [] [] []
  More : (entries : List EntryValue) (seen : List Seen) (lines : List ℕ) (e : EntryValue) (s : Seen)
      (head told : List ℕ) → AreTold plan entries seen lines → IsToldAs plan s told
      → AreTold plan (entries ++ e ∷ []) (seen ++ s ∷ []) (lines ++ (head ++ told))

abbrev pub fault_words : CaptureFault → List ℕ
fault_words fault.Header = codes "header"
fault_words (fault.Link number) = link_words number
fault_words fault.Record = codes "record"
fault_words fault.Block = codes "block"
fault_words fault.Line = codes "line"

-- how many entries there are, and why there aren't more
abbrev pub end_line : ℕ → End → List ℕ
end_line count end.Whole = codes "entries " ++ (decimal count ++ codes "\n")
end_line count end.Full = codes "entries " ++ (decimal count ++ codes " of more\n")
end_line count (end.Broken place why) =
    codes "entries " ++ (decimal count ++ (codes " broken " ++ (decimal place
    ++ (codes " " ++ (fault_words why ++ codes "\n")))))

-- the transmission unit of captured packets: that of a plan, or where there is none the baseline's 64
abbrev pub unit_by : Option Plan → ℕ
unit_by Option.None = 64
unit_by (Some plan) = plan.unit

-- the text tells what became of the entries, with the names that a plan has, and how reading them ended
abbrev pub IsDecodedBy : Option Plan → List EntryValue → End → List ℕ → Type 0
IsDecodedBy plan entries how text =
    (seen : List Seen) × (lines : List ℕ) × AreSeen (unit_by plan) entries seen × AreTold plan entries seen lines
    × (text ≡ lines ++ end_line (length entries) how)

-- the same without a plan, and with one
abbrev pub IsDecoded : List EntryValue → End → List ℕ → Type 0
IsDecoded entries how text = IsDecodedBy Option.None entries how text

abbrev pub IsNamed : Plan → List EntryValue → End → List ℕ → Type 0
IsNamed plan entries how text = IsDecodedBy (Some plan) entries how text

-- the same of a capture
abbrev pub IsDecodedCapture : Capture → List ℕ → Type 0
IsDecodedCapture capture text = IsDecoded (map entry_value capture.entries.items) capture.end text

abbrev pub IsNamedCapture : Plan → Capture → List ℕ → Type 0
IsNamedCapture plan capture text = IsNamed plan (map entry_value capture.entries.items) capture.end text
