-- What `decode` prints.
use Rattle.std.specs.Prelude.{◌≡◌, ◌≢◌, ℕ, List, Option, Some, None, Result, Ok, Err, Vec, codes}
use Rattle.bus_captures.{specs.Captures.{IsCapture}, specs.Values.{EntryValue}, specs.declared.capture.End.{End}}
use Rattle.decoded_texts.specs.Decoding.{IsDecodedBy}
use Rattle.net_plan.specs.declared.stream.TextFault.{TextFault}
use Rattle.command_answers.specs.declared.status.Status.{Status}
use Rattle.plan_values.specs.declared.plan.Plan.{Plan}
use Rattle.bus_captures.specs.declared.capture.End.TheVariants as end
use Rattle.net_plan.specs.declared.stream.TextFault.TheVariants as fault
use Rattle.command_answers.specs.declared.status.Status.TheVariants as status

-- the text tells of the entries of the capture that the bytes are, with the names that a plan has, where reading them
-- ends so
abbrev pub IsDecodedFrom : Option Plan → List ℕ → End → List ℕ → Type 0
IsDecodedFrom plan bytes how text =
    (entries : List EntryValue) × IsCapture bytes entries how × IsDecodedBy plan entries how text

-- it does in a run that ends so: as asked where all was read
abbrev pub IsDecodedSo : Option Plan → List ℕ → Status → List ℕ → Type 0
IsDecodedSo plan bytes status.Yes text = IsDecodedFrom plan bytes end.Whole text
IsDecodedSo plan bytes status.Unreadable text = (how : End) × (how ≢ end.Whole) × IsDecodedFrom plan bytes how text
IsDecodedSo plan bytes status.Fault text = ⊥
IsDecodedSo plan bytes status.NoMemory text = ⊥

-- what is said where a source gave no capture
abbrev pub not_given : TextFault → Option (List ℕ)
not_given fault.TooLong = Some (codes "unreadable capture: J08\n")
not_given fault.Device = Some (codes "unreadable capture: file\n")
not_given fault.OutOfMemory = None

-- the text tells of a capture that was read, with the names that a plan has, or why it was not
abbrev pub DecodesBy : {Z : Type 0} → Option Plan → Result (Vec ℕ Z) TextFault → Status → List ℕ → Type 0
DecodesBy plan (Ok bytes) ended text = IsDecodedSo plan bytes.items ended text
DecodesBy plan (Err why) ended text = (ended ≡ status.Unreadable) × (not_given why ≡ Some text)
