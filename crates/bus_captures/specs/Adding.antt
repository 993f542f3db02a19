-- What becomes of a line of a text.
use Rattle.std.specs.Prelude.{◌≡◌, ◌⊎◌, ℕ, List, [], ◌∷◌, ◌++◌, length, map}
use Rattle.bus_captures.{specs.declared.capture.Entry.{Entry}, specs.declared.text.Added.{Added}, specs.Lines.{IsNothing, IsEntryLine, IsBad}, specs.Values.{most_entries, EntryValue, entry_value, Adds}}
use Rattle.bus_captures.specs.declared.text.Added.TheVariants as added

abbrev pub IsEntryAdded : EntryValue → List Entry → List Entry → Added → Type 0
IsEntryAdded e old new added.Done = map entry_value new ≡ map entry_value old ++ e ∷ []
IsEntryAdded e old new added.Full = (length old ≡ most_entries) × (new ≡ old)
IsEntryAdded e old new added.Bad = ⊥

-- the line is nothing, or its entry was added, or it was not added and why
abbrev pub IsAdded : List ℕ → List Entry → List Entry → Added → Type 0
IsAdded line old new added.Done = (IsNothing line × (new ≡ old)) ⊎ Adds (IsEntryLine line) old new
IsAdded line old new added.Full = ((e : EntryValue) × IsEntryLine line e) × (length old ≡ most_entries) × (new ≡ old)
IsAdded line old new added.Bad = IsBad line × (new ≡ old)
