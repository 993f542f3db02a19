-- How the code goes from one part of a reading to the next.
use Rattle.std.{specs.Prelude.{◌≡◌, List, ◌++◌, map}, specs.Borrow.{Bor}}
use Rattle.mctp_control.{specs.RouteEntries.{EntryValue, entry_value}, specs.declared.route_entry.RouteEntry.{RouteEntry}}
use Rattle.audited_captures.{specs.Readings.{Turn, Other, Fails, Refuses, Ends, GoesOn, ReadingValue, Read, Refused, Unended}, specs.declared.readings.Reading.{Reading}}
use Rattle.audited_captures.specs.declared.readings.Reading.TheVariants as reading
use Rattle.audited_captures.specs.declared.readings.Turn as code
use Rattle.audited_captures.specs.declared.readings.Turn.TheVariants as turn

abbrev pub entry_values : List (Bor RouteEntry) → List EntryValue
entry_values es = map (λ e. entry_value e.now) es

abbrev pub reading_value : Reading → ReadingValue
reading_value (reading.Read es) = Read (entry_values es.items)
reading_value reading.Refused = Refused
reading_value reading.Unended = Unended

-- the part was taken so, and its entries were added; where it fails, some may have been
abbrev pub Takes : Turn → code.Turn → List EntryValue → List EntryValue → Type 0
Takes Other taken old new = (taken ≡ turn.Other) × (new ≡ old)
Takes Fails taken old new = taken ≡ turn.Fails
Takes Refuses taken old new = taken ≡ turn.Refuses
Takes (Ends entries) taken old new = (taken ≡ turn.Ends) × (new ≡ old ++ entries)
Takes (GoesOn next entries) taken old new = (taken ≡ turn.GoesOn next) × (new ≡ old ++ entries)
