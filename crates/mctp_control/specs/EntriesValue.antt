-- What the entries of one response stand for.
use Rattle.std.specs.Prelude.{List}
use Rattle.mctp_control.{specs.EntryLists.{values_of}, specs.RouteEntries.{EntryValue}, specs.declared.entries.Entries.{Entries}}

abbrev pub entries_of : Entries → List EntryValue
entries_of e = values_of e.items.items
