-- Routing table entries one after another.
use Rattle.std.{specs.Prelude.{◌≡◌, ℕ, List, map}, specs.List.{flat_map, AllByRecursion}}
use Rattle.mctp_control.{specs.RouteEntries.{EntryValue, IsEntry, entry_value, entry_bytes}, specs.declared.route_entry.RouteEntry.{RouteEntry}}

-- the bytes of the entries, one entry after another
abbrev pub entries_bytes : List EntryValue → List ℕ
entries_bytes es = flat_map entry_bytes es

abbrev pub values_of : List RouteEntry → List EntryValue
values_of es = map entry_value es

-- the bytes are those of the entries, all of them, and each entry fits its bits
pub record SpellsEntries (es : List EntryValue) (bytes : List ℕ) : Type 0 where
  pub each : AllByRecursion IsEntry es
  pub whole : bytes ≡ entries_bytes es
