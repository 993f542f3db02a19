-- What a terminus over a list of records stands for.
use Rattle.std.specs.Prelude.{ℕ, List}
use Rattle.pdr_repository.{specs.declared.list_terminus.ListTerminus.{ListTerminus}, specs.Records.{Entry, entries}}

abbrev pub list_tid : ListTerminus → ℕ
list_tid t = t.tid.value

abbrev pub list_records : ListTerminus → List Entry
list_records t = entries t.records.by_place.items
