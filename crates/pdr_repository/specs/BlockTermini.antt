-- What a terminus over one block of records stands for.
use Rattle.std.specs.Prelude.{ℕ, List}
use Rattle.pdr_repository.{specs.declared.block_terminus.BlockTerminus.{BlockTerminus}, specs.Records.{Entry}, specs.RecordBlocks.{entries_in}}

abbrev pub block_tid : BlockTerminus → ℕ
block_tid t = t.tid.value

abbrev pub block_records : BlockTerminus → List Entry
block_records t = entries_in t.records.block.items t.records.spans.items
