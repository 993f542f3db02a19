-- Records in one block of bytes.
use Rattle.std.specs.Prelude.{◌≡◌, ◌≢◌, ℕ, ◌+◌, ◌-◌, ◌^◌, ◌<◌, ◌≤◌, List, map, take, drop, length, slice_get, Some}
use Rattle.pdr_repository.{specs.declared.record_block.Span.{Span}, specs.Records.{Entry}}

-- the span is within the block, and a record is shorter than 2 ^ 32 bytes
pub record IsSpanIn (block : List ℕ) (s : Span) : Type 0 where
  pub ordered : s.start ≤ s.end
  pub within : s.end ≤ length block
  pub short : s.end < s.start + 2 ^ 32

-- the record that a span of the block holds
abbrev pub entry_in : List ℕ → Span → Entry
entry_in block s = record { handle = s.handle; bytes = take (s.end - s.start) (drop s.start block) }

-- the records that the spans hold, by place
abbrev pub entries_in : List ℕ → List Span → List Entry
entries_in block spans = map (entry_in block) spans

-- the handles are distinct and not 0
pub record HaveHandles (records : List Entry) : Type 0 where
  pub distinct : (i j : ℕ) (e f : Entry) → slice_get records i ≡ Some e → slice_get records j ≡ Some f
      → e.handle ≡ f.handle → i ≡ j
  pub some : (i : ℕ) (e : Entry) → slice_get records i ≡ Some e → e.handle ≢ 0
