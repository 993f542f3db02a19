use Rattle.std.{proofs.Common.{◌≡◌, ℕ, ◌<◌, length, Global}, specs.Prelude.{string_bytes, slice_index_or, String}}
use Rattle.decoded_texts.specs.Names.{end_words}
use Rattle.decoded_texts.proofs.names.end_words.Given as goal

abbrev pub invariant-loop-eid : goal.invariant-loop-eid
invariant-loop-eid l = record {
  many : length l.table.items ≡ l.eid;
  each : (e : ℕ) (x : String Global) → e < l.eid → string_bytes (slice_index_or l.table.items e x) ≡ end_words l.plan l.words e;
}
