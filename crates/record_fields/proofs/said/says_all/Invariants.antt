use Rattle.std.proofs.Common.{All, map, take, string_bytes}
use Rattle.record_fields.{specs.Meanings.{named_of}, specs.Said.{IsSaidOf}}
use Rattle.record_fields.proofs.said.says_all.Given as goal

abbrev pub invariant-loop-word : goal.invariant-loop-word
invariant-loop-word l = All (IsSaidOf (map named_of l.fields.items)) (map string_bytes (take l.word-index l.words))
