use Rattle.std.{proofs.Common.{◌≡◌, string_bytes, take, map}, specs.List.{flat_map}}
use Rattle.plan_texts.specs.WalkLines.{record_line}
use Rattle.plan_texts.proofs.walks.walk_text.Given as goal

abbrev pub invariant-loop-bytes : goal.invariant-loop-bytes
invariant-loop-bytes l = string_bytes l.text ≡ flat_map record_line (map (λ v. v.items) (take l.bytes-index l.records))
