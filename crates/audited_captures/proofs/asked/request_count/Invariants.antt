use Rattle.std.proofs.Common.{◌≡◌, ◌≤◌, length, map, take}
use Rattle.audited_captures.{specs.Asked.{requests_to}, specs.Words.{word_value}}
use Rattle.audited_captures.proofs.asked.request_count.Given as goal

abbrev pub invariant-loop-word : goal.invariant-loop-word
invariant-loop-word l = (l.count ≡ length (requests_to l.eid.value (map word_value (take l.word-index l.words)))) × (l.count ≤ l.word-index)
