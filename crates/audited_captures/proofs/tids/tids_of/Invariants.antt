use Rattle.std.proofs.Common.{map, take}
use Rattle.audited_captures.{specs.Words.{word_value}, specs.Tids.{AreTids, tid_values}}
use Rattle.audited_captures.proofs.tids.tids_of.Given as goal

abbrev pub invariant-loop-i : goal.invariant-loop-i
invariant-loop-i l = AreTids l.eid.value (map word_value (take l.i l.words)) (tid_values l.tids.items)
