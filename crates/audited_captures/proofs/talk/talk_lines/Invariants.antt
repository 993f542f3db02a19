use Rattle.std.proofs.Common.{map, take}
use Rattle.audited_captures.{specs.Lines.{line_value}, specs.Talk.{AreTalkLines}, specs.Words.{word_value}}
use Rattle.audited_captures.proofs.talk.talk_lines.Given as goal

abbrev pub invariant-loop-i : goal.invariant-loop-i
invariant-loop-i l = AreTalkLines l.plan (map word_value (take l.i l.words)) (map line_value l.lines.items)
