use Rattle.std.{proofs.Common.{◌≡◌, string_bytes, take}, specs.List.{flat_map}}
use Rattle.question_texts.specs.PairLines.{pair_line}
use Rattle.question_texts.proofs.pairs.reach_lines.Given as goal

abbrev pub invariant-loop-pair : goal.invariant-loop-pair
invariant-loop-pair l = string_bytes l.lines ≡ flat_map (pair_line l.plan) (take l.pair-index l.pairs)
