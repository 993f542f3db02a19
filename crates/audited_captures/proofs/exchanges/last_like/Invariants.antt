use Rattle.std.proofs.Common.{◌≡◌, ◌≤◌, map, take, length}
use Rattle.audited_captures.{specs.Words.{word_value}, specs.Exchanges.{is_like, last_that}}
use Rattle.audited_captures.proofs.exchanges.last_like.Given as goal

abbrev pub invariant-loop-at : goal.invariant-loop-at
invariant-loop-at l = (l.at ≤ length l.before)
    × (last_that (is_like l.likeness (word_value l.word)) (map word_value l.before) ≡ last_that (is_like l.likeness (word_value l.word)) (map word_value (take l.at l.before)))

abbrev pub decreases-loop-at : goal.decreases-loop-at
decreases-loop-at l = l.at
