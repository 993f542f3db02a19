use Rattle.std.proofs.Common.{◌≡◌, map, take, count_by}
use Rattle.board_made.{specs.Numbers.{number_value}, specs.Renumbering.{is_kept, number_in}}
use Rattle.board_made.proofs.renumbered.kept_count.Given as goal

abbrev pub invariant-loop-number : goal.invariant-loop-number
invariant-loop-number l = l.kept ≡ count_by (λ o. is_kept o (number_in (map number_value l.news) o)) (map number_value (take l.number-index l.olds))
