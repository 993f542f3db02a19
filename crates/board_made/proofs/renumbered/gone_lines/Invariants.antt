use Rattle.std.{proofs.Common.{◌≡◌, map, take, string_bytes}, specs.List.{flat_map}}
use Rattle.board_made.{specs.Numbers.{number_value}, specs.Renumbering.{gone_line, number_in}}
use Rattle.board_made.proofs.renumbered.gone_lines.Given as goal

abbrev pub invariant-loop-number : goal.invariant-loop-number
invariant-loop-number l = string_bytes l.text ≡ flat_map (λ o. gone_line o (number_in (map number_value l.news) o)) (map number_value (take l.number-index l.olds))
