use Rattle.std.proofs.Common.{◌++◌, ap, string_bytes, ◌∙◌}
use Rattle.bus_commands.proofs.turn.take_line.Goals as goal

pub returns-clause-takes : goal.returns-clause-takes
returns-clause-takes g c = λ s stands.
    let gave = c.in_ok-turn.ensures.gives s stands in
    let sent = string_bytes c.in_ok-turn.turn.answer in
    (gave.0, (sent, gave.1, c.in_ok-push_str.ensures.bytes ∙ ap (λ mark. sent ++ mark) c.end_mark.ensures), gave.2)
