use Rattle.std.proofs.Common.{rules, ◌≢◌, [], true, false, IfOk, ap, sym, subst, ◌∙◌}
use Rattle.bus_captures.specs.Lines.{behind_word, word}
use Rattle.bus_commands.{specs.PacketLines.{Says, said_value}, proofs.BusNames.{says_all}}
use Rattle.bus_commands.proofs.line.read_line.Goals as goal

pub returns-then-is_addressed : goal.returns-then-is_addressed
returns-then-is_addressed c =
    let some : c.split_word.result.0.now ≢ [] = search rules in
    subst (λ a. IfOk c.read_addressed.result (λ r. Says a c.args.plan.now c.args.node c.args.line.now (said_value r))) (sym c.if-is_addressed.true)
    (says_all true c.args.plan.now c.args.node c.args.line.now c.split_word.result.0.now c.split_word.result.1.now c.in-Some.bus c.read_addressed.result
    (c.split_word.ensures.word ∙ ap word c.uncommented.ensures) (c.split_word.ensures.behind ∙ ap behind_word c.uncommented.ensures) some
    c.in-Some.ensures c.read_addressed.ensures)

pub returns-else-is_addressed : goal.returns-else-is_addressed
returns-else-is_addressed c =
    let some : c.split_word.result.0.now ≢ [] = search rules in
    subst (λ a. IfOk c.read_packet.result (λ r. Says a c.args.plan.now c.args.node c.args.line.now (said_value r))) (sym c.if-is_addressed.false)
    (says_all false c.args.plan.now c.args.node c.args.line.now c.split_word.result.0.now c.split_word.result.1.now c.in-Some.bus c.read_packet.result
    (c.split_word.ensures.word ∙ ap word c.uncommented.ensures) (c.split_word.ensures.behind ∙ ap behind_word c.uncommented.ensures) some
    c.in-Some.ensures c.read_packet.ensures)
