use Rattle.net_plan.proofs.Gathered.{text_next}
use Rattle.net_plan.proofs.next_value.next_text.Goals as goal

pub returns : goal.returns
returns c =
    text_next c.args.reader.now c.next_string.new.self c.in_ok-text.text.now c.in_ok-text.ensures
