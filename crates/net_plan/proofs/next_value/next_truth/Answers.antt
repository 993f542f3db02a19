use Rattle.net_plan.proofs.Gathered.{truth_next}
use Rattle.net_plan.proofs.next_value.next_truth.Goals as goal

pub returns : goal.returns
returns c =
    truth_next c.args.reader.now c.next_truth.new.self c.in_ok-truth.truth c.in_ok-truth.ensures
