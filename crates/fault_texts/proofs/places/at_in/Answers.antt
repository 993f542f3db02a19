use Rattle.std.proofs.Common.{rules, map}
use Rattle.json.specs.Value.{value_view}
use Rattle.net_plan.specs.Finding.{step_value}
use Rattle.fault_texts.proofs.AtTold.{at_told}
use Rattle.fault_texts.proofs.places.at_in.Goals as goal

pub returns : goal.returns
returns c =
    let told = at_told c.args.name.now c.args.index.now (map step_value c.args.pointer.now) (value_view c.args.tree.now) c.in_ok-spot.spot c.requires.1 c.in_ok-spot.ensures in
    search (rules, told, c.spot_words.ensures)
