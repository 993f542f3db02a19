use Rattle.std.proofs.Common.{◌∙◌, ap}
use Rattle.net_tables.specs.Names.{address_on}
use Rattle.question_texts.proofs.ways.address_of_step.Goals as goal

pub returns : goal.returns
returns c =
    let address = c.address_on-address.ensures ∙ ap (address_on c.args.plan.now c.args.step.now.hop.next) c.bus_of_step.ensures in
    rw address at c.address_text.ensures
