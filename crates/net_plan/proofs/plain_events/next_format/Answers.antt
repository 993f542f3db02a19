use Rattle.std.proofs.Common.{sym, subst}
use Rattle.net_plan.{specs.EventText.{IsFormat}, specs.Trees.{data_of}, proofs.EventLaw.{format_found}}
use Rattle.net_plan.proofs.plain_events.next_format.Goals as goal

pub returns : goal.returns
returns c =
    let took = c.in_ok-next_number_within.ensures.read in
    (took.0, took.1, (subst (IsFormat (data_of took.0)) (sym c.format_of.ensures) (format_found (data_of took.0) c.in_ok-next_number_within.field-0 took.2.0), took.2.1))
