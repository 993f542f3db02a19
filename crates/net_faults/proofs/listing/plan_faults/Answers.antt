use Rattle.std.proofs.Common.{◌≡◌, List, [], subst}
use Rattle.net_faults.{specs.declared.plan_fault.PlanFault.{PlanFault}, specs.PlanFaults.{HasCertificate}, proofs.NothingLeft.{none_listed}}
use Rattle.net_faults.proofs.listing.plan_faults.Goals as goal

pub returns-clause-exact : goal.returns-clause-exact
returns-clause-exact c =
    let plan = c.args.plan.now in
    let found = c.in_ok-found.found.items in
    let some = subst (λ (xs : List PlanFault). xs ≡ [] → HasCertificate plan) c.deref.ensures.value c.in_ok-see_where_empty.ensures in
    (some, λ has. none_listed plan has.0 has.1 found c.in_ok-found.ensures)
