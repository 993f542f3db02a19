use Rattle.net_rules.{specs.declared.asked.Asked.TheVariants.{Alone}, specs.Asked.{DemandsAsked}, specs.Search.{IsFirstOfAll}, specs.MoveSearch.{IsFirstByRules}, proofs.MoveSearches.{of_all, if_ok}}
use Rattle.net_rules.proofs.first_fault.first_of_all.Goals as goal

pub returns : goal.returns
returns c =
    let plan = c.args.plan.now in
    let cert = c.args.certificate.now in
    if_ok c.first_of_asked.result (IsFirstByRules (DemandsAsked Alone plan cert)) (IsFirstOfAll plan cert) (of_all plan cert) c.first_of_asked.ensures
