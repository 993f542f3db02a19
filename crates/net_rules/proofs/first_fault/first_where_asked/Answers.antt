use Rattle.std.proofs.Common.{sym, ◌∙◌}
use Rattle.net_rules.{specs.Rules.{Demands}, specs.Asked.{DemandsAsked}, specs.MoveSearch.{IsFirstByRule}, proofs.MoveSearches.{found_asked, if_ok}}
use Rattle.net_rules.proofs.first_fault.first_where_asked.Goals as goal

pub returns-then-asks : goal.returns-then-asks
returns-then-asks c =
    let plan = c.args.plan.now in
    let cert = c.args.certificate.now in
    let rule = c.args.rule in
    if_ok c.first_of_rule.result (IsFirstByRule (Demands plan cert) rule) (IsFirstByRule (DemandsAsked c.args.asked plan cert) rule) (λ found. found_asked plan cert c.args.asked rule found (sym c.asks.ensures ∙ c.if-asks.true)) c.first_of_rule.ensures
