use Rattle.std.proofs.Common.{ℕ, List, subst}
use Rattle.net_tables.specs.Repositories.{records_of, places_of, IsChained}
use Rattle.net_rules.{specs.Search.{IsFirstItem}, proofs.RecordSpots.{record_spot}}
use Rattle.net_rules.proofs.rules.chains.unchained_record.Goals as goal

pub returns : goal.returns
returns c =
    let records = records_of c.args.plan.now c.args.node in
    let searched = c.records_at.result.now in
    let F : List ℕ → Type 0 = λ places. IsFirstItem searched (IsChained searched places) c.in_ok-found.found in
    record_spot records searched (λ rs. IsChained rs (places_of c.args.certificate.now c.args.node)) c.in_ok-found.found c.at_found.result c.records_at.ensures
    (subst F c.places_at-places.ensures c.in_ok-found.ensures) c.at_found.ensures
