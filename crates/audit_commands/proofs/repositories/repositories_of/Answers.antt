use Rattle.std.{proofs.Common.{List, ◌∷◌, [], sym, subst, ap, ◌∙◌}, proofs.lemmas.List.{map-append}}
use Rattle.plan_values.{specs.declared.certificate.Certificate.{Certificate}, specs.declared.plan.Plan.{Plan}}
use Rattle.net_tables.specs.Repositories.{records_by_place}
use Rattle.pdr_repository.specs.Records.{Entry, entries}
use Rattle.audited_captures.{specs.Audits.{AreRepositories}, specs.Repositories.{repository_values}}
use Rattle.audit_commands.proofs.Stored.{none_stored, more_stored}
use Rattle.audit_commands.proofs.repositories.repositories_of.Goals as goal

pub loop-node-init : goal.loop-node-init
loop-node-init c =
    subst (λ (rs : List (List Entry)). AreRepositories c.args.checked.now.0 c.args.checked.now.1 0 rs) (sym (ap repository_values c.new-repositories.ensures.items)) (none_stored c.args.checked.now.0 c.args.checked.now.1)

pub loop-node-preserved : goal.loop-node-preserved
loop-node-preserved c =
    let plan = c.args.checked.now.0 in
    let cert = c.args.checked.now.1 in
    let old = c.loop-node.repositories.items in
    let made = c.in_ok-records_by_place.field-0 in
    more_stored plan cert c.loop-node.node (repository_values old) _ (entries made.items) c.loop-node.invariant
    (c.in_ok-records_by_place.ensures ∙ ap (λ (p : Plan). records_by_place p c.certificate.result.now c.loop-node.node) c.plan-plan.ensures.plan
    ∙ ap (λ (x : Certificate). records_by_place plan x c.loop-node.node) c.certificate.ensures.certificate)
    (ap repository_values c.in_ok-push.ensures.items ∙ map-append (λ records. entries records.items) old (made ∷ []))
