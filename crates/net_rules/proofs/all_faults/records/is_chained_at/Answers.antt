use Rattle.std.{proofs.Common.{◌≡◌, ◌+◌, ◌⊎◌, length, map, refl, sym, subst, arith}, specs.Prelude.{IsTrue, ◌↔◌}}
use Rattle.net_tables.specs.Repositories.{IsHandleAt}
use Rattle.net_rules.proofs.EntryLaws.{of_read}
use Rattle.plan_values.specs.declared.terminus.PlannedRecord as listed
use Rattle.net_rules.proofs.all_faults.records.is_chained_at.Goals as goal

pub returns-then-has_own_place : goal.returns-then-has_own_place
returns-then-has_own_place c =
    let records = c.args.records.now in
    let place = c.args.place in
    let own = c.has_own_place.ensures.0 c.if-has_own_place.true in
    let Q : listed.PlannedRecord → Type 0 = λ r. IsTrue c.leads_on.result ↔ (IsHandleAt records (map (λ p. p.value) c.args.places.now) (place + 1) r.next ⊎ ((place + 1 ≡ length records) × (r.next ≡ 0))) in
    let read = of_read records records c.args.index c.index-records-index.result
    (λ _ (r : listed.PlannedRecord). IsHandleAt records (map (λ p. p.value) c.args.places.now) (place + 1) r.next ⊎ ((place + 1 ≡ length records) × (r.next ≡ 0)))
    refl (omega arith) c.index-records-index.is in
    let leads = subst Q (sym c.index-records-index.is) c.leads_on.ensures in
    (λ yes. (own.0, own.1, read.0 (leads.0 yes)), λ h. leads.1 (read.1 h.2))

pub returns-else-has_own_place : goal.returns-else-has_own_place
returns-else-has_own_place c = (λ yes. absurd (cc (yes, c.if-has_own_place.false)), λ h. c.has_own_place.ensures.1 (h.0, h.1))
