use Rattle.std.{proofs.Common.{◌≡◌, ℕ, ◌≤◌, ◌<◌, [], ◌∷◌, length, refl, sym, subst, arith, inl, inr}, proofs.lemmas.Bool.{cases_lt}, proofs.lemmas.Option.{same_Some, none-some, slice_get_past}}
use Rattle.plan_values.specs.declared.plan.Plan.{Plan}
use Rattle.net_tables.{specs.Routing.{Holds}, specs.Repositories.{records_of}}
use Rattle.net_rules.specs.Locators.{IsEidLocator, IsHeldByTerminus, LocatesTerminus}
use Rattle.net_explained.proofs.Items.{of_item, not_of_item}
use Rattle.plan_values.specs.declared.terminus.PlannedRecord as listed
use Rattle.net_explained.proofs.causes.locators.misleading.Goals as goal

no_holder : (plan : Plan) (n e : ℕ) → length plan.nodes.items ≤ n → ¬ Holds plan n e
no_holder plan n e past = rw (slice_get_past plan.nodes.items n past) (λ is. cc)

nobody : (plan : Plan) (e count : ℕ) → length plan.nodes.items ≤ count → ((k : ℕ) → k < count → ¬ Holds plan k e) → (m : ℕ) → ¬ Holds plan m e
nobody plan e count end none m holds = elim (cases_lt m (length plan.nodes.items)) [
  | inl within ↦ none m (omega (arith, end, within)) holds
  | inr past ↦ no_holder plan m e past holds
]

held : (plan : Plan) (r : listed.PlannedRecord) (tid e : ℕ) → ((t : ℕ) → IsEidLocator r.bytes.items t (e ∷ []) → tid ≡ t) → IsHeldByTerminus plan tid e → LocatesTerminus plan r e
unfolding LocatesTerminus
held plan r tid e one there t is = subst (λ (k : ℕ). IsHeldByTerminus plan k e) (one t is) there

not_held : (plan : Plan) (r : listed.PlannedRecord) (tid e : ℕ) → IsEidLocator r.bytes.items tid (e ∷ []) → ¬ IsHeldByTerminus plan tid e → ¬ LocatesTerminus plan r e
unfolding LocatesTerminus
not_held plan r tid e is none located = none (located tid is)

no_locator : (plan : Plan) (r : listed.PlannedRecord) (e : ℕ) → ((t : ℕ) → ¬ IsEidLocator r.bytes.items t (e ∷ [])) → LocatesTerminus plan r e
unfolding LocatesTerminus
no_locator plan r e none t is = absurd (none t is)

pub returns-in_err-tid : goal.returns-in_err-tid
returns-in_err-tid c =
    let plan = c.args.plan.now in
    let e = c.args.eid.value in
    let r = c.in_ok-listed.listed.now in
    rw c.from_residual-in_err-tid.ensures
    (of_item (records_of plan c.args.node) c.args.index (λ (r : listed.PlannedRecord). LocatesTerminus plan r e) r c.in_ok-listed.ensures
    (no_locator plan r e (λ t is. none-some t ((c.in_err-tid.ensures t).0 is))))

pub returns-then-is_held_with_tid : goal.returns-then-is_held_with_tid
returns-then-is_held_with_tid c =
    let plan = c.args.plan.now in
    let e = c.args.eid.value in
    let r = c.in_ok-listed.listed.now in
    of_item (records_of plan c.args.node) c.args.index (λ (r : listed.PlannedRecord). LocatesTerminus plan r e) r c.in_ok-listed.ensures
    (held plan r c.in_ok-tid.tid e (λ t is. same_Some c.in_ok-tid.tid t ((c.in_ok-tid.ensures t).0 is)) (c.is_held_with_tid.ensures.0 c.if-is_held_with_tid.true))

pub returns-in-Some : goal.returns-in-Some
returns-in-Some c =
    let plan = c.args.plan.now in
    let e = c.args.eid.value in
    let r = c.in_ok-listed.listed.now in
    let tid = c.in_ok-tid.tid in
    let is = (c.in_ok-tid.ensures tid).1 refl in
    let none : ¬ IsHeldByTerminus plan tid e = λ held. cc (c.is_held_with_tid.ensures.1 held, c.if-is_held_with_tid.false) in (
      (refl, ((r, sym c.in_ok-listed.ensures, is), c.in-Some.ensures.1, none)),
      not_of_item (records_of plan c.args.node) c.args.index (λ (r : listed.PlannedRecord). LocatesTerminus plan r e) r c.in_ok-listed.ensures (not_held plan r tid e is none),
    )

pub returns-in-None : goal.returns-in-None
returns-in-None c =
    let plan = c.args.plan.now in
    let e = c.args.eid.value in
    let r = c.in_ok-listed.listed.now in
    let tid = c.in_ok-tid.tid in
    let is = (c.in_ok-tid.ensures tid).1 refl in
    let none : ¬ IsHeldByTerminus plan tid e = λ held. cc (c.is_held_with_tid.ensures.1 held, c.if-is_held_with_tid.false) in (
      (refl, ((r, sym c.in_ok-listed.ensures, is), nobody plan e c.len.result (omega arith) c.in-None.ensures)),
      not_of_item (records_of plan c.args.node) c.args.index (λ (r : listed.PlannedRecord). LocatesTerminus plan r e) r c.in_ok-listed.ensures (not_held plan r tid e is none),
    )
