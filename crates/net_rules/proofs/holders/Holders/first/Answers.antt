use Rattle.std.{proofs.Common.{◌≡◌, List, length, get_or, Some, None, refl, sym, subst}, specs.Prelude.{slice_get}, proofs.lemmas.Option.{slice_get-get_or}}
use Rattle.plan_values.specs.declared.plan.Plan.{Plan}
use Rattle.net_rules.{specs.declared.holders.Holder.{Holder}, specs.Holders.{IsFirstHolder, AreFirstHolders}, proofs.HolderLaws.{stands_within, first_there, first_none}}
use Rattle.net_rules.proofs.holders.Holders.first.Goals as goal

pub bounds-holders-index : goal.bounds-holders-index
bounds-holders-index c = stands_within c.as_slice-holders.result.now c.index_from-index.result c.args.eid.value (c.if-stands_at.ensures.0 refl)

pub returns-then-stands_at : goal.returns-then-stands_at
returns-then-stands_at c =
    let plan = c.self.inside.plan.now in
    let holders = c.as_slice-holders.result.now in
    let e = c.args.eid.value in
    let at = c.index_from-index.result in
    let A : List Holder → Type 0 = AreFirstHolders plan (length plan.nodes.items) in
    let are = subst A (sym c.as_slice-holders.ensures.value) c.self.invariant in
    let stands = c.if-stands_at.ensures.0 refl in
    let h = get_or holders at c.index-holders-index.result in
    let here : slice_get holders at ≡ Some h = slice_get-get_or holders at c.index-holders-index.result (stands_within holders at e stands) in
    let P : Plan → Type 0 = λ p. IsFirstHolder p e (Some h.node) in
    subst P c.self.view_is (first_there plan holders are e at c.index_from-index.ensures stands h here)

pub returns-else-stands_at : goal.returns-else-stands_at
returns-else-stands_at c =
    let plan = c.self.inside.plan.now in
    let holders = c.as_slice-holders.result.now in
    let e = c.args.eid.value in
    let at = c.index_from-index.result in
    let A : List Holder → Type 0 = AreFirstHolders plan (length plan.nodes.items) in
    let are = subst A (sym c.as_slice-holders.ensures.value) c.self.invariant in
    let P : Plan → Type 0 = λ p. IsFirstHolder p e None in
    subst P c.self.view_is (first_none plan holders are e at c.index_from-index.ensures (λ h. let t = c.if-stands_at.ensures.1 h in cc))
