use Rattle.std.{proofs.Common.{◌≡◌, ◌+◌, List, length, option_map, Some, refl, sym, ap, subst}, specs.Prelude.{slice_get}, proofs.lemmas.Option.{slice_get_read}}
use Rattle.plan_values.specs.declared.nodes.Node.{Node}
use Rattle.net_rules.{specs.declared.holders.Holder.{Holder}, specs.Following.{EndedBy}, specs.Holders.{AreFirstHolders}, proofs.HolderLaws.{StandsAt, had, added}}
use Rattle.net_tables.specs.Routing.{Holds}
use Rattle.net_rules.proofs.holders.add_holder.Goals as goal

pub returns-then-stands_at : goal.returns-then-stands_at
returns-then-stands_at c =
    let plan = c.args.plan.now in
    let old = c.args.holders.now.items in
    let n = c.args.node in
    let node = c.index.result.now in
    let e = node.eid.value in
    let at = c.index_from-index.result in
    let there : slice_get plan.nodes.items n ≡ Some node = slice_get_read plan.nodes.items (length plan.nodes.items) n node refl c.requires.within c.index.ensures in
    let here : Holds plan n e = ap (λ o. option_map (λ (x : Node). x.eid.value) o) there in
    let E : List Holder → Type 0 = λ hs. EndedBy (λ (h : Holder). h.eid.value + 1) hs e at in
    let by = subst E c.as_slice.ensures.value c.index_from-index.ensures in
    let S : List Holder → Type 0 = λ hs. StandsAt hs at e in
    had plan n old c.requires.before e at by here (subst S c.as_slice-2.ensures.value (c.if-stands_at.ensures.0 refl))

pub returns : goal.returns
returns c =
    let plan = c.args.plan.now in
    let old = c.args.holders.now.items in
    let n = c.args.node in
    let node = c.index.result.now in
    let e = node.eid.value in
    let at = c.index_from-index.result in
    let there : slice_get plan.nodes.items n ≡ Some node = slice_get_read plan.nodes.items (length plan.nodes.items) n node refl c.requires.within c.index.ensures in
    let here : Holds plan n e = ap (λ o. option_map (λ (x : Node). x.eid.value) o) there in
    let E : List Holder → Type 0 = λ hs. EndedBy (λ (h : Holder). h.eid.value + 1) hs e at in
    let by = subst E c.as_slice.ensures.value c.index_from-index.ensures in
    let S : List Holder → Type 0 = λ hs. StandsAt hs at e in
    let not : ¬ StandsAt old at e = λ h. let t = c.if-stands_at.ensures.1 (subst S (sym c.as_slice-2.ensures.value) h) in cc in
    let one : Holder = record { eid = node.eid; node = n } in
    let A : List Holder → Type 0 = AreFirstHolders plan (n + 1) in
    subst A (sym c.in_ok-insert.ensures.items) (added plan n old c.requires.before e at by here not one refl refl)
