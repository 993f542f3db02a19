use Rattle.std.proofs.Common.{◌≡◌, false, is_some, Some, Global, codes, map, option_map, inl, inr, refl, sym, subst, rules}
use Rattle.json.{specs.Value.{value_view, members_view}, specs.declared.value.Value.{Null}}
use Rattle.net_plan.{specs.Gathered.{with_last}, specs.RowParts.{named_row}, specs.Skeleton.{AreStandIns, IsCutTerminus, IsCutRows}, proofs.StandIns.{stand_ins_last, stand_ins_map, no_terminus_yet, other_key, view-Null}}
use Rattle.plan_values.specs.NodeValues.{terminus_value}
use Rattle.net_plan.proofs.skeleton.NodeParts.take_terminus.Goals as goal

pub returns : goal.returns
returns c =
    let cut = codes "terminus" in
    let rows = codes "rows" in
    let old = c.args.self.now in
    let t = option_map terminus_value c.in_ok-terminus.terminus in
    let R = IsCutTerminus (option_map (λ t. option_map terminus_value t) old.terminus) in
    let S = IsCutTerminus (Some t) in
    let Q = IsCutRows (option_map (λ v. map named_row v.items) old.rows) in
    let took = c.in_ok-terminus.ensures in
    let j = took.0 in
    let l = value_view {A = Global} Null in
    let ls = members_view old.found.items in
    let none : is_some old.terminus ≡ false = search rules in (
      j,
      took.1,
      λ ms h. (
        with_last h.0 cut l,
        stand_ins_last cut S ms h.0 cut j l (stand_ins_map cut R S (no_terminus_yet old.terminus (Some t) none) ms h.0 h.1) (inl (refl, (took.2.0, took.2.1, view-Null))),
        subst (AreStandIns rows Q (with_last h.0 cut l)) (sym c.in_ok-note.ensures) (stand_ins_last rows Q h.0 ls cut l l h.2 (inr (other_key cut rows refl, refl))),
      ),
    )
