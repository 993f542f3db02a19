use Rattle.std.proofs.Common.{codes, map, option_map, inr, refl, sym, subst}
use Rattle.json.specs.Value.{value_view, members_view}
use Rattle.net_plan.{specs.Gathered.{with_last}, specs.RowParts.{named_row}, specs.Skeleton.{AreStandIns, IsCutTerminus, IsCutRows}, proofs.Gathered.{if_some}, proofs.StandIns.{stand_ins_last, other_key}}
use Rattle.plan_values.specs.NodeValues.{terminus_value}
use Rattle.net_plan.proofs.skeleton.NodeParts.take_other.Goals as goal

pub returns : goal.returns
returns c =
    let old = c.args.self.now in
    let R = IsCutTerminus (option_map (λ t. option_map terminus_value t) old.terminus) in
    let S = IsCutRows (option_map (λ v. map named_row v.items) old.rows) in
    let k = c.args.key.now in
    let j = value_view c.in_ok-value.value in
    let ls = members_view old.found.items in
    let one = other_key k (codes "terminus") c.requires.terminus in
    let two = other_key k (codes "rows") c.requires.rows in
    if_some c.note.result (λ u noted. (
      j,
      c.in_ok-value.ensures,
      λ ms h. (
        with_last h.0 k j,
        stand_ins_last (codes "terminus") R ms h.0 k j j h.1 (inr (one, refl)),
        subst (AreStandIns (codes "rows") S (with_last h.0 k j)) (sym noted) (stand_ins_last (codes "rows") S h.0 ls k j j h.2 (inr (two, refl))),
      ),
    )) c.note.ensures
