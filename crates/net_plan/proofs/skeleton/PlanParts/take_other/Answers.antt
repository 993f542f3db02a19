use Rattle.std.proofs.Common.{codes, map, option_map, inr, refl, sym, subst}
use Rattle.json.specs.Value.{value_view, members_view}
use Rattle.net_plan.{specs.Gathered.{with_last}, specs.Skeleton.{AreStandIns, IsCutNodes, cut_value}, proofs.Gathered.{if_some}, proofs.StandIns.{stand_ins_last, other_key}}
use Rattle.net_plan.proofs.skeleton.PlanParts.take_other.Goals as goal

pub returns : goal.returns
returns c =
    let cut = codes "nodes" in
    let R = IsCutNodes (option_map (λ v. map cut_value v.items) c.args.self.now.parts) in
    let k = c.args.key.now in
    let j = value_view c.in_ok-value.value in
    let ls = members_view c.args.self.now.found.items in
    if_some c.note.result (λ u noted. (j, c.in_ok-value.ensures, λ ms h. subst (AreStandIns cut R (with_last ms k j)) (sym noted) (stand_ins_last cut R ms ls k j j h (inr (other_key k cut c.requires, refl))))) c.note.ensures
