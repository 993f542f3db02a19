use Rattle.std.proofs.Common.{◌≡◌, false, Some, codes, map, option_map, inl, refl, sym, subst, ap, ◌∙◌, rules}
use Rattle.json.{specs.Json.{array}, specs.Value.{members_view, items_view, value_view}, specs.declared.value.Value.{Array}, proofs.Trees.{view-Array}}
use Rattle.net_plan.{specs.Gathered.{with_last}, specs.Skeleton.{AreStandIns, IsCutNodes, cut_value}, proofs.StandIns.{stand_ins_last, stand_ins_map, no_nodes_yet, cut_parts}}
use Rattle.net_plan.proofs.skeleton.PlanParts.take_nodes.Goals as goal

pub returns : goal.returns
returns c =
    let cut = codes "nodes" in
    let old = c.args.self.now in
    let nodes = c.in_ok-nodes.nodes.items in
    let values = c.in_ok-values.values in
    let cs = map cut_value c.in_ok-values.parts.items in
    let R = IsCutNodes (option_map (λ v. map cut_value v.items) old.parts) in
    let S = IsCutNodes (Some cs) in
    let took = c.in_ok-nodes.ensures.read in
    let split = c.in_ok-values.ensures in
    let j = took.0 in
    let l = value_view (Array values) in
    let ls = members_view old.found.items in
    let listed : l ≡ array (items_view (map (λ s. s.value) nodes)) = view-Array values ∙ ap (λ vs. array (items_view vs)) split.0 in
    let ended : cs ≡ map (λ s. cut_value s.parts) nodes = ap (map cut_value) split.1 ∙ cut_parts nodes in (
      j,
      took.1,
      λ ms h. subst (AreStandIns cut S (with_last ms cut j)) (sym c.in_ok-note.ensures)
          (stand_ins_last cut S ms ls cut j l (stand_ins_map cut R S (no_nodes_yet old.parts (Some cs) (search rules)) ms ls h) (inl (refl, (nodes, took.2, listed, ended)))),
    )
