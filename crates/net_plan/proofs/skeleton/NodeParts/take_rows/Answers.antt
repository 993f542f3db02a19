use Rattle.std.proofs.Common.{◌≡◌, [], false, is_some, Some, codes, map, option_map, inl, inr, refl, sym, ap, ◌∙◌, subst, rules}
use Rattle.json.{specs.Json.{array, no_items}, specs.Value.{value_view, items_view, members_view}, specs.declared.value.Value.{Array}, proofs.Trees.{view-Array}}
use Rattle.net_plan.{specs.Gathered.{with_last}, specs.RowParts.{IsNamedRowOf, named_row}, specs.Skeleton.{AreStandIns, IsCutTerminus, IsCutRows}, proofs.Gathered.{list_of}, proofs.StandIns.{stand_ins_last, stand_ins_map, no_rows_yet, other_key}}
use Rattle.plan_values.specs.NodeValues.{terminus_value}
use Rattle.net_plan.proofs.skeleton.NodeParts.take_rows.Goals as goal

pub returns : goal.returns
returns c =
    let cut = codes "terminus" in
    let rows = codes "rows" in
    let old = c.args.self.now in
    let v = c.in_ok-rows.rows in
    let rs = map named_row v.items in
    let R = IsCutTerminus (option_map (λ t. option_map terminus_value t) old.terminus) in
    let Q = IsCutRows (option_map (λ v. map named_row v.items) old.rows) in
    let S = IsCutRows (Some rs) in
    let took = c.in_ok-rows.ensures.read in
    let j = took.0 in
    let listed = list_of IsNamedRowOf named_row 256 j v.items took.2 (search rules) in
    let l = value_view (Array c.new-none.result) in
    let empty : c.new-none.result.items ≡ [] = search rules in
    let is : l ≡ array no_items = view-Array c.new-none.result ∙ ap (λ vs. array (items_view vs)) empty in
    let ls = members_view old.found.items in
    let none : is_some old.rows ≡ false = search rules in (
      j,
      took.1,
      λ ms h. (
        with_last h.0 rows j,
        stand_ins_last cut R ms h.0 rows j j h.1 (inr (other_key rows cut refl, refl)),
        subst (AreStandIns rows S (with_last h.0 rows j)) (sym c.in_ok-note.ensures)
            (stand_ins_last rows S h.0 ls rows j l (stand_ins_map rows Q S (no_rows_yet old.rows (Some rs) none) h.0 ls h.2) (inl (refl, (listed.0, listed.1, is)))),
      ),
    )
