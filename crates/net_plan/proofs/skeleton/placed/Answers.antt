use Rattle.std.{proofs.Common.{◌≡◌, ◌+◌, ◌++◌, [], ◌∷◌, List, map, length, option_map, sym, ap, ◌∙◌, append-nil, arith, rules}, proofs.lemmas.List.{nil_from_length}, specs.Vec.Iter.{into_iter_items, into_iter_len}}
use Rattle.net_plan.{specs.NameIndexes.{find_in}, specs.declared.skeleton.CutParts.{CutParts}, specs.declared.skeleton.PlacedParts.{PlacedParts}, specs.RowParts.{named_row}, specs.declared.row_parts.NamedRow.{NamedRow}, specs.Skeleton.{PlacedValue, found_row, found_value, cut_value, placed_value}, proofs.StandIns.{made_moved, map_twice}}
use Rattle.plan_values.specs.NodeValues.{RowValue, terminus_value}
use Rattle.net_plan.proofs.skeleton.placed.Goals as goal

pub parts-preserved : goal.parts-preserved
parts-preserved c =
    let l = c.parts in
    let part = c.in-Some.part in
    let all = into_iter_items c.into_iter-rest.result in
    let left = into_iter_items c.next.new.self in
    let f : CutParts → PlacedValue = (λ p. found_value (find_in c.args.nodes.now) (cut_value p)) in
    let step : into_iter_items l.rest ≡ part ∷ left = search rules in
    let fewer : into_iter_len c.next.new.self + 1 ≡ into_iter_len l.rest = c.in-Some.ensures.cases.1 in
    let count = ap length step in
    let before = l.invariant.1 in
    let counted : into_iter_len c.next.new.self ≡ length left = omega arith in
    let seen : c.as_slice.result.now ≡ part.rows.items = search rules in
    let made : PlacedParts = record { rows = c.in_ok-rows.rows; terminus = part.terminus } in
    let same : placed_value made ≡ found_value (find_in c.args.nodes.now) (cut_value part) = ap (λ (rs : List RowValue). record { rows = rs; terminus = option_map terminus_value part.terminus }) (c.in_ok-rows.ensures ∙ ap (λ (rows : List NamedRow). map (found_row (find_in c.args.nodes.now)) (map named_row rows)) seen) in
    let pushed : c.push.new.self.items ≡ l.list.items ++ made ∷ [] = search rules in
    (made_moved f placed_value (map f all) l.list.items made part left (l.invariant.0 ∙ ap (λ xs. map placed_value l.list.items ++ map f xs) step) same ∙ ap (λ xs. map placed_value xs ++ map f left) (sym pushed), counted)

pub returns : goal.returns
returns c =
    let l = c.parts in
    let f : CutParts → PlacedValue = (λ p. found_value (find_in c.args.nodes.now) (cut_value p)) in
    let over : into_iter_len l.rest ≡ 0 = c.in_default.ensures.cases.0 in
    let none : into_iter_items l.rest ≡ [] = nil_from_length (into_iter_items l.rest) (sym l.invariant.1 ∙ over) in
    let first : into_iter_items c.into_iter-rest.result ≡ c.args.parts.items = search rules in
    sym (append-nil (map placed_value l.list.items)) ∙ ap (λ xs. map placed_value l.list.items ++ map f xs) (sym none) ∙ sym l.invariant.0 ∙ ap (map f) first ∙ sym (map_twice (found_value (find_in c.args.nodes.now)) cut_value c.args.parts.items)
