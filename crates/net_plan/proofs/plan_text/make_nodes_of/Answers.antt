use Rattle.std.proofs.Common.{rules, ◌≡◌, length, nat_le, true, false, map, codes, sym, ap, ◌∙◌, subst, IfOk}
use Rattle.serde_json.specs.Data.{array}
use Rattle.net_plan.{specs.Trees.{view, items_view}, proofs.Trees.{view-Array}, specs.Made.{node_made}, specs.Names.{index_among, text_at, texts_at}, specs.NameIndexes.{find_in}, proofs.BusNames.{bus_names_of, texts_of, nodes_found}, proofs.Items.{few_made, many_made}}
use Rattle.plan_values.specs.PlanValues.{bus_value, bus_names, node_value}
use Rattle.net_plan.proofs.plan_text.make_nodes_of.Goals as goal

pub returns-then-len-gt-MOST_NODES-clause-made : goal.returns-then-len-gt-MOST_NODES-clause-made
returns-then-len-gt-MOST_NODES-clause-made c =
    let items = c.in-Array.items.items in
    let d = view c.args.value.now in
    let seen : d ≡ array (items_view items) = ap view c.in-Array.is ∙ view-Array c.in-Array.items in
    ap (map node_value) c.new-then-len-gt-MOST_NODES.ensures.items ∙ many_made 64 (node_made (index_among (bus_names (map bus_value c.args.buses.now))) (index_among (texts_at (codes "name") d))) items d seen (search rules)

pub returns-clause-made : goal.returns-clause-made
returns-clause-made c =
    let d = view c.args.value.now in
    let slice = c.as_slice-items.result.now in
    let seen : d ≡ array (items_view slice) = ap view c.in-Array.is ∙ view-Array c.in-Array.items ∙ ap (λ vs. array (items_view vs)) (sym c.as_slice-items.ensures.value) in
    let few : nat_le (length c.in-Array.items.items) 64 ≡ true = search rules in
    let names : map (λ v. text_at (codes "name") (view v)) slice ≡ texts_at (codes "name") d = texts_of (codes "name") slice ∙ ap (texts_at (codes "name")) (sym seen) in
    let is = few_made 64 (node_made (find_in c.in_ok-of.field-0) (find_in c.in_ok-of-2.field-0)) slice d seen (ap (λ vs. nat_le (length vs) 64) c.as_slice-items.ensures.value ∙ few) in
    let found = nodes_found (bus_names (map bus_value c.args.buses.now)) (texts_at (codes "name") d) (find_in c.in_ok-of.field-0) (find_in c.in_ok-of-2.field-0) d
    (λ q. c.in_ok-of.ensures.found q ∙ ap (λ ns. index_among ns q) (bus_names_of c.args.buses.now))
    (λ q. c.in_ok-of-2.ensures.found q ∙ ap (λ ns. index_among ns q) names) in
    subst (λ xs. IfOk c.make_each.result (λ v. map node_value v.items ≡ xs)) (is ∙ found) c.make_each.ensures.made
