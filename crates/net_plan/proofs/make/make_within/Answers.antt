use Rattle.std.proofs.Common.{rules, ◌≡◌, length, nat_le, true, false, map, sym, ap, ◌∙◌, subst, IfOk}
use Rattle.serde_json.specs.Data.{array}
use Rattle.net_plan.{specs.Trees.{view, items_view}, proofs.Trees.{view-Array}, proofs.Items.{few_made, many_made}}
use Rattle.net_plan.proofs.make.make_within.Goals as goal

pub returns-then-len-most-clause-made : goal.returns-then-len-most-clause-made
returns-then-len-most-clause-made g c =
    let items = c.in-Array.items.items in
    let seen : view c.args.value.now ≡ array (items_view items) = ap view c.in-Array.is ∙ view-Array c.in-Array.items in
    ap (map g.M.Make.meaning) c.new-then-len-most.ensures.items ∙ many_made c.args.most (g.M.Make.made c.args.maker.now) items (view c.args.value.now) seen (search rules)

pub returns-clause-made : goal.returns-clause-made
returns-clause-made g c =
    let slice = c.as_slice.result.now in
    let seen : view c.args.value.now ≡ array (items_view slice) = ap view c.in-Array.is ∙ view-Array c.in-Array.items ∙ ap (λ vs. array (items_view vs)) (sym c.as_slice.ensures.value) in
    let few : nat_le (length c.in-Array.items.items) c.args.most ≡ true = search rules in
    subst (λ xs. IfOk c.make_each.result (λ v. map g.M.Make.meaning v.items ≡ xs)) (few_made c.args.most (g.M.Make.made c.args.maker.now) slice (view c.args.value.now) seen (ap (λ vs. nat_le (length vs) c.args.most) c.as_slice.ensures.value ∙ few)) c.make_each.ensures.made
