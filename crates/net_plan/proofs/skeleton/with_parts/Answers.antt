use Rattle.std.{proofs.Common.{◌≡◌, ◌+◌, ◌++◌, length, arith, [], ◌∷◌, map, sym, ap, ◌∙◌, append-nil, rules}, proofs.lemmas.List.{nil_from_length}, specs.Vec.Iter.{into_iter_items, into_iter_len}}
use Rattle.plan_values.specs.NodeValues.{node_value}
use Rattle.net_plan.{specs.Skeleton.{placed_value, with_parts}, proofs.StandIns.{node_moved}}
use Rattle.net_plan.proofs.skeleton.with_parts.Goals as goal

pub nodes-preserved : goal.nodes-preserved
nodes-preserved c =
    let l = c.nodes in
    let node = c.in-Some.node in
    let part = c.in_ok-part.part in
    let full = c.in_ok-node.node in
    let left = into_iter_items c.next.new.self in
    let parts = into_iter_items c.next-in-Some.new.self in
    let step : into_iter_items l.rest ≡ node ∷ left = search rules in
    let fewer : into_iter_len c.next.new.self + 1 ≡ into_iter_len l.rest = c.in-Some.ensures.cases.1 in
    let count = ap length step in
    let before = l.invariant.1 in
    let counted : into_iter_len c.next.new.self ≡ length left = omega arith in
    let other : into_iter_items l.parts ≡ part ∷ parts = search rules in
    let pushed : c.push.new.self.items ≡ l.filled.items ++ full ∷ [] = search rules in (
      l.invariant.0 ∙ ap (λ ns. map node_value l.filled.items ++ with_parts (map node_value ns) (map placed_value (into_iter_items l.parts))) step
          ∙ ap (λ ps. map node_value l.filled.items ++ with_parts (map node_value (node ∷ left)) (map placed_value ps)) other
          ∙ node_moved l.filled.items node full part left parts c.in_ok-node.ensures
          ∙ ap (λ ns. map node_value ns ++ with_parts (map node_value left) (map placed_value parts)) (sym pushed),
      counted,
    )

pub returns : goal.returns
returns c =
    let l = c.nodes in
    let over : into_iter_len l.rest ≡ 0 = c.in_default.ensures.cases.0 in
    let none : into_iter_items l.rest ≡ [] = nil_from_length (into_iter_items l.rest) (sym l.invariant.1 ∙ over) in
    let first : into_iter_items c.into_iter-rest.result ≡ c.args.nodes.items = search rules in
    let second : into_iter_items c.into_iter-parts.result ≡ c.args.parts.items = search rules in
    sym (append-nil (map node_value l.filled.items)) ∙ ap (λ ns. map node_value l.filled.items ++ with_parts (map node_value ns) (map placed_value (into_iter_items l.parts))) (sym none) ∙ sym l.invariant.0
    ∙ ap (λ ns. with_parts (map node_value ns) (map placed_value (into_iter_items c.into_iter-parts.result))) first ∙ ap (λ ps. with_parts (map node_value c.args.nodes.items) (map placed_value ps)) second
