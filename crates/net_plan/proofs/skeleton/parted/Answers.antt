use Rattle.std.{proofs.Common.{◌≡◌, ◌+◌, ◌++◌, length, arith, [], ◌∷◌, map, sym, ap, ◌∙◌, append-nil, rules}, proofs.lemmas.List.{nil_from_length}, specs.Vec.Iter.{into_iter_items, into_iter_len}}
use Rattle.net_plan.proofs.StandIns.{item_moved}
use Rattle.net_plan.proofs.skeleton.parted.Goals as goal

pub nodes-preserved : goal.nodes-preserved
nodes-preserved c =
    let l = c.nodes in
    let node = c.in-Some.node in
    let all = into_iter_items c.into_iter-rest.result in
    let left = into_iter_items c.next.new.self in
    let step : into_iter_items l.rest ≡ node ∷ left = search rules in
    let fewer : into_iter_len c.next.new.self + 1 ≡ into_iter_len l.rest = c.in-Some.ensures.cases.1 in
    let count = ap length step in
    let before = l.invariant.2 in
    let counted : into_iter_len c.next.new.self ≡ length left = omega arith in
    let valued : c.push.new.self.items ≡ l.values.items ++ node.value ∷ [] = search rules in
    let ended : c.push-else-is_err.new.self.items ≡ l.list.items ++ node.parts ∷ [] = search rules in (
      item_moved (λ s. s.value) (map (λ s. s.value) all) l.values.items node left (l.invariant.0 ∙ ap (λ ns. l.values.items ++ map (λ s. s.value) ns) step) ∙ ap (λ vs. vs ++ map (λ s. s.value) left) (sym valued),
      item_moved (λ s. s.parts) (map (λ s. s.parts) all) l.list.items node left (l.invariant.1 ∙ ap (λ ns. l.list.items ++ map (λ s. s.parts) ns) step) ∙ ap (λ ts. ts ++ map (λ s. s.parts) left) (sym ended),
      counted,
    )

pub returns : goal.returns
returns c =
    let l = c.nodes in
    let over : into_iter_len l.rest ≡ 0 = c.in_default.ensures.cases.0 in
    let none : into_iter_items l.rest ≡ [] = nil_from_length (into_iter_items l.rest) (sym l.invariant.2 ∙ over) in
    let first : into_iter_items c.into_iter-rest.result ≡ c.args.nodes.items = search rules in (
      sym (append-nil l.values.items) ∙ ap (λ ns. l.values.items ++ map (λ s. s.value) ns) (sym none) ∙ sym l.invariant.0 ∙ ap (map (λ s. s.value)) first,
      sym (append-nil l.list.items) ∙ ap (λ ns. l.list.items ++ map (λ s. s.parts) ns) (sym none) ∙ sym l.invariant.1 ∙ ap (map (λ s. s.parts)) first,
    )
