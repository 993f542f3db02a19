use Rattle.std.{proofs.Common.{◌≡◌, ◌==◌, take, false, sym, ap, ◌∙◌, rules, arith}, specs.List.{list_any}}
use Rattle.net_plan.proofs.PlainCertificate.{apart_more}
use Rattle.net_plan.proofs.one_each.nodes_differ.Goals as goal

pub loop-index-init : goal.loop-index-init
loop-index-init g c = λ i j d below within same. absurd (omega arith)

pub loop-index-preserved : goal.loop-index-preserved
loop-index-preserved g c =
    let f = g.E.Entry.node_of in
    let xs = c.args.entries.now in
    let n = c.loop-index.index in
    let x = c.index-entries-index.result in
    let none : list_any (λ e. f e == f x) (take n xs) ≡ false = ap (λ node. list_any (λ e. f e == node) (take n xs)) (sym c.node.ensures) ∙ sym c.has_entry.ensures ∙ c.if-has_entry.false in
    apart_more f xs n x (search rules) c.index-entries-index.is none c.loop-index.invariant

pub returns : goal.returns
returns g c = λ holds i j d below within. c.loop-index.invariant i j d below (omega arith)
