use Rattle.std.proofs.Common.{ℕ, ◌≡◌, ◌≢◌, length, Option, Some, None, refl, ◌∙◌, ap, arith, below_more}
use Rattle.plan_values.specs.declared.plan.Plan.{Plan}
use Rattle.net_tables.{specs.Routing.{Holds}, proofs.Elements.{holder_within}}
use Rattle.net_sim.proofs.traffic.Traffic.no_terminus_holds.Goals as goal

none_of : {A : Type 0} (o : Option A) → ¬ (o ≢ None) → o ≡ None
none_of None never = refl
none_of (Some x) never = absurd (never (λ e. cc))

pub returns-then-is_terminus_of : goal.returns-then-is_terminus_of
returns-then-is_terminus_of g c = λ w s. (
  λ told. absurd (cc told),
  λ none. (let there = (c.is_terminus_of.ensures w s).0 c.if-is_terminus_of.true in absurd (there.1 (none c.loop-node.node there.0))),
)

pub loop-node-init : goal.loop-node-init
loop-node-init g c = λ w s n below holds. absurd (omega (arith, below))

pub loop-node-preserved : goal.loop-node-preserved
loop-node-preserved g c = λ w s.
    let IsNone : ℕ → Type 0 = λ n. Holds c.args.self.now.router.tables.plan n c.args.eid.value → w.terminus n ≡ None in
    below_more IsNone c.loop-node.node (c.loop-node.invariant w s) (λ holds. none_of (w.terminus c.loop-node.node) (λ some.
    let told = (c.is_terminus_of.ensures w s).1 (holds, some) in
    cc (told, c.if-is_terminus_of.false)))

pub returns : goal.returns
returns g c = λ w s.
    let now = c.args.self.now in
    let many : c.len-node-end.result ≡ length now.router.tables.plan.nodes.items =
    c.len-node-end.ensures ∙ (c.plan.result.now.nodes.ok.0 ∙ ap (λ (p : Plan). length p.nodes.items) c.plan.ensures.plan) in (
      λ told n holds. c.loop-node.invariant w s n (omega (arith, holder_within now.router.tables.plan n c.args.eid.value holds, many, c.loop-node-test.false)) holds,
      λ none. refl,
    )
