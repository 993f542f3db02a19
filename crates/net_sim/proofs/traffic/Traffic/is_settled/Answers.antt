use Rattle.std.{proofs.Common.{ℕ, ◌≡◌, length, refl, sym, ◌∙◌, ap, arith, below_more}, proofs.lemmas.List.{map-id}}
use Rattle.mctp_transport.specs.Packets.{key_value}
use Rattle.plan_values.specs.declared.plan.Plan.{Plan}
use Rattle.net_tables.specs.Routing.{Holds}
use Rattle.net_sim.{specs.Flights.{slots_of}, specs.Settling.{IsClearAt}, proofs.Settled.{settles, settled_clear, settled_places}}
use Rattle.net_sim.proofs.traffic.Traffic.is_settled.Goals as goal

pub returns-then-not-none_is_to : goal.returns-then-not-none_is_to
returns-then-not-none_is_to g c = λ w s. (
  λ told. absurd (cc told),
  λ settled. (
      let now = c.args.self.now in
      let clear = c.none_is_to.ensures.1 (settled_places now.router.tables.plan _ w (key_value c.args.key) c.args.eid.value (λ o. o) (slots_of now.flights) s (sym (map-id (slots_of now.flights))) settled) in
      absurd (cc (clear, c.if-not-none_is_to.true))),
)

pub loop-node-init : goal.loop-node-init
loop-node-init g c = λ w s n below holds. absurd (omega (arith, below))

pub returns-then-not-is_clear_for : goal.returns-then-not-is_clear_for
returns-then-not-is_clear_for g c = λ w s. (
  λ told. absurd (cc told),
  λ settled. (
      let now = c.args.self.now in
      let clear = (c.is_clear_for.ensures w s).1 (λ holds. settled_clear now.router.tables.plan w (key_value c.args.key) c.args.eid.value settled c.loop-node.node holds) in
      absurd (cc (clear, c.if-not-is_clear_for.true))),
)

pub loop-node-preserved : goal.loop-node-preserved
loop-node-preserved g c = λ w s.
    let IsClear : ℕ → Type 0 = λ n. Holds c.args.self.now.router.tables.plan n c.args.eid.value → IsClearAt w (key_value c.args.key) n in
    below_more IsClear c.loop-node.node (c.loop-node.invariant w s) ((c.is_clear_for.ensures w s).0 c.if-not-is_clear_for.false)

pub returns : goal.returns
returns g c = λ w s.
    let now = c.args.self.now in
    let many : c.len-node-end.result ≡ length now.router.tables.plan.nodes.items =
    c.len-node-end.ensures ∙ (c.plan.result.now.nodes.ok.0 ∙ ap (λ (p : Plan). length p.nodes.items) c.plan.ensures.plan) in (
      λ told. settles now.router.tables.plan _ w (key_value c.args.key) c.args.eid.value (λ o. o) (slots_of now.flights) s (sym (map-id (slots_of now.flights)))
          (c.none_is_to.ensures.0 c.if-not-none_is_to.false) (λ n within. c.loop-node.invariant w s n (omega (arith, within, many, c.loop-node-test.false))),
      λ settled. refl,
    )
