use Rattle.std.proofs.Common.{Bool, length, refl, sym, ◌∙◌, ap, subst}
use Rattle.net_sim.{specs.Placing.{IsPlaced}, specs.Routers.{RouterValue, TellsIfSwitchable}, proofs.Switching.{switches}}
use Rattle.net_sim.proofs.traffic.Traffic.switch.Goals as goal

pub invariant_of-self : goal.invariant_of-self
invariant_of-self g c =
    let now = c.args.self.now in
    let nodes = ap (λ (r : RouterValue). length r.tables.plan.nodes.items) (sym c.switch.ensures) in
    record {
      queued = now.queued ∙ nodes;
      assembled = now.assembled ∙ nodes;
      sized = now.sized;
      placed = λ number f is. subst (λ (r : RouterValue). IsPlaced r.tables.plan r.certificate f) (sym c.switch.ensures) (now.placed number f is);
    }

pub returns-else-not-can_switch-clause-plays : goal.returns-else-not-can_switch-clause-plays
returns-else-not-can_switch-clause-plays g c =
    let now = c.args.self.now in
    let can = subst (λ (b : Bool). TellsIfSwitchable now.router c.args.node b) c.if-not-can_switch.false c.can_switch.ensures in
    switches now.router.tables _ _ c.args.node (c.has_node.ensures.0 c.if-not-has_node.false) can.0 can.1 refl refl refl
    (ap (λ (r : RouterValue). r.switched) c.switch.ensures)
