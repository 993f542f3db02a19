use Rattle.std.{proofs.Common.{◌≡◌, ◌↔◌, ℕ, sym, ◌∙◌, ap, subst}, proofs.lemmas.Option.{same_Some}}
use Rattle.mctp_transport.specs.PacketValues.{KeyValue}
use Rattle.plan_values.specs.declared.plan.Plan.{Plan}
use Rattle.net_tables.specs.Routing.{Holds}
use Rattle.net_runs.{specs.States.{NetworkState}, specs.ExactMessages.{IsSettled}, specs.Walkers.{asking_key}}
use Rattle.net_sim.specs.NetworkWalkers.{walker_value}
use Rattle.net_sim.proofs.network.playing.asking.are_settled.Goals as goal

settled_as : (told : Type 0) (plan : Plan) (w : NetworkState) (key key' : KeyValue) (d d' : ℕ) → key ≡ key' → d ≡ d' → told ↔ IsSettled plan w key d → told ↔ IsSettled plan w key' d'
settled_as told plan w key key' d d' same at tells =
    subst (λ (k : KeyValue). told ↔ IsSettled plan w k d') same (subst (λ e. told ↔ IsSettled plan w key e) at tells)

pub returns-then-is_settled : goal.returns-then-is_settled
returns-then-is_settled g c = λ w own s holds.
    let plan : Plan = c.args.traffic.now.router.tables.plan in
    let x = walker_value c.args.walker.now in
    let mine : Holds plan x.node c.eid_at-own.result.value = subst (λ n. Holds plan n c.eid_at-own.result.value) c.node.ensures c.eid_at-own.ensures in
    let same : c.eid_at-own.result.value ≡ own = same_Some c.eid_at-own.result.value own (sym mine ∙ holds) in
    let asking = settled_as _ plan w _ _ _ _ (c.asking_key.ensures ∙ ap (λ e. asking_key e x) same) c.eid.ensures (c.is_settled.ensures w s) in
    let answering = settled_as _ plan w _ _ _ _ c.answering_key.ensures same (c.is_settled-then-is_settled.ensures w s) in
    (λ told. (asking.0 c.if-is_settled.true, answering.0 told), λ both. answering.1 both.1)
