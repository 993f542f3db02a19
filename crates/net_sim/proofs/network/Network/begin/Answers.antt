use Rattle.std.{proofs.Common.{◌≡◌, ◌∷◌, ◌++◌, ◌<◌, [], ℕ, List, All, length, map, Some, ap, sym, subst, ◌∙◌, arith}, proofs.lemmas.List.{length-map, map-append}, proofs.lemmas.List.Elements.{All-push}}
use Rattle.net_runs.specs.Walkers.{WalkerValue}
use Rattle.net_sim.{specs.declared.network_walker.NetworkWalker.{NetworkWalker}, specs.NetworkWalkers.{walker_value}, specs.WalkerIndexes.{AreNoted}, proofs.Walking.{err_told}, proofs.Noting.{noted_push}, proofs.Begins.{begins, begin_wants}}
use Rattle.net_sim.proofs.network.Network.begin.Goals as goal

pub returns-clause-plays : goal.returns-clause-plays
returns-clause-plays g c =
    let now = c.args.self.now in
    let items = now.walkers.items in
    let walker = c.in_ok-walker.walker in
    begins now.traffic.router.tables _ c.args.node c.args.eid.value c.args.tag.value c.args.count (λ w s. c.in_default.ensures.first w s) c.len-2.result (walker_value walker) _
    (omega (arith, c.len-2.ensures, c.push_reserved.ensures.len, c.reserve.ensures.len, now.walkers.ok.0, length-map items walker_value)) c.in_ok-walker.ensures
    (ap (map walker_value) (c.push_reserved.ensures.items ∙ ap (λ (ws : List NetworkWalker). ws ++ walker ∷ []) c.reserve.ensures.items)
    ∙ map-append walker_value items (walker ∷ []))

-- the walkers that were there stand at nodes of the plan, and so does the new one
pub invariant_of-self-2-clause-placed : goal.invariant_of-self-2-clause-placed
invariant_of-self-2-clause-placed g c =
    let items = c.args.self.now.walkers.items in
    let walker = c.in_ok-walker.walker in
    let count = length c.args.self.now.traffic.router.tables.plan.nodes.items in
    subst (All (λ (w : NetworkWalker). w.node < count))
    (sym (c.push_reserved.ensures.items ∙ ap (λ (ws : List NetworkWalker). ws ++ walker ∷ []) c.reserve.ensures.items))
    (All-push (λ (w : NetworkWalker). w.node < count) items walker c.args.self.now.placed
    (subst (λ (n : ℕ). n < count) (sym (ap (λ (w : WalkerValue). w.node) c.in_ok-walker.ensures)) c.in_default.ensures.node))

-- and its index is noted
pub invariant_of-self-2-clause-noted : goal.invariant_of-self-2-clause-noted
invariant_of-self-2-clause-noted g c =
    let now = c.args.self.now in
    let items = now.walkers.items in
    let walker = c.in_ok-walker.walker in
    let many : c.len.result ≡ length items = omega (arith, c.len.ensures, c.reserve.ensures.len, now.walkers.ok.0) in
    subst (AreNoted c.note.new.self) (sym (c.push_reserved.ensures.items ∙ ap (λ (ws : List NetworkWalker). ws ++ walker ∷ []) c.reserve.ensures.items))
    (noted_push now.index items now.noted c.note.new.self c.args.node c.args.eid.value c.args.tag.value walker c.in_default.ensures.new
    (ap (λ (w : WalkerValue). w.node) c.in_ok-walker.ensures, ap (λ (w : WalkerValue). w.eid) c.in_ok-walker.ensures, ap (λ (w : WalkerValue). w.tag) c.in_ok-walker.ensures)
    (c.in_ok-note.ensures.noted ∙ ap Some many) c.in_ok-note.ensures.others)

pub returns-in_err-walker-clause-plays : goal.returns-in_err-walker-clause-plays
returns-in_err-walker-clause-plays g c =
    let now = c.args.self.now in
    err_told _ _ c.from_residual-in_err-walker.result c.from_residual-in_err-walker.ensures.0
    (begin_wants now.traffic.router.tables _ c.args.node c.args.eid.value c.args.tag.value c.args.count (λ w s. c.in_default.ensures.first w s) _
    (ap (map walker_value) c.reserve.ensures.items))
