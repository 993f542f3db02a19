use Rattle.std.{proofs.Common.{◌≡◌, ◌<◌, ◌+◌, All, length, inl, inr, List, map, Some, refl, sym, ◌∙◌, ap, subst, arith}, specs.Prelude.{slice_get, slice_set, option_map}, proofs.lemmas.List.{length-set, map-set}, proofs.lemmas.Option.{slice_get_read, slice_get-map, same_Some}}
use Rattle.mctp_transport.specs.Packets.{key_value}
use Rattle.mctp_routing.specs.declared.decision.Decision.TheVariants.{Here}
use Rattle.net_runs.{specs.Events.{Move}, specs.Walkers.{WalkerValue, Happening}}
use Rattle.net_tables.proofs.Elements.{set_there}
use Rattle.net_sim.{specs.Effects.{effect_value}, specs.Outcomes.{handed_value}, specs.declared.network_walker.NetworkWalker.{NetworkWalker}, specs.Routers.{RouterValue}, specs.NetworkWalkers.{walker_value, HandsOver, Listens}, proofs.Dealt.{all_at}, proofs.Entering.{map_set_same}, proofs.Walking.{err_told, walked_as, happens_wants}, proofs.Hands.{refuses, listener_wants, comes_to_none, hands}, proofs.Lacking.{err_lacks}, proofs.Moving.{decided_as}, proofs.Noting.{keeps_same, keeps_handed, noted_set, all_set}}
use Rattle.net_sim.proofs.network.Network.move_flight.Goals as goal

-- the walker keeps its place
pub invariant_of-self-2-clause-noted : goal.invariant_of-self-2-clause-noted
invariant_of-self-2-clause-noted g c =
    let now = c.args.self.now in
    let items = now.walkers.items in
    let i = c.in-Some.index in
    let x = c.index_mut.result.now in
    let ready = c.reserve.new.self in
    let y = c.index_mut-2.result.now in
    let within = c.in-Some.ensures.within in
    let there : slice_get items i ≡ Some x = slice_get_read items _ _ x refl within c.index_mut.ensures.value in
    let again : slice_get (slice_set items i ready) i ≡ Some y =
    slice_get_read (slice_set items i ready) _ _ y refl (omega (arith, within, length-set items i ready)) c.index_mut-2.ensures.value in
    noted_set now.index (slice_set items i ready) (noted_set now.index items now.noted i x ready there (keeps_same (walker_value x) (walker_value ready) c.reserve.ensures.value)) i y
    c.hand-handed.new.walker again (keeps_handed (walker_value y) (i + 1) (effect_value c.in_ok-effect-2.effect) (option_map handed_value c.hand-handed.result)
    (walker_value c.hand-handed.new.walker) c.hand-handed.ensures)

-- at a node of the plan
pub invariant_of-self-2-clause-placed : goal.invariant_of-self-2-clause-placed
invariant_of-self-2-clause-placed g c =
    let now = c.args.self.now in
    let items = now.walkers.items in
    let count = length now.traffic.router.tables.plan.nodes.items in
    let i = c.in-Some.index in
    let x = c.index_mut.result.now in
    let ready = c.reserve.new.self in
    let y = c.index_mut-2.result.now in
    let taken = c.hand-handed.new.walker in
    let within = c.in-Some.ensures.within in
    let again : i < length (slice_set items i ready) = omega (arith, within, length-set items i ready) in
    let P : NetworkWalker → Type 0 = λ z. (walker_value z).node < count in
    let set : All P (slice_set items i ready) =
    all_set P items i ready within now.placed (subst (λ (z : WalkerValue). z.node < count) (sym c.reserve.ensures.value)
    (all_at P items now.placed i x (slice_get_read items _ _ x refl within c.index_mut.ensures.value))) in
    let kept = keeps_handed (walker_value y) (i + 1) (effect_value c.in_ok-effect-2.effect) (option_map handed_value c.hand-handed.result) (walker_value taken) c.hand-handed.ensures in
    subst (λ (r : RouterValue). All (λ (z : NetworkWalker). (walker_value z).node < length r.tables.plan.nodes.items) (slice_set (slice_set items i ready) i taken))
    (sym c.move_flight-2.ensures.router)
    (all_set P (slice_set items i ready) i taken again set (subst (λ n. n < count) (sym kept.0)
    (all_at P (slice_set items i ready) set i y (slice_get_read (slice_set items i ready) _ _ y refl again c.index_mut-2.ensures.value))))

pub returns-in-Err-clause-plays : goal.returns-in-Err-clause-plays
returns-in-Err-clause-plays g c =
    walked_as c.args.self.now.traffic.router.tables _ _ (Happening (Move c.args.number c.args.keep)) _ _ _ refl (sym c.happened.ensures) (refuses c.args.self.now.traffic.router.tables _ c.args.number c.args.keep _ c.in-Err.ensures)

pub returns-in_err-effect-clause-plays : goal.returns-in_err-effect-clause-plays
returns-in_err-effect-clause-plays g c =
    err_told _ _ c.from_residual.result c.from_residual.ensures.0
    (happens_wants c.args.self.now.traffic.router.tables _ _ _ refl (Move c.args.number c.args.keep) c.in_err-effect.ensures.plays)

pub returns-in_default-clause-plays : goal.returns-in_default-clause-plays
returns-in_default-clause-plays g c =
    let now = c.args.self.now in
    walked_as now.traffic.router.tables _ _ (Happening (Move c.args.number c.args.keep)) _ _ _ refl (sym c.happened-in_default.ensures)
    (comes_to_none now.traffic.router _ c.args.number c.args.keep c.in-Ok.decided c.in-Ok.ensures.0 now.walkers.items refl _ _ (effect_value c.in_ok-effect.effect) c.in_ok-effect.ensures.plays refl c.in_default.ensures.finds)

pub returns-in_err-reserve-clause-plays : goal.returns-in_err-reserve-clause-plays
returns-in_err-reserve-clause-plays g c =
    let now = c.args.self.now in
    let items = now.walkers.items in
    let (here, (x, there, listens)) = c.in-Some.ensures.finds in
    let at = slice_get_read items _ _ c.index_mut.result.now refl c.in-Some.ensures.within c.index_mut.ensures.value in
    err_told _ _ c.from_residual-in_err-reserve.result c.from_residual-in_err-reserve.ensures.0
    (listener_wants now.traffic.router _ c.args.number c.args.keep c.in-Ok.decided c.in-Ok.ensures.0 items refl c.in-Ok.ensures.1 here _
    (map_set_same walker_value items c.in-Some.index c.index_mut.result.now c.reserve.new.self at c.reserve.ensures.value))

pub returns-in_err-effect-2-clause-plays : goal.returns-in_err-effect-2-clause-plays
returns-in_err-effect-2-clause-plays g c =
    let now = c.args.self.now in
    let items = now.walkers.items in
    let i = c.in-Some.index in
    let (here, (y, at, listens)) = c.in-Some.ensures.finds in
    let x = c.index_mut.result.now in
    let there : slice_get items i ≡ Some x = slice_get_read items _ _ x refl c.in-Some.ensures.within c.index_mut.ensures.value in
    err_told _ _ c.from_residual-in_err-effect-2.result c.from_residual-in_err-effect-2.ensures.0
    (happens_wants now.traffic.router.tables _ _ _ (map_set_same walker_value items i x c.reserve.new.self there c.reserve.ensures.value)
    (Move c.args.number c.args.keep) c.in_err-effect-2.ensures.plays)

pub returns-clause-plays : goal.returns-clause-plays
returns-clause-plays g c =
    let now = c.args.self.now in
    let items = now.walkers.items in
    let i = c.in-Some.index in
    let (held, (found, at, listens)) = c.in-Some.ensures.finds in
    let within = c.in-Some.ensures.within in
    let x = c.index_mut.result.now in
    let ready = c.reserve.new.self in
    let y = c.index_mut-2.result.now in
    let taken = c.hand-handed.new.walker in
    let there : slice_get items i ≡ Some x = slice_get_read items _ _ x refl within c.index_mut.ensures.value in
    let here : slice_get (map walker_value items) i ≡ Some (walker_value x) = slice_get-map walker_value items i ∙ ap (option_map walker_value) there in
    let again : slice_get (slice_set items i ready) i ≡ Some y =
    slice_get_read (slice_set items i ready) _ _ y refl (omega (arith, within, length-set items i ready)) c.index_mut-2.ensures.value in
    let same : walker_value y ≡ walker_value x = ap walker_value (same_Some y ready (sym again ∙ set_there items ready i within)) ∙ c.reserve.ensures.value in
    let mine = subst (λ (z : NetworkWalker). Listens c.in-Ok.decided.node (key_value c.in-Ok.decided.key) (walker_value z)) (same_Some found x (sym at ∙ there)) listens in
    let outcome = effect_value c.in_ok-effect-2.effect in
    let handed = option_map handed_value c.hand-handed.result in
    hands now.traffic.router _ c.args.number c.args.keep c.in-Ok.decided c.in-Ok.ensures.0 items refl _ _ outcome c.in_ok-effect-2.ensures.plays i (walker_value x) here mine handed (walker_value taken)
    (subst (λ (z : WalkerValue). HandsOver z (i + 1) outcome handed (walker_value taken)) same c.hand-handed.ensures)
    (map-set walker_value (slice_set items i ready) i taken
    ∙ ap (λ (xs : List WalkerValue). slice_set xs i (walker_value taken)) (map_set_same walker_value items i x ready there c.reserve.ensures.value))

pub returns-in_err-effect-clause-full : goal.returns-in_err-effect-clause-full
returns-in_err-effect-clause-full g c = err_lacks _ c.from_residual.result c.from_residual.ensures.0 (inl c.in_err-effect.ensures.full)

pub returns-in_err-reserve-clause-full : goal.returns-in_err-reserve-clause-full
returns-in_err-reserve-clause-full g c =
    let now = c.args.self.now in
    let items = now.walkers.items in
    let m = c.in-Ok.decided in
    let (f, at_number, on) = c.in-Ok.ensures.0 in
    let (here, (y, at, listens)) = c.in-Some.ensures.finds in
    let x = c.index_mut.result.now in
    let there : slice_get items c.in-Some.index ≡ Some x = slice_get_read items _ _ x refl c.in-Some.ensures.within c.index_mut.ensures.value in
    let mine = subst (λ (z : NetworkWalker). Listens m.node (key_value m.key) (walker_value z)) (same_Some y x (sym at ∙ there)) listens in
    let holds = decided_as now.traffic.router f m on Here here in
    err_lacks _ c.from_residual-in_err-reserve.result c.from_residual-in_err-reserve.ensures.0
    (inr (m.node, key_value m.key, (f, (at_number, holds), sym on.node, sym on.key), c.in-Some.index, x, there, mine, c.in_err-reserve.ensures.full))

pub returns-in_err-effect-2-clause-full : goal.returns-in_err-effect-2-clause-full
returns-in_err-effect-2-clause-full g c =
    err_lacks _ c.from_residual-in_err-effect-2.result c.from_residual-in_err-effect-2.ensures.0 (inl c.in_err-effect-2.ensures.full)

pub returns-in_err-effect-clause-lacks : goal.returns-in_err-effect-clause-lacks
returns-in_err-effect-clause-lacks g c = err_lacks _ c.from_residual.result c.from_residual.ensures.0 (inl c.in_err-effect.ensures.lacks)

pub returns-in_err-reserve-clause-lacks : goal.returns-in_err-reserve-clause-lacks
returns-in_err-reserve-clause-lacks g c =
    let now = c.args.self.now in
    let items = now.walkers.items in
    let m = c.in-Ok.decided in
    let i = c.in-Some.index in
    let (f, at_number, on) = c.in-Ok.ensures.0 in
    let (here, (y, at, listens)) = c.in-Some.ensures.finds in
    let x = c.index_mut.result.now in
    let after = c.reserve.new.self in
    let within = c.in-Some.ensures.within in
    let there : slice_get items i ≡ Some x = slice_get_read items _ _ x refl within c.index_mut.ensures.value in
    let mine = subst (λ (z : NetworkWalker). Listens m.node (key_value m.key) (walker_value z)) (same_Some y x (sym at ∙ there)) listens in
    let still = subst (λ (z : WalkerValue). Listens m.node (key_value m.key) z) (sym c.reserve.ensures.value) mine in
    let holds = decided_as now.traffic.router f m on Here here in
    err_lacks _ c.from_residual-in_err-reserve.result c.from_residual-in_err-reserve.ensures.0
    (inr (m.node, key_value m.key, (f, (at_number, holds), sym on.node, sym on.key), i, after, set_there items after i within, still, c.in_err-reserve.ensures.lacks))

pub returns-in_err-effect-2-clause-lacks : goal.returns-in_err-effect-2-clause-lacks
returns-in_err-effect-2-clause-lacks g c =
    err_lacks _ c.from_residual-in_err-effect-2.result c.from_residual-in_err-effect-2.ensures.0 (inl c.in_err-effect-2.ensures.lacks)
