use Rattle.std.{proofs.Common.{◌≡◌, ◌<◌, length, map, Some, refl, sym, ◌∙◌, ap, subst, inl, inr, arith}, specs.Prelude.{All, slice_get, slice_set, option_map}, proofs.lemmas.List.{length-map, map-set}, proofs.lemmas.Option.{slice_get_read, slice_get-map, same_Some}}
use Rattle.plan_values.{specs.declared.plan.Plan.{Plan}, specs.declared.certificate.Certificate.{Certificate}}
use Rattle.net_tables.specs.TwoPlans.{Tables}
use Rattle.net_sim.{specs.declared.network_walker.NetworkWalker.{NetworkWalker}, specs.NetworkWalkers.{walker_value}, specs.Outcomes.{walk_refusal_value}, specs.Requests.{MayAsk}, specs.Routers.{RouterValue}, proofs.Slots.{same_means}, proofs.Changes.{same_marks, same_stands}, proofs.Dealt.{all_at}, proofs.Finding.{no_walker, held_by}, proofs.Walking.{err_told}, proofs.Noting.{all_set, keeps_put, noted_set}, proofs.Asks.{puts_in, asks_none, asks_in_vain, ask_wants, asks}}
use Rattle.net_sim.proofs.network.Network.ask.Goals as goal

pub returns-in_default-clause-plays : goal.returns-in_default-clause-plays
returns-in_default-clause-plays g c =
    let now = c.args.self.now in
    asks_none now.traffic.router.tables _ c.args.number (omega (arith, c.left.ensures, c.if-left-lt1.false)) (λ w s. no_walker _ w s c.args.number
    (elim c.in_default.ensures [ inl zero ↦ inl zero | inr past ↦ inr (omega (arith, past, length-map now.walkers.items walker_value)) ]))

pub returns-in-Some-why_not_ask-clause-plays : goal.returns-in-Some-why_not_ask-clause-plays
returns-in-Some-why_not_ask-clause-plays g c =
    let now = c.args.self.now in
    let items = now.walkers.items in
    let i = c.in-Some.index in
    let x = c.index.result.now in
    let place = c.in-Some.ensures in
    let there : slice_get items i ≡ Some x = slice_get_read items _ _ x refl place.1 c.index.ensures in
    let here : slice_get (map walker_value items) i ≡ Some (walker_value x) = slice_get-map walker_value items i ∙ ap (option_map walker_value) there in
    asks_in_vain now.traffic.router.tables _ c.args.number (omega (arith, c.left.ensures, c.if-left-lt1.false)) i place.0 (walker_value x) here
    (walk_refusal_value c.in-Some-why_not_ask.why) (λ w s. c.in-Some-why_not_ask.ensures w s)

pub returns-in_err-reserve-clause-plays : goal.returns-in_err-reserve-clause-plays
returns-in_err-reserve-clause-plays g c =
    let now = c.args.self.now in
    let plan : Plan = now.traffic.router.tables.plan in
    let items = now.walkers.items in
    let i = c.in-Some.index in
    let x = c.index.result.now in
    let place = c.in-Some.ensures in
    let there : slice_get items i ≡ Some x = slice_get_read items _ _ x refl place.1 c.index.ensures in
    let here : slice_get (map walker_value items) i ≡ Some (walker_value x) = slice_get-map walker_value items i ∙ ap (option_map walker_value) there in
    let P : NetworkWalker → Type 0 = λ y. (walker_value y).node < length plan.nodes.items in
    let held = held_by plan (walker_value x).node (all_at P items now.placed i x there) in
    err_told _ _ c.from_residual.result c.from_residual.ensures.0
    (ask_wants now.traffic.router.tables _ c.args.number (omega (arith, c.left.ensures, c.if-left-lt1.false)) i place.0 (walker_value x) here held.0 held.1
    (λ w s. c.in_default-why_not_ask.ensures w s) _ _
    (λ w s. same_stands _ _ w c.reserve.ensures.flights c.reserve.ensures.assemblers (same_means _ _ _ c.reserve.ensures.queues) (same_marks _ _ c.reserve.ensures.router) s) refl)

pub returns-in-Some-put_request-clause-plays : goal.returns-in-Some-put_request-clause-plays
returns-in-Some-put_request-clause-plays g c =
    let now = c.args.self.now in
    let plan : Plan = now.traffic.router.tables.plan in
    let items = now.walkers.items in
    let i = c.in-Some.index in
    let x = c.index.result.now in
    let y = c.index_mut.result.now in
    let place = c.in-Some.ensures in
    let there : slice_get items i ≡ Some x = slice_get_read items _ _ x refl place.1 c.index.ensures in
    let again : slice_get items i ≡ Some y = slice_get_read items _ _ y refl place.1 c.index_mut.ensures.value in
    let same : x ≡ y = same_Some x y (sym there ∙ again) in
    let here : slice_get (map walker_value items) i ≡ Some (walker_value y) = slice_get-map walker_value items i ∙ ap (option_map walker_value) again in
    let P : NetworkWalker → Type 0 = λ z. (walker_value z).node < length plan.nodes.items in
    let held = held_by plan (walker_value y).node (all_at P items now.placed i y again) in
    let next = c.put_request.new.walker in
    let puts = puts_in _ _ _ _ _ _ _ (ap (λ (r : RouterValue). r.tables) c.reserve.ensures.router) c.in-Some-put_request.ensures.puts in
    asks now.traffic.router.tables _ c.args.number (omega (arith, c.left.ensures, c.if-left-lt1.false)) i place.0 (walker_value y) here held.0 held.1
    (λ w s. subst (λ (z : NetworkWalker). MayAsk plan w (walker_value z)) same (c.in_default-why_not_ask.ensures w s)) _ _ c.in-Some-put_request.number (walker_value next) _
    (λ w s. same_stands _ _ w c.reserve.ensures.flights c.reserve.ensures.assemblers (same_means _ _ _ c.reserve.ensures.queues) (same_marks _ _ c.reserve.ensures.router) s)
    puts (map-set walker_value items i next)

pub returns-in-None-clause-plays : goal.returns-in-None-clause-plays
returns-in-None-clause-plays g c = λ w s.
    let now = c.args.self.now in
    let plan : Plan = now.traffic.router.tables.plan in
    let items = now.walkers.items in
    let i = c.in-Some.index in
    let x = c.index.result.now in
    let y = c.index_mut.result.now in
    let place = c.in-Some.ensures in
    let there : slice_get items i ≡ Some x = slice_get_read items _ _ x refl place.1 c.index.ensures in
    let again : slice_get items i ≡ Some y = slice_get_read items _ _ y refl place.1 c.index_mut.ensures.value in
    let may = subst (λ (z : NetworkWalker). MayAsk plan w.network (walker_value z)) (same_Some x y (sym there ∙ again)) (c.in_default-why_not_ask.ensures w.network s.network) in
    absurd (may.0 c.in-None.ensures.puts.0)

-- the walker keeps its place
pub invariant_of-self-2-clause-noted : goal.invariant_of-self-2-clause-noted
invariant_of-self-2-clause-noted g c =
    let now = c.args.self.now in
    let items = now.walkers.items in
    let y = c.index_mut.result.now in
    let there : slice_get items c.in-Some.index ≡ Some y = slice_get_read items _ _ y refl c.in-Some.ensures.1 c.index_mut.ensures.value in
    noted_set now.index items now.noted c.in-Some.index y c.put_request.new.walker there
    (keeps_put _ _ _ _ _ (walker_value y) (walker_value c.put_request.new.walker) c.put_request.result c.put_request.ensures.puts)

-- at a node of the plan
pub invariant_of-self-2-clause-placed : goal.invariant_of-self-2-clause-placed
invariant_of-self-2-clause-placed g c =
    let now = c.args.self.now in
    let items = now.walkers.items in
    let count = length now.traffic.router.tables.plan.nodes.items in
    let y = c.index_mut.result.now in
    let next = c.put_request.new.walker in
    let there : slice_get items c.in-Some.index ≡ Some y = slice_get_read items _ _ y refl c.in-Some.ensures.1 c.index_mut.ensures.value in
    let P : NetworkWalker → Type 0 = λ z. z.node < count in
    let kept = keeps_put _ _ _ _ _ (walker_value y) (walker_value next) c.put_request.result c.put_request.ensures.puts in
    let same : c.put_request.new.traffic.router.tables ≡ now.traffic.router.tables =
    ap (λ (t : Tables × Certificate). t.0) c.put_request.ensures.checked ∙ ap (λ (r : RouterValue). r.tables) c.reserve.ensures.router in
    subst (λ (t : Tables). All (λ (z : NetworkWalker). z.node < length t.plan.nodes.items) (slice_set items c.in-Some.index next)) (sym same)
    (all_set P items c.in-Some.index next c.in-Some.ensures.1 now.placed (subst (λ n. n < count) (sym kept.0) (all_at P items now.placed c.in-Some.index y there)))
