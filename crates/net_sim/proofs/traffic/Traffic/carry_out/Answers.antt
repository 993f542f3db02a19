use Rattle.std.{proofs.Common.{◌≡◌, ◌+◌, ◌<◌, true, length, Option, Some, sym, ◌∙◌, ap, subst, arith}, specs.Prelude.{slice_get, slice_set, is_some, option_map, IfSome}, proofs.lemmas.Option.{same_Some, none-some}}
use Rattle.net_runs.specs.States.{Flight, destination}
use Rattle.net_sim.{specs.Routers.{RouterValue, GoesOnWithinRank}, specs.Placing.{IsPlaced}, specs.Flights.{flight_value, gone_on, slots_of}, proofs.Slots.{same_means}, proofs.Entering.{rank_most}, proofs.Changes.{same_marks}, proofs.Moving.{decided_as, stops, goes, enters, receives_same}}
use Rattle.net_sim.proofs.traffic.Traffic.carry_out.Goals as goal

pub end-requires : goal.end-requires
end-requires g c = ap is_some c.requires.decided.1

pub unreachable-requires : goal.unreachable-requires
unreachable-requires g c = absurd (none-some _ (c.in_default.ensures.flight ∙ c.requires.decided.1))

pub receive-requires-clause-node : goal.receive-requires-clause-node
receive-requires-clause-node g c =
    let (f, there, on) = c.requires.decided in
    let same : flight_value c.in-Some.flight ≡ f = same_Some _ f (c.in-Some.ensures.flight ∙ there) in
    subst (λ (r : RouterValue). c.in-Some.flight.node < length r.tables.plan.nodes.items) (sym c.end.ensures.router)
    (subst (λ (x : Flight). x.node < length c.args.self.now.router.tables.plan.nodes.items) (sym same) (c.args.self.now.placed c.args.number f there).0)

pub receive-requires-clause-enough : goal.receive-requires-clause-enough
receive-requires-clause-enough g c =
    let (f, there, on) = c.requires.decided in
    let room = c.requires.enough c.in-Here.is in
    let same : flight_value c.in-Some.flight ≡ f = same_Some _ f (c.in-Some.ensures.flight ∙ there) in
    let ends : c.in-Some.flight.packet.header.eom ≡ true → c.args.decided.now.header.eom ≡ true = λ is. on.ends ∙ (ap (λ (x : Flight). x.packet.eom) (sym same) ∙ is) in
    let at : c.in-Some.flight.node ≡ c.args.decided.now.node = ap (λ (x : Flight). x.node) same ∙ sym on.node in (
      room.0,
      λ is. room.1 (ends is),
      room.2,
      λ is. room.3 (ends is),
      λ q is. room.4 q
          (subst (λ n. slice_get c.args.self.now.queues.items n ≡ Some q) at (subst (λ qs. slice_get qs c.in-Some.flight.node ≡ Some q) c.end.ensures.queues is)),
    )

pub end-requires-in-Drop : goal.end-requires-in-Drop
end-requires-in-Drop g c = ap is_some c.requires.decided.1

pub overflow_add-result : goal.overflow_add-result
overflow_add-result g c =
    let now = c.args.self.now in
    let (f, there, on) = c.requires.decided in
    let goes_on = subst (λ x. GoesOnWithinRank now.router.tables.plan now.router.certificate f x) c.in-Forward.is on.goes_on in
    omega (arith, on.hops, (now.placed c.args.number f there).1, goes_on.1, rank_most now.router.certificate f.origin (destination f))

pub go_on-requires-clause-there : goal.go_on-requires-clause-there
go_on-requires-clause-there g c = ap is_some c.requires.decided.1

pub go_on-requires-clause-few : goal.go_on-requires-clause-few
go_on-requires-clause-few g c =
    let now = c.args.self.now in
    let (f, there, on) = c.requires.decided in
    let goes_on = subst (λ x. GoesOnWithinRank now.router.tables.plan now.router.certificate f x) c.in-Forward.is on.goes_on in
    subst (λ (o : Option Flight). IfSome o (λ x. x.hops < 255)) (sym there)
    (omega (arith, (now.placed c.args.number f there).1, goes_on.1, rank_most now.router.certificate f.origin (destination f)))

pub go_on-requires-clause-placed : goal.go_on-requires-clause-placed
go_on-requires-clause-placed g c =
    let now = c.args.self.now in
    let (f, there, on) = c.requires.decided in
    let goes_on = subst (λ x. GoesOnWithinRank now.router.tables.plan now.router.certificate f x) c.in-Forward.is on.goes_on in
    subst (λ (o : Option Flight). IfSome o (λ x. IsPlaced now.router.tables.plan now.router.certificate (gone_on c.in-Forward.hop.next x))) (sym there)
    (goes_on.0, omega (arith, (now.placed c.args.number f there).1, goes_on.1))

pub returns-in-Some-clause-moves : goal.returns-in-Some-clause-moves
returns-in-Some-clause-moves g c =
    let router = c.args.self.now.router in
    let (f, there, on) = c.requires.decided in
    let same : flight_value c.in-Some.flight ≡ f = same_Some _ f (c.in-Some.ensures.flight ∙ there) in (
      f,
      there,
      enters router.tables _ _ c.args.number f there c.end.ensures.assemblers (same_means _ _ _ c.end.ensures.queues) (same_marks _ _ c.end.ensures.router) _ _
          (receives_same _ _ c.args.number _ _ f same c.receive.ensures.receives) (decided_as router f c.args.decided.now on _ c.in-Here.is) c.end.ensures.flights,
    )

pub returns-in-Drop-clause-moves : goal.returns-in-Drop-clause-moves
returns-in-Drop-clause-moves g c =
    let router = c.args.self.now.router in
    let end = c.end-in-Drop.ensures in
    let (f, there, on) = c.requires.decided in (
      f,
      there,
      stops router.tables _ _ c.args.number f there end.assemblers (same_means _ _ _ end.queues) (same_marks _ _ end.router) c.in-Drop.why
          (decided_as router f c.args.decided.now on _ c.in-Drop.is) end.flights,
    )

pub returns-in-Forward-clause-moves : goal.returns-in-Forward-clause-moves
returns-in-Forward-clause-moves g c =
    let router = c.args.self.now.router in
    let gone = c.go_on.ensures in
    let (f, there, on) = c.requires.decided in (
      f,
      there,
      goes router.tables _ _ c.args.number f there gone.assemblers (same_means _ _ _ gone.queues) (same_marks _ _ gone.router) c.in-Forward.hop _
          (decided_as router f c.args.decided.now on _ c.in-Forward.is) (ap (λ n. n + 1) on.hops)
          (gone.flights ∙ ap (λ (o : Option Flight). slice_set (slots_of c.args.self.now.flights) c.args.number (option_map (gone_on c.in-Forward.hop.next) o)) there),
    )
