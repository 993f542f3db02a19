use Rattle.std.{proofs.Common.{◌≡◌, ◌<◌, ◌≤◌, ◌++◌, ◌∷◌, [], List, length, Option, Some, inl, inr, sym, ◌∙◌, ap, subst}, specs.Prelude.{is_some, IfSome, slice_get}}
use Rattle.mctp_routing.specs.declared.decision.Decision.TheVariants.{Here}
use Rattle.net_tables.specs.Routing.{Holds}
use Rattle.net_runs.{specs.States.{Flight, destination}, specs.Events.{most_flights}}
use Rattle.net_sim.{specs.Flights.{slots_of, flight_at}, specs.Routers.{RouterValue}, specs.Moves.{IsDecidedOn}, specs.Traffics.{HasRoomAt}, proofs.Slots.{same_means}, proofs.Changes.{same_marks}, proofs.Lacking.{err_lacks}, proofs.Moving.{decided_as, pushed_there, wants_move, plays_itself, plays_copy}, proofs.Walking.{err_told}}
use Rattle.net_sim.proofs.traffic.Traffic.move_flight.Goals as goal

pub room_for-requires : goal.room_for-requires
room_for-requires g c =
    let (f, there, on) = c.requires.decided in
    subst (λ n. n < length c.args.self.now.router.tables.plan.nodes.items) (sym on.node) (c.args.self.now.placed c.args.number f there).0

pub returns-in_err-room-clause-plays : goal.returns-in_err-room-clause-plays
returns-in_err-room-clause-plays g c =
    let router = c.args.self.now.router in
    let room = c.room_for.ensures in
    let (f, there, on) = c.requires.decided in
    err_told _ _ c.from_residual.result c.from_residual.ensures.0
    (wants_move router.tables _ c.args.number c.args.keep f there c.requires.few _ room.assemblers room.termini (same_marks _ _ room.router)
    (inr (decided_as router f c.args.decided.now on Here c.in_err-room.ensures.full.0)) room.flights)

pub returns-in_err-room-clause-full : goal.returns-in_err-room-clause-full
returns-in_err-room-clause-full g c =
    let now = c.args.self.now in
    let (f, there, on) = c.requires.decided in
    let (here, lacks) = c.in_err-room.ensures.full in
    err_lacks _ c.from_residual.result c.from_residual.ensures.0
    (inr (
      f,
      (there, decided_as now.router f c.args.decided.now on Here here),
      elim lacks [ inl ends ↦ inl (sym on.ends ∙ ends) | inr none ↦ inr (λ room. none (subst (HasRoomAt now) (sym on.node) room)) ],
    ))

pub put_copy-requires-clause-there : goal.put_copy-requires-clause-there
put_copy-requires-clause-there g c =
    ap (λ (fs : List (Option Flight)). is_some (flight_at fs c.args.number)) c.room_for.ensures.flights ∙ ap is_some c.requires.decided.1

pub put_copy-requires-clause-few : goal.put_copy-requires-clause-few
put_copy-requires-clause-few g c = subst (λ (fs : List (Option Flight)). length fs ≤ most_flights) (sym c.room_for.ensures.flights) (c.requires.few c.if-keep.true)

pub returns-in_err-copy-clause-plays : goal.returns-in_err-copy-clause-plays
returns-in_err-copy-clause-plays g c =
    let room = c.room_for.ensures in
    let put = c.put_copy.ensures in
    let (f, there, on) = c.requires.decided in
    err_told _ _ c.from_residual-in_err-copy.result c.from_residual-in_err-copy.ensures.0
    (wants_move c.args.self.now.router.tables _ c.args.number c.args.keep f there c.requires.few _ (put.assemblers ∙ room.assemblers) (same_means _ _ _ put.queues ∙ room.termini)
    (same_marks _ _ (put.router ∙ room.router)) (inl c.if-keep.true) (c.in_err-copy.ensures.none ∙ room.flights))

pub returns-in_err-copy-clause-full : goal.returns-in_err-copy-clause-full
returns-in_err-copy-clause-full g c =
    let (f, there, on) = c.requires.decided in
    let after = ap (λ (fs : List (Option Flight)). flight_at fs c.args.number) c.room_for.ensures.flights ∙ there in
    err_lacks _ c.from_residual-in_err-copy.result c.from_residual-in_err-copy.ensures.0
    (inl (
      c.if-keep.true,
      elim c.in_err-copy.ensures.full [
        | inl none ↦ inl (subst (λ n. n < 1) c.room_for.ensures.room none)
        | inr long ↦ inr (f, there, subst (λ (o : Option Flight). IfSome o (λ x. 64 < length x.packet.payload)) after long)
      ],
    ))

pub carry_out-requires-clause-decided : goal.carry_out-requires-clause-decided
carry_out-requires-clause-decided g c =
    let room = c.room_for.ensures in
    let (f, there, on) = c.requires.decided in
    let pushed = pushed_there (slots_of c.room_for.new.self.flights) _ c.in_ok-copy.copy _ c.in_ok-copy.ensures.number c.in_ok-copy.ensures.flights in (
      f,
      pushed ∙ (ap (λ (fs : List (Option Flight)). flight_at fs c.args.number) room.flights ∙ there),
      subst (λ (r : RouterValue). IsDecidedOn r f c.args.decided.now) (sym (c.put_copy.ensures.router ∙ room.router)) on,
    )

pub carry_out-requires-clause-enough : goal.carry_out-requires-clause-enough
carry_out-requires-clause-enough g c = λ here.
    let room = c.in_ok-room.ensures.enough here in
    (room.0, room.1, room.2, room.3, λ q is. room.4 q (subst (λ qs. slice_get qs c.args.decided.now.node ≡ Some q) c.put_copy.ensures.queues is))

pub returns-in_ok-copy-clause-plays : goal.returns-in_ok-copy-clause-plays
returns-in_ok-copy-clause-plays g c =
    let slots = slots_of c.args.self.now.flights in
    let room = c.room_for.ensures in
    let put = c.put_copy.ensures in
    let copy = c.in_ok-copy.copy in
    let at = c.in_ok-copy.ensures.number ∙ ap length room.flights in
    let pushed = c.in_ok-copy.ensures.flights ∙ ap (λ (fs : List (Option Flight)). fs ++ flight_at fs c.args.number ∷ []) room.flights in
    let (f, copied, moves) = c.carry_out.ensures.moves in
    let there : flight_at slots c.args.number ≡ Some f = sym (pushed_there slots _ copy _ at pushed) ∙ copied in
    plays_copy c.args.self.now.router.tables _ c.args.number c.args.keep f there c.requires.few _ (put.assemblers ∙ room.assemblers) (same_means _ _ _ put.queues ∙ room.termini)
    (same_marks _ _ (put.router ∙ room.router)) _ _ c.if-keep.true copy at (pushed ∙ ap (λ (o : Option Flight). slots ++ o ∷ []) there)
    _ (ap (λ (r : RouterValue). r.tables) (put.router ∙ room.router)) moves

pub carry_out-requires-else-keep-clause-decided : goal.carry_out-requires-else-keep-clause-decided
carry_out-requires-else-keep-clause-decided g c =
    let room = c.room_for.ensures in
    let (f, there, on) = c.requires.decided in (
      f,
      ap (λ (fs : List (Option Flight)). flight_at fs c.args.number) room.flights ∙ there,
      subst (λ (r : RouterValue). IsDecidedOn r f c.args.decided.now) (sym room.router) on,
    )

pub returns-else-keep-clause-plays : goal.returns-else-keep-clause-plays
returns-else-keep-clause-plays g c =
    let room = c.room_for.ensures in
    let (f, after, moves) = c.carry_out-else-keep.ensures.moves in
    let there = ap (λ (fs : List (Option Flight)). flight_at fs c.args.number) (sym room.flights) ∙ after in
    plays_itself c.args.self.now.router.tables _ c.args.number c.args.keep f there c.requires.few _ room.assemblers room.termini (same_marks _ _ room.router) _ _ c.if-keep.false room.flights
    _ (ap (λ (r : RouterValue). r.tables) room.router) moves

pub returns-in_err-room-clause-lacks : goal.returns-in_err-room-clause-lacks
returns-in_err-room-clause-lacks g c =
    let room = c.room_for.ensures in
    let (f, there, on) = c.requires.decided in
    let (here, lacks) = c.in_err-room.ensures.lacks in
    let holds = subst (λ (r : RouterValue). Holds r.tables.plan f.node (destination f)) (sym room.router) (decided_as c.args.self.now.router f c.args.decided.now on Here here) in
    err_lacks _ c.from_residual.result c.from_residual.ensures.0
    (inr (
      f,
      (ap (λ (fs : List (Option Flight)). flight_at fs c.args.number) room.flights ∙ there, holds),
      elim lacks [ inl ends ↦ inl (sym on.ends ∙ ends) | inr none ↦ inr (λ r. none (subst (HasRoomAt c.room_for.new.self) (sym on.node) r)) ],
    ))

pub returns-in_err-copy-clause-lacks : goal.returns-in_err-copy-clause-lacks
returns-in_err-copy-clause-lacks g c =
    let (f, there, on) = c.requires.decided in
    let before = ap (λ (fs : List (Option Flight)). flight_at fs c.args.number) c.room_for.ensures.flights ∙ there in
    let after = ap (λ (fs : List (Option Flight)). flight_at fs c.args.number) c.in_err-copy.ensures.none ∙ before in
    err_lacks _ c.from_residual-in_err-copy.result c.from_residual-in_err-copy.ensures.0
    (inl (
      c.if-keep.true,
      elim c.in_err-copy.ensures.lacks [
        | inl none ↦ inl none
        | inr long ↦ inr (f, after, subst (λ (o : Option Flight). IfSome o (λ x. 64 < length x.packet.payload)) before long)
      ],
    ))
