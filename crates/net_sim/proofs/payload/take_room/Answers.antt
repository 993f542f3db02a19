use Rattle.std.proofs.Common.{◌∷◌, subst, arith}
use Rattle.net_sim.{specs.Payloads.{HaveRooms}, proofs.Rooms.{last_room, rooms_left, no_room, none_left}}
use Rattle.net_sim.proofs.payload.take_room.Goals as goal

pub returns-in-Some-clause-first : goal.returns-in-Some-clause-first
returns-in-Some-clause-first c f fs have =
    last_room f fs c.pop.new.self.items c.in-Some.room (subst (λ rs. HaveRooms (f ∷ fs) rs) c.in-Some.ensures.items have)

pub returns-in-Some-clause-others : goal.returns-in-Some-clause-others
returns-in-Some-clause-others c f fs have =
    rooms_left f fs c.pop.new.self.items c.in-Some.room (subst (λ rs. HaveRooms (f ∷ fs) rs) c.in-Some.ensures.items have)

pub returns-in-None-clause-first : goal.returns-in-None-clause-first
returns-in-None-clause-first c f fs have = no_room f fs c.args.rooms.now.items have (omega (arith, c.args.rooms.now.ok, c.in-None.ensures.cases.0)) c.new.result

pub returns-in-None-clause-others : goal.returns-in-None-clause-others
returns-in-None-clause-others c f fs have = none_left f fs c.args.rooms.now.items have (omega (arith, c.args.rooms.now.ok, c.in-None.ensures.cases.0)) _
