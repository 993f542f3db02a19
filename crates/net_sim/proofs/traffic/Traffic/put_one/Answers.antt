use Rattle.std.proofs.Common.{◌≤◌, length, subst, arith}
use Rattle.mctp_transport.{specs.Packets.{key_value}, specs.PacketsLeft.{frames_left}, specs.Cutting.{ArePacketsOf}, proofs.Sending.{few_packets}}
use Rattle.net_sim.{proofs.Slots.{same_means}, proofs.Rooms.{short_needs_none}, proofs.Changes.{same_marks}, proofs.Requesting.{puts_one, as_cut}}
use Rattle.net_runs.{specs.States.{unit_of}, proofs.Units.{least_unit}}
use Rattle.net_sim.proofs.traffic.Traffic.put_one.Goals as goal

pub put_all-requires-clause-few : goal.put_all-requires-clause-few
put_all-requires-clause-few g c =
    let count : length (frames_left c.within-packets.result) ≤ 1 = few_packets (unit_of c.args.self.now.router.tables.plan) 1 c.args.message.now _ _ _ (frames_left c.within-packets.result) (as_cut c.unit.ensures.unit c.within-packets.ensures) (omega (arith, c.requires.most, least_unit c.args.self.now.router.tables.plan)) in
    omega (arith, c.requires.few, count)

pub put_all-requires-clause-room : goal.put_all-requires-clause-room
put_all-requires-clause-room g c =
    let count : length (frames_left c.within-packets.result) ≤ 1 = few_packets (unit_of c.args.self.now.router.tables.plan) 1 c.args.message.now _ _ _ (frames_left c.within-packets.result) (as_cut c.unit.ensures.unit c.within-packets.ensures) (omega (arith, c.requires.most, least_unit c.args.self.now.router.tables.plan)) in
    omega (arith, c.requires.room, count)

pub put_all-requires-clause-rooms : goal.put_all-requires-clause-rooms
put_all-requires-clause-rooms g c =
    short_needs_none (unit_of c.args.self.now.router.tables.plan) c.args.message.now _ _ _ (frames_left c.within-packets.result) (as_cut c.unit.ensures.unit c.within-packets.ensures) _ c.requires.most

pub returns-clause-puts : goal.returns-clause-puts
returns-clause-puts g c =
    let now = c.args.self.now in
    let key = key_value c.args.key in
    puts_one now.router.tables _ _ c.args.node c.next_number-number.result c.args.message.now c.args.destination.value key c.requires.node c.requires.few c.next_number-number.ensures.next
    c.requires.some c.requires.most c.args.destination.in_range c.args.key.source.in_range c.args.key.tag.in_range (frames_left c.within-packets.result)
    (subst (λ n. ArePacketsOf (unit_of now.router.tables.plan) c.args.message.now c.args.destination.value key n (frames_left c.within-packets.result)) c.new.ensures (as_cut c.unit.ensures.unit c.within-packets.ensures))
    c.put_all.ensures.flights c.put_all.ensures.assemblers (same_means _ _ _ c.put_all.ensures.queues) (same_marks _ _ c.put_all.ensures.router)
