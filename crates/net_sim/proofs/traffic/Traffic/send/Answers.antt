use Rattle.std.{proofs.Common.{◌≡◌, false, ◌+◌, ◌-◌, ◌<◌, ◌≤◌, length, Some, refl, sym, ◌∙◌, ap, subst, arith}, specs.Prelude.{slice_get, option_map}, proofs.lemmas.Option.{slice_get_read}}
use Rattle.mctp_transport.{specs.PacketsLeft.{frames_left}, specs.Cutting.{ArePacketsOf}, proofs.Sending.{few_packets}}
use Rattle.plan_values.{specs.declared.plan.Plan.{Plan}, specs.declared.nodes.Node.{Node}}
use Rattle.net_sim.{specs.Flights.{slots_of}, proofs.Packing.{begun_length}, proofs.Rooms.{enough_rooms}, proofs.Requesting.{as_cut}}
use Rattle.net_runs.{specs.States.{unit_of}, proofs.Units.{least_unit}}
use Rattle.net_sim.proofs.traffic.Traffic.send.Goals as goal

pub put_all-requires-clause-few : goal.put_all-requires-clause-few
put_all-requires-clause-few g c =
    let count : length (frames_left c.within-packets.result) ≤ 64 = few_packets (unit_of c.args.self.now.router.tables.plan) 64 c.args.answer.now _ _ _ (frames_left c.within-packets.result) (as_cut c.unit.ensures.unit c.within-packets.ensures) (omega (arith, c.requires.most, least_unit c.args.self.now.router.tables.plan)) in
    omega (arith, c.requires.few, count)

pub put_all-requires-clause-room : goal.put_all-requires-clause-room
put_all-requires-clause-room g c =
    let count : length (frames_left c.within-packets.result) ≤ 64 = few_packets (unit_of c.args.self.now.router.tables.plan) 64 c.args.answer.now _ _ _ (frames_left c.within-packets.result) (as_cut c.unit.ensures.unit c.within-packets.ensures) (omega (arith, c.requires.most, least_unit c.args.self.now.router.tables.plan)) in
    omega (arith, c.requires.room, count)

pub put_all-requires-clause-rooms : goal.put_all-requires-clause-rooms
put_all-requires-clause-rooms g c =
    enough_rooms (unit_of c.args.self.now.router.tables.plan) c.args.answer.now _ _ _ (frames_left c.within-packets.result) (as_cut c.unit.ensures.unit c.within-packets.ensures) c.args.rooms.items
    4096 c.requires.most c.requires.enough c.requires.rooms

pub overflow_cast-result-2 : goal.overflow_cast-result-2
overflow_cast-result-2 g c =
    let ps = frames_left c.within-packets.result in
    let count : length ps ≤ 64 = few_packets (unit_of c.args.self.now.router.tables.plan) 64 c.args.answer.now _ _ _ ps (as_cut c.unit.ensures.unit c.within-packets.ensures) (omega (arith, c.requires.most, least_unit c.args.self.now.router.tables.plan)) in
    let long : length (slots_of c.put_all.new.self.flights) ≡ length (slots_of c.args.self.now.flights) + length ps = ap length c.put_all.ensures.flights ∙ begun_length (slots_of c.args.self.now.flights) c.args.node ps in
    omega (arith, c.requires.few, count, long, c.next_number-last.ensures.next)

pub returns-clause-sends : goal.returns-clause-sends
returns-clause-sends g c =
    let now = c.args.self.now in
    let plan : Plan = now.router.tables.plan in
    let ps = frames_left c.within-packets.result in
    let long : length (slots_of c.put_all.new.self.flights) ≡ length (slots_of now.flights) + length ps = ap length c.put_all.ensures.flights ∙ begun_length (slots_of now.flights) c.args.node ps in
    let eid = c.index.result.now.eid.value in
    let within : c.args.node < length c.plan.result.now.nodes.items = subst (λ (p : Plan). c.args.node < length p.nodes.items) (sym c.plan.ensures.plan) c.requires.node in
    let there : slice_get c.plan.result.now.nodes.items c.args.node ≡ Some c.index.result.now = slice_get_read _ _ _ c.index.result.now refl within c.index.ensures in
    let here : slice_get plan.nodes.items c.args.node ≡ Some c.index.result.now = subst (λ (p : Plan). slice_get p.nodes.items c.args.node ≡ Some c.index.result.now) c.plan.ensures.plan there in
    record {
      eid = eid;
      packets = ps;
      first = c.next_number-first.result;
      last = c.next_number-last.result - 1;
      holds = ap (option_map (λ (n : Node). n.eid.value)) here;
      are = subst (λ n. ArePacketsOf (unit_of now.router.tables.plan) c.args.answer.now c.args.asked.source.value (record { source = eid; tag = c.args.asked.tag.value; owner = false }) n ps) c.new.ensures (as_cut c.unit.ensures.unit c.within-packets.ensures);
      tells = refl;
      begins = c.next_number-first.ensures.next;
      ends = omega (arith, long, c.next_number-last.ensures.next, c.next_number-last.ensures.some);
      flights = c.put_all.ensures.flights;
    }
