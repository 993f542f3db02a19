use Rattle.std.proofs.Common.{sym, ◌∙◌, ap, refl, arith, true≢false}
use Rattle.mctp_transport.specs.PacketValues.{key_of}
use Rattle.net_sim.{specs.Flights.{flight_value}, proofs.traffic.Traffic.decide.Goals.{else-keep-via-then-keep+else-left-lt1, else-keep-via-else-keep}}
use Rattle.net_sim.proofs.traffic.Traffic.decide.Goals as goal

pub decide-requires : goal.decide-requires
decide-requires g c = (c.args.self.now.placed c.args.number (flight_value c.in-Some.flight.now) (sym c.in-Some.ensures)).0

pub returns : goal.returns
returns g c = (
  (
    flight_value c.in-Some.flight.now,
    sym c.in-Some.ensures,
    record {
      node = refl;
      key = c.key.ensures ∙ ap key_of c.view.ensures;
      ends = refl;
      hops = refl;
      decided = c.decide.ensures.decided;
      goes_on = c.decide.ensures.goes_on;
    },
  ),
  λ copy. elim c.else-keep.branch [
    | else-keep-via-then-keep+else-left-lt1 w ↦ omega (arith, w.left.ensures, w.if-left-lt1.false)
    | else-keep-via-else-keep w ↦ absurd (true≢false (sym copy ∙ w.if-keep.false))
  ],
)
