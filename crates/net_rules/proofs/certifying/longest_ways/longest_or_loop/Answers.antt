use Rattle.std.proofs.Common.{length}
use Rattle.net_rules.{specs.Circles.{HasCircle, HasNoCircle}, specs.LongestWays.{AreLongest, MovesByEither}, proofs.WayLaws.{either_within, longest_circle_none}}
use Rattle.net_rules.proofs.certifying.longest_ways.longest_or_loop.Goals as goal

pub returns-in-Some : goal.returns-in-Some
returns-in-Some c =
    let old = c.args.old.now in
    let new = c.args.new.now in
    let made : AreLongest (MovesByEither old new) (length old) c.in-Some.counts.items = rw c.in-Some.is at c.in_ok-counts.ensures in
    (longest_circle_none (MovesByEither old new) (length old) c.in-Some.counts.items (either_within old new c.requires) made, made)

pub unreachable-requires : goal.unreachable-requires
unreachable-requires c =
    let circle : HasCircle (MovesByEither c.args.old.now c.args.new.now) = rw c.in_default.is at c.in_ok-counts.ensures in
    let none : HasNoCircle (MovesByEither c.args.old.now c.args.new.now) = rw c.in-None.is at c.in_ok-nodes.ensures in
    none circle.0 circle.1
