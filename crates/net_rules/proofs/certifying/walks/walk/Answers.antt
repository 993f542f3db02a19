use Rattle.std.proofs.Common.{length}
use Rattle.net_rules.{specs.Circles.{MovesBy, HasCircle, AreMovesToEnds}, proofs.KnownEnds.{ends_circle_none}}
use Rattle.net_rules.proofs.certifying.walks.walk.Goals as goal

pub returns-in-Some : goal.returns-in-Some
returns-in-Some c =
    let made : AreMovesToEnds (MovesBy c.args.table.now) (length c.args.table.now) c.in-Some.counts.items = rw c.in-Some.is at c.in_ok-counts.ensures in
    (ends_circle_none c.args.table.now c.in-Some.counts.items made, made)

pub unreachable-requires : goal.unreachable-requires
unreachable-requires c =
    let circle : HasCircle (MovesBy c.args.table.now) = rw c.in_default.is at c.in_ok-counts.ensures in
    c.in-None.ensures circle.0 circle.1
