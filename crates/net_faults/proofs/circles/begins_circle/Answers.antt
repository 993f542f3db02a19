use Rattle.net_rules.specs.Circles.{MovesBy}
use Rattle.net_faults.{specs.Circles.{IsCircle}, proofs.CircleLaws.{circle_circles}}
use Rattle.net_faults.proofs.circles.begins_circle.Goals as goal

pub returns-in-Some-clause-yes : goal.returns-in-Some-clause-yes
returns-in-Some-clause-yes c = λ _.
    let is : IsCircle (MovesBy c.args.table.now) c.args.index c.in-Some._circle.items = rw c.in-Some.is at c.in_ok-_circle.ensures in
    circle_circles (MovesBy c.args.table.now) c.args.index c.in-Some._circle.items is
