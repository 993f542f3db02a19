use Rattle.std.proofs.Common.{◌↔◌, IfOk, IsTrue, sym, subst}
use Rattle.net_reached.specs.Wishes.{IsMet}
use Rattle.net_reached.proofs.unmet.is_met.Goals as goal

pub returns-in-Reaches : goal.returns-in-Reaches
returns-in-Reaches c =
    subst (λ w. IfOk c.reaches.result (λ answer. IsTrue answer ↔ IsMet c.args.checked.now.0 w)) (sym c.in-Reaches.is) c.reaches.ensures

pub returns-in-ReachesAll : goal.returns-in-ReachesAll
returns-in-ReachesAll c =
    subst (λ w. IfOk c.reaches_all.result (λ answer. IsTrue answer ↔ IsMet c.args.checked.now.0 w)) (sym c.in-ReachesAll.is) c.reaches_all.ensures

pub returns-in-Avoids : goal.returns-in-Avoids
returns-in-Avoids c =
    subst (λ w. IfOk c.avoids.result (λ answer. IsTrue answer ↔ IsMet c.args.checked.now.0 w)) (sym c.in-Avoids.is) c.avoids.ensures
