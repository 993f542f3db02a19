use Rattle.net_tables.{specs.Routing.{rows_of}, proofs.TableLaws.{named}}
use Rattle.net_questions.proofs.WayLaws.{hop_of}
use Rattle.net_questions.proofs.lookup.hop_at.Goals as goal

pub returns-in-Some : goal.returns-in-Some
returns-in-Some c =
    let first = c.in-Some.ensures in
    hop_of (rows_of c.args.plan.now c.args.node) c.args.eid.value first.0 c.in-Some.row.now first.1 first.2

pub returns-in-None : goal.returns-in-None
returns-in-None c = λ hop routes. c.in-None.ensures (hop.next, named (rows_of c.args.plan.now c.args.node) c.args.eid.value hop routes)
