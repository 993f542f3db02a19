use Rattle.net_rules.specs.Moves.{Leads}
use Rattle.net_questions.{specs.Lint.{IsForwardedTo}, proofs.Walks.{NotWithin}}
use Rattle.net_questions.proofs.lints.ways.comes_to.Given as goal

abbrev pub invariant-loop-moves : goal.invariant-loop-moves
invariant-loop-moves l = record {
  way : Leads (IsForwardedTo l.plan l.eid.value) l.from l._moves l.at;
  none : NotWithin (IsForwardedTo l.plan l.eid.value) l.from l.to l._moves;
}
