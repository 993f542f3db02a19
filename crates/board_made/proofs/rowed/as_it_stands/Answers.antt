use Rattle.std.proofs.Common.{refl, subst, sym}
use Rattle.plan_values.specs.PlanValues.{plan_value}
use Rattle.net_plan.{specs.PlanText.{IsPlanOf}, specs.Texts.{IsJsonTextOf}}
use Rattle.board_made.proofs.rowed.as_it_stands.Goals as goal

pub returns-clause-answer : goal.returns-clause-answer
returns-clause-answer c =
    let before = c.args.before.now in
    record {
      plan = before;
      certificate = c.requires.whole.certificate;
      reads = subst (λ text. IsJsonTextOf IsPlanOf text (plan_value before)) (sym c.in_ok-string_of.ensures) c.requires.reads;
      rowed = record {
        kept = record {
          accepted = c.requires.whole.accepted;
          same = record { unit = refl; buses = refl; nodes = refl };
          rows = λ n within r row at. (r, row, at, refl);
        };
        reaches = c.requires.whole.reaches;
      };
    }
