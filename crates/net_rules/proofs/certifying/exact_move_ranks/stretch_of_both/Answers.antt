use Rattle.std.{proofs.Common.{arith, refl, sym, ◌∙◌}, proofs.Math.Nat.{min-le_left, min-le_right}}
use Rattle.net_rules.proofs.MoveRankLaws.{shorter_alike}
use Rattle.net_rules.proofs.certifying.exact_move_ranks.stretch_of_both.Goals as goal

pub returns-clause-alike : goal.returns-clause-alike
returns-clause-alike c =
    let one = c.stretch_from-one.result in
    let other = c.stretch_from-other.result in
    shorter_alike c.args.before.now one.first.value one.first.value one.last.value c.lesser.result.value refl (omega (arith, c.lesser.ensures, min-le_left one.last.value other.last.value)) c.stretch_from-one.ensures.alike

pub returns-clause-alike_after : goal.returns-clause-alike_after
returns-clause-alike_after c =
    let one = c.stretch_from-one.result in
    let other = c.stretch_from-other.result in
    shorter_alike c.args.after.now one.first.value other.first.value other.last.value c.lesser.result.value (c.stretch_from-one.ensures.starts ∙ sym c.stretch_from-other.ensures.starts)
    (omega (arith, c.lesser.ensures, min-le_right one.last.value other.last.value)) c.stretch_from-other.ensures.alike
