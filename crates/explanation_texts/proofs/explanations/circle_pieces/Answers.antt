use Rattle.std.{proofs.Common.{◌∙◌, ap, subst, sym}, specs.List.{flat_map}}
use Rattle.net_rules.{specs.Circles.{IsLoopFrom, IsOnCircle}, specs.RecordChains.{IsFollowedBy}}
use Rattle.explanation_texts.{specs.Explanations.{around, record_subjects}, specs.Pieces.{entry_at}}
use Rattle.explanation_texts.proofs.explanations.circle_pieces.Goals as goal

pub circle_from-requires-clause-circle : goal.circle_from-requires-clause-circle
circle_from-requires-clause-circle c = subst (λ rs. IsOnCircle (IsFollowedBy rs) c.args.index) (sym c.records_at.ensures) c.requires.circle

pub returns : goal.returns
returns c =
    let circle = c.in_ok-circle.circle.items in (
      circle,
      subst (λ rs. IsLoopFrom (IsFollowedBy rs) c.args.index circle) c.records_at.ensures c.in_ok-circle.ensures,
      c.in_ok-pieces.ensures
          ∙ ap (flat_map (λ k. record_subjects (entry_at c.args.node k))) (c.around.ensures ∙ ap around c.deref.ensures.value),
    )
