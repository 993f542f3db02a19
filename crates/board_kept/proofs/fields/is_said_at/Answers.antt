use Rattle.std.{proofs.Common.{◌∙◌, subst}, proofs.lemmas.Option.{same_Some}}
use Rattle.toml.specs.View.{view}
use Rattle.record_fields.specs.Meanings.{named_of}
use Rattle.board_kept.specs.Fields.{IsSaidOne}
use Rattle.board_kept.proofs.fields.is_said_at.Goals as goal

pub returns-in_ok-is_said_one-in-Some : goal.returns-in_ok-is_said_one-in-Some
returns-in_ok-is_said_one-in-Some c = λ yes field at.
    subst (λ f. IsSaidOne c.args.plan.now c.args.name.now f (view c.args.value.now) c.args.index)
    (same_Some (named_of c.in-Some.field) field (c.in-Some.ensures ∙ at)) (c.in_ok-is_said_one-in-Some.ensures yes)
