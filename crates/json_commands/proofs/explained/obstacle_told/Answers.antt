use Rattle.std.{proofs.Common.{subst}, specs.Prelude.{◌≢◌, string_bytes}}
use Rattle.net_rules.specs.declared.certify_error.CertifyError.{CertifyError}
use Rattle.explanation_texts.specs.Explanations.{IsObstacleTold}
use Rattle.net_rules.specs.declared.certify_error.CertifyError.TheVariants as error
use Rattle.json_commands.proofs.explained.obstacle_told.Goals as goal

-- Want of memory is explained by nothing.
pub returns : goal.returns
returns c =
    let obstacle = c.args.obstacle in
    let told = c.in_ok-told_with_edits in
    let Told : CertifyError → Type 0 = λ e. IsObstacleTold c.args.given.now.plan e (string_bytes c.in_ok-lines.lines) in
    let is_other : obstacle ≢ error.OutOfMemory = λ is. (subst Told is c.in_ok-lines.ensures).1 in
    (told.ensures.0, (obstacle, c.requires.names, is_other, c.requires.none is_other, told.ensures.1))
