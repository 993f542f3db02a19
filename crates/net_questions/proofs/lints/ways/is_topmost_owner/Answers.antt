use Rattle.net_questions.proofs.TopmostOwners.{is_number}
use Rattle.net_questions.proofs.lints.ways.is_topmost_owner.Goals as goal

pub returns : goal.returns
returns c =
    let compared = is_number c.topmost_owner.result c.args.owner in
    let told = c.topmost_owner.ensures c.args.owner in
    rw c.eq.ensures (λ h. told.0 (compared.0 h), λ is. compared.1 (told.1 is))
