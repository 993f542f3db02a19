use Rattle.std.{proofs.Common.{string_bytes, subst, sym}, specs.Cow.{cow_str_bytes}}
use Rattle.command_answers.{specs.declared.status.Status.{Status}, specs.Certifying.{IsCertifiedBy, IsRuledOutBy, Certifies}, proofs.Obstacles.{not_memory}}
use Rattle.command_answers.proofs.certify.certificate_of_plan.Goals as goal

pub returns-in_ok-text_of_certificate-in-Ok : goal.returns-in_ok-text_of_certificate-in-Ok
returns-in_ok-text_of_certificate-in-Ok c =
    let plan = c.args.plan.now in
    let made = c.in-Ok.ensures in
    let text = c.in_ok-text_of_certificate-in-Ok in
    let certified : IsCertifiedBy plan c.in-Ok.certificate (string_bytes text.field-0) = record {
      accepted = made.accepted;
      exact = made.exact;
      well_formed = made.well_formed;
      written = text.ensures.text;
      reads_back = text.ensures.reads_back made.well_formed;
      short = text.ensures.short made.well_formed made.few;
    } in
    let S : Status → Type 0 = λ s. Certifies plan s (cow_str_bytes c.found.result.text) in
    subst S (sym c.found.ensures.status) (c.in-Ok.certificate, subst (IsCertifiedBy plan c.in-Ok.certificate) (sym c.found.ensures.text) certified)

pub returns-in_ok-obstacle_line-in-Err : goal.returns-in_ok-obstacle_line-in-Err
returns-in_ok-obstacle_line-in-Err c =
    let plan = c.args.plan.now in
    let obstacle = c.in-Err.obstacle in
    let line = c.in_ok-obstacle_line-in-Err in
    let ruled_out : IsRuledOutBy plan obstacle (string_bytes line.field-0) = record {
      first = c.in-Err.ensures.obstacle;
      none = c.in-Err.ensures.none (not_memory plan obstacle (string_bytes line.field-0) line.ensures);
      written = line.ensures;
    } in
    let S : Status → Type 0 = λ s. Certifies plan s (cow_str_bytes c.fault.result.text) in
    subst S (sym c.fault.ensures.status) (obstacle, subst (IsRuledOutBy plan obstacle) (sym c.fault.ensures.text) ruled_out)
