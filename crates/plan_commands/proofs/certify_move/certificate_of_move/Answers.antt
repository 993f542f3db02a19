use Rattle.std.{proofs.Common.{string_bytes, subst, sym}, specs.Cow.{cow_str_bytes}}
use Rattle.command_answers.specs.declared.status.Status.{Status}
use Rattle.fault_texts.{specs.RuledOutMoves.{IsMoveRuledOutBy}, proofs.RuledOutMoves.{not_memory_of_move}}
use Rattle.plan_commands.specs.MoveCertifying.{IsMoveCertifiedBy, CertifiesMove}
use Rattle.plan_commands.proofs.certify_move.certificate_of_move.Goals as goal

pub returns-in_ok-text_of_certificate-in-Ok : goal.returns-in_ok-text_of_certificate-in-Ok
returns-in_ok-text_of_certificate-in-Ok c =
    let before = c.args.before.now in
    let after = c.args.after.now in
    let made = c.in-Ok.ensures in
    let text = c.in_ok-text_of_certificate-in-Ok in
    let certified : IsMoveCertifiedBy before after c.in-Ok.certificate (string_bytes text.field-0) = record {
      accepted = made.accepted;
      exact = made.exact;
      well_formed = made.well_formed;
      written = text.ensures.text;
      reads_back = text.ensures.reads_back made.well_formed;
      short = text.ensures.short made.well_formed made.few;
    } in
    let S : Status → Type 0 = λ s. CertifiesMove before after s (cow_str_bytes c.found.result.text) in
    subst S (sym c.found.ensures.status) (c.in-Ok.certificate, subst (IsMoveCertifiedBy before after c.in-Ok.certificate) (sym c.found.ensures.text) certified)

pub returns-in_ok-move_obstacle_line-in-Err : goal.returns-in_ok-move_obstacle_line-in-Err
returns-in_ok-move_obstacle_line-in-Err c =
    let before = c.args.before.now in
    let after = c.args.after.now in
    let obstacle = c.in-Err.obstacle in
    let line = c.in_ok-move_obstacle_line-in-Err in
    let ruled_out : IsMoveRuledOutBy before after obstacle (string_bytes line.field-0) = record {
      first = c.in-Err.ensures.obstacle;
      none = c.in-Err.ensures.none (not_memory_of_move before obstacle (string_bytes line.field-0) line.ensures);
      written = line.ensures;
    } in
    let S : Status → Type 0 = λ s. CertifiesMove before after s (cow_str_bytes c.fault.result.text) in
    subst S (sym c.fault.ensures.status) (obstacle, subst (IsMoveRuledOutBy before after obstacle) (sym c.fault.ensures.text) ruled_out)
