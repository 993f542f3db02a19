use Rattle.std.proofs.Common.{string_bytes}
use Rattle.step_files.specs.StepFiles.{IsTextOfCertificate}
use Rattle.step_files.proofs.texts.certificate_of.Goals as goal

pub returns-in-Ok : goal.returns-in-Ok
returns-in-Ok c =
    let made = c.in-Ok.ensures in
    let text = c.in_ok-text_of_certificate-in-Ok in
    let is : IsTextOfCertificate c.args.plan.now c.in-Ok.certificate (string_bytes text.field-0) = record {
      written = text.ensures.text;
      reads = text.ensures.reads_back made.well_formed;
      short = text.ensures.short made.well_formed made.few;
    } in
    (c.in-Ok.certificate, made.accepted, made.exact, is)
