use Rattle.std.proofs.Common.{string_bytes, sym, subst}
use Rattle.explain_commands.specs.Explaining.{AreEditsTold}
use Rattle.net_rules.specs.declared.certify_error.CertifyError.TheVariants as error
use Rattle.explain_commands.proofs.explain.certified.cause_text.Goals as goal

pub returns : goal.returns
returns c = (
  string_bytes c.in_ok-text.text,
  c.deref.result.now,
  c.in_ok-text.ensures,
  subst (AreEditsTold c.args.given.now.plan (error.Fault c.args.fault.now)) (sym c.deref.ensures) c.in_ok-edits_text.ensures,
  c.in_ok-push_str.ensures.bytes,
)
