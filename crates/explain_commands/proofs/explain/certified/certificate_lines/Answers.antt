use Rattle.std.proofs.Common.{string_bytes, sym, subst}
use Rattle.explain_commands.specs.Explaining.{IsRemedyTold}
use Rattle.explain_commands.proofs.explain.certified.certificate_lines.Goals as goal

pub returns : goal.returns
returns c = (
  string_bytes c.in_ok-text.text,
  c.deref.result.now,
  c.in_ok-text.ensures,
  subst (IsRemedyTold c.args.name.now c.args.given.now.text.items c.args.given.now.plan) (sym c.deref.ensures) c.in_ok-remedy_lines.ensures,
  c.in_ok-push_str.ensures.bytes,
)
