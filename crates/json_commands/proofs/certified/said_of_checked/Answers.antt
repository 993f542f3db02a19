use Rattle.std.proofs.Common.{sym, subst}
use Rattle.serde_json.specs.View.{view}
use Rattle.command_questions.specs.declared.certified.CertifiedJson.{CertifiedJson}
use Rattle.json_commands.specs.Certified.{AreCheckedSaid}
use Rattle.json_commands.proofs.certified.said_of_checked.Goals as goal

pub returns-in_ok-way_between-in-Trace : goal.returns-in_ok-way_between-in-Trace
returns-in_ok-way_between-in-Trace c =
    let way = c.in_ok-way_between-in-Trace in
    let checked = c.args.checked.now in
    let Says : CertifiedJson → Type 0 = λ q. AreCheckedSaid q c.args.name.now c.args.given.now.text.items checked.0 checked.1 (view way.field-0.value) in
    (way.ensures.0, subst Says (sym c.in-Trace.is) way.ensures.1)
