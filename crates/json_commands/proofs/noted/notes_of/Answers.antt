use Rattle.std.{proofs.Common.{List, ℕ, subst}, specs.Prelude.{IfOk}}
use Rattle.serde_json.specs.View.{view}
use Rattle.json_commands.specs.Values.{IsListTold}
use Rattle.json_commands.proofs.noted.notes_of.Goals as goal

pub returns-in-Ok : goal.returns-in-Ok
returns-in-Ok g c =
    let Told : List ℕ → Type 0 = λ t. IfOk c.notes_in.result (λ v. IsListTold (g.N.Noted.noted c.args.noter.now c.args.form c.args.name.now t) c.args.items.now (view v)) in
    subst Told c.as_slice-text.ensures.value c.notes_in.ensures
