use Rattle.std.{proofs.Common.{◌≡◌, ◌≢◌, true, Option, None, Some, option_map, sym, ap, ◌∙◌, inr}, specs.Prelude.{is_some}, proofs.lemmas.Bool.{false≢true}}
use Rattle.mctp_control.{specs.declared.header.ControlInstanceId.{ControlInstanceId}, specs.Headers.{header_value}, specs.EntriesValue.{entries_of}}
use Rattle.mctp_bridge.proofs.entry_reader.EntryReader.take.Goals as goal

is_there : (o : Option ControlInstanceId) (id : ControlInstanceId) → o ≡ Some id → option_map (λ (id : ControlInstanceId). id.value) o ≢ None
is_there o id is none =
    let mapped = ap (option_map (λ (id : ControlInstanceId). id.value)) is in
    false≢true (sym (ap is_some none) ∙ ap is_some mapped)

pub returns-clause-takes : goal.returns-clause-takes
returns-clause-takes c =
    let part = c.in-Some-read.part in
    let going : c.args.self.now.failed ≢ true = λ h. false≢true (sym c.if-self.false ∙ h) in
    let waits = is_there c.args.self.now.waiting c.in-Some.id c.in-Some.is in
    inr (
      going,
      inr (
        waits,
        inr (
          (λ nothing. nothing _ _ _ c.in-Some-read.ensures),
          (header_value part.header, part.next, entries_of part.entries, c.in-Some-read.ensures, c.take_answer.ensures.takes),
        ),
      ),
    )
