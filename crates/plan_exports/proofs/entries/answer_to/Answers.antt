use Rattle.std.{proofs.Common.{ℕ, List, None, Some, sym, ap, subst, ◌∙◌}, specs.Prelude.{is_some, option_map}, proofs.lemmas.Bool.{false≢true}}
use Rattle.mctp_control.{specs.Devices.{device_value}, specs.EntryLists.{values_of}}
use Rattle.plan_exports.{specs.TableAnswers.{IsAnswer}, proofs.Answering.{is_answer, same_some}}
use Rattle.plan_exports.proofs.entries.answer_to.Goals as goal

pub unreachable-requires : goal.unreachable-requires
unreachable-requires c =
    let told = is_answer (values_of c.args.table.now) c.requires.short (device_value c.args.bridge.now) c.requires.bridge c.args.handle c.requires.known _ _ c.answer.ensures in
    absurd (false≢true (ap (λ r. is_some (option_map (λ (m : _). m.items) r)) (sym c.in-None.is) ∙ ap is_some told.1))

pub returns-clause-answer : goal.returns-clause-answer
returns-clause-answer c =
    let table = values_of c.args.table.now in
    let device = device_value c.args.bridge.now in
    let told = is_answer table c.requires.short device c.requires.bridge c.args.handle c.requires.known _ _ c.answer.ensures in
    let is = same_some _ _ (ap (option_map (λ (m : _). m.items)) (sym c.in-Some.is) ∙ told.1) in
    subst (λ (m : List ℕ). IsAnswer device table c.args.handle m) (sym is) told.2

pub returns-clause-same : goal.returns-clause-same
returns-clause-same c =
    (is_answer (values_of c.args.table.now) c.requires.short (device_value c.args.bridge.now) c.requires.bridge c.args.handle c.requires.known _ _ c.answer.ensures).3
