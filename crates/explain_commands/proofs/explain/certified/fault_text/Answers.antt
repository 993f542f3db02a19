use Rattle.std.{proofs.Common.{◌≡◌, ◌++◌, ◌∙◌, List, ℕ, Some, string_bytes, ap, subst}, specs.Prelude.{IfOk}}
use Rattle.explain_commands.{specs.Explaining.{AreMoreTold}, proofs.Explained.{fault_written}}
use Rattle.fault_texts.specs.Places.{IsPlaceTold, obstacle_pointer}
use Rattle.net_rules.specs.declared.certify_error.CertifyError.TheVariants as error
use Rattle.explain_commands.proofs.explain.certified.fault_text.Goals as goal

pub returns : goal.returns
returns c =
    let given = c.args.given.now in
    let plan = given.plan in
    let cert = c.args.certificate.now in
    let fault = c.args.fault.now in
    let name = c.args.name.now in
    let place = string_bytes c.in_ok-place.place in
    let told = string_bytes c.in_ok-told.told in
    let more = string_bytes c.in_ok-more.more in
    let placed = subst (λ (t : List ℕ). IsPlaceTold name t (obstacle_pointer plan (error.Fault fault)) place) c.as_slice.ensures.value c.in_ok-place.ensures in
    let others = subst (λ (w : List ℕ). AreMoreTold plan (Some cert) w more) (c.deref.ensures ∙ c.in_ok-words.ensures.ok) c.in_ok-more.ensures in
    let written = subst (λ (l : List ℕ). IfOk c.format-2.result (λ t. string_bytes t ≡ l ++ (place ++ (told ++ more)))) c.in_ok-line.ensures c.format-2.ensures.ok in
    fault_written name c.args.certified_by.now given.text.items string_bytes plan cert fault c.find_cause-cause.result place told more
    c.format-2.result c.requires.first c.find_cause-cause.ensures placed c.in_ok-told.ensures others written
