use Rattle.std.proofs.Common.{List, ℕ, subst, refl}
use Rattle.mctp_transport.specs.Wire.{Spells}
use Rattle.pldm_message.{specs.BaseCommands.{IsGetTidResponse, get_tid_answer_bytes}, specs.BaseCommandValues.{get_tid_answer}}
use Rattle.audited_captures.proofs.words.tid_answer_of.Goals as goal

pub returns-in-Ok : goal.returns-in-Ok
returns-in-Ok c =
    let m = get_tid_answer c.in-Ok.answer in
    (m, subst (λ (bytes : List ℕ). Spells IsGetTidResponse get_tid_answer_bytes m bytes) c.deref.ensures.value c.in-Ok.ensures.ok, refl)
