use Rattle.std.proofs.Common.{List, ℕ, subst, refl}
use Rattle.mctp_transport.specs.Wire.{Spells}
use Rattle.pldm_message.{specs.BaseCommands.{IsGetTid, get_tid_bytes}, specs.BaseCommandValues.{get_tid}}
use Rattle.audited_captures.proofs.words.tid_request_of.Goals as goal

pub returns-in-Ok : goal.returns-in-Ok
returns-in-Ok c =
    let m = get_tid c.in-Ok.request in
    (m, subst (λ (bytes : List ℕ). Spells IsGetTid get_tid_bytes m bytes) c.deref.ensures.value c.in-Ok.ensures.ok, refl)
