use Rattle.std.proofs.Common.{refl, option_map, ap, inl, inr, sym, ◌∙◌, Some}
use Rattle.pldm_message.specs.HeaderValues.{header_value}
use Rattle.pdr_repository.proofs.Taking.{takes_headed, other_id}
use Rattle.pdr_repository.proofs.walker.Walker.take_bytes.Goals as goal

pub returns-then-header-id-clause-takes : goal.returns-then-header-id-clause-takes
returns-then-header-id-clause-takes c =
    let waiting = ap (option_map (λ i. i.value)) c.in-Some-Some.is-0 in
    takes_headed _ _ _ _ (header_value c.in-Ok.header) _ c.if-self.false waiting c.in-Ok.ensures.ok (inl (other_id _ _ _ waiting c.if-header-id.true, (refl, refl)))

pub returns-clause-takes : goal.returns-clause-takes
returns-clause-takes c =
    let waiting = ap (option_map (λ i. i.value)) c.in-Some-Some.is-0 in
    takes_headed _ _ _ _ (header_value c.in-Ok.header) _ c.if-self.false waiting c.in-Ok.ensures.ok (inr ((λ differs. differs (waiting ∙ ap Some (sym c.if-header-id.false))), c.take_message.ensures.takes))
