-- The first fault of bytes is one.
use Rattle.std.proofs.Common.{◌≡◌, ℕ, List, Option, inl, inr, sym, ◌∙◌}
use Rattle.pldm_message.{specs.declared.pldm_error.PldmError.{PldmError}, specs.Faults.{MessageFault}}
use Rattle.mctp_transport.specs.First.{First}

-- two of the same tests in order come to the same
both : {G cause a b later more : Type 0} → (a → b → G) → (later → more → G) → First cause a later → First cause b more → G
both f g (inl x) (inl y) = f x.1 y.1
both f g (inl x) (inr y) = absurd (y.0 x.0)
both f g (inr x) (inl y) = absurd (x.0 y.0)
both f g (inr x) (inr y) = g x.1 y.1

-- there is one first fault
pub same_fault : (wanted : Type 0) (long : ℕ) (bytes : List ℕ) (e f : Option PldmError) → MessageFault wanted long bytes e → MessageFault wanted long bytes f → e ≡ f
same_fault wanted long bytes e f = both same (both same (both same (both same (both same (both same same)))))
  where
    same : {o : Option PldmError} → e ≡ o → f ≡ o → e ≡ f
    same p q = p ∙ sym q
