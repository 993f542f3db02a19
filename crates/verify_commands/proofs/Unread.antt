-- Texts that can't be read.
use Rattle.std.{proofs.Common.{◌≡◌, ◌⊎◌, inl, inr, refl, sym, subst, ℕ, List, option_map}, specs.Prelude.{Option, Some, None, Ok, Vec}}
use Rattle.net_plan.{specs.TextFaults.{text_error}, specs.declared.stream.TextFault.{TextFault}}
use Rattle.verify_commands.specs.Folders.{IsCause, IsFault, Reading}
use Rattle.net_plan.specs.declared.stream.TextFault.TheVariants as fault

-- a fault that isn't told as want of memory is none
pub cause_of : (why : TextFault) → IsFault (text_error why) → IsCause why
cause_of fault.TooLong other is = absurd (cc)
cause_of fault.Device other is = absurd (cc)
cause_of fault.OutOfMemory other is = other refl

-- memory is wanting, or there is a cause
pub or_memory : (memory cause unread : Type 0) → memory ⊎ cause → (cause → unread) → memory ⊎ unread
or_memory memory cause unread (inl is) so = inl is
or_memory memory cause unread (inr is) so = inr (so is)

-- the bytes of a text that is there
pub held_bytes : {Z : Type 0} (Reads : List ℕ → Reading → Type 0) (path bytes : List ℕ) (found : Option (Vec ℕ Z)) (it : Vec ℕ Z) → found ≡ Some it → bytes ≡ it.items
    → Reads path (Ok (option_map (λ b. b.items) found)) → Reads path (Ok (Some bytes))
held_bytes Reads path bytes found it is same held =
    subst (λ bs. Reads path (Ok (Some bs))) (sym same) (subst (λ f. Reads path (Ok (option_map (λ b. b.items) f))) is held)

-- there is no such text
pub none_held : {Z : Type 0} (Reads : List ℕ → Reading → Type 0) (path : List ℕ) (found : Option (Vec ℕ Z)) → found ≡ None
    → Reads path (Ok (option_map (λ b. b.items) found)) → Reads path (Ok None)
none_held Reads path found is held = subst (λ f. Reads path (Ok (option_map (λ b. b.items) f))) is held
