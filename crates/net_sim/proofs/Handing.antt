-- What a message does to the walker that takes it, and to its outstanding request.
use Rattle.std.{proofs.Common.{◌≡◌, ◌≢◌, ℕ, List, true, Option, Some, None, Ok, Err, refl, sym, ◌∙◌, inl, inr}, proofs.lemmas.Bool.Decides.{eqb_tells}}
use Rattle.pldm_message.specs.InstanceIds.{IdSet, TakesBack}
use Rattle.pdr_repository.{specs.declared.walk_fault.Step.{Step as WalkStep}, specs.declared.walk_fault.WalkFault.TheVariants.{OutOfMemory}, specs.Walkers.{WalkState, Takes}}
use Rattle.net_runs.specs.Walkers.{WalkerValue}
use Rattle.net_sim.specs.NetworkWalkers.{HasTakenMessage}

ok_or_err : {S F : Type 0} (s : S) (f : F) → Ok s ≡ Err f → ⊥
ok_or_err s f e = cc

module _ (old new : WalkState) (message : List ℕ) where
  -- an answer is taken only where a request is outstanding
  pub step_was_asked : (step : WalkStep) → Takes old message (Ok step) new → old.waiting ≢ None
  step_was_asked step (inl (failed, (told, is))) none = ok_or_err step _ told
  step_was_asked step (inr (goes, inl (idle, (told, is)))) none = ok_or_err step _ told
  step_was_asked step (inr (goes, inr (some, rest))) none = some none

some_of : (o : Option ℕ) → o ≢ None → (k : ℕ) × (o ≡ Some k)
some_of None some = absurd (some refl)
some_of (Some k) some = (k, refl)

-- An answer gives its ID back, that of the outstanding request.
pub took_answer : (old : WalkerValue) (message : List ℕ) (step : WalkStep) (walk : WalkState) (ids : IdSet) (outstanding : Option ℕ) → outstanding ≡ old.walk.waiting
    → Takes old.walk message (Ok step) walk → ((k : ℕ) → outstanding ≡ Some k → TakesBack old.ids k ids)
    → HasTakenMessage old message (Ok step) (record old { walk = walk; ids = ids })
took_answer old message step walk ids outstanding waits takes back =
    let asked = some_of old.walk.waiting (step_was_asked old.walk walk message step takes) in
    record {
      walk = walk;
      ids = ids;
      takes = takes;
      memory = λ e. ok_or_err step OutOfMemory e;
      given_back = (asked.0, asked.1, back asked.0 (waits ∙ asked.1));
      is = refl;
    }

-- once the only ID that is out is back, none is out
none_is_out : (old new : IdSet) (k : ℕ) (outstanding : Option ℕ) → outstanding ≡ Some k → ((id : ℕ) → old.out id ≡ true → outstanding ≡ Some id) → TakesBack old k new
    → (id : ℕ) → ¬ (new.out id ≡ true)
none_is_out old new k outstanding is alone back id out = elim (eqb_tells id k) [
  | inl same ↦ (let gone = back.out id in let e = same.0 in cc)
  | inr other ↦ (
      let kept = back.out id in
      let e = other.0 in
      let was : old.out id ≡ true = cc in
      let at : Some k ≡ Some id = sym is ∙ alone id was in
      other.1 (cc))
]

-- after an answer no ID is out
pub none_after_answer : (old : WalkerValue) (message : List ℕ) (step : WalkStep) (walk : WalkState) (ids : IdSet) (outstanding : Option ℕ) → outstanding ≡ old.walk.waiting
    → ((id : ℕ) → old.ids.out id ≡ true → outstanding ≡ Some id) → Takes old.walk message (Ok step) walk → ((k : ℕ) → outstanding ≡ Some k → TakesBack old.ids k ids)
    → (id : ℕ) → ¬ (ids.out id ≡ true)
none_after_answer old message step walk ids outstanding waits alone takes back =
    let (k, is) = some_of old.walk.waiting (step_was_asked old.walk walk message step takes) in
    none_is_out old.ids ids k outstanding (waits ∙ is) alone (back k (waits ∙ is))
