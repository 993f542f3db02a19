-- A walker that takes an answer.
use Rattle.std.{proofs.Common.{◌≡◌, ◌≢◌, ℕ, true, false, List, [], Option, Some, None, Result, Ok, Err, refl, sym, ap, ◌∙◌, subst, inl, inr}, proofs.lemmas.List.Elements.{All-nil}, proofs.lemmas.Option.{same_Some}}
use Rattle.mctp_transport.specs.First.{First}
use Rattle.pldm_message.{specs.Headers.{HeaderValue, BeginsWith}, specs.Pdrs.{PartRequest, Part}}
use Rattle.pdr_repository.{specs.Walks.{IsStretch, follows}, specs.Faults.{IsLast}, specs.declared.walk_fault.Step.{Step as WalkStep}, specs.declared.walk_fault.WalkFault.{WalkFault}, specs.Walkers.{WalkState, HasTakenIn, fresh, Proceeds, state_after, Ignores, Takes, TakesMessage}, specs.declared.walk_fault.WalkFault.TheVariants.{NotAsked}}

-- before the first request a walker stands for no exchanges
pub fresh_stands : (w : WalkState) (count max_records max_bytes : ℕ) → w ≡ fresh count max_records max_bytes → HasTakenIn w []
fresh_stands w count max_records max_bytes is =
    let P : WalkState → Type 0 = λ v. HasTakenIn v [] in
    subst P (sym is) (record {
      collects = record { stretches = []; rest = []; whole = refl; each = All-nil IsStretch; open_one = inl refl; records = refl; data_so_far = refl };
      due = refl;
      goes = refl;
    })

-- what follows a last part depends on the request's count alone
same_follows : (r s : PartRequest) (p : Part) → r.count ≡ s.count → IsLast p → follows r (Ok p) ≡ follows s (Ok p)
same_follows r s p counts (inl four) = rw (four, counts) refl
same_follows r s p counts (inr five) = rw (five, counts) refl

pub completes_for : (old : WalkState) (r s : PartRequest) (p : Part) (result : Result WalkStep WalkFault) (new : WalkState) → r.count ≡ s.count → IsLast p → Proceeds old r p result new → Proceeds old s p result new
completes_for old r s p (Err fault) new counts last proceeds = proceeds
completes_for old r s p (Ok step) new counts last (is, state) = (is, state ∙ ap (λ d. record (state_after old r p) { due = d }) (same_follows r s p counts last))

-- a message with a header, while a request is outstanding
pub takes_headed : (old : WalkState) (bytes : List ℕ) (result : Result WalkStep WalkFault) (new : WalkState) (h : HeaderValue) (id : ℕ) → old.failed ≡ false → old.waiting ≡ Some id → BeginsWith h bytes
    → First (old.waiting ≢ Some h.instance) (Ignores old NotAsked result new) (TakesMessage old bytes result new) → Takes old bytes result new
takes_headed old bytes result new h id goes waiting begins rest = inr (
  (λ failed. let e : true ≡ false = sym failed ∙ goes in cc),
  inr ((λ none. let e : None ≡ Some id = sym none ∙ waiting in cc), inr ((λ none. none h begins), (h, begins, rest))),
)

-- another instance ID
pub other_id : (waiting : Option ℕ) (id instance : ℕ) → waiting ≡ Some id → instance ≢ id → waiting ≢ Some instance
other_id waiting id instance is other same = other (same_Some instance id (sym same ∙ is))
