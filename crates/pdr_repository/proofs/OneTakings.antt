-- A walker makes one thing of bytes, and one request.
use Rattle.std.{proofs.Common.{◌≡◌, ◌≢◌, ℕ, List, Option, Some, None, Result, Ok, Err, sym, ap, ◌∙◌, subst, inl, inr}, specs.Prelude.{MatchOption}, proofs.lemmas.Option.{same_Some}}
use Rattle.mctp_transport.specs.First.{First}
use Rattle.pldm_message.{specs.Headers.{HeaderValue, BeginsWith}, specs.HeaderLaws.{one_header}, specs.Messages.{ResponseMessage}, specs.Pdrs.{PartRequest, IsPartRequest, Part, get_pdr_request_bytes}, specs.PdrLaws.{one_get_pdr_answer}}
use Rattle.pdr_repository.{specs.Parts.{PartAnswer}, specs.Faults.{Judges, Room}, specs.declared.walk_fault.Step.{Step as WalkStep}, specs.declared.walk_fault.WalkFault.{WalkFault}, specs.declared.walk_fault.WalkFault.TheVariants.{FailedBefore, NotAsked, Unreadable, RecordChanged, OtherCode, OutOfMemory}, specs.Walkers.{WalkState, Asks, asked_under, Takes, TakesOutcome, TakesMessage, Proceeds, Ignores, Fails, IsAnswerIn, room_of}}

abbrev Answered : Type 0
Answered = Result WalkStep WalkFault

abbrev pub AreOne : Answered → Answered → WalkState → WalkState → Type 0
AreOne a b u v = (a ≡ b) × (u ≡ v)

-- of two tests in their order the same cause is the first
pub first_one : {C X Y P Q R : Type 0} → (X → P → R) → (Y → Q → R) → First C X Y → First C P Q → R
first_one now later (inl (_, x)) (inl (_, p)) = now x p
first_one now later (inl (is, _)) (inr (not, _)) = absurd (not is)
first_one now later (inr (not, _)) (inl (is, _)) = absurd (not is)
first_one now later (inr (_, y)) (inr (_, q)) = later y q

module _ (old : WalkState) (a b : Answered) (u v : WalkState) where
  ignored_one : (fault : WalkFault) → Ignores old fault a u → Ignores old fault b v → AreOne a b u v
  ignored_one fault x y = (x.0 ∙ sym y.0, x.1 ∙ sym y.1)

  failed_one : (fault : WalkFault) → Fails old fault a u → Fails old fault b v → AreOne a b u v
  failed_one fault x y = (x.0 ∙ sym y.0, x.1 ∙ sym y.1)

proceeds_one : (old : WalkState) (r : PartRequest) (p : Part) (a b : Answered) (u v : WalkState) → a ≢ Err OutOfMemory → b ≢ Err OutOfMemory → Proceeds old r p a u → Proceeds old r p b v → AreOne a b u v
proceeds_one old r p (Ok s) (Ok t) u v some some' x y = (ap Ok (x.0 ∙ sym y.0), x.1 ∙ sym y.1)
proceeds_one old r p (Ok s) (Err f) u v some some' x y = absurd (some' (ap Err y.0))
proceeds_one old r p (Err f) b u v some some' x y = absurd (some (ap Err x.0))

judged_one : (room : Room) (records : List (List ℕ)) (before : List ℕ) (r : PartRequest) (p : Part) (f g : Option WalkFault) → Judges room records before r p f → Judges room records before r p g → f ≡ g
judged_one room records before r p f g =
    first_one (λ x y. x ∙ sym y)
    (first_one (λ x y. x ∙ sym y)
    (first_one (λ x y. x ∙ sym y)
    (first_one (λ x y. x ∙ sym y)
    (first_one (λ x y. x ∙ sym y)
    (first_one (λ x y. x ∙ sym y) (λ x y. x ∙ sym y))))))

module _ (old : WalkState) (a b : Answered) (u v : WalkState) (some : a ≢ Err OutOfMemory) (some' : b ≢ Err OutOfMemory) where
  by_fault : (r : PartRequest) (p : Part) (fault : Option WalkFault) → MatchOption fault (Proceeds old r p a u) (λ f. Fails old f a u)
      → MatchOption fault (Proceeds old r p b v) (λ f. Fails old f b v) → AreOne a b u v
  by_fault r p None x y = proceeds_one old r p a b u v some some' x y
  by_fault r p (Some f) x y = failed_one old a b u v f x y

  outcome_one : (r : PartRequest) (answer : PartAnswer) → TakesOutcome old r answer a u → TakesOutcome old r answer b v → AreOne a b u v
  outcome_one r (Err code) x y = first_one (failed_one old a b u v RecordChanged) (failed_one old a b u v OtherCode) x y
  outcome_one r (Ok p) (fault, judges, x) (other, judges', y) =
      let same : other ≡ fault = judged_one (room_of old) old.records old.under_way r p other fault judges' judges in
      let P : Option WalkFault → Type 0 = λ o. MatchOption o (Proceeds old r p b v) (λ f. Fails old f b v) in
      by_fault r p fault x (subst P same y)

  message_one : (bytes : List ℕ) → TakesMessage old bytes a u → TakesMessage old bytes b v → AreOne a b u v
  message_one bytes = first_one (failed_one old a b u v Unreadable) read
    where
      read : (m : ResponseMessage Part) × (r : PartRequest) × IsAnswerIn bytes m × (old.due ≡ Some r) × TakesOutcome old r m.outcome a u
          → (m : ResponseMessage Part) × (r : PartRequest) × IsAnswerIn bytes m × (old.due ≡ Some r) × TakesOutcome old r m.outcome b v → AreOne a b u v
      read (m, r, spelled, due, x) (n, s, spelled', due', y) =
          let same : n ≡ m = one_get_pdr_answer n m spelled'.0 spelled.0 (sym spelled'.1 ∙ spelled.1) in
          let request : s ≡ r = same_Some s r (sym due' ∙ due) in
          let M : ResponseMessage Part → Type 0 = λ k. TakesOutcome old s k.outcome b v in
          let R : PartRequest → Type 0 = λ q. TakesOutcome old q m.outcome b v in
          outcome_one r m.outcome x (subst R request (subst M same y))

  pub takes_one : (bytes : List ℕ) → Takes old bytes a u → Takes old bytes b v → AreOne a b u v
  takes_one bytes = first_one (ignored_one old a b u v FailedBefore) (first_one (ignored_one old a b u v NotAsked) (first_one (failed_one old a b u v Unreadable) headed))
    where
      headed : (h : HeaderValue) × BeginsWith h bytes × First (old.waiting ≢ Some h.instance) (Ignores old NotAsked a u) (TakesMessage old bytes a u)
          → (h : HeaderValue) × BeginsWith h bytes × First (old.waiting ≢ Some h.instance) (Ignores old NotAsked b v) (TakesMessage old bytes b v) → AreOne a b u v
      headed (h, begins, x) (g, begins', y) =
          let same : g ≡ h = one_header g h begins'.0 begins.0 (sym begins'.1 ∙ begins.1) in
          let P : HeaderValue → Type 0 = λ k. First (old.waiting ≢ Some k.instance) (Ignores old NotAsked b v) (TakesMessage old bytes b v) in
          first_one (ignored_one old a b u v NotAsked) (message_one bytes) x (subst P same y)

-- ---- requests

pub asks_one : (old : WalkState) (id : ℕ) (request other : List ℕ) (u v : WalkState) → Asks old id (Some request) u → Asks old id (Some other) v → (request ≡ other) × (u ≡ v)
asks_one old id request other u v = first_one (λ x y. absurd (none x)) asked
  where
    none : (Some request ≡ None) × (u ≡ old) → ⊥
    none x = let e : Some request ≡ None = x.0 in cc

    asked : (r : PartRequest) × (old.due ≡ Some r) × IsPartRequest r × (Some request ≡ Some (get_pdr_request_bytes (asked_under id r))) × (u ≡ record old { waiting = Some id })
        → (r : PartRequest) × (old.due ≡ Some r) × IsPartRequest r × (Some other ≡ Some (get_pdr_request_bytes (asked_under id r))) × (v ≡ record old { waiting = Some id }) → (request ≡ other) × (u ≡ v)
    asked (r, due, fits, is, state) (s, due', fits', is', state') =
        let same : r ≡ s = same_Some r s (sym due ∙ due') in (
          same_Some request (get_pdr_request_bytes (asked_under id r)) is ∙ ap (λ q. get_pdr_request_bytes (asked_under id q)) same
              ∙ sym (same_Some other (get_pdr_request_bytes (asked_under id s)) is'),
          state ∙ sym state',
        )
