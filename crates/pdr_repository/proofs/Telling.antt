-- What the steps and requests of a walker say.
use Rattle.std.{proofs.Common.{◌≡◌, ◌⊎◌, inl, inr, true, false, ℕ, List, [], ◌∷◌, ◌++◌, Option, Some, None, Result, Ok, Err, option_map, refl, ap, sym, ◌∙◌, subst}, specs.Prelude.{MatchOption, if◌then◌else◌, ◌==◌}, proofs.lemmas.Bool.Decides.{eqb_tells}, proofs.lemmas.List.{append-nil}}
use Rattle.pldm_message.specs.Pdrs.{PartRequest, Part, get_pdr_request_bytes}
use Rattle.pdr_repository.{specs.Parts.{PartAnswer}, specs.Walks.{first_part, follows}, specs.Faults.{Judges, HasWrongFlag}, specs.declared.walk_fault.Step.{Step as WalkStep}, specs.declared.walk_fault.Step.TheVariants.{Record, Done}, specs.declared.walk_fault.WalkFault.{WalkFault}, specs.Walkers.{WalkState, HasTakenIn, Asks, AsksWhatIsDue, asked_under, Proceeds, Fails, TakesOutcome, Takes, TellsStep, Tells, state_after, step_after, room_of}}

-- the flags of a part without a fault
abbrev Flags : Part → Type 0
Flags p = (p.flag ≡ 0) ⊎ ((p.flag ≡ 1) ⊎ ((p.flag ≡ 4) ⊎ (p.flag ≡ 5)))

flags : (r : PartRequest) (p : Part) → ¬ HasWrongFlag r p → Flags p
flags r p right = elim (eqb_tells p.flag 0) [
  | inl is ↦ inl is.1
  | inr no_start ↦ elim (eqb_tells p.flag 1) [
    | inl is ↦ inr (inl is.1)
    | inr no_middle ↦ elim (eqb_tells p.flag 4) [
      | inl is ↦ inr (inr (inl is.1))
      | inr no_end ↦ elim (eqb_tells p.flag 5) [
        | inl is ↦ inr (inr (inr is.1))
        | inr no_whole ↦ absurd (right (inl (λ fits. elim fits [
          | inl (_, first) ↦ elim first [ inl zero_is ↦ no_start.1 zero_is | inr five ↦ no_whole.1 five ]
          | inr (_, next) ↦ elim next [ inl one_is ↦ no_middle.1 one_is | inr four ↦ no_end.1 four ]
        ])))
      ]
    ]
  ]
]

-- what a part without a fault leads to
completes : (old : WalkState) (r : PartRequest) (p : Part) (bytes : List ℕ) → step_after p ≡ (if p.next == 0 then Done else Record)
    → (state_after old r p).records ≡ old.records ++ bytes ∷ [] → follows r (Ok p) ≡ (if p.next == 0 then None else Some (first_part r.count p.next)) → TellsStep (step_after p) old (state_after old r p)
completes old r p bytes says more due = elim (eqb_tells p.next 0) [
  | inl none ↦
      let P : WalkStep → Type 0 = λ s. TellsStep s old (state_after old r p) in
      let done : step_after p ≡ Done = says ∙ rw none.0 refl in
      subst P (sym done) (bytes, more, due ∙ rw none.0 refl)
  | inr some ↦
      let P : WalkStep → Type 0 = λ s. TellsStep s old (state_after old r p) in
      let one_more : step_after p ≡ Record = says ∙ rw some.0 refl in
      let asks : follows r (Ok p) ≡ Some (first_part r.count p.next) = due ∙ rw some.0 refl in
      subst P (sym one_more) (bytes, more, λ over. let e : Some (first_part r.count p.next) ≡ None = sym asks ∙ over in cc)
]

told : (old : WalkState) (r : PartRequest) (p : Part) → Flags p → TellsStep (step_after p) old (state_after old r p)
told old r p (inl is) = rw is (append-nil old.records, λ none. cc)
told old r p (inr (inl is)) = rw is (append-nil old.records, λ none. cc)
told old r p (inr (inr (inl is))) = completes old r p (old.under_way ++ p.bytes) (rw is refl) (rw is refl) (rw is refl)
told old r p (inr (inr (inr is))) = completes old r p p.bytes (rw is refl) (rw is refl) (rw is refl)

told_after : (old new : WalkState) (r : PartRequest) (p : Part) (result : Result WalkStep WalkFault) → Flags p → Proceeds old r p result new → Tells result old new
told_after old new r p (Err fault) flagged proceeds = tt
told_after old new r p (Ok step) flagged (says, state) =
    let P : WalkStep → Type 0 = λ s. TellsStep s old new in
    let Q : WalkState → Type 0 = λ w. TellsStep (step_after p) old w in
    subst P (sym says) (subst Q (sym state) (told old r p flagged))

nothing_said : (old new : WalkState) (fault : WalkFault) (result : Result WalkStep WalkFault) → result ≡ Err fault → Tells result old new
nothing_said old new fault result is = rw is tt

by_fault : (old new : WalkState) (r : PartRequest) (p : Part) (result : Result WalkStep WalkFault) (fault : Option WalkFault) → Judges (room_of old) old.records old.under_way r p fault
    → MatchOption fault (Proceeds old r p result new) (λ f. Fails old f result new) → Tells result old new
by_fault old new r p result (Some fault) judges out = nothing_said old new fault result out.0
by_fault old new r p result None (inl (_, e)) out = absurd (let f : None ≡ Some _ = e in cc)
by_fault old new r p result None (inr (right, _)) out = told_after old new r p result (flags r p right) out

by_outcome : (old new : WalkState) (r : PartRequest) (a : PartAnswer) (result : Result WalkStep WalkFault) → TakesOutcome old r a result new → Tells result old new
by_outcome old new r (Err code) result (inl (_, out)) = nothing_said old new _ result out.0
by_outcome old new r (Err code) result (inr (_, out)) = nothing_said old new _ result out.0
by_outcome old new r (Ok p) result (fault, judges, out) = by_fault old new r p result fault judges out

-- each step says what was taken
pub tells : (old new : WalkState) (bytes : List ℕ) (result : Result WalkStep WalkFault) → Takes old bytes result new → Tells result old new
tells old new bytes result (inl (_, out)) = nothing_said old new _ result out.0
tells old new bytes result (inr (_, inl (_, out))) = nothing_said old new _ result out.0
tells old new bytes result (inr (_, inr (_, inl (_, out)))) = nothing_said old new _ result out.0
tells old new bytes result (inr (_, inr (_, inr (_, (h, _, inl (_, out)))))) = nothing_said old new _ result out.0
tells old new bytes result (inr (_, inr (_, inr (_, (h, _, inr (_, inl (_, out))))))) = nothing_said old new _ result out.0
tells old new bytes result (inr (_, inr (_, inr (_, (h, _, inr (_, inr (_, (m, r, _, _, out)))))))) = by_outcome old new r m.outcome result out

-- the request is the one that is due
pub asks_what_is_due : (old new : WalkState) (id : ℕ) (request : Option (List ℕ)) → Asks old id request new → AsksWhatIsDue old id request new
asks_what_is_due old new id request (inl (over, (none, same))) xs stands =
    let P : WalkState → Type 0 = λ w. HasTakenIn w xs in
    let due : old.due ≡ None = elim over [ inl failed ↦ absurd (let f : true ≡ false = sym failed ∙ stands.goes in cc) | inr done ↦ done ] in
    (none ∙ ap (option_map (λ r. get_pdr_request_bytes (asked_under id r))) (sym due ∙ stands.due), subst P (sym same) stands)
asks_what_is_due old new id request (inr (_, (r, due, _, is, state))) xs stands =
    let P : WalkState → Type 0 = λ w. HasTakenIn w xs in
    (is ∙ ap (option_map (λ s. get_pdr_request_bytes (asked_under id s))) (sym due ∙ stands.due), subst P (sym state) (record { collects = stands.collects; due = stands.due; goes = stands.goes }))
