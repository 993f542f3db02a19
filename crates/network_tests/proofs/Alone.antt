-- The termini that are planned where one node has a terminus, with one record.
use Rattle.std.{proofs.Common.{◌≡◌, ◌≢◌, ℕ, zero, suc, ◌+◌, ◌<◌, ◌≤◌, List, [], ◌∷◌, length, map, take, Result, Ok, Err, Option, Some, None, refl, sym, ◌∙◌, ap, subst, arith, inl, inr}, specs.Prelude.{option_map, slice_get, IfOk}, specs.List.{filter_map, range_with_len}, proofs.lemmas.Bool.{cases_lt, cases_order}, proofs.lemmas.Option.{same_Some, none-some, slice_get_past, slice_get_within}}
use Rattle.plan_values.{specs.declared.plan.Plan.{Plan}, specs.declared.certificate.Certificate.{Certificate}, specs.declared.terminus.PlannedRecord.{PlannedRecord}, specs.declared.terminus.PlannedTerminus.{PlannedTerminus}}
use Rattle.pdr_repository.specs.Records.{Entry, IsLawful}
use Rattle.net_tables.{specs.Repositories.{terminus_of, records_of, places_of, entry_of, by_place, records_by_place, HaveOrder}, specs.Routing.{node_at}, specs.TwoPlans.{Tables, one_plan}}
use Rattle.net_rules.specs.Rules.{Accepts}
use Rattle.net_runs.{specs.Walkers.{WalkedEvent}, specs.WalkedRuns.{WalkedRunFrom}, specs.States.{at_start}, specs.Termini.{TerminusState, terminus_at_start}, proofs.ByPlace.{by_place_length, placed, is_lawful}}
use Rattle.net_check.proofs.Accepted.{accepted_orders}
use Rattle.net_sim.{specs.declared.network.Played.{Played}, specs.Dealing.{planned_termini}, specs.Outcomes.{outcome_value}, specs.Played.{PlaysAll}, specs.WalkedStanding.{NetworkValue, StandsForWalked, without_walkers}}
use Rattle.network_tests.specs.Planned.{IsAlone, IsRunFromStart}

-- a list of one
module _ {X : Type 0} (h : ℕ → Option X) (k : ℕ) (x : X) (here : h k ≡ Some x) (others : (m : ℕ) → m ≢ k → h m ≡ None) where
  none_after : (a n : ℕ) → k < a → filter_map h (range_with_len a n) ≡ []
  none_after a zero past = refl
  none_after a (suc n) past = rw (others a (λ same. omega (arith, past, same))) (none_after (a + 1) n (omega (arith, past)))

  one_there : (a n : ℕ) → a ≤ k → k < a + n → filter_map h (range_with_len a n) ≡ x ∷ []
  one_there a zero from below = absurd (omega (arith, from, below))
  one_there a (suc n) from below = elim (cases_order a k) [
    | inl same ↦ (let at : h a ≡ Some x = ap h same ∙ here in rw at (ap (λ xs. x ∷ xs) (none_after (a + 1) n (omega (arith, same)))))
    | inr (inl less) ↦ rw (others a (λ same. omega (arith, less, same))) (one_there (a + 1) n (omega (arith, less)) (omega (arith, below)))
    | inr (inr more) ↦ absurd (omega (arith, from, more))
  ]

pub alone_in : {X : Type 0} (xs : List X) (x : X) → length xs ≡ 1 → slice_get xs 0 ≡ Some x → xs ≡ x ∷ []
alone_in [] x long is = absurd (none-some x is)
alone_in (y ∷ []) x long is = ap (λ z. z ∷ []) (same_Some y x is)
alone_in (y ∷ (z ∷ zs)) x long is = absurd (omega (arith, long))

-- one record stands at place 0
one_by_place : (r : PlannedRecord) (places : List ℕ) → HaveOrder (r ∷ []) places → by_place (r ∷ []) places ≡ entry_of r ∷ []
one_by_place r places order =
    let chained = order.chained 0 r refl in
    let first : chained.place ≡ 0 = omega (arith, chained.within) in
    alone_in (by_place (r ∷ []) places) (entry_of r) (by_place_length (r ∷ []) places order)
    (placed (r ∷ []) places order 0 0 r refl (chained.given ∙ ap Some first))

alone_planned : (plan : Plan) (cert : Certificate) (n : ℕ) (t : PlannedTerminus) (r : PlannedRecord) → Accepts plan cert → IsAlone plan n → terminus_of plan n ≡ Some t → t.records.items ≡ r ∷ []
    → planned_termini plan cert ≡ record { tid = t.tid; records = entry_of r ∷ []; waiting = [] } ∷ []
alone_planned plan cert n t r accepted alone there one =
    let state : TerminusState = record { tid = t.tid; records = entry_of r ∷ []; waiting = [] } in
    let listed = records_are plan n t r there one in
    let order = accepted_orders plan cert accepted n (λ none. absurd (none-some t (sym none ∙ there))) in
    let P : List PlannedRecord → Type 0 = λ rs. HaveOrder rs (places_of cert n) in
    let read : records_by_place plan cert n ≡ entry_of r ∷ [] = ap (λ rs. by_place rs (places_of cert n)) listed ∙ one_by_place r (places_of cert n) (subst P listed order) in
    let here : terminus_at_start plan cert n ≡ Some state =
    ap (option_map (λ t. record { tid = t.tid; records = records_by_place plan cert n; waiting = [] })) there ∙ ap (λ rs. Some (record { tid = t.tid; records = rs; waiting = [] })) read in
    one_there (terminus_at_start plan cert) n state here
    (λ m other. ap (option_map (λ t. record { tid = t.tid; records = records_by_place plan cert m; waiting = [] })) (alone m other))
    0 (length plan.nodes.items) (omega arith) (omega (arith, within plan n t there))
  where
    records_are : (plan : Plan) (n : ℕ) (t : PlannedTerminus) (r : PlannedRecord) → terminus_of plan n ≡ Some t → t.records.items ≡ r ∷ [] → records_of plan n ≡ r ∷ []
    records_are plan n t r there one = rw there one

    within : (plan : Plan) (n : ℕ) (t : PlannedTerminus) → terminus_of plan n ≡ Some t → n < length plan.nodes.items
    within plan n t there = by (node_at plan n) refl
      where
        by : (node : Option _) → node_at plan n ≡ node → n < length plan.nodes.items
        by None none = absurd (cc)
        by (Some node) some = slice_get_within plan.nodes.items n node some

-- a record of an accepted plan makes a lawful list
alone_lawful : (plan : Plan) (cert : Certificate) (n : ℕ) (t : PlannedTerminus) (r : PlannedRecord) → Accepts plan cert → terminus_of plan n ≡ Some t → t.records.items ≡ r ∷ [] → IsLawful (entry_of r ∷ [])
alone_lawful plan cert n t r accepted there one =
    let order = accepted_orders plan cert accepted n (λ none. absurd (none-some t (sym none ∙ there))) in
    let listed : records_of plan n ≡ r ∷ [] = rw there one in
    let P : List PlannedRecord → Type 0 = λ rs. HaveOrder rs (places_of cert n) in
    let ordered = subst P listed order in
    subst IsLawful (one_by_place r (places_of cert n) ordered) (is_lawful (r ∷ []) (places_of cert n) ordered)

-- the same of the plan that is read, and of a list of the record
pub planned_here : (plan plan' : Plan) (cert : Certificate) (n tid : ℕ) (t : PlannedTerminus) (r : PlannedRecord) (records : List Entry) → Accepts plan cert → plan' ≡ plan → IsAlone plan' n
    → terminus_of plan' n ≡ Some t → t.records.items ≡ r ∷ [] → tid ≡ t.tid → records ≡ entry_of r ∷ []
    → planned_termini plan cert ≡ record { tid = tid; records = records; waiting = [] } ∷ []
planned_here plan plan' cert n tid t r records accepted same alone there one id listed =
    let P : Plan → Type 0 = λ p. IsAlone p n in
    let Q : Plan → Type 0 = λ p. terminus_of p n ≡ Some t in
    let state : ℕ → List Entry → List TerminusState = λ k rs. record { tid = k; records = rs; waiting = [] } ∷ [] in
    alone_planned plan cert n t r accepted (subst P same alone) (subst Q same there) one
    ∙ (ap (λ k. state k (entry_of r ∷ [])) (sym id) ∙ ap (state tid) (sym listed))

pub lawful_here : (plan plan' : Plan) (cert : Certificate) (n : ℕ) (t : PlannedTerminus) (r : PlannedRecord) (records : List Entry) → Accepts plan cert → plan' ≡ plan → terminus_of plan' n ≡ Some t
    → t.records.items ≡ r ∷ [] → records ≡ entry_of r ∷ [] → IsLawful records
lawful_here plan plan' cert n t r records accepted same there one listed =
    let Q : Plan → Type 0 = λ p. terminus_of p n ≡ Some t in
    subst IsLawful (sym listed) (alone_lawful plan cert n t r accepted (subst Q same there) one)

-- no other node has a terminus where none of the plan's other nodes has
pub alone_among : (plan : Plan) (n : ℕ) → ((m : ℕ) → m < length plan.nodes.items → m ≢ n → terminus_of plan m ≡ None) → IsAlone plan n
alone_among plan n before m other = elim (cases_lt m (length plan.nodes.items)) [
  | inl within ↦ before m within other
  | inr past ↦ rw (slice_get_past plan.nodes.items m past) refl
]

-- one node more
pub none_more : (plan : Plan) (n k : ℕ) → ((m : ℕ) → m < k → m ≢ n → terminus_of plan m ≡ None) → (k ≢ n → terminus_of plan k ≡ None) → (m : ℕ) → m < k + 1 → m ≢ n → terminus_of plan m ≡ None
none_more plan n k before here m below other = elim (cases_lt m k) [
  | inl less ↦ before m less other
  | inr from ↦ (
      let same : m ≡ k = omega (arith, below, from) in
      let P : ℕ → Type 0 = λ i. i ≢ n → terminus_of plan i ≡ None in
      subst P (sym same) here other)
]

-- what is played on a network that stands for the start is a run from there
pub started : {E : Type 0} (plan : Plan) (cert : Certificate) (events : List WalkedEvent) (result : Result Played E) (tables : Tables) (old new : NetworkValue)
    → IfOk result (λ played. PlaysAll tables old (take (length played.outcomes.items) events) (map outcome_value played.outcomes.items) new)
    → tables ≡ one_plan plan → StandsForWalked old (without_walkers (at_start plan cert))
    → IfOk result (λ played. IsRunFromStart plan cert (take (length played.outcomes.items) events) (map outcome_value played.outcomes.items))
started plan cert events (Ok played) tables old new plays same stands =
    let run = plays (without_walkers (at_start plan cert)) stands in
    let R : Tables → Type 0 = λ t. WalkedRunFrom t (without_walkers (at_start plan cert)) run.turns in
    record { turns = run.turns; events_are = run.events_are; outcomes_are = run.outcomes_are; runs = subst R same run.runs }
started plan cert events (Err e) tables old new plays same stands = tt
