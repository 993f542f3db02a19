-- Termini dealt one after another.
use Rattle.std.{proofs.Common.{◌≡◌, All, ◌⊎◌, ℕ, false, zero, suc, ◌+◌, ◌<◌, ◌≤◌, List, [], ◌∷◌, ◌++◌, length, map, drop, get_or, Option, Some, None, refl, sym, ◌∙◌, ap, subst, arith, inl, inr}, specs.Prelude.{slice_get}, specs.List.{filter_map, range_with_len}, proofs.lemmas.Option.{slice_get_past, slice_get_within, get_or_from_slice_get, none-some}, proofs.lemmas.List.{length-map, map-append, append-nil, append_assoc, drop_more, drop_all}}
use Rattle.plan_values.{specs.declared.nodes.Node.{Node}, specs.declared.plan.Plan.{Plan}, specs.declared.certificate.Certificate.{Certificate}, specs.declared.terminus.PlannedTerminus.{PlannedTerminus}}
use Rattle.mctp_transport.specs.declared.assembler.Assembler.{Assembler}
use Rattle.net_tables.specs.Repositories.{records_by_place}
use Rattle.net_runs.{specs.Termini.{TerminusState, terminus_at_start}, specs.States.{Flight, at_start}}
use Rattle.net_sim.{specs.Flights.{flight_at}, specs.Routers.{has_switched}, specs.Standing.{TrafficValue, HasNetworkState, at_place}, specs.Dealing.{dealt_to, left_by, dealt, at_rest, planned_termini}}
use Rattle.mctp_transport.specs.Assembly as assembly

module _ {D : Type 0} (see : D → Option TerminusState) (nodes : List Node) where
  pub none_dealt : (queues : List D) (termini : List TerminusState) → queues ≡ [] → map see queues ++ dealt (drop 0 nodes) termini ≡ dealt nodes termini
  none_dealt queues termini none = ap (λ ds. map see ds ++ dealt nodes termini) none

  pub one_dealt : (queues more : List D) (queue : D) (i : ℕ) (node : Node) (old new : List TerminusState) (all : List (Option TerminusState)) → i < length nodes → node ≡ get_or nodes i node
      → more ≡ queues ++ queue ∷ [] → ((rest : List Node) → dealt (node ∷ rest) old ≡ see queue ∷ dealt rest new) → map see queues ++ dealt (drop i nodes) old ≡ all
      → map see more ++ dealt (drop (i + 1) nodes) new ≡ all
  one_dealt queues more queue i node old new all within is pushed dealing before =
      ap (λ ds. map see ds ++ dealt (drop (i + 1) nodes) new) pushed
      ∙ (ap (λ ys. ys ++ dealt (drop (i + 1) nodes) new) (map-append see queues (queue ∷ []))
      ∙ (append_assoc (map see queues) (see queue ∷ []) (dealt (drop (i + 1) nodes) new)
      ∙ (ap (λ ys. map see queues ++ ys) (sym (dealing (drop (i + 1) nodes)))
      ∙ (ap (λ n. map see queues ++ dealt (n ∷ drop (i + 1) nodes) old) is
      ∙ (ap (λ ns. map see queues ++ dealt ns old) (sym (drop_more nodes i node within)) ∙ before)))))

  pub all_dealt : (queues : List D) (i : ℕ) (termini : List TerminusState) (all : List (Option TerminusState)) → length nodes ≤ i → map see queues ++ dealt (drop i nodes) termini ≡ all → map see queues ≡ all
  all_dealt queues i termini all past before =
      sym (append-nil (map see queues)) ∙ (ap (λ ns. map see queues ++ dealt ns termini) (sym (drop_all i nodes past)) ∙ before)

pub dealt_same : {B : Type 0} (see : B → TerminusState) (nodes nodes' : List Node) (bs bs' : List B) → nodes ≡ nodes' → bs ≡ bs' → dealt nodes (map see bs) ≡ dealt nodes' (map see bs')
dealt_same see nodes nodes' bs bs' same same' = ap (λ ns. dealt ns (map see bs)) same ∙ ap (λ xs. dealt nodes' (map see xs)) same'

-- ---- what is dealt of a plan's termini

-- a place has a terminus exactly where the node has one
abbrev pub IsTold : (ℕ → Option TerminusState) → ℕ → Option PlannedTerminus → Type 0
IsTold f n terminus = ((terminus ≡ None) × (f n ≡ None)) ⊎ ((t : PlannedTerminus) × (s : TerminusState) × (terminus ≡ Some t) × (f n ≡ Some s))

none_to : (node : Node) (nodes : List Node) (ts : List TerminusState) → node.terminus ≡ None → dealt (node ∷ nodes) ts ≡ None ∷ dealt nodes ts
none_to node nodes ts none = ap (λ o. dealt_to o ts ∷ dealt nodes (left_by o ts)) none

some_to : (node : Node) (nodes : List Node) (t : PlannedTerminus) (s : TerminusState) (ts : List TerminusState) → node.terminus ≡ Some t → dealt (node ∷ nodes) (s ∷ ts) ≡ Some s ∷ dealt nodes ts
some_to node nodes t s ts some = ap (λ o. dealt_to o (s ∷ ts) ∷ dealt nodes (left_by o (s ∷ ts))) some

left_out : (f : ℕ → Option TerminusState) (n : ℕ) (ns : List ℕ) → f n ≡ None → filter_map f (n ∷ ns) ≡ filter_map f ns
left_out f n ns gone = rw gone refl

let_in : (f : ℕ → Option TerminusState) (n : ℕ) (s : TerminusState) (ns : List ℕ) → f n ≡ Some s → filter_map f (n ∷ ns) ≡ s ∷ filter_map f ns
let_in f n s ns stands = rw stands refl

dealt_all : (f : ℕ → Option TerminusState) (nodes : List Node) (base : ℕ) → ((i : ℕ) (node : Node) → slice_get nodes i ≡ Some node → IsTold f (base + i) node.terminus)
    → ((i : ℕ) → length nodes ≤ i → f (base + i) ≡ None) → (i : ℕ) → at_place (dealt nodes (filter_map f (range_with_len base (length nodes)))) i ≡ f (base + i)
dealt_all f [] base told past i = sym (past i (omega arith))
dealt_all f (node ∷ nodes) base told past i =
    let here : base + 0 ≡ base = omega arith in
    let further : (k : ℕ) → base + 1 + k ≡ base + suc k = λ k. omega arith in
    let rest : (k : ℕ) → at_place (dealt nodes (filter_map f (range_with_len (base + 1) (length nodes)))) k ≡ f (base + 1 + k) =
    dealt_all f nodes (base + 1)
    (λ k other is. (let P : ℕ → Type 0 = λ n. IsTold f n other.terminus in subst P (sym (further k)) (told (suc k) other is)))
    (λ k less. ap f (further k) ∙ past (suc k) (omega (arith, less))) in
    elim (told 0 node refl) [
      | inl (none, nothing) ↦ (
          let gone : f base ≡ None = ap f (sym here) ∙ nothing in
          let ts = range_with_len (base + 1) (length nodes) in
          ap (λ xs. at_place xs i) (ap (λ xs. dealt (node ∷ nodes) xs) (left_out f base ts gone) ∙ none_to node nodes (filter_map f ts) none) ∙ at i here gone rest further)
      | inr (t, s, some, there) ↦ (
          let stands : f base ≡ Some s = ap f (sym here) ∙ there in
          let ts = range_with_len (base + 1) (length nodes) in
          ap (λ xs. at_place xs i) (ap (λ xs. dealt (node ∷ nodes) xs) (let_in f base s ts stands) ∙ some_to node nodes t s (filter_map f ts) some) ∙ at' i s here stands rest further)
    ]
  where
    at : (i : ℕ) → base + 0 ≡ base → f base ≡ None → ((k : ℕ) → at_place (dealt nodes (filter_map f (range_with_len (base + 1) (length nodes)))) k ≡ f (base + 1 + k)) → ((k : ℕ) → base + 1 + k ≡ base + suc k)
        → at_place (None ∷ dealt nodes (filter_map f (range_with_len (base + 1) (length nodes)))) i ≡ f (base + i)
    at zero here gone rest further = sym (ap f here ∙ gone)
    at (suc k) here gone rest further = rest k ∙ ap f (further k)

    at' : (i : ℕ) (s : TerminusState) → base + 0 ≡ base → f base ≡ Some s → ((k : ℕ) → at_place (dealt nodes (filter_map f (range_with_len (base + 1) (length nodes)))) k ≡ f (base + 1 + k)) → ((k : ℕ) → base + 1 + k ≡ base + suc k)
        → at_place (Some s ∷ dealt nodes (filter_map f (range_with_len (base + 1) (length nodes)))) i ≡ f (base + i)
    at' zero s here stands rest further = sym (ap f here ∙ stands)
    at' (suc k) s here stands rest further = rest k ∙ ap f (further k)

told_of : (plan : Plan) (cert : Certificate) (n : ℕ) (node : Node) → slice_get plan.nodes.items n ≡ Some node → IsTold (terminus_at_start plan cert) n node.terminus
told_of plan cert n node is = by node.terminus refl
  where
    by : (o : Option PlannedTerminus) → node.terminus ≡ o → IsTold (terminus_at_start plan cert) n node.terminus
    by None none = inl (none, rw is (rw none refl))
    by (Some t) some = inr (t, record { tid = t.tid; records = records_by_place plan cert n; waiting = [] }, some, rw is (rw some refl))

pub dealt_planned : (plan : Plan) (cert : Certificate) (n : ℕ) → at_place (dealt plan.nodes.items (planned_termini plan cert)) n ≡ terminus_at_start plan cert n
dealt_planned plan cert n =
    let f = terminus_at_start plan cert in
    let plain : (k : ℕ) → 0 + k ≡ k = λ k. omega arith in
    dealt_all f plan.nodes.items 0
    (λ i node is. (let P : ℕ → Type 0 = λ k. IsTold f k node.terminus in subst P (sym (plain i)) (told_of plan cert i node is)))
    (λ i past. ap f (plain i) ∙ gone i past) n
    ∙ ap f (plain n)
  where
    gone : (i : ℕ) → length plan.nodes.items ≤ i → terminus_at_start plan cert i ≡ None
    gone i past = rw (slice_get_past plan.nodes.items i past) refl

-- ---- a network in which nothing has happened

pub stands_at_rest : (plan : Plan) (given : List TerminusState) (v : TrafficValue) → v.flights ≡ None ∷ []
    → ((n : ℕ) (a : Assembler) → slice_get v.assemblers n ≡ Some a → assembly.HoldsHistory a []) → v.termini ≡ dealt plan.nodes.items given
    → ((n : ℕ) → has_switched v.switched n ≡ false) → HasNetworkState v (at_rest plan given)
stands_at_rest plan given v flights idle termini unswitched = record {
  flights = λ number. no_flight number ∙ ap (λ fs. flight_at fs number) (sym flights);
  made = ap length (sym flights);
  histories = idle;
  termini = λ n. sym (ap (λ ts. at_place ts n) termini);
  switched = λ n. sym (unswitched n);
}
  where
    no_flight : (number : ℕ) → None ≡ flight_at (None ∷ []) number
    no_flight zero = refl
    no_flight (suc k) = refl

-- with the planned termini that is the state at the start of each run
pub rest_is_start : (plan : Plan) (cert : Certificate) (given : List TerminusState) (v : TrafficValue) → HasNetworkState v (at_rest plan given)
    → given ≡ planned_termini plan cert → HasNetworkState v (at_start plan cert)
rest_is_start plan cert given v s planned = record {
  flights = s.flights;
  made = s.made;
  histories = s.histories;
  termini = λ n. sym (dealt_planned plan cert n) ∙ (ap (λ ts. at_place (dealt plan.nodes.items ts) n) (sym planned) ∙ s.termini n);
  switched = s.switched;
}

pub all_at : {X : Type 0} (P : X → Type 0) (xs : List X) → All P xs → (n : ℕ) (x : X) → slice_get xs n ≡ Some x → P x
all_at P xs all n x is = subst P (get_or_from_slice_get xs n x x is) (all n x (slice_get_within xs n x is))

dealt_long : (nodes : List Node) (ts : List TerminusState) → length (dealt nodes ts) ≡ length nodes
dealt_long [] ts = refl
dealt_long (node ∷ nodes) ts = ap suc (dealt_long nodes (left_by node.terminus ts))

-- as many queues as nodes
pub queues_long : {D : Type 0} (see : D → Option TerminusState) (queues : List D) (nodes : List Node) (ts : List TerminusState) → map see queues ≡ dealt nodes ts → length queues ≡ length nodes
queues_long see queues nodes ts is = sym (length-map queues see) ∙ (ap length is ∙ dealt_long nodes ts)

-- no flight is there where there is none
pub no_flight_there : (slots : List (Option Flight)) (number : ℕ) (f : Flight) → slots ≡ None ∷ [] → flight_at slots number ≡ Some f → ⊥
no_flight_there slots number f none is = never number (ap (λ fs. flight_at fs number) (sym none) ∙ is)
  where
    never : (k : ℕ) → flight_at (None ∷ []) k ≡ Some f → ⊥
    never zero there = none-some f there
    never (suc k) there = none-some f there
