-- Loops of rows, listed EID by EID and node by node.
use Rattle.std.{proofs.Common.{◌≡◌, ℕ, suc, ◌+◌, ◌<◌, ◌≤◌, ◌⊎◌, List, [], ◌∷◌, ◌++◌, length, get_or, Option, Some, None, refl, sym, ◌∙◌, ap, subst, arith, inl, inr, Vec, Global}, specs.Prelude.{slice_get}, proofs.lemmas.Bool.{cases_lt}, proofs.lemmas.Option.{same_Some, slice_get_within, slice_get-get_or}}
use Rattle.mctp_transport.specs.declared.address.Eid.{Eid}
use Rattle.plan_values.specs.declared.plan.Plan.{Plan}
use Rattle.net_tables.proofs.Elements.{element, in_push, push_left, push_last}
use Rattle.net_rules.{specs.Circles.{MovesBy}, specs.Faults.{LessByFirstDifference}}
use Rattle.net_faults.{specs.declared.plan_fault.PlanFault.{PlanFault}, specs.declared.plan_fault.PlanFault.TheVariants.{Obstacle}, specs.Circles.{IsAmong, IsCircle, IsNotLeast, AreJoined}, specs.FirstRows.{GoesTo, AreTables, IsJoinedBy}, specs.PlanFaults.{nodes_of, key_of, first_of, AreEidsOf, AreEidsRound, IsLoopTold, AreRoutingLoops, AreLoopsBefore, HasItsLoop}, proofs.CircleLaws.{circle_joined, circle_same, not_least_same, all_listed, one_circle, least_is_least}, proofs.NextLaws.{goes_only, goes_within, goes_in_byte, table_to, table_from, table_at}, proofs.ListLaws.{less_trans_two, less_next, ascend_more, each_more, first_is}}
use Rattle.net_rules.specs.declared.certify_error.CertifyError.TheVariants as error

-- ---- EIDs

-- the EIDs below a bound of which a fact holds
pub record AreEidsBelow (P : ℕ → Type 0) (bound : ℕ) (eids : List ℕ) : Type 0 where
  pub sound : (i e : ℕ) → slice_get eids i ≡ Some e → P e × (e < bound)
  pub all : (e : ℕ) → e < bound → P e → IsAmong eids e
  pub ascend : (i j d e : ℕ) → i < j → slice_get eids i ≡ Some d → slice_get eids j ≡ Some e → d < e

pub no_eids : (P : ℕ → Type 0) → AreEidsBelow P 0 []
no_eids P = record { sound = λ i e is. absurd (cc is); all = λ e lt. absurd (omega (arith, lt)); ascend = λ i j d e less is. absurd (cc is) }

pub eid_skipped : (P : ℕ → Type 0) (bound : ℕ) (eids : List ℕ) → AreEidsBelow P bound eids → ¬ P bound → AreEidsBelow P (bound + 1) eids
eid_skipped P bound eids are not = record {
  sound = λ i e is. (let s = are.sound i e is in (s.0, omega (arith, s.1)));
  all = λ e lt p. elim (cases_lt e bound) [ inl less ↦ are.all e less p | inr here ↦ (let same : e ≡ bound = omega (arith, here, lt) in absurd (not (subst P same p))) ];
  ascend = are.ascend;
}

pub eid_pushed : (P : ℕ → Type 0) (bound : ℕ) (eids : List ℕ) → AreEidsBelow P bound eids → P bound → AreEidsBelow P (bound + 1) (eids ++ bound ∷ [])
eid_pushed P bound eids are p = record {
  sound = λ i e is. elim (in_push eids bound i e is) [
    | inl before ↦ (let s = are.sound i e before in (s.0, omega (arith, s.1)))
    | inr (_, same) ↦ (subst P same p, omega (arith, same))
  ];
  all = λ e lt q. elim (cases_lt e bound) [
    | inl less ↦ (let there = are.all e less q in (there.0, push_left eids bound there.0 e there.1))
    | inr here ↦ (let same : bound ≡ e = omega (arith, here, lt) in (length eids, push_last eids bound ∙ ap Some same))
  ];
  ascend = λ i j d e less is is'. elim (in_push eids bound j e is') [
    | inl before ↦ elim (in_push eids bound i d is) [
      | inl was ↦ are.ascend i j d e less was before
      | inr (last, _) ↦ absurd (omega (arith, last, less, slice_get_within eids j e before))
    ]
    | inr (last, same) ↦ elim (in_push eids bound i d is) [
      | inl was ↦ (let s = are.sound i d was in omega (arith, s.1, same))
      | inr (last', _) ↦ absurd (omega (arith, last, last', less))
    ]
  ];
}

pub all_eids : (P : ℕ → Type 0) (bound : ℕ) (eids : List ℕ) → ((e : ℕ) → P e → e < bound) → AreEidsBelow P bound eids → AreEidsOf P eids
all_eids P bound eids within are = record {
  exact = λ e. (λ (i, is). (are.sound i e is).0, λ p. are.all e (within e p) p);
  ascend = are.ascend;
}

-- where they are those of one fact they are those of another that is the same
pub eids_same : (P Q : ℕ → Type 0) (eids : List ℕ) → ((e : ℕ) → P e → Q e) → ((e : ℕ) → Q e → P e) → AreEidsOf P eids → AreEidsOf Q eids
eids_same P Q eids to from are = record { exact = λ e. (λ among. to e ((are.exact e).0 among), λ q. (are.exact e).1 (from e q)); ascend = are.ascend }

-- the first of them is the least
pub first_least : (P : ℕ → Type 0) (eids : List ℕ) (d e : ℕ) → AreEidsOf P eids → slice_get eids 0 ≡ Some d → P e → d ≤ e
first_least P eids d e are is p =
    let there = (are.exact e).1 p in
    elim (cases_lt 0 there.0) [
      | inl later ↦ omega (arith, are.ascend 0 there.0 d e later is there.1)
      | inr first ↦ (
          let at : there.0 ≡ 0 = omega (arith, first) in
          omega (arith, same_Some d e (sym is ∙ (ap (λ k. slice_get eids k) (sym at) ∙ there.1))))
    ]

-- ---- the EIDs that go round

module _ {Z : Type 0} (plan : Plan) (tables : List (Vec (Option ℕ) Z)) (are : AreTables plan tables) where
  -- moves by a table of an EID are those for it
  pub circle_for : (e first : ℕ) (table : Vec (Option ℕ) Z) (places : List ℕ) → slice_get tables e ≡ Some table → IsCircle (MovesBy table.items) first places → IsCircle (GoesTo plan e) first places
  circle_for e first table places at is = circle_same (MovesBy table.items) (GoesTo plan e) (table_to plan e table.items (are.1 e table at)) first places is

  pub not_least_for : (e first : ℕ) (table : Vec (Option ℕ) Z) → slice_get tables e ≡ Some table → IsNotLeast (MovesBy table.items) first → IsNotLeast (GoesTo plan e) first
  not_least_for e first table at not =
      not_least_same (MovesBy table.items) (GoesTo plan e) (table_to plan e table.items (are.1 e table at)) (table_from plan e table.items (are.1 e table at)) first not

  module _ (e first : ℕ) (places : List ℕ) (is : IsCircle (GoesTo plan e) first places) where
    joined_to : (d : ℕ) → IsJoinedBy tables d places → IsCircle (GoesTo plan d) first places
    joined_to d (table, at, joined) = circle_joined (GoesTo plan e) (GoesTo plan d) first places is (λ i n m here there. table_to plan d table.items (are.1 d table at) n m (joined i n m here there))

    joined_from : (d : ℕ) → IsCircle (GoesTo plan d) first places → IsJoinedBy tables d places
    joined_from d circle =
        let a = element places 0 (omega (arith, circle.loop.loop.two)) in
        let b = element places (0 + 1) (omega (arith, circle.loop.loop.two)) in
        let byte = goes_in_byte plan d a.0 b.0 (circle.loop.loop.joined 0 a.0 b.0 a.1 b.1) in
        let table = table_at plan tables are d byte in
        (table.0, table.1, λ i n m here there. table_from plan d table.0.items table.2 n m (circle.loop.loop.joined i n m here there))

    pub eids_for : (eids : List ℕ) → AreEidsOf (λ d. IsJoinedBy tables d places) eids → AreEidsRound plan first places eids
    eids_for eids = eids_same (λ d. IsJoinedBy tables d places) (λ d. IsCircle (GoesTo plan d) first places) eids joined_to joined_from

    pub here_joined : IsJoinedBy tables e places
    here_joined = joined_from e is

-- ---- the list

pub no_loops : (plan : Plan) → AreLoopsBefore plan 0 0 []
no_loops plan = record {
  sound = λ i f is. absurd (cc is);
  before = λ i f is. absurd (cc is);
  all = λ d n less. absurd (elim less [ inl lt ↦ omega (arith, lt) | inr (same, rest) ↦ elim rest [ inl lt ↦ omega (arith, lt) | inr (same', none) ↦ none ] ]);
  in_order = λ i j f g lt is. absurd (cc is);
}

-- before the next node is before this one, or it
before_next : (d n e m : ℕ) → LessByFirstDifference (d ∷ n ∷ []) (e ∷ (m + 1) ∷ []) → LessByFirstDifference (d ∷ n ∷ []) (e ∷ m ∷ []) ⊎ ((e ≡ d) × (m ≡ n))
before_next d n e m (inl lt) = inl (inl lt)
before_next d n e m (inr (same, inl lt)) = elim (cases_lt n m) [
  | inl less ↦ inl (inr (same, inl less))
  | inr here ↦ inr (sym same, omega (arith, here, lt))
]
before_next d n e m (inr (same, inr (same', none))) = absurd none

module _ (plan : Plan) (e m : ℕ) (found : List PlanFault) (are : AreLoopsBefore plan e m found) where
  -- no loop, or one that is listed
  pub loop_skipped : HasItsLoop plan found e m → AreLoopsBefore plan e (m + 1) found
  loop_skipped has = record {
    sound = are.sound;
    before = λ i f at. less_trans_two (key_of f) e m (are.before i f at);
    all = λ d n less. elim (before_next d n e m less) [
      | inl before ↦ are.all d n before
      | inr (same, same') ↦ subst (λ k. HasItsLoop plan found d k) same' (subst (λ k. HasItsLoop plan found k m) same has)
    ];
    in_order = are.in_order;
  }

  -- a lesser EID goes round the same nodes, so that the loop is listed
  pub loop_listed : (d : ℕ) (places : List ℕ) → d < e → IsCircle (GoesTo plan d) m places → IsCircle (GoesTo plan e) m places → HasItsLoop plan found e m
  loop_listed d places less circle is = elim (are.all d m (inl less)) [
    | inl not ↦ absurd (least_is_least (GoesTo plan d) (goes_only plan d) m places circle not)
    | inr (i, f, at, listed) ↦ (
        let same = one_circle (GoesTo plan d) (goes_only plan d) m places (nodes_of f) circle listed in
        inr (i, f, at, subst (λ ns. IsCircle (GoesTo plan e) m ns) same is))
  ]

  module _ (eid : Eid) (nodes : Vec ℕ Global) (more : ℕ) (eids : List ℕ) (here : eid.value ≡ e) (is : IsCircle (GoesTo plan e) m nodes.items) (round : AreEidsRound plan m nodes.items eids)
      (least : slice_get eids 0 ≡ Some e) (many : length eids ≡ more + 1) where
    abbrev new : PlanFault
    new = Obstacle (error.Loop eid nodes) more

    key : key_of new ≡ e ∷ m ∷ []
    key = ap (λ k. k ∷ first_of nodes.items ∷ []) here ∙ ap (λ k. e ∷ k ∷ []) (first_is nodes.items m is.loop.starts)

    pub loop_pushed : AreLoopsBefore plan e (m + 1) (found ++ Obstacle (error.Loop eid nodes) more ∷ [])
    loop_pushed = record {
      sound = each_more (IsLoopTold plan) found new are.sound (m, eids, round, least ∙ ap Some (sym here), many);
      before = each_more (λ f. LessByFirstDifference (key_of f) (e ∷ (m + 1) ∷ [])) found new (λ i f at. less_trans_two (key_of f) e m (are.before i f at))
          (subst (λ k. LessByFirstDifference k (e ∷ (m + 1) ∷ [])) (sym key) (inr (refl, inl (omega arith))));
      all = λ d n less. elim (before_next d n e m less) [
        | inl before ↦ elim (are.all d n before) [
          | inl not ↦ inl not
          | inr (i, f, at, circle) ↦ inr (i, f, push_left found new i f at, circle)
        ]
        | inr (same, same') ↦ inr (
          length found,
          new,
          push_last found new,
          subst (λ k. IsCircle (GoesTo plan d) k nodes.items) same' (subst (λ k. IsCircle (GoesTo plan k) m nodes.items) same is),
        )
      ];
      in_order = ascend_more found new are.in_order (λ i f at. subst (λ k. LessByFirstDifference (key_of f) k) (sym key) (are.before i f at));
    }

  -- the next EID
  pub next_eid : length plan.nodes.items ≤ m → AreLoopsBefore plan (e + 1) 0 found
  next_eid enough = record {
    sound = are.sound;
    before = λ i f at. less_next (key_of f) e m (are.before i f at);
    all = λ d n less. elim less [
      | inl lt ↦ elim (cases_lt d e) [
        | inl before ↦ are.all d n (inl before)
        | inr here ↦ elim (cases_lt n m) [
          | inl within ↦ are.all d n (inr (omega (arith, here, lt), inl within))
          | inr past ↦ inl (λ circle. absurd (omega (arith, goes_within plan d n circle.1.0 circle.1.1, enough, past)))
        ]
      ]
      | inr (same, inl lt) ↦ absurd (omega (arith, lt))
      | inr (same, inr (same', none)) ↦ absurd none
    ];
    in_order = are.in_order;
  }

pub all_loops : (plan : Plan) (end : ℕ) (found : List PlanFault) → 256 ≤ end → AreLoopsBefore plan end 0 found → AreRoutingLoops plan found
all_loops plan end found enough are = record {
  sound = are.sound;
  all = λ e n circle.
      let byte = goes_in_byte plan e n circle.1.0 circle.1.1 in
      let there = all_listed (GoesTo plan e) (goes_only plan e) (Told e) (suc n) (each e (omega (arith, byte, enough)) (suc n)) n (omega arith) circle in
      let same = sym there.2.3 in (
        there.2.0,
        there.2.1,
        there.0,
        there.2.2,
        subst (λ places. IsCircle (GoesTo plan e) there.0 places) same there.3,
        subst (λ places. IsAmong places n) same there.4,
      );
  in_order = are.in_order;
}
  where
    Told : ℕ → ℕ → List ℕ → Type 0
    Told e k places = (i : ℕ) × (f : PlanFault) × (slice_get found i ≡ Some f) × (nodes_of f ≡ places)

    each : (e : ℕ) → e < end → (bound k : ℕ) → k < bound → IsNotLeast (GoesTo plan e) k ⊎ ((places : List ℕ) × Told e k places × IsCircle (GoesTo plan e) k places)
    each e lt bound k _ = elim (are.all e k (inl lt)) [ inl not ↦ inl not | inr (i, f, at, circle) ↦ inr (nodes_of f, (i, f, at, refl), circle) ]

-- where a fact holds of one there are some
pub some_eid : (P : ℕ → Type 0) (eids : List ℕ) (e : ℕ) → AreEidsOf P eids → P e → 0 < length eids
some_eid P eids e are p = (let there = (are.exact e).1 p in omega (arith, slice_get_within eids there.0 e there.1))

-- ---- a loop that is found

pub record IsFoundRound (plan : Plan) (e m : ℕ) (nodes eids : List ℕ) : Type 0 where
  pub circle : IsCircle (GoesTo plan e) m nodes
  pub round : AreEidsRound plan m nodes eids
  pub some : 0 < length eids

pub table_at_index : {Z : Type 0} (tables : List (Vec (Option ℕ) Z)) (i e : ℕ) (table : Vec (Option ℕ) Z) → table ≡ get_or tables i table → i ≡ e → length tables ≡ 256 → e < 256 → slice_get tables e ≡ Some table
table_at_index tables i e table is same long byte =
    let at = slice_get-get_or tables i table (omega (arith, same, long, byte)) in
    ap (λ k. slice_get tables k) (sym same) ∙ (at ∙ ap Some (sym is))

-- by the table that is there
pub joined_here : {Z : Type 0} (tables : List (Vec (Option ℕ) Z)) (e : ℕ) (table : Vec (Option ℕ) Z) (moves : List (Option ℕ)) (nodes : List ℕ) → slice_get tables e ≡ Some table → moves ≡ table.items
    → (AreJoined (MovesBy moves) nodes → IsJoinedBy tables e nodes) × (IsJoinedBy tables e nodes → AreJoined (MovesBy moves) nodes)
joined_here {Z} tables e table moves nodes at same = (
  λ joined. (table, at, subst (λ t. AreJoined (MovesBy t) nodes) same joined),
  λ (other, at', joined).
      let one : other ≡ table = same_Some other table (sym at' ∙ at) in
      subst (λ t. AreJoined (MovesBy t) nodes) (sym same) (subst (λ (v : Vec (Option ℕ) Z). AreJoined (MovesBy v.items) nodes) one joined),
)

pub table_there : {Z : Type 0} (plan : Plan) (tables : List (Vec (Option ℕ) Z)) → AreTables plan tables → (i e : ℕ) (table : Vec (Option ℕ) Z) → table ≡ get_or tables i table → i ≡ e → e < 256 → slice_get tables e ≡ Some table
table_there plan tables are i e table is same byte = table_at_index tables i e table is same are.0 byte

pub found_round : {Z : Type 0} (plan : Plan) (tables : List (Vec (Option ℕ) Z)) → AreTables plan tables → (e m : ℕ) (table : Vec (Option ℕ) Z) (nodes eids here : List ℕ) (moves : List (Option ℕ)) → slice_get tables e ≡ Some table
    → moves ≡ table.items → IsCircle (MovesBy moves) m nodes → here ≡ nodes → AreEidsOf (λ d. IsJoinedBy tables d here) eids → IsFoundRound plan e m nodes eids
found_round plan tables are e m table nodes eids here moves at same is same' joined =
    let circle = circle_for plan tables are e m table nodes at (subst (λ t. IsCircle (MovesBy t) m nodes) same is) in
    let of_nodes = subst (λ ns. AreEidsOf (λ d. IsJoinedBy tables d ns) eids) same' joined in
    record {
      circle = circle;
      round = eids_for plan tables are e m nodes circle eids of_nodes;
      some = some_eid (λ d. IsJoinedBy tables d nodes) eids e of_nodes (here_joined plan tables are e m nodes circle);
    }

-- the first of the EIDs goes round too
pub first_round : (plan : Plan) (e m : ℕ) (nodes eids : List ℕ) → IsFoundRound plan e m nodes eids → (d : ℕ) → slice_get eids 0 ≡ Some d → IsCircle (GoesTo plan d) m nodes × (d ≤ e)
first_round plan e m nodes eids found d is = ((found.round.exact d).0 (0, is), first_least (λ k. IsCircle (GoesTo plan k) m nodes) eids d e found.round is found.circle)
