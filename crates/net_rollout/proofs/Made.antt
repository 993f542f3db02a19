-- What a change makes of a plan.
use Rattle.std.{proofs.Common.{◌≡◌, ◌≢◌, ◌⊎◌, ◌↔◌, inl, inr, ◌<◌, ◌≤◌, ℕ, ◌+◌, List, [], ◌∷◌, ◌++◌, length, map, get_or, Some, None, Option, option_map, unwrap_or, ap, refl, sym, subst, ◌∙◌, arith}, specs.Prelude.{slice_get, IfSome, IfOk, Result, Ok, Err, AllPairs, Contains, Vec}, specs.declared.alloc.AllocError.{AllocError}, specs.declared.alloc.Global.{Global}, proofs.lemmas.Bool.{cases_lt}, proofs.lemmas.List.{get_or_default}, proofs.lemmas.Option.{slice_get_past, slice_get_within}, proofs.lemmas.List.Elements.{Contains-append_left, Contains-push, Contains-push_cases}, proofs.lemmas.List.Quantifiers.{all_pairs_push}}
use Rattle.plan_values.{specs.declared.plan.Plan.{Plan}, specs.declared.nodes.Bus.{Bus}, specs.declared.nodes.Node.{Node}, specs.declared.nodes.Row.{Row}, specs.NodeValues.{bus_value, row_value, but_rows}, specs.declared.certificate.Certificate.{Certificate}}
use Rattle.net_tables.{specs.Routing.{node_at, rows_of}, proofs.Elements.{element}}
use Rattle.net_rules.{specs.MoveRules.{AcceptsMove, HaveSameFrame, IsSameNode, SameFrame, SameNode}, specs.MoveObstacles.{DifferInRowsAlone}, proofs.Beyond.{no_rows as rows_beyond}}
use Rattle.net_rollout.{specs.declared.change.LastStep.{LastStep}, specs.declared.change.Part.{Part}, specs.declared.change.Step.{Step}, specs.declared.change.Change.{Change}, specs.Steps.{AreChanged, AreNodesAfter, AreTold, GoAs, GoesAs, IsCertified, IsLastStep, IsNodeAfter, IsOfPart, IsSwitched, IsTaken, IsTold, SendAs, SendsBy, TakesParts, last_plan, row_values}, proofs.Items.{item_pushed}}
use Rattle.mctp_transport.proofs.FirstIndexes.{same_element}
use Rattle.net_rollout.specs.declared.change.Change.TheVariants as change

-- ---- parts

-- one of the first k parts is of node n and has e
abbrev pub IsTakenBefore : List Part → ℕ → ℕ → ℕ → Type 0
IsTakenBefore parts k n e = (i : ℕ) × (i < k) × (part : Part) × (slice_get parts i ≡ Some part) × IsOfPart part n e

pub none_taken : (parts : List Part) (n : ℕ) (before new : List Row) → SendAs (IsTakenBefore parts 0 n) before new before
none_taken parts n before new e port m = (λ taken. absurd (omega (arith, taken.1)), λ _. (λ h. h, λ h. h))

-- the part at k, or an earlier one
taken_cases : (parts : List Part) (k n e : ℕ) (part : Part) → slice_get parts k ≡ Some part → IsTakenBefore parts (k + 1) n e → IsTakenBefore parts k n e ⊎ IsOfPart part n e
taken_cases parts k n e part here taken = elim (cases_lt taken.0 k) [
  | inl lt ↦ inl (taken.0, lt, taken.2, taken.3, taken.4)
  | inr ge ↦ (
      let at : taken.0 ≡ k = omega (arith, taken.1, ge) in
      let same : taken.2 ≡ part = same_element parts k taken.2 part (subst (λ x. slice_get parts x ≡ Some taken.2) at taken.3) here in
      inr (subst (λ x. IsOfPart x n e) same taken.4))
]

taken_later : (parts : List Part) (k n e : ℕ) → IsTakenBefore parts k n e → IsTakenBefore parts (k + 1) n e
taken_later parts k n e taken = (taken.0, omega (arith, taken.1), taken.2, taken.3, taken.4)

-- a part of another node
pub other_node : (parts : List Part) (k n : ℕ) (part : Part) (before new rows : List Row) → slice_get parts k ≡ Some part → part.node ≢ n
    → SendAs (IsTakenBefore parts k n) before new rows → SendAs (IsTakenBefore parts (k + 1) n) before new rows
other_node parts k n part before new rows here other sends e port m = (
  λ taken. elim (taken_cases parts k n e part here taken) [
    | inl earlier ↦ (sends e port m).0 earlier
    | inr its ↦ absurd (other its.0)
  ],
  λ kept. (sends e port m).1 (λ taken. kept (taken_later parts k n e taken)),
)

-- a part of the node
pub its_part : (parts : List Part) (k n : ℕ) (part : Part) (before new rows more : List Row) → slice_get parts k ≡ Some part → part.node ≡ n
    → SendAs (λ e. (part.first.value ≤ e) × (e ≤ part.last.value)) rows new more
    → SendAs (IsTakenBefore parts k n) before new rows → SendAs (IsTakenBefore parts (k + 1) n) before new more
its_part parts k n part before new rows more here its more_sends sends e port m = (
  λ taken. elim (cases_lt e part.first.value) [
    | inl lt ↦ earlier (λ within. omega (arith, lt, within.0)) (less taken (λ within. omega (arith, lt, within.1)))
    | inr ge ↦ elim (cases_lt part.last.value e) [
      | inl lt ↦ earlier (λ within. omega (arith, lt, within.1)) (less taken (λ within. omega (arith, lt, within.2)))
      | inr le ↦ (more_sends e port m).0 (ge, le)
    ]
  ],
  λ kept. (
      let out : ¬ ((part.first.value ≤ e) × (e ≤ part.last.value)) = λ within. kept (k, omega arith, part, here, (its, within.0, within.1)) in
      let as_rows = (more_sends e port m).1 out in
      let as_before = (sends e port m).1 (λ taken. kept (taken_later parts k n e taken)) in
      (λ h. as_before.0 (as_rows.0 h), λ h. as_rows.1 (as_before.1 h))),
)
  where
    less : IsTakenBefore parts (k + 1) n e → ¬ IsOfPart part n e → IsTakenBefore parts k n e
    less taken not_its = elim (taken_cases parts k n e part here taken) [
      | inl h ↦ h
      | inr h ↦ absurd (not_its h)
    ]

    earlier : ¬ ((part.first.value ≤ e) × (e ≤ part.last.value)) → IsTakenBefore parts k n e → SendsBy more e port m ↔ SendsBy new e port m
    earlier out taken =
        let as_rows = (more_sends e port m).1 out in
        let as_new = (sends e port m).0 taken in
        (λ h. as_new.0 (as_rows.0 h), λ h. as_rows.1 (as_new.1 h))

-- all parts
pub all_taken : (parts : List Part) (k n : ℕ) (before new rows : List Row) → length parts ≤ k → SendAs (IsTakenBefore parts k n) before new rows → SendAs (IsTaken parts n) before new rows
all_taken parts k n before new rows all sends e port m = (
  λ taken. (sends e port m).0 (taken.0, omega (arith, slice_get_within parts taken.0 taken.1 taken.2, all), taken.1, taken.2, taken.3),
  λ kept. (sends e port m).1 (λ taken. kept (taken.0, taken.2, taken.3, taken.4)),
)

-- ---- nodes

-- just those of the first k nodes whose rows differ, which ascend
pub record AreChangedBefore (before after : Plan) (k : ℕ) (nodes : List ℕ) : Type 0 where
  pub within : (n : ℕ) → Contains nodes n → n < k
  pub differ : (n : ℕ) → Contains nodes n → row_values after n ≢ row_values before n
  pub all : (n : ℕ) → n < k → row_values after n ≢ row_values before n → Contains nodes n
  pub ascend : AllPairs (λ n m. n < m) nodes

inside : (nodes : List ℕ) (i d : ℕ) → i < length nodes → get_or nodes i (get_or nodes i d) ≡ get_or nodes i d
inside nodes i d lt = get_or_default nodes i (get_or nodes i d) d lt

pub one_changed : (before after : Plan) (k : ℕ) (nodes : List ℕ) → row_values after k ≢ row_values before k → AreChangedBefore before after k nodes
    → AreChangedBefore before after (k + 1) (nodes ++ k ∷ [])
one_changed before after k nodes differs h = record {
  within = λ n there. elim (Contains-push_cases nodes k n there) [
    | inl x ↦ omega (arith, h.within n x)
    | inr x ↦ omega (arith, x)
  ];
  differ = λ n there. elim (Contains-push_cases nodes k n there) [
    | inl x ↦ h.differ n x
    | inr x ↦ subst (λ y. row_values after y ≢ row_values before y) x differs
  ];
  all = λ n lt d. elim (cases_lt n k) [
    | inl less ↦ Contains-append_left nodes (k ∷ []) n (h.all n less d)
    | inr ge ↦ (
        let at : k ≡ n = omega (arith, lt, ge) in
        subst (λ y. Contains (nodes ++ k ∷ []) y) at (Contains-push nodes k))
  ];
  ascend = all_pairs_push (λ n m. n < m) nodes k h.ascend (λ i d lt. h.within (get_or nodes i d) (i, lt, inside nodes i d lt));
}

pub none_more : (before after : Plan) (k : ℕ) (nodes : List ℕ) → row_values after k ≡ row_values before k → AreChangedBefore before after k nodes
    → AreChangedBefore before after (k + 1) nodes
none_more before after k nodes same h = record {
  within = λ n there. omega (arith, h.within n there);
  differ = h.differ;
  all = λ n lt d. elim (cases_lt n k) [
    | inl less ↦ h.all n less d
    | inr ge ↦ (
        let at : k ≡ n = omega (arith, lt, ge) in
        absurd (d (subst (λ y. row_values after y ≡ row_values before y) at same)))
  ];
  ascend = h.ascend;
}

pub all_changed : (before after : Plan) (k : ℕ) (nodes : List ℕ) → length before.nodes.items ≤ k → length after.nodes.items ≤ k
    → AreChangedBefore before after k nodes → AreChanged before after nodes
all_changed before after k nodes few few_after h = record {
  named = λ n. (
    h.differ n,
    λ d. elim (cases_lt n k) [
      | inl lt ↦ h.all n lt d
      | inr ge ↦ absurd (d (ap (map row_value) (rows_beyond after n (omega (arith, ge, few_after)) ∙ sym (rows_beyond before n (omega (arith, ge, few))))))
    ],
  );
  ascend = h.ascend;
}

-- ---- the plan

pub node_more : (here new : Plan) (change : Change) (k : ℕ) (nodes : List Node) (node : Node) → IsNodeAfter here new change k node
    → AreNodesAfter here new change k nodes → AreNodesAfter here new change (k + 1) (nodes ++ node ∷ [])
node_more here new change k nodes node is h = record {
  long = length_push nodes node ∙ ap (λ x. x + 1) h.long;
  each = λ n one there. elim (item_pushed nodes node n one there) [
    | inl x ↦ h.each n one x
    | inr x ↦ (
        let at : k ≡ n = sym (x.0 ∙ h.long) in
        subst (λ y. IsNodeAfter here new change n y) x.1 (subst (λ y. IsNodeAfter here new change y node) at is))
  ];
}
  where
    length_push : (xs : List Node) (x : Node) → length (xs ++ x ∷ []) ≡ length xs + 1
    length_push [] x = refl
    length_push (y ∷ xs) x = omega (arith, length_push xs x)

no_rows : (here new : Plan) (change : Change) (n : ℕ) → rows_of here n ≡ [] → rows_of new n ≡ [] → GoesAs here new change n []
no_rows here new (change.Nodes nodes) n none none_new = inl (sym none)
no_rows here new (change.Parts parts) n none none_new = λ e port m. (
  λ taken. subst (λ rows. SendsBy [] e port m ↔ SendsBy rows e port m) (sym none_new) (λ h. h, λ h. h),
  λ kept. subst (λ rows. SendsBy [] e port m ↔ SendsBy rows e port m) (sym none) (λ h. h, λ h. h),
)

same_frame : (here p : Plan) → p.unit ≡ here.unit → map bus_value p.buses.items ≡ map bus_value here.buses.items → length p.nodes.items ≡ length here.nodes.items → HaveSameFrame here p
unfolding HaveSameFrame
same_frame here p unit buses long = (sym unit, sym buses, sym long)

same_node : (here p : Plan) (n : ℕ) → option_map but_rows (node_at here n) ≡ option_map but_rows (node_at p n) → IsSameNode here p n
unfolding IsSameNode
same_node here p n same = same

pub made_plan : (here new : Plan) (change : Change) (buses : Vec Bus Global) (nodes : Vec Node Global) (found : Option Plan)
    → map bus_value buses.items ≡ map bus_value here.buses.items → AreNodesAfter here new change (length here.nodes.items) nodes.items
    → length new.nodes.items ≡ length here.nodes.items → IsTold new change
    → IfSome found (λ (p : Plan). (p.unit ≡ here.unit) × (p.buses ≡ buses) × (p.nodes ≡ nodes))
    → IfSome found (λ after. GoAs here new change after)
made_plan here new change buses nodes None same after many told whole = tt
made_plan here new change buses nodes (Some p) same after many told whole = record {
  rows_alone = (
    same_frame here p whole.0 (ap (λ (v : Vec Bus Global). map bus_value v.items) whole.1 ∙ same) made.long,
    λ n. same_node here p n (alike n),
  );
  rows = rows;
  told = told;
}
  where
    made : AreNodesAfter here new change (length here.nodes.items) p.nodes.items
    made = subst (λ (v : Vec Node Global). AreNodesAfter here new change (length here.nodes.items) v.items) (sym whole.2) after

    alike : (n : ℕ) → option_map but_rows (node_at here n) ≡ option_map but_rows (node_at p n)
    alike n = elim (cases_lt n (length here.nodes.items)) [
      | inl lt ↦ (
          let found = element p.nodes.items n (omega (arith, lt, made.long)) in
          (made.each n found.0 found.1).0 ∙ sym (ap (option_map but_rows) found.1))
      | inr ge ↦ ap (option_map but_rows) (slice_get_past here.nodes.items n ge ∙ sym (slice_get_past p.nodes.items n (omega (arith, ge, made.long))))
    ]

    rows : (n : ℕ) → GoesAs here new change n (rows_of p n)
    rows n = elim (cases_lt n (length here.nodes.items)) [
      | inl lt ↦ (
          let found = element p.nodes.items n (omega (arith, lt, made.long)) in
          let are : rows_of p n ≡ found.0.rows.items = ap (λ o. unwrap_or (option_map (λ (node : Node). node.rows.items) o) []) found.1 in
          subst (GoesAs here new change n) (sym are) (made.each n found.0 found.1).1)
      | inr ge ↦ subst (GoesAs here new change n) (sym (rows_beyond p n (omega (arith, ge, made.long))))
          (no_rows here new change n (rows_beyond here n ge) (rows_beyond new n (omega (arith, ge, many))))
    ]

-- parts that were taken
pub parts_so : (here new after : Plan) (made : Change) (given : Vec Part Global) → made ≡ change.Parts given → GoAs here new made after → TakesParts here new given.items after
parts_so here new after made given is goes =
    let so : GoAs here new (change.Parts given) after = subst (λ x. GoAs here new x after) is goes in
    record {
      rows_alone = so.rows_alone;
      taken = λ n e port m. (so.rows n e port m).0;
      kept = λ n e port m. (so.rows n e port m).1;
      told = so.told;
    }

-- to the new plan itself
pub switched_last : (here new : Plan) (nodes : List ℕ) → DifferInRowsAlone here new → AreChanged here new nodes → IsSwitched here new nodes new
switched_last here new nodes alone changed = record { rows_alone = alone; named = changed.named; taken = λ n there. refl; ascend = changed.ascend }

pub moves_alone : (here new : Plan) (cert : Certificate) → AcceptsMove here new cert → DifferInRowsAlone here new
moves_alone here new cert accepts = (accepts SameFrame 0 None None, λ n. accepts SameNode n None None)

pub parts_told : (new : Plan) (made : Change) (parts : Vec Part Global) → made ≡ change.Parts parts → AreTold new parts.items → IsTold new made
parts_told new made parts is told = subst (IsTold new) (sym is) told

-- the rows of a node that takes its parts
pub parts_go : (here new : Plan) (made : Change) (parts : Vec Part Global) (n : ℕ) (rows : List Row) → made ≡ change.Parts parts
    → SendAs (IsTaken parts.items n) (rows_of here n) (rows_of new n) rows → GoesAs here new made n rows
parts_go here new made parts n rows is sends = subst (λ x. GoesAs here new x n rows) (sym is) sends

-- a node with the rows that the change leaves
pub node_so : (here new : Plan) (change : Change) (n : ℕ) (old node : Node) (rows : Vec Row Global) → slice_get here.nodes.items n ≡ Some old
    → but_rows node ≡ but_rows old → node.rows ≡ rows → GoesAs here new change n rows.items → IsNodeAfter here new change n node
node_so here new change n old node rows is same are goes =
    (ap (option_map but_rows) is ∙ ap Some (sym same), subst (λ (v : Vec Row Global). GoesAs here new change n v.items) (sym are) goes)

pub parts_go_so : (here new : Plan) (made : Change) (parts : Vec Part Global) (items : List Part) (n : ℕ) (found : Result (Vec Row Global) AllocError) → made ≡ change.Parts parts
    → items ≡ parts.items → IfOk found (λ rows. SendAs (IsTaken items n) (rows_of here n) (rows_of new n) rows.items) → IfOk found (λ rows. GoesAs here new made n rows.items)
parts_go_so here new made parts items n (Ok rows) is same sends =
    parts_go here new made parts n rows.items is (subst (λ xs. SendAs (IsTaken xs n) (rows_of here n) (rows_of new n) rows.items) same sends)
parts_go_so here new made parts items n (Err e) is same sends = tt

-- the last step
pub ends_so : (before here new : Plan) (steps : List Step) (last : LastStep) → here ≡ last_plan before steps → IsCertified here new last.certificate
    → AreChanged here new last.nodes.items → IsLastStep (last_plan before steps) new last
ends_so before here new steps last is certified changed =
    subst (λ p. IsLastStep p new last) is (certified, switched_last here new last.nodes.items (moves_alone here new last.certificate certified.accepted) changed)
