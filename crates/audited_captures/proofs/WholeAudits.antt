-- An audit matches exactly where each node has said what is planned.
use Rattle.std.{proofs.Common.{◌≡◌, ◌==◌, ℕ, ◌<◌, Bool, true, List, [], ◌∷◌, ◌++◌, refl, ap, sym, ◌∙◌, subst, inl, inr, arith, Some}, specs.Prelude.{Option, slice_get}, proofs.lemmas.Bool.{cases_lt, eqb-true, eq-eqb}, proofs.lemmas.Option.{same_Some, slice_get_within}}
use Rattle.pdr_repository.specs.Records.{Entry}
use Rattle.plan_values.{specs.declared.nodes.Node.{Node}, specs.declared.plan.Plan.{Plan}, specs.declared.certificate.Certificate.{Certificate}}
use Rattle.audited_captures.{specs.Asked.{unanswered}, specs.Audits.{AreAudited, AreOthers, Heard, NodeFacts, AreFacts, AreLines, Empty, More, AreNodeLines}, specs.Counting.{difference_count, has_compared}, specs.Lines.{LineValue}, specs.Matching.{SaysAsPlanned, TellsAll, IsCompared, ArePlanned, AuditMatches, MatchesAudit}, specs.Refusals.{refused_lines}, specs.declared.refusals.Refusal.{Refusal}, specs.Strangers.{HasNoStrangers}, specs.declared.sums.Sum.{Sum}, specs.Talk.{AreAllAsked, AreAllOwned}, specs.Untold.{wanted_lines}, proofs.Booleans.{both, both_left, both_right}, proofs.ComparedLaws.{nodes_compare}, proofs.LineLaws.{Quiet, all_quiet, compares_left, compares_right, compares_either, none_compared, quiet_both}, proofs.MatchLaws.{AllDiffer, all_both, zero_left, zero_right, zero_both}, proofs.NodeLaws.{nodes_match}, proofs.StrangerLaws.{no_strangers, no_stranger_told, strangers_differ}, proofs.TalkLaws.{all_asked, all_owned, none_misowned, none_unasked, owners_differ, talk_quiet}, proofs.TrafficLaws.{traffic_matches, traffic_differs}, proofs.UntoldLaws.{nothing_untold, tells_all, untold_all, wanted_all, wanted_is, wanted_of}}
use Rattle.heard_captures.specs.Messages.{MessageValue}
use Rattle.bus_captures.specs.Values as captured

-- the node at a place has said what is planned, and all of it where that is wanted
abbrev IsSaidAt : Plan → (complete : Bool) → List (List Entry) → Heard → ℕ → Node → Type 0
IsSaidAt plan complete rs h n node =
    (f : NodeFacts) × AreFacts plan rs h n node f × SaysAsPlanned node h.exchanges f × (complete ≡ true → TellsAll node h.exchanges f)

one_node : (plan : Plan) (complete : Bool) (rs : List (List Entry)) (h : Heard) (n : ℕ) (lines wants : List LineValue) (node : Node) → AreNodeLines plan rs h n lines wants → difference_count lines ≡ 0
    → (complete ≡ true → difference_count wants ≡ 0) → slice_get plan.nodes.items n ≡ Some node → IsSaidAt plan complete rs h n node
one_node plan complete rs h n lines wants node one zero told at =
    let said = (nodes_match one.node h.exchanges one.facts (unanswered one.node.eid.value h.words h.exchanges one.facts.parts one.facts.tids) one.are.recorded).0 (ap difference_count (sym one.tell) ∙ zero) in
    subst (λ (m : Node). IsSaidAt plan complete rs h n m) (same_Some one.node node (sym one.at ∙ at))
    (one.facts, one.are, said, λ wanted. tells_all one.node h.exchanges one.facts one.are.recorded (ap difference_count (sym one.wants) ∙ told wanted))

each_node : (plan : Plan) (complete : Bool) (rs : List (List Entry)) (h : Heard) {count : ℕ} {lines untold : List LineValue} {compared : ℕ} → AreLines plan rs h count lines untold compared
    → difference_count lines ≡ 0 → (complete ≡ true → difference_count untold ≡ 0) → (n : ℕ) (node : Node) → n < count → slice_get plan.nodes.items n ≡ Some node → IsSaidAt plan complete rs h n node
each_node plan complete rs h Empty zero told n node lt at = absurd (omega (arith, lt))
each_node plan complete rs h (More m lines untold more wants compared are one) zero told n node lt at = elim (cases_lt n m) [
  | inl before ↦ each_node plan complete rs h are (zero_left lines more zero) (λ wanted. zero_left untold wants (told wanted)) n node before at
  | inr last ↦ (
      let same : m ≡ n = omega (arith, lt, last) in
      one_node plan complete rs h n more wants node (subst (λ k. AreNodeLines plan rs h k more wants) same one) (zero_right lines more zero) (λ wanted. zero_right untold wants (told wanted)) at)
]

no_node : (plan : Plan) (rs : List (List Entry)) (h : Heard) {count : ℕ} {lines untold : List LineValue} {compared : ℕ} → AreLines plan rs h count lines untold compared
    → ((n : ℕ) (node : Node) (f : NodeFacts) → slice_get plan.nodes.items n ≡ Some node → AreFacts plan rs h n node f → SaysAsPlanned node h.exchanges f)
    → difference_count lines ≡ 0
no_node plan rs h Empty says = refl
no_node plan rs h (More m lines untold more wants compared are one) says =
    zero_both lines more (no_node plan rs h are says)
    (ap difference_count one.tell ∙ (nodes_match one.node h.exchanges one.facts (unanswered one.node.eid.value h.words h.exchanges one.facts.parts one.facts.tids) one.are.recorded).1 (says m one.node one.facts one.at one.are))

none_untold : (plan : Plan) (rs : List (List Entry)) (h : Heard) {count : ℕ} {lines untold : List LineValue} {compared : ℕ} → AreLines plan rs h count lines untold compared
    → ((n : ℕ) (node : Node) (f : NodeFacts) → slice_get plan.nodes.items n ≡ Some node → AreFacts plan rs h n node f → TellsAll node h.exchanges f)
    → difference_count untold ≡ 0
none_untold plan rs h Empty tells = refl
none_untold plan rs h (More m lines untold more wants compared are one) tells =
    zero_both untold wants (none_untold plan rs h are tells)
    (ap difference_count one.wants ∙ nothing_untold one.node h.exchanges one.facts one.are.recorded (tells m one.node one.facts one.at one.are))

untold_differ : (plan : Plan) (rs : List (List Entry)) (h : Heard) {count : ℕ} {lines untold : List LineValue} {compared : ℕ} → AreLines plan rs h count lines untold compared → AllDiffer untold
untold_differ plan rs h Empty = refl
untold_differ plan rs h (More m lines untold more wants compared are one) =
    all_both untold wants (untold_differ plan rs h are) (subst AllDiffer (sym one.wants) (untold_all one.node h.exchanges one.facts))

-- the node at some place has said something that was laid beside the plan
abbrev IsComparedAt : Plan → List (List Entry) → Heard → ℕ → Node → Type 0
IsComparedAt plan rs h n node = (f : NodeFacts) × AreFacts plan rs h n node f × IsCompared node h.exchanges f

some_node : (plan : Plan) (rs : List (List Entry)) (h : Heard) {count : ℕ} {lines untold : List LineValue} {compared : ℕ} → AreLines plan rs h count lines untold compared → has_compared lines ≡ true
    → (n : ℕ) × (node : Node) × (slice_get plan.nodes.items n ≡ Some node) × IsComparedAt plan rs h n node
some_node plan rs h Empty is = absurd (none_compared is)
some_node plan rs h (More m lines untold more wants compared are one) is = elim (compares_either lines more is) [
  | inl before ↦ some_node plan rs h are before
  | inr last ↦ (
    m,
    one.node,
    one.at,
    (
      one.facts,
      one.are,
      (nodes_compare one.node h.exchanges one.facts (unanswered one.node.eid.value h.words h.exchanges one.facts.parts one.facts.tids) one.are.recorded).0 (ap has_compared (sym one.tell) ∙ last),
    ),
  )
]

node_compared : (plan : Plan) (rs : List (List Entry)) (h : Heard) {count : ℕ} {lines untold : List LineValue} {compared : ℕ} → AreLines plan rs h count lines untold compared → (n : ℕ) (node : Node) → n < count
    → slice_get plan.nodes.items n ≡ Some node → ((f : NodeFacts) → AreFacts plan rs h n node f → IsCompared node h.exchanges f) → has_compared lines ≡ true
node_compared plan rs h Empty n node lt at is = absurd (omega (arith, lt))
node_compared plan rs h (More m lines untold more wants compared are one) n node lt at is = elim (cases_lt n m) [
  | inl before ↦ compares_left lines more (node_compared plan rs h are n node before at is)
  | inr last ↦ (
      let same : n ≡ m = omega (arith, lt, last) in
      let here : slice_get plan.nodes.items m ≡ Some node = subst (λ k. slice_get plan.nodes.items k ≡ Some node) same at in
      let it : node ≡ one.node = same_Some node one.node (sym here ∙ one.at) in
      let facts : AreFacts plan rs h n node one.facts = subst (λ (x : Node). AreFacts plan rs h n x one.facts) (sym it) (subst (λ k. AreFacts plan rs h k one.node one.facts) (sym same) one.are) in
      let compared : IsCompared one.node h.exchanges one.facts = subst (λ (x : Node). IsCompared x h.exchanges one.facts) it (is one.facts facts) in
      compares_right lines more (ap has_compared one.tell ∙ (nodes_compare one.node h.exchanges one.facts (unanswered one.node.eid.value h.words h.exchanges one.facts.parts one.facts.tids) one.are.recorded).1 compared))
]

-- ---- the lines behind those of the nodes

module _ (plan : Plan) (complete : Bool) (messages : List MessageValue) (h : Heard) (untold lines : List LineValue) (others : AreOthers plan complete messages h untold lines) where
  abbrev wanted : List LineValue
  wanted = wanted_lines complete untold

  abbrev talked : List LineValue
  talked = others.owners ++ others.talk

  abbrev joined : List LineValue
  joined = others.strangers ++ (wanted ++ talked)

  others_quiet : AllDiffer untold → Quiet lines
  others_quiet differ = subst Quiet (sym others.joined)
      (quiet_both others.strangers (wanted ++ talked) (all_quiet others.strangers (strangers_differ plan others.strange))
      (quiet_both wanted talked (all_quiet wanted (wanted_all complete untold differ))
      (quiet_both others.owners others.talk (all_quiet others.owners (owners_differ plan others.owned)) (talk_quiet plan others.talked))))

  -- where none of them tells a difference
  pub others_are : difference_count lines ≡ 0 → HasNoStrangers plan h.exchanges × (complete ≡ true → difference_count untold ≡ 0) × AreAllOwned messages × AreAllAsked h.words
  others_are zero =
      let all : difference_count joined ≡ 0 = ap difference_count (sym others.joined) ∙ zero in
      let later = zero_right others.strangers (wanted ++ talked) all in
      let last = zero_right wanted talked later in (
        no_strangers plan others.strange (zero_left others.strangers (wanted ++ talked) all),
        wanted_is complete untold (zero_left wanted talked later),
        all_owned plan others.owned (zero_left others.owners others.talk last),
        all_asked plan others.talked (zero_right others.owners others.talk last),
      )

  pub others_of : HasNoStrangers plan h.exchanges → (complete ≡ true → difference_count untold ≡ 0) → AreAllOwned messages → AreAllAsked h.words → difference_count lines ≡ 0
  others_of strangers told owned asked =
      ap difference_count others.joined
      ∙ zero_both others.strangers (wanted ++ talked) (no_stranger_told plan others.strange strangers)
      (zero_both wanted talked (wanted_of complete untold told)
      (zero_both others.owners others.talk (none_misowned plan others.owned owned) (none_unasked plan others.talked asked)))

-- lines that compare nothing unless some differs, and of which none does, compare nothing, so the comparisons are those
-- of the nodes
of_nodes_alone : (nodes others traffic : List LineValue) → Quiet others → Quiet traffic → difference_count others ≡ 0 → difference_count traffic ≡ 0
    → has_compared ((nodes ++ others) ++ traffic) ≡ true → has_compared nodes ≡ true
of_nodes_alone nodes others traffic quiet passed no_other no_packet is = elim (compares_either (nodes ++ others) traffic is) [
  | inl before ↦ elim (compares_either nodes others before) [
    | inl here ↦ here
    | inr other ↦ absurd (quiet no_other other)
  ]
  | inr other ↦ absurd (passed no_packet other)
]

-- the remark on what was refused tells no difference, and compares nothing
refused_zero : (rs : List Refusal) → difference_count (refused_lines rs) ≡ 0
refused_zero [] = refl
refused_zero (r ∷ rs) = refl

refused_quiet : (rs : List Refusal) → has_compared (refused_lines rs) ≡ true → ⊥
refused_quiet [] is = none_compared is
refused_quiet (r ∷ rs) is = cc

module _ (plan : Plan) (cert : Certificate) (bus : Option ℕ) (complete : Bool) (entries : List captured.EntryValue) (lines : List LineValue) (sum : Sum) (are : AreAudited plan cert bus complete entries lines sum) where
  abbrev answers : List LineValue
  answers = are.beside.of_nodes ++ are.beside.of_others

  abbrev all_told : List LineValue
  all_told = answers ++ are.traffic

  whole : lines ≡ all_told ++ refused_lines are.refusals
  whole = are.joined ∙ ap (λ ls. (ls ++ are.traffic) ++ refused_lines are.refusals) are.beside.joined

  told_zero : difference_count lines ≡ 0 → difference_count all_told ≡ 0
  told_zero zero = zero_left all_told (refused_lines are.refusals) (ap difference_count (sym whole) ∙ zero)

  all_zero : difference_count all_told ≡ 0 → difference_count lines ≡ 0
  all_zero zero = ap difference_count whole ∙ zero_both all_told (refused_lines are.refusals) zero (refused_zero are.refusals)

  told_compared : has_compared lines ≡ true → has_compared all_told ≡ true
  told_compared is = elim (compares_either all_told (refused_lines are.refusals) (ap has_compared (sym whole) ∙ is)) [
    | inl here ↦ here
    | inr other ↦ absurd (refused_quiet are.refusals other)
  ]

  all_compared : has_compared are.beside.of_nodes ≡ true → has_compared lines ≡ true
  all_compared is =
      ap has_compared whole ∙ compares_left all_told (refused_lines are.refusals)
      (compares_left answers are.traffic (compares_left are.beside.of_nodes are.beside.of_others is))

  others_zero : difference_count lines ≡ 0 → difference_count are.beside.of_others ≡ 0
  others_zero zero = zero_right are.beside.of_nodes are.beside.of_others (zero_left answers are.traffic (told_zero zero))

  -- where nothing differs
  pub as_planned_where_none_differs : difference_count lines ≡ 0
      → ((n : ℕ) (node : Node) → slice_get plan.nodes.items n ≡ Some node → IsSaidAt plan complete are.repositories are.beside.heard n node)
      × HasNoStrangers plan are.beside.heard.exchanges × AreAllOwned are.beside.messages × AreAllAsked are.beside.heard.words × ArePlanned plan bus are.passed.packets
  as_planned_where_none_differs zero =
      let beside = are.beside in
      let told = told_zero zero in
      let said = zero_left answers are.traffic told in
      let other = others_are plan complete beside.messages beside.heard beside.untold beside.of_others beside.others (others_zero zero) in (
        λ n node at. each_node plan complete are.repositories beside.heard beside.told (zero_left beside.of_nodes beside.of_others said) other.1 n node (slice_get_within plan.nodes.items n node at) at,
        other.0,
        other.2,
        other.3,
        (traffic_matches plan bus entries are.traffic are.passed).0 (zero_right answers are.traffic told),
      )

pub audit_matches : AuditMatches
audit_matches plan cert bus complete entries lines sum are matched =
    let zero = eqb-true (difference_count lines) 0 (both_left (difference_count lines == 0) (has_compared lines) matched) in
    let compared = both_right (difference_count lines == 0) (has_compared lines) matched in
    let beside = are.beside in
    let told = told_zero plan cert bus complete entries lines sum are zero in
    let quiet = others_quiet plan complete beside.messages beside.heard beside.untold beside.of_others beside.others (untold_differ plan are.repositories beside.heard beside.told) in
    let nodes = of_nodes_alone beside.of_nodes beside.of_others are.traffic quiet (all_quiet are.traffic (traffic_differs plan bus are.passed.packets are.passed.told))
    (others_zero plan cert bus complete entries lines sum are zero)
    (zero_right (beside.of_nodes ++ beside.of_others) are.traffic told)
    (told_compared plan cert bus complete entries lines sum are compared) in
    let planned = as_planned_where_none_differs plan cert bus complete entries lines sum are zero in
    let some = some_node plan are.repositories beside.heard beside.told nodes in
    (planned.0, planned.1, planned.2, planned.3, planned.4, (some.0, some.1, some.2, some.3.0, some.3.1, some.3.2))

pub matches_audit : MatchesAudit
matches_audit plan cert bus complete entries lines sum are says strangers owned asked planned n node at compared =
    let beside = are.beside in
    let untold : complete ≡ true → difference_count beside.untold ≡ 0 =
    λ wanted. none_untold plan are.repositories beside.heard beside.told (λ n node f there facts. (says n node f there facts).1 wanted) in
    let said : difference_count (beside.of_nodes ++ beside.of_others) ≡ 0 =
    zero_both beside.of_nodes beside.of_others (no_node plan are.repositories beside.heard beside.told (λ n node f there facts. (says n node f there facts).0))
    (others_of plan complete beside.messages beside.heard beside.untold beside.of_others beside.others strangers untold owned asked) in
    let zero = all_zero plan cert bus complete entries lines sum are
    (zero_both (beside.of_nodes ++ beside.of_others) are.traffic said ((traffic_matches plan bus entries are.traffic are.passed).1 planned)) in
    let here : has_compared beside.of_nodes ≡ true = node_compared plan are.repositories beside.heard beside.told n node (slice_get_within plan.nodes.items n node at) at compared in
    both (difference_count lines == 0) (has_compared lines) (eq-eqb (difference_count lines) 0 zero)
    (all_compared plan cert bus complete entries lines sum are here)
