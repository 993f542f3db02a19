-- Lists of faults, made a run at a time.
use Rattle.std.{proofs.Common.{◌≡◌, ℕ, suc, ◌+◌, ◌<◌, ◌≤◌, List, [], ◌∷◌, ◌++◌, length, Option, Some, None, refl, sym, ◌∙◌, ap, subst, arith, inl, inr, ◌⊎◌}, specs.Prelude.{IfSome}, proofs.lemmas.Bool.{cases_lt}, proofs.lemmas.List.Elements.{All-nil, All-push, Contains-append_left, Contains-append_right}, proofs.lemmas.List.Quantifiers.{all_pairs_push}}
use Rattle.net_rules.{specs.declared.rule.Rule.{Rule}, specs.declared.fault_run.EidSpan.{EidSpan}, specs.declared.fault_run.FaultRun.{FaultRun}, specs.Rules.{PlanDemands, CertificateDemands}, specs.Faults.{FaultSite, order_of, order_of_number, LessByFirstDifference}, specs.FaultLists.{DemandsOf, IsMetBy, IsAmong, IsOf, IsBrokenRun, IsWholeRun, Precedes, AreFaults, key_of, IsBefore, AreFaultsBefore}, proofs.Beyond.{beyond, plan_beyond}, proofs.RuleOrder.{one_order, all_below}}
use Rattle.plan_values.{specs.declared.plan.Plan.{Plan}, specs.declared.certificate.Certificate.{Certificate}}

-- ---- numbers that come before others

-- ks begins with p, and its next number is at least n and less than m
abbrev pub NextIn : List ℕ → ℕ → ℕ → List ℕ → Type 0
NextIn [] n m [] = ⊥
NextIn [] n m (k ∷ ks) = (n ≤ k) × (k < m)
NextIn (x ∷ p) n m [] = ⊥
NextIn (x ∷ p) n m (k ∷ ks) = (k ≡ x) × NextIn p n m ks

-- ks begins with p and then n, and its next number, if there is one, is at least end
abbrev pub IsPast : List ℕ → ℕ → ℕ → List ℕ → Type 0
IsPast [] n end [] = ⊥
IsPast [] n end (k ∷ []) = k ≡ n
IsPast [] n end (k ∷ j ∷ ks) = (k ≡ n) × (end ≤ j)
IsPast (x ∷ p) n end [] = ⊥
IsPast (x ∷ p) n end (k ∷ ks) = (k ≡ x) × IsPast p n end ks

none_less : (ks : List ℕ) → ¬ LessByFirstDifference ks []
none_less [] less = less
none_less (k ∷ ks) less = less

longer : (ks p q : List ℕ) → LessByFirstDifference ks p → LessByFirstDifference ks (p ++ q)
longer [] p q less = absurd less
longer (k ∷ ks) [] q less = absurd less
longer (k ∷ ks) (x ∷ p) q less = elim less [ inl lt ↦ inl lt | inr (same, rest) ↦ inr (same, longer ks p q rest) ]

shorter : (ks p : List ℕ) → LessByFirstDifference ks (p ++ 0 ∷ []) → LessByFirstDifference ks p
shorter [] p less = absurd less
shorter (k ∷ ks) [] less = absurd (elim less [ inl lt ↦ omega arith | inr (same, rest) ↦ none_less ks rest ])
shorter (k ∷ ks) (x ∷ p) less = elim less [ inl lt ↦ inl lt | inr (same, rest) ↦ inr (same, shorter ks p rest) ]

wider : (ks p : List ℕ) (n m : ℕ) → n ≤ m → LessByFirstDifference ks (p ++ n ∷ []) → LessByFirstDifference ks (p ++ m ∷ [])
wider [] p n m le less = absurd less
wider (k ∷ ks) [] n m le less = elim less [ inl lt ↦ inl (omega arith) | inr (same, rest) ↦ absurd (none_less ks rest) ]
wider (k ∷ ks) (x ∷ p) n m le less = elim less [ inl lt ↦ inl lt | inr (same, rest) ↦ inr (same, wider ks p n m le rest) ]

split : (ks p : List ℕ) (n m : ℕ) → LessByFirstDifference ks (p ++ m ∷ []) → LessByFirstDifference ks (p ++ n ∷ []) ⊎ NextIn p n m ks
split [] p n m less = absurd less
split (k ∷ ks) [] n m less = elim less [
  | inl lt ↦ elim (cases_lt k n) [ inl below ↦ inl (inl below) | inr past ↦ inr (past, lt) ]
  | inr (same, rest) ↦ absurd (none_less ks rest)
]
split (k ∷ ks) (x ∷ p) n m less = elim less [
  | inl lt ↦ inl (inl lt)
  | inr (same, rest) ↦ elim (split ks p n m rest) [ inl before ↦ inl (inr (same, before)) | inr within ↦ inr (same, within) ]
]

under : (ks p : List ℕ) (n m : ℕ) → NextIn p n m ks → LessByFirstDifference ks (p ++ m ∷ [])
under [] [] n m within = within
under (k ∷ ks) [] n m within = inl within.1
under [] (x ∷ p) n m within = within
under (k ∷ ks) (x ∷ p) n m within = inr (within.0, under ks p n m within.1)

comes_after : (ks ls p : List ℕ) (n m : ℕ) → LessByFirstDifference ks (p ++ n ∷ []) → NextIn p n m ls → LessByFirstDifference ks ls
comes_after [] ls p n m less within = absurd less
comes_after (k ∷ ks) [] [] n m less within = absurd within
comes_after (k ∷ ks) (l ∷ ls) [] n m less within = elim less [ inl lt ↦ inl (omega (arith, lt, within.0)) | inr (same, rest) ↦ absurd (none_less ks rest) ]
comes_after (k ∷ ks) [] (x ∷ p) n m less within = absurd within
comes_after (k ∷ ks) (l ∷ ls) (x ∷ p) n m less within = elim less [
  | inl lt ↦ inl (omega (arith, lt, within.0))
  | inr (same, rest) ↦ inr (same ∙ sym within.0, comes_after ks ls p n m rest within.1)
]

within_or_past : (ks p : List ℕ) (n end : ℕ) → LessByFirstDifference ks (p ++ (n + 1) ∷ []) → LessByFirstDifference ks (p ++ n ∷ end ∷ []) ⊎ IsPast p n end ks
within_or_past [] p n end less = absurd less
within_or_past (k ∷ []) [] n end less = elim less [
  | inl lt ↦ elim (cases_lt k n) [ inl below ↦ inl (inl below) | inr past ↦ inr (omega arith) ]
  | inr (same, rest) ↦ absurd rest
]
within_or_past (k ∷ j ∷ ks) [] n end less = elim less [
  | inl lt ↦ elim (cases_lt k n) [
    | inl below ↦ inl (inl below)
    | inr past ↦ elim (cases_lt j end) [ inl before ↦ inl (inr (omega arith, inl before)) | inr beyond ↦ inr (omega arith, beyond) ]
  ]
  | inr (same, rest) ↦ absurd rest
]
within_or_past (k ∷ ks) (x ∷ p) n end less = elim less [
  | inl lt ↦ inl (inl lt)
  | inr (same, rest) ↦ elim (within_or_past ks p n end rest) [ inl before ↦ inl (inr (same, before)) | inr past ↦ inr (same, past) ]
]

out_of : (ks p : List ℕ) (n end : ℕ) → LessByFirstDifference ks (p ++ n ∷ end ∷ []) → LessByFirstDifference ks (p ++ (n + 1) ∷ [])
out_of [] p n end less = absurd less
out_of (k ∷ ks) [] n end less = elim less [ inl lt ↦ inl (omega arith) | inr (same, rest) ↦ inl (omega arith) ]
out_of (k ∷ ks) (x ∷ p) n end less = elim less [ inl lt ↦ inl lt | inr (same, rest) ↦ inr (same, out_of ks p n end rest) ]

-- ---- what a rule demands of a plan, with a certificate or without one

pub both_demands : (plan : Plan) (cert : Option Certificate) (rule : Rule) (n : ℕ) (entry eid : Option ℕ) → PlanDemands plan rule n entry eid
    → ((c : Certificate) → CertificateDemands plan c rule n entry eid) → DemandsOf plan cert rule n entry eid
both_demands plan None rule n entry eid ours theirs = ours
both_demands plan (Some c) rule n entry eid ours theirs = (ours, theirs c)

pub demands_from : (plan : Plan) (cert : Option Certificate) (rule : Rule) (n : ℕ) (entry eid : Option ℕ) → PlanDemands plan rule n entry eid
    → IfSome cert (λ c. CertificateDemands plan c rule n entry eid) → DemandsOf plan cert rule n entry eid
demands_from plan None rule n entry eid ours theirs = ours
demands_from plan (Some c) rule n entry eid ours theirs = (ours, theirs)

pub demands_to : (plan : Plan) (cert : Option Certificate) (rule : Rule) (n : ℕ) (entry eid : Option ℕ) → DemandsOf plan cert rule n entry eid
    → PlanDemands plan rule n entry eid × IfSome cert (λ c. CertificateDemands plan c rule n entry eid)
demands_to plan None rule n entry eid demands = (demands, tt)
demands_to plan (Some c) rule n entry eid demands = demands

one_number : (a b : Option ℕ) → order_of_number a ≡ order_of_number b → a ≡ b
one_number None None same = refl
one_number None (Some k) same = absurd (omega arith)
one_number (Some k) None same = absurd (omega arith)
one_number (Some k) (Some j) same = ap Some (omega arith)

module _ (plan : Plan) (cert : Option Certificate) where
  -- ---- lists that grow

  pub moved_on : (numbers later : List ℕ) (runs : List FaultRun) → ((site : FaultSite) → IsBefore numbers site → IsBefore later site)
      → ((site : FaultSite) → IsBefore later site → IsBefore numbers site ⊎ IsMetBy plan cert site)
      → AreFaultsBefore plan cert numbers runs → AreFaultsBefore plan cert later runs
  moved_on numbers later runs wide none lists = record {
    sound = lists.sound;
    all = λ site before. elim (none site before) [ inl earlier ↦ lists.all site earlier | inr met ↦ inl met ];
    before = λ k d lt site of. wide site (lists.before k d lt site of);
  }

  -- where nothing is broken up to the next numbers
  pub passed : (p : List ℕ) (n m : ℕ) (runs : List FaultRun) → n ≤ m
      → ((site : FaultSite) → NextIn p n m (key_of site) → IsMetBy plan cert site)
      → AreFaultsBefore plan cert (p ++ n ∷ []) runs → AreFaultsBefore plan cert (p ++ m ∷ []) runs
  passed p n m runs le met = moved_on (p ++ n ∷ []) (p ++ m ∷ []) runs (λ site. wider (key_of site) p n m le)
      (λ site before. elim (split (key_of site) p n m before) [ inl earlier ↦ inl earlier | inr within ↦ inr (met site within) ])

  -- down to the first of what begins with the numbers, and out again after the last
  pub entered : (p : List ℕ) (runs : List FaultRun) → AreFaultsBefore plan cert p runs → AreFaultsBefore plan cert (p ++ 0 ∷ []) runs
  entered p runs = moved_on p (p ++ 0 ∷ []) runs (λ site. longer (key_of site) p (0 ∷ [])) (λ site before. inl (shorter (key_of site) p before))

  pub left : (p : List ℕ) (n end : ℕ) (runs : List FaultRun)
      → ((site : FaultSite) → IsPast p n end (key_of site) → IsMetBy plan cert site)
      → AreFaultsBefore plan cert (p ++ n ∷ end ∷ []) runs → AreFaultsBefore plan cert (p ++ (n + 1) ∷ []) runs
  left p n end runs met = moved_on (p ++ n ∷ end ∷ []) (p ++ (n + 1) ∷ []) runs (λ site. out_of (key_of site) p n end)
      (λ site before. elim (within_or_past (key_of site) p n end before) [ inl within ↦ inl within | inr past ↦ inr (met site past) ])

  -- one run more
  pub pushed : (p : List ℕ) (n m : ℕ) (runs : List FaultRun) (run : FaultRun) → n ≤ m → IsBrokenRun plan cert run → IsWholeRun plan cert run
      → ((site : FaultSite) → IsOf run site → NextIn p n m (key_of site))
      → ((site : FaultSite) → NextIn p n m (key_of site) → IsMetBy plan cert site ⊎ IsOf run site)
      → AreFaultsBefore plan cert (p ++ n ∷ []) runs → AreFaultsBefore plan cert (p ++ m ∷ []) (runs ++ run ∷ [])
  pushed p n m runs run le broken whole within of lists = record {
    sound = record {
      broken = All-push (IsBrokenRun plan cert) runs run lists.sound.broken broken;
      whole = All-push (IsWholeRun plan cert) runs run lists.sound.whole whole;
      in_order = all_pairs_push Precedes runs run lists.sound.in_order
          (λ k d lt site later is there. comes_after (key_of site) (key_of later) p n m (lists.before k d lt site is) (within later there));
    };
    all = λ site before. elim (split (key_of site) p n m before) [
      | inl earlier ↦ elim (lists.all site earlier) [
        | inl met ↦ inl met
        | inr (other, has, is) ↦ inr (other, Contains-append_left runs (run ∷ []) other has, is)
      ]
      | inr here ↦ elim (of site here) [
        | inl met ↦ inl met
        | inr is ↦ inr (run, Contains-append_right runs (run ∷ []) run (0, omega arith, refl), is)
      ]
    ];
    before = All-push (λ r. (site : FaultSite) → IsOf r site → IsBefore (p ++ m ∷ []) site) runs run
        (λ k d lt site is. wider (key_of site) p n m le (lists.before k d lt site is)) (λ site is. under (key_of site) p n m (within site is));
  }

  pub none_yet : AreFaultsBefore plan cert (0 ∷ []) []
  none_yet = record {
    sound = record {
      broken = All-nil (IsBrokenRun plan cert);
      whole = All-nil (IsWholeRun plan cert);
      in_order = λ i j d less within. absurd (omega (arith, within));
    };
    all = λ site before. absurd (none_less (key_of site) (shorter (key_of site) [] before));
    before = All-nil (λ r. (site : FaultSite) → IsOf r site → IsBefore (0 ∷ []) site);
  }

  pub all_faults : (end : ℕ) (runs : List FaultRun) → 16 ≤ end → AreFaultsBefore plan cert (end ∷ []) runs → AreFaults plan cert runs
  all_faults end runs past lists = record {
    sound = lists.sound;
    all = λ site. lists.all site (inl (let low = all_below site.rule in omega (arith, low)));
  }

  -- ---- at one rule, one node and one entry

  pub met_at : (rule : Rule) (n : ℕ) (site : FaultSite) → order_of site.rule ≡ order_of rule → site.node ≡ n
      → DemandsOf plan cert rule n site.entry site.eid → IsMetBy plan cert site
  met_at rule n site ruled there met =
      let P : Rule → Type 0 = λ r. DemandsOf plan cert r site.node site.entry site.eid in
      let Q : ℕ → Type 0 = λ k. DemandsOf plan cert rule k site.entry site.eid in
      subst P (sym (one_order site.rule rule ruled)) (subst Q (sym there) met)

  pub beyond_nodes : (site : FaultSite) → length plan.nodes.items ≤ site.node → IsMetBy plan cert site
  beyond_nodes site past = elim cert as (λ c. IsMetBy plan c site) [
    | None ↦ plan_beyond plan site.rule site.node site.entry site.eid past
    | Some c ↦ beyond plan c site.rule site.node site.entry site.eid past
  ]

  pub beyond_entries : (rule : Rule) (n end : ℕ)
      → ((entry e : ℕ) → end ≤ entry → PlanDemands plan rule n (Some entry) None × PlanDemands plan rule n (Some entry) (Some e))
      → ((c : Certificate) (entry e : ℕ) → end ≤ entry → CertificateDemands plan c rule n (Some entry) None × CertificateDemands plan c rule n (Some entry) (Some e))
      → (entry eid : Option ℕ) → suc end ≤ order_of_number entry → DemandsOf plan cert rule n entry eid
  beyond_entries rule n end ours theirs None eid past = absurd (omega arith)
  beyond_entries rule n end ours theirs (Some i) None past =
      let after : end ≤ i = omega arith in
      both_demands plan cert rule n (Some i) None (ours i 0 after).0 (λ c. (theirs c i 0 after).0)
  beyond_entries rule n end ours theirs (Some i) (Some e) past =
      let after : end ≤ i = omega arith in
      both_demands plan cert rule n (Some i) (Some e) (ours i e after).1 (λ c. (theirs c i e after).1)

  module _ (rule : Rule) (n : ℕ) (entry : Option ℕ) where
    abbrev pub at_entry : List ℕ
    at_entry = order_of rule ∷ n ∷ order_of_number entry ∷ []

    met_here : (least most : ℕ) (site : FaultSite) → NextIn at_entry least most (key_of site) → DemandsOf plan cert rule n entry site.eid → IsMetBy plan cert site
    met_here least most site within met =
        let E : Option ℕ → Type 0 = λ i. DemandsOf plan cert rule n i site.eid in
        met_at rule n site within.0 within.1.0 (subst E (sym (one_number site.entry entry within.1.1.0)) met)

    broken_here : (run : FaultRun) (site : FaultSite) → run.rule ≡ rule → run.node ≡ n → run.entry ≡ entry → IsOf run site
        → ¬ DemandsOf plan cert rule n entry site.eid → ¬ IsMetBy plan cert site
    broken_here run site ruled there at (same_rule, same_node, same_entry, among) broken met =
        let P : Rule → Type 0 = λ r. DemandsOf plan cert r site.node site.entry site.eid in
        let Q : ℕ → Type 0 = λ k. DemandsOf plan cert rule k site.entry site.eid in
        let E : Option ℕ → Type 0 = λ i. DemandsOf plan cert rule n i site.eid in
        broken (subst E (same_entry ∙ at) (subst Q (same_node ∙ there) (subst P (same_rule ∙ ruled) met)))

    among_none : (eid : Option ℕ) → IsAmong None eid → eid ≡ None
    among_none None among = refl
    among_none (Some e) among = absurd among

    is_none : (eid : Option ℕ) → order_of_number eid < 1 → eid ≡ None
    is_none None less = refl
    is_none (Some e) less = absurd (omega arith)

    -- where no EID is spoken of
    pub alone_passed : (runs : List FaultRun) → DemandsOf plan cert rule n entry None → AreFaultsBefore plan cert at_entry runs
        → AreFaultsBefore plan cert (at_entry ++ 1 ∷ []) runs
    alone_passed runs met lists = passed at_entry 0 1 runs (omega arith)
        (λ site within. met_here 0 1 site within (subst (λ eid. DemandsOf plan cert rule n entry eid) (sym (is_none site.eid within.1.1.1.1)) met))
        (entered at_entry runs lists)

    pub alone_pushed : (runs : List FaultRun) → ¬ DemandsOf plan cert rule n entry None → AreFaultsBefore plan cert at_entry runs
        → AreFaultsBefore plan cert (at_entry ++ 1 ∷ []) (runs ++ record { rule = rule; node = n; entry = entry; eids = None } ∷ [])
    alone_pushed runs broken lists =
        let D : Option ℕ → Type 0 = λ eid. DemandsOf plan cert rule n entry eid in
        pushed at_entry 0 1 runs (record { rule = rule; node = n; entry = entry; eids = None }) (omega arith)
        (λ site is. broken_here (record { rule = rule; node = n; entry = entry; eids = None }) site refl refl refl is (λ met. broken (subst D (among_none site.eid is.3) met)))
        tt
        (λ site is. (ap order_of is.0, (is.1, (ap order_of_number is.2, (omega arith, subst (λ eid. order_of_number eid < 1) (sym (among_none site.eid is.3)) (omega arith))))))
        (λ site within. inr (
          one_order site.rule rule within.0,
          within.1.0,
          one_number site.entry entry within.1.1.0,
          subst (λ eid. IsAmong None eid) (sym (is_none site.eid within.1.1.1.1)) tt,
        ))
        (entered at_entry runs lists)

    -- where EIDs are met up to an end
    met_eids : (first end : ℕ) → ((e : ℕ) → first ≤ e → e < end → DemandsOf plan cert rule n entry (Some e)) → (eid : Option ℕ) → first + 1 ≤ order_of_number eid
        → order_of_number eid < end + 1 → DemandsOf plan cert rule n entry eid
    met_eids first end met None low high = absurd (omega arith)
    met_eids first end met (Some e) low high = met e (omega arith) (omega arith)

    pub eids_passed : (first end : ℕ) (runs : List FaultRun) → first ≤ end → ((e : ℕ) → first ≤ e → e < end → DemandsOf plan cert rule n entry (Some e))
        → AreFaultsBefore plan cert (at_entry ++ (first + 1) ∷ []) runs → AreFaultsBefore plan cert (at_entry ++ (end + 1) ∷ []) runs
    eids_passed first end runs le met = passed at_entry (first + 1) (end + 1) runs (omega arith)
        (λ site within. met_here (first + 1) (end + 1) site within (met_eids first end met site.eid within.1.1.1.0 within.1.1.1.1))

    -- where a run of EIDs is broken
    among_eids : (eids : EidSpan) (eid : Option ℕ) → IsAmong (Some eids) eid → (suc eids.first.value ≤ order_of_number eid) × (order_of_number eid < eids.last.value + 1 + 1)
    among_eids eids None among = absurd among
    among_eids eids (Some e) among = (omega (arith, among.0), omega (arith, among.1))

    broken_eids : (eids : EidSpan) → ((e : ℕ) → eids.first.value ≤ e → e ≤ eids.last.value → ¬ DemandsOf plan cert rule n entry (Some e)) → (eid : Option ℕ)
        → IsAmong (Some eids) eid → ¬ DemandsOf plan cert rule n entry eid
    broken_eids eids broken None among met = absurd among
    broken_eids eids broken (Some e) among met = broken e among.0 among.1 met

    eids_among : (eids : EidSpan) (eid : Option ℕ) → eids.first.value + 1 ≤ order_of_number eid → order_of_number eid < eids.last.value + 1 + 1 → IsAmong (Some eids) eid
    eids_among eids None low high = absurd (omega arith)
    eids_among eids (Some e) low high = (omega arith, omega arith)

    pub eids_pushed : (runs : List FaultRun) (eids : EidSpan) → ((e : ℕ) → eids.first.value ≤ e → e ≤ eids.last.value → ¬ DemandsOf plan cert rule n entry (Some e))
        → DemandsOf plan cert rule n entry (Some (eids.last.value + 1)) → AreFaultsBefore plan cert (at_entry ++ (eids.first.value + 1) ∷ []) runs
        → AreFaultsBefore plan cert (at_entry ++ (eids.last.value + 1 + 1) ∷ []) (runs ++ record { rule = rule; node = n; entry = entry; eids = Some eids } ∷ [])
    eids_pushed runs eids broken met =
        let ordered = eids.ordered in
        let run : FaultRun = record { rule = rule; node = n; entry = entry; eids = Some eids } in
        pushed at_entry (eids.first.value + 1) (eids.last.value + 1 + 1) runs run (omega arith)
        (λ site is. broken_here run site refl refl refl is (broken_eids eids broken site.eid is.3))
        met
        (λ site is. (
          ap order_of is.0,
          (is.1, (ap order_of_number is.2, (let within = among_eids eids site.eid is.3 in (omega (arith, within.0), within.1)))),
        ))
        (λ site within. inr (
          one_order site.rule rule within.0,
          within.1.0,
          one_number site.entry entry within.1.1.0,
          eids_among eids site.eid within.1.1.1.0 within.1.1.1.1,
        ))

    -- and no further ones
    no_more : (start : ℕ) → ((e : ℕ) → start ≤ e → DemandsOf plan cert rule n entry (Some e)) → (eid : Option ℕ) → start + 1 ≤ order_of_number eid → DemandsOf plan cert rule n entry eid
    no_more start met None low = absurd (omega arith)
    no_more start met (Some e) low = met e (omega arith)

    pub eids_left : (start : ℕ) (runs : List FaultRun) → ((e : ℕ) → start ≤ e → DemandsOf plan cert rule n entry (Some e))
        → AreFaultsBefore plan cert (at_entry ++ (start + 1) ∷ []) runs → AreFaultsBefore plan cert (order_of rule ∷ n ∷ (order_of_number entry + 1) ∷ []) runs
    eids_left start runs met = left (order_of rule ∷ n ∷ []) (order_of_number entry) (start + 1) runs
        (λ site past. (let E : Option ℕ → Type 0 = λ i. DemandsOf plan cert rule n i site.eid in
        met_at rule n site past.0 past.1.0 (subst E (sym (one_number site.entry entry past.1.1.0)) (no_more start met site.eid past.1.1.1))))
