-- Ways: moves along rows, one way from each node, and how many moves reach.
use Rattle.std.{proofs.Common.{◌≡◌, ◌⊎◌, ℕ, zero, suc, ◌+◌, ◌<◌, ◌≤◌, List, [], ◌∷◌, ◌++◌, length, Some, None, refl, sym, ap, ◌∙◌, subst, inl, inr, arith, map, ◌↔◌, take, get_or, All}, specs.Prelude.{slice_get}, proofs.lemmas.Bool.{cases_order}, proofs.lemmas.List.{get_or-map, get_or-take, length-take, length-map}, proofs.lemmas.Option.{slice_get_within, get_or_from_slice_get, same_Some}}
use Rattle.mctp_transport.specs.PacketValues.{IsAssignable}
use Rattle.mctp_routing.{specs.declared.row.Hop.{Hop}, specs.declared.decision.ForwardFault.TheVariants.{Unassignable, NoBridge, NoRow}, specs.declared.decision.Decision.{Decision}, specs.declared.decision.Decision.TheVariants.{Here, Drop, Forward}, specs.Decisions.{Decides}}
use Rattle.plan_values.{specs.declared.plan.Plan.{Plan}, specs.declared.nodes.Row.{Row}, specs.declared.certificate.Certificate.{Certificate}}
use Rattle.net_rules.{specs.declared.rule.Rule.TheVariants.{C05}, specs.HeldEids.{HeldAreLedOn, IsLedOn}, specs.Moves.{Leads}, specs.Rules.{Accepts}, proofs.Ends.{ends_within_rank}, proofs.EidMoves.{moved_in_range}, proofs.MoveCertificates.{plan_rows_in_range}}
use Rattle.net_tables.{specs.Routing.{Holds, IsBridge, MovesTo, rows_of, Covers}, specs.Rows.{AreApart, IsApartFromEarlier, RowsAreApart, RowsAreInRange}, specs.Tables.{table_row}, specs.Ranks.{rank}, proofs.Elements.{element}, proofs.TableLaws.{named}}
use Rattle.net_check.proofs.Accepted.{accepted_leads}
use Rattle.net_questions.{specs.declared.step.WayStep.{WayStep}, specs.declared.way.End.{End}, specs.declared.way.End.TheVariants.{Arrives, Stops}, specs.Ways.{DoesAfter, Follows, IsWay, SameWays, ArrivesAfter, decision_of}, specs.Reaching.{Reaches}}
use Rattle.mctp_routing.specs.Rows as rule
use Rattle.mctp_routing.specs.declared.row.TableRow as bridge

pub accepted_apart : (plan : Plan) (cert : Certificate) → Accepts plan cert → RowsAreApart plan
accepted_apart plan cert accepted n r = (accepted C05 n (Some r) None).0

-- ---- steps are moves along rows

pub sent_moves : (plan : Plan) (e k n : ℕ) (hop : Hop) → DoesAfter plan e k n (Forward hop) → MovesTo plan e n hop.next
sent_moves plan e k n hop sent = (sent.0, named (rows_of plan n) e hop sent.3)

pub follows_leads : (plan : Plan) (e k n : ℕ) (steps : List WayStep) (m : ℕ) → Follows plan e k n steps m → Leads (MovesTo plan e) n (length steps) m
follows_leads plan e k n [] m same = same
follows_leads plan e k n (step ∷ steps) m (at, sent, rest) =
    (step.hop.next, sent_moves plan e k n step.hop sent, follows_leads plan e (suc k) step.hop.next steps m rest)

-- and so they are few
pub steps_within : (plan : Plan) (cert : Certificate) (e n : ℕ) (steps : List WayStep) (m : ℕ) → Accepts plan cert → Follows plan e 0 n steps m → length steps ≤ rank cert n e
steps_within plan cert e n steps m accepted follows =
    omega (arith, (ends_within_rank plan cert accepted).within e n (length steps) m (follows_leads plan e 0 n steps m follows))

-- ---- one step more

pub one_step_more : (plan : Plan) (e k n : ℕ) (steps : List WayStep) (m j : ℕ) (hop : Hop) → j ≡ k + length steps → Follows plan e k n steps m
    → DoesAfter plan e j m (Forward hop) → Follows plan e k n (steps ++ record { node = m; hop = hop } ∷ []) hop.next
one_step_more plan e k n [] m j hop is same sent =
    let now : j ≡ k = omega (arith, is) in
    let at : DoesAfter plan e k m (Forward hop) = subst (λ i. DoesAfter plan e i m (Forward hop)) now sent in
    (sym same, subst (λ x. DoesAfter plan e k x (Forward hop)) (sym same) at, refl)
one_step_more plan e k n (step ∷ steps) m j hop is (at, sent, rest) more =
    (at, sent, one_step_more plan e (suc k) step.hop.next steps m j hop (omega (arith, is)) rest more)

-- ---- a node does one thing

row_at : (rows : List Row) (k : ℕ) (d : bridge.TableRow) (row : Row) → slice_get rows k ≡ Some row → get_or (map table_row rows) k d ≡ table_row row
row_at rows k d row is = get_or-map table_row rows k row d (slice_get_within rows k row is) ∙ ap table_row (get_or_from_slice_get rows k row row is)

-- a route's hop is that of a row that covers e
row_of : (rows : List Row) (e : ℕ) (hop : Hop) → rule.Routes (map table_row rows) e hop
    → (r : ℕ) × (row : Row) × (slice_get rows r ≡ Some row) × Covers row e × ((table_row row).hop ≡ hop)
row_of rows e hop (k, x, lt, at, (covers, goes)) =
    let row = element rows k (omega (arith, lt, length-map rows table_row)) in
    let same : table_row row.0 ≡ x = sym (row_at rows k x row.0 row.1) ∙ at in
    let P : bridge.TableRow → Type 0 = λ r. rule.Covers r e in
    (k, row.0, row.1, subst P (sym same) covers, ap (λ (r : bridge.TableRow). r.hop) same ∙ goes)

-- and a row that covers e has a route
pub hop_of : (rows : List Row) (e r : ℕ) (row : Row) → slice_get rows r ≡ Some row → Covers row e → rule.Routes (map table_row rows) e (table_row row).hop
hop_of rows e r row is covers =
    (r, table_row row, omega (arith, length-map rows table_row, slice_get_within rows r row is), row_at rows r (table_row row) row is, (covers, refl))

-- each row lies apart from those before it
apart_before : (rows : List Row) (r q : ℕ) (row other : Row) (e : ℕ) → All (AreApart row) (take r rows) → q < r → slice_get rows q ≡ Some other → Covers row e → Covers other e → ⊥
unfolding AreApart
apart_before rows r q row other e apart before is here there =
    let within : q < length (take r rows) = omega (arith, slice_get_within rows q other is, length-take r rows) in
    let at : get_or (take r rows) q other ≡ other = get_or-take r rows q other before ∙ get_or_from_slice_get rows q other other is in
    let P : Row → Type 0 = λ x. Covers x e in
    apart q other within e here (subst P (sym at) there)

same_row : (plan : Plan) (n e : ℕ) → RowsAreApart plan → (r q : ℕ) (row other : Row) → slice_get (rows_of plan n) r ≡ Some row → slice_get (rows_of plan n) q ≡ Some other
    → Covers row e → Covers other e → row ≡ other
unfolding AreApart IsApartFromEarlier
same_row plan n e apart r q row other is is' here there = elim (cases_order r q) [
  | inl same ↦ same_Some row other (sym is ∙ (ap (λ k. slice_get (rows_of plan n) k) same ∙ is'))
  | inr order ↦ elim order [
    | inl before ↦ absurd (apart_before (rows_of plan n) q r other row e (apart n q other is') before is there here)
    | inr after ↦ absurd (apart_before (rows_of plan n) r q row other e (apart n r row is) after is' here there)
  ]
]

pub one_hop : (plan : Plan) (n e : ℕ) → RowsAreApart plan → (hop other : Hop) → rule.Routes (map table_row (rows_of plan n)) e hop
    → rule.Routes (map table_row (rows_of plan n)) e other → hop ≡ other
one_hop plan n e apart hop other here there =
    let row = row_of (rows_of plan n) e hop here in
    let second = row_of (rows_of plan n) e other there in
    let same : row.1 ≡ second.1 = same_row plan n e apart row.0 second.0 row.1 second.1 row.2 second.2 row.3 second.3 in
    sym row.4 ∙ (ap (λ (x : Row). (table_row x).hop) same ∙ second.4)

module _ (holds forwards : Type 0) (routes : Hop → Type 0) (one : (hop other : Hop) → routes hop → routes other → hop ≡ other) (e : ℕ) where
  pub decides_one : (a b : Decision) → Decides holds forwards routes e a → Decides holds forwards routes e b → a ≡ b
  decides_one Here Here x y = refl
  decides_one Here (Drop Unassignable) x y = absurd (y.0 x)
  decides_one Here (Drop NoBridge) x y = absurd (y.0 x)
  decides_one Here (Drop NoRow) x y = absurd (y.0 x)
  decides_one Here (Forward hop) x y = absurd (y.0 x)
  decides_one (Drop Unassignable) Here x y = absurd (x.0 y)
  decides_one (Drop Unassignable) (Drop Unassignable) x y = refl
  decides_one (Drop Unassignable) (Drop NoBridge) x y = absurd (x.1 y.1)
  decides_one (Drop Unassignable) (Drop NoRow) x y = absurd (x.1 y.1)
  decides_one (Drop Unassignable) (Forward hop) x y = absurd (x.1 y.1)
  decides_one (Drop NoBridge) Here x y = absurd (x.0 y)
  decides_one (Drop NoBridge) (Drop Unassignable) x y = absurd (y.1 x.1)
  decides_one (Drop NoBridge) (Drop NoBridge) x y = refl
  decides_one (Drop NoBridge) (Drop NoRow) x y = absurd (x.2 y.2)
  decides_one (Drop NoBridge) (Forward hop) x y = absurd (x.2 y.2)
  decides_one (Drop NoRow) Here x y = absurd (x.0 y)
  decides_one (Drop NoRow) (Drop Unassignable) x y = absurd (y.1 x.1)
  decides_one (Drop NoRow) (Drop NoBridge) x y = absurd (y.2 x.2)
  decides_one (Drop NoRow) (Drop NoRow) x y = refl
  decides_one (Drop NoRow) (Forward hop) x y = absurd (x.3 hop y.3)
  decides_one (Forward hop) Here x y = absurd (x.0 y)
  decides_one (Forward hop) (Drop Unassignable) x y = absurd (y.1 x.1)
  decides_one (Forward hop) (Drop NoBridge) x y = absurd (y.2 x.2)
  decides_one (Forward hop) (Drop NoRow) x y = absurd (y.3 hop x.3)
  decides_one (Forward hop) (Forward other) x y = ap (λ h. Forward h) (one hop other x.3 y.3)

pub does_one : (plan : Plan) (e k n : ℕ) → RowsAreApart plan → (a b : Decision) → DoesAfter plan e k n a → DoesAfter plan e k n b → a ≡ b
does_one plan e k n apart a b one other =
    decides_one (Holds plan n e) (IsBridge plan n ⊎ (k ≡ 0)) (rule.Routes (map table_row (rows_of plan n)) e) (one_hop plan n e apart) e a b one other

-- ---- one way from each node

pub same_hop : (hop other : Hop) → Forward hop ≡ Forward other → hop ≡ other
same_hop hop other is = cc

pub no_end : (hop : Hop) (end : End) → Forward hop ≡ decision_of end → ⊥
no_end hop Arrives is = cc
no_end hop (Stops why) is = cc

one_end : (one other : End) → decision_of one ≡ decision_of other → one ≡ other
one_end Arrives Arrives is = refl
one_end Arrives (Stops why) is = absurd (cc)
one_end (Stops why) Arrives is = absurd (cc)
one_end (Stops why) (Stops told) is = let same : why ≡ told = cc in ap (λ w. Stops w) same

step_at : ℕ → Hop → WayStep
step_at n hop = record { node = n; hop = hop }

same_step : (step other : WayStep) → step.node ≡ other.node → step.hop ≡ other.hop → step ≡ other
unfolding step_at
same_step step other nodes hops = ap (λ n. step_at n step.hop) nodes ∙ ap (λ h. step_at other.node h) hops

module _ (plan : Plan) (e : ℕ) (apart : RowsAreApart plan) where
  one_way : (k n : ℕ) (steps others : List WayStep) (last end_at : ℕ) (one other : End) → Follows plan e k n steps last → Follows plan e k n others end_at
      → DoesAfter plan e (k + length steps) last (decision_of one) → DoesAfter plan e (k + length others) end_at (decision_of other)
      → SameWays steps others last end_at one other
  one_way k n [] [] last end_at one other here there ends ends' =
      let same : last ≡ end_at = sym here ∙ there in
      let now : DoesAfter plan e (k + 0) last (decision_of other) = subst (λ x. DoesAfter plan e (k + 0) x (decision_of other)) (sym same) ends' in
      (refl, same, one_end one other (does_one plan e (k + 0) last apart (decision_of one) (decision_of other) ends now))
  one_way k n [] (step ∷ steps) last end_at one other here (at, sent, rest) ends ends' =
      let k_is : k + 0 ≡ k = omega arith in
      let now : DoesAfter plan e k n (decision_of one) = subst (λ x. DoesAfter plan e k x (decision_of one)) (sym here) (subst (λ j. DoesAfter plan e j last (decision_of one)) k_is ends) in
      absurd (no_end step.hop one (does_one plan e k n apart (Forward step.hop) (decision_of one) sent now))
  one_way k n (step ∷ steps) [] last end_at one other (at, sent, rest) there ends ends' =
      let k_is : k + 0 ≡ k = omega arith in
      let now : DoesAfter plan e k n (decision_of other) = subst (λ x. DoesAfter plan e k x (decision_of other)) (sym there) (subst (λ j. DoesAfter plan e j end_at (decision_of other)) k_is ends') in
      absurd (no_end step.hop other (does_one plan e k n apart (Forward step.hop) (decision_of other) sent now))
  one_way k n (step ∷ steps) (second ∷ others) last end_at one other (at, sent, rest) (at', sent', rest') ends ends' =
      let hops : step.hop ≡ second.hop = same_hop step.hop second.hop (does_one plan e k n apart (Forward step.hop) (Forward second.hop) sent sent') in
      let k_is : k + length (step ∷ steps) ≡ suc k + length steps = omega arith in
      let k_is' : k + length (second ∷ others) ≡ suc k + length others = omega arith in
      let nexts : second.hop.next ≡ step.hop.next = ap (λ (h : Hop). h.next) (sym hops) in
      let later = one_way (suc k) step.hop.next steps others last end_at one other rest (subst (λ x. Follows plan e (suc k) x others end_at) nexts rest')
      (subst (λ j. DoesAfter plan e j last (decision_of one)) k_is ends) (subst (λ j. DoesAfter plan e j end_at (decision_of other)) k_is' ends') in
      let first : step ≡ second = same_step step second (at ∙ sym at') hops in
      (ap (λ s. s ∷ steps) first ∙ ap (λ ss. second ∷ ss) later.0, later.1, later.2)

pub ways_are_alone : (plan : Plan) (cert : Certificate) (e from last end_at : ℕ) (steps others : List WayStep) (one other : End) → Accepts plan cert
    → IsWay plan e from steps last one → IsWay plan e from others end_at other → SameWays steps others last end_at one other
ways_are_alone plan cert e from last end_at steps others one other accepted way second =
    one_way plan e (accepted_apart plan cert accepted) 0 from steps others last end_at one other way.follows second.follows
    (subst (λ k. DoesAfter plan e k last (decision_of one)) (omega arith) way.ends) (subst (λ k. DoesAfter plan e k end_at (decision_of other)) (omega arith) second.ends)

-- ---- moves that reach a holder are steps that arrive

led_on : (plan : Plan) (n e m : ℕ) → HeldAreLedOn plan → MovesTo plan e n m → (holder : ℕ) → Holds plan holder e → Holds plan m e ⊎ IsBridge plan m
unfolding IsLedOn
led_on plan n e m leads move holder holds = elim (leads n e m move.1 holder holds (λ same. move.0 (subst (λ k. Holds plan k e) same holds))) [
  | inl here ↦ inl here
  | inr bridge ↦ inr bridge.0
]

-- a node can be come to: it takes the packet, or sends it on
Sends : Plan → ℕ → ℕ → ℕ → Type 0
Sends plan e k n = Holds plan n e ⊎ (IsBridge plan n ⊎ (k ≡ 0))

module _ (plan : Plan) (e : ℕ) (in_range : RowsAreInRange plan) (leads : HeldAreLedOn plan) where
  arrives : (k n moves m : ℕ) → Sends plan e k n → Leads (MovesTo plan e) n moves m → Holds plan m e
      → (steps : List WayStep) × (length steps ≡ moves) × Follows plan e k n steps m
  unfolding Sends
  arrives k n zero m sends same holds = ([], refl, same)
  arrives k n (suc moves) m sends (next, move, rest) holds =
      let row = move.1.1 in
      let hop = (table_row row).hop in
      let range = moved_in_range plan e n next in_range move in
      let forwards : IsBridge plan n ⊎ (k ≡ 0) = elim sends [ inl here ↦ absurd (move.0 here) | inr forwards ↦ forwards ] in
      let assignable : IsAssignable e = (range.0, omega (arith, range.1)) in
      let sent : DoesAfter plan e k n (Forward hop) = (move.0, assignable, forwards, hop_of (rows_of plan n) e move.1.0 row move.1.2 move.1.3) in
      let to : next ≡ hop.next = sym move.1.4 in
      let there : Sends plan e (suc k) next = elim (led_on plan n e next leads move m holds) [ inl here ↦ inl here | inr bridge ↦ inr (inl bridge) ] in
      let later = arrives (suc k) next moves m there rest holds in
      (record { node = n; hop = hop } ∷ later.0, ap suc later.1, (refl, sent, subst (λ x. Follows plan e (suc k) x later.0 m) to later.2))

pub ways_reach : (plan : Plan) (cert : Certificate) (e from moves : ℕ) → Accepts plan cert → (Reaches plan e from moves ↔ ArrivesAfter plan e from moves)
unfolding Sends
ways_reach plan cert e from moves accepted = (
  λ (m, way, holds). (
      let found = arrives plan e (plan_rows_in_range plan cert accepted) (accepted_leads plan cert accepted) 0 from moves m (inr (inr refl)) way holds in
      (found.0, m, found.1, record { follows = found.2; ends = holds })),
  λ (steps, last, long, way). (last, subst (λ k. Leads (MovesTo plan e) from k last) long (follows_leads plan e 0 from steps last way.follows), way.ends),
)
