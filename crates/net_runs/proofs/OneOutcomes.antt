-- An event has one outcome, and leaves one next state.
use Rattle.std.{proofs.Common.{◌≡◌, ◌⊎◌, ℕ, zero, suc, ◌+◌, Bool, true, false, List, ◌∷◌, length, Option, Some, None, refl, sym, ap, ◌∙◌, subst, inl, inr, ◌↔◌}, specs.Prelude.{IfSome}, proofs.lemmas.Bool.{cases_order}, proofs.lemmas.Option.{same_Some}}
use Rattle.mctp_transport.{specs.PacketValues.{PacketValue, KeyValue}, specs.PacketValueLaws.{one_packet_value}, specs.Cutting.{ArePacketsOf}, specs.Histories.{Arrived}, proofs.PacketLists.{same_packets}, proofs.Verdicts.{hears_one}}
use Rattle.mctp_routing.{specs.declared.row.Hop.{Hop}, specs.declared.decision.ForwardFault.TheVariants.{Unassignable, NoBridge, NoRow}, specs.declared.decision.Decision.{Decision}, specs.declared.decision.Decision.TheVariants.{Here, Drop, Forward}, specs.Decisions.{Decides}}
use Rattle.plan_values.{specs.declared.plan.Plan.{Plan}, specs.declared.certificate.Certificate.{Certificate}}
use Rattle.pdr_repository.specs.Answers.{Answers}
use Rattle.net_tables.{specs.Routing.{NamesFor}, specs.Rows.{RowsAreApart}, specs.Repositories.{records_of, places_of, RecordsHaveOrder}, specs.TwoPlans.{Tables, rows_by}, proofs.TableLaws.{same_next, named}}
use Rattle.net_runs.{specs.Termini.{TerminusState, WaitingMessage}, specs.States.{NetworkState, Flight, with_flight, without_flight, with_made, with_input, with_terminus, with_packet, with_packets, with_received, destination, rows_now, unit_of, slots, limit}, specs.Events.{EventValue, Put, Move, Lose, Expire, AnswerAt, Switch, OutcomeValue, PutIn, Moved, Entered, Stopped, Lost, Expired, Answered, Silent, Switched, Refused, Refusal, N01, N02, N03, N04, N05, N06, N07, refusal_number, IsRefused, IsFirstRefusal}, specs.Networks.{Step, Happens, Moves, IsDone, IsAnswered, answer_key}, specs.Runs.{Turn, RunOf, reached}, specs.OneOutcome.{HaveRowsApart, HoldsLawfulLists, HasOneOutcome, RunsHaveOneOutcome}, proofs.ByPlace.{is_lawful}, proofs.OneReply.{one_answering}, proofs.Records.{keeps_records}, proofs.TerminiThere.{termini_are_there}}
use Rattle.pdr_repository.specs.Records as lawful

-- ---- refusals

pub refusal_of : ℕ → Refusal
refusal_of zero = N01
refusal_of (suc zero) = N01
refusal_of (suc (suc zero)) = N02
refusal_of (suc (suc (suc zero))) = N03
refusal_of (suc (suc (suc (suc zero)))) = N04
refusal_of (suc (suc (suc (suc (suc zero))))) = N05
refusal_of (suc (suc (suc (suc (suc (suc zero)))))) = N06
refusal_of (suc (suc (suc (suc (suc (suc (suc n))))))) = N07

pub numbered : (why : Refusal) → refusal_of (refusal_number why) ≡ why
unfolding refusal_of
numbered N01 = refl
numbered N02 = refl
numbered N03 = refl
numbered N04 = refl
numbered N05 = refl
numbered N06 = refl
numbered N07 = refl

one_refusal : (tables : Tables) (w : NetworkState) (event : EventValue) (why other : Refusal) → IsFirstRefusal tables w event why → IsFirstRefusal tables w event other → why ≡ other
one_refusal tables w event why other (is, first) (is', first') = elim (cases_order (refusal_number why) (refusal_number other)) [
  | inl same ↦ sym (numbered why) ∙ (ap refusal_of same ∙ numbered other)
  | inr (inl less) ↦ absurd (first' why less is)
  | inr (inr more) ↦ absurd (first other more is')
]

-- ---- moves

next_in : (plan : Plan) (after : Option Plan) (switched : Bool) (n e m k : ℕ) → RowsAreApart plan → IfSome after RowsAreApart → NamesFor (rows_by plan after switched n) e m → NamesFor (rows_by plan after switched n) e k → m ≡ k
next_in plan None switched n e m k apart also (r, row, at, covers, next) (q, other, at', covers', next') = sym next ∙ (same_next plan n e apart r q row other at at' covers covers' ∙ next')
next_in plan (Some after) false n e m k apart also (r, row, at, covers, next) (q, other, at', covers', next') = sym next ∙ (same_next plan n e apart r q row other at at' covers covers' ∙ next')
next_in plan (Some after) true n e m k apart also (r, row, at, covers, next) (q, other, at', covers', next') = sym next ∙ (same_next after n e also r q row other at at' covers covers' ∙ next')

-- the decisions are one, but for the port
Alike : Decision → Decision → Type 0
Alike Here Here = Unit {0}
Alike (Drop why) (Drop told) = why ≡ told
Alike (Forward hop) (Forward other) = hop.next ≡ other.next
Alike _ _ = ⊥

module _ (holds forwards : Type 0) (routes : Hop → Type 0) (one : (hop other : Hop) → routes hop → routes other → hop.next ≡ other.next) (e : ℕ) where
  alike : (a b : Decision) → Decides holds forwards routes e a → Decides holds forwards routes e b → Alike a b
  unfolding Alike
  alike Here Here x y = tt
  alike Here (Drop Unassignable) x y = absurd (y.0 x)
  alike Here (Drop NoBridge) x y = absurd (y.0 x)
  alike Here (Drop NoRow) x y = absurd (y.0 x)
  alike Here (Forward hop) x y = absurd (y.0 x)
  alike (Drop Unassignable) Here x y = absurd (x.0 y)
  alike (Drop Unassignable) (Drop Unassignable) x y = refl
  alike (Drop Unassignable) (Drop NoBridge) x y = absurd (x.1 y.1)
  alike (Drop Unassignable) (Drop NoRow) x y = absurd (x.1 y.1)
  alike (Drop Unassignable) (Forward hop) x y = absurd (x.1 y.1)
  alike (Drop NoBridge) Here x y = absurd (x.0 y)
  alike (Drop NoBridge) (Drop Unassignable) x y = absurd (y.1 x.1)
  alike (Drop NoBridge) (Drop NoBridge) x y = refl
  alike (Drop NoBridge) (Drop NoRow) x y = absurd (x.2 y.2)
  alike (Drop NoBridge) (Forward hop) x y = absurd (x.2 y.2)
  alike (Drop NoRow) Here x y = absurd (x.0 y)
  alike (Drop NoRow) (Drop Unassignable) x y = absurd (y.1 x.1)
  alike (Drop NoRow) (Drop NoBridge) x y = absurd (y.2 x.2)
  alike (Drop NoRow) (Drop NoRow) x y = refl
  alike (Drop NoRow) (Forward hop) x y = absurd (x.3 hop y.3)
  alike (Forward hop) Here x y = absurd (x.0 y)
  alike (Forward hop) (Drop Unassignable) x y = absurd (y.1 x.1)
  alike (Forward hop) (Drop NoBridge) x y = absurd (y.2 x.2)
  alike (Forward hop) (Drop NoRow) x y = absurd (y.3 hop x.3)
  alike (Forward hop) (Forward other) x y = one hop other x.3 y.3

-- what determines an outcome and a state
abbrev AreOne : OutcomeValue → OutcomeValue → NetworkState → NetworkState → Type 0
AreOne a b u v = (a ≡ b) × (u ≡ v)

module _ (w : NetworkState) (number : ℕ) (f : Flight) where
  done_here : (a b : OutcomeValue) (u v : NetworkState) → IsDone w number f a Here u → IsDone w number f b Here v → AreOne a b u v
  done_here (Entered k n key x) (Entered j m other y) u v (number_is, at, whose, hears, is) (number_is', at', whose', hears', is') =
      let flight : k ≡ j = number_is ∙ sym number_is' in
      let node : n ≡ m = at ∙ sym at' in
      let keys : key ≡ other = whose ∙ sym whose' in
      let answers : x ≡ y = hears_one slots limit (w.history f.node) f.packet x y hears hears' in
      (λ i. Entered (flight i) (node i) (keys i) (answers i), is ∙ ((λ i. with_received (with_input w f.node (Arrived f.packet)) f.node (keys i) (answers i)) ∙ sym is'))
  done_here (Entered k n key x) _ u v done done' = absurd done'
  done_here _ _ u v done done' = absurd done

  done_drop : (why told : _) (a b : OutcomeValue) (u v : NetworkState) → why ≡ told → IsDone w number f a (Drop why) u → IsDone w number f b (Drop told) v → AreOne a b u v
  done_drop why told (Stopped k x) (Stopped j y) u v same (number_is, said, is) (number_is', said', is') =
      let flight : k ≡ j = number_is ∙ sym number_is' in
      let cause : x ≡ y = said ∙ (same ∙ sym said') in
      (λ i. Stopped (flight i) (cause i), is ∙ sym is')
  done_drop why told (Stopped k x) _ u v same done done' = absurd done'
  done_drop why told _ _ u v same done done' = absurd done

  done_on : (hop other : Hop) (a b : OutcomeValue) (u v : NetworkState) → hop.next ≡ other.next → IsDone w number f a (Forward hop) u → IsDone w number f b (Forward other) v → AreOne a b u v
  done_on hop other (Moved k n h) (Moved j m g) u v same (number_is, at, more, is) (number_is', at', more', is') =
      let flight : k ≡ j = number_is ∙ sym number_is' in
      let node : n ≡ m = at ∙ (same ∙ sym at') in
      let hops : h ≡ g = more ∙ sym more' in
      (λ i. Moved (flight i) (node i) (hops i), is ∙ ((λ i. with_flight w number (record f { node = node i; hops = hops i })) ∙ sym is'))
  done_on hop other (Moved k n h) _ u v same done done' = absurd done'
  done_on hop other _ _ u v same done done' = absurd done

  done_one : (d c : Decision) (a b : OutcomeValue) (u v : NetworkState) → Alike d c → IsDone w number f a d u → IsDone w number f b c v → AreOne a b u v
  unfolding Alike
  done_one Here Here a b u v same x y = done_here a b u v x y
  done_one Here (Drop why) a b u v same x y = absurd same
  done_one Here (Forward hop) a b u v same x y = absurd same
  done_one (Drop why) Here a b u v same x y = absurd same
  done_one (Drop why) (Drop told) a b u v same x y = done_drop why told a b u v same x y
  done_one (Drop why) (Forward hop) a b u v same x y = absurd same
  done_one (Forward hop) Here a b u v same x y = absurd same
  done_one (Forward hop) (Drop why) a b u v same x y = absurd same
  done_one (Forward hop) (Forward other) a b u v same x y = done_on hop other a b u v same x y

same_truth : (P : Type 0) (a b : Bool) → (a ≡ true) ↔ P → (b ≡ true) ↔ P → a ≡ b
same_truth P true true x y = refl
same_truth P false false x y = refl
same_truth P true false x y = sym (y.1 (x.0 refl))
same_truth P false true x y = x.1 (y.0 refl)

-- ---- answers

module _ (plan : Plan) (node : ℕ) where
  answered_one : (key : KeyValue) (w : NetworkState) (answer : Option (List ℕ)) (a b : OutcomeValue) (u v : NetworkState) → IsAnswered plan w node key answer a u → IsAnswered plan w node key answer b v → AreOne a b u v
  answered_one key w None (Silent n) (Silent m) u v (at, is) (at', is') = (ap Silent (at ∙ sym at'), is ∙ sym is')
  answered_one key w None (Silent n) _ u v x y = absurd y
  answered_one key w None _ _ u v x y = absurd x
  answered_one key w (Some answer) (Answered n first last) (Answered m begin end) u v (eid, ps, holds, are, at, from, to, is) (e, qs, holds', are', at', from', to', is') =
      let eids : eid ≡ e = same_Some eid e (sym holds ∙ holds') in
      let P : ℕ → Type 0 = λ k. ArePacketsOf (unit_of plan) answer key.source (answer_key k key) 0 ps in
      let packets : ps ≡ qs = same_packets (unit_of plan) answer key.source (answer_key e key) 0 ps qs (subst P eids are) are' in
      let nodes : n ≡ m = at ∙ sym at' in
      let firsts : first ≡ begin = from ∙ sym from' in
      let lasts : last ≡ end = to ∙ (ap (λ (xs : List PacketValue). w.made + length xs) packets ∙ sym to') in
      (λ i. Answered (nodes i) (firsts i) (lasts i), is ∙ (ap (λ (xs : List PacketValue). with_packets w node xs) packets ∙ sym is'))
  answered_one key w (Some answer) (Answered n first last) _ u v x y = absurd y
  answered_one key w (Some answer) _ _ u v x y = absurd x

  terminus_one : (w : NetworkState) (lists : HoldsLawfulLists w) (a b : OutcomeValue) (u v : NetworkState) (t s : TerminusState) (oldest other : WaitingMessage) (rest others : List WaitingMessage)
      (answer reply : Option (List ℕ)) (tid next : ℕ) → w.terminus node ≡ Some t → w.terminus node ≡ Some s → t.waiting ≡ oldest ∷ rest → s.waiting ≡ other ∷ others
      → Answers t.tid t.records oldest.bytes answer tid → Answers s.tid s.records other.bytes reply next
      → IsAnswered plan (with_terminus w node (Some (record t { tid = tid; waiting = rest }))) node oldest.key answer a u
      → IsAnswered plan (with_terminus w node (Some (record s { tid = next; waiting = others }))) node other.key reply b v → AreOne a b u v
  terminus_one w lists a b u v t s oldest other rest others answer reply tid next is is' waits waits' answers answers' x y =
      let termini : s ≡ t = same_Some s t (sym is' ∙ is) in
      let waiting : other ∷ others ≡ oldest ∷ rest = sym waits' ∙ (ap (λ (z : TerminusState). z.waiting) termini ∙ waits) in
      let olds : other ≡ oldest = cc in
      let rests : others ≡ rest = cc in
      let A : TerminusState → WaitingMessage → Type 0 = λ z m. Answers z.tid z.records m.bytes reply next in
      let answers'' : A t oldest = subst (λ (m : WaitingMessage). A t m) olds (subst (λ (z : TerminusState). A z other) termini answers') in
      let one = one_answering t.tid t.records (lists node t is) oldest.bytes reply answer next tid answers'' answers in
      let D : TerminusState → WaitingMessage → List WaitingMessage → Option (List ℕ) → ℕ → Type 0 = λ z m ms r k. IsAnswered plan (with_terminus w node (Some (record z { tid = k; waiting = ms }))) node m.key r b v in
      let y1 : D t other others reply next = subst (λ (z : TerminusState). D z other others reply next) termini y in
      let y2 : D t oldest others reply next = subst (λ (m : WaitingMessage). D t m others reply next) olds y1 in
      let y3 : D t oldest rest reply next = subst (λ (ms : List WaitingMessage). D t oldest ms reply next) rests y2 in
      let y4 : D t oldest rest answer next = subst (λ (r : Option (List ℕ)). D t oldest rest r next) one.0 y3 in
      let y5 : D t oldest rest answer tid = subst (λ (k : ℕ). D t oldest rest answer k) one.1 y4 in
      answered_one oldest.key (with_terminus w node (Some (record t { tid = tid; waiting = rest }))) answer a b u v x y5

-- ---- steps

module _ (tables : Tables) (apart : HaveRowsApart tables) where
  moves_one : (w : NetworkState) (number : ℕ) (f : Flight) (a b : OutcomeValue) (u v : NetworkState) → Moves tables w number f a u → Moves tables w number f b v → AreOne a b u v
  moves_one w number f a b u v (d, decided, done) (c, decided', done') =
      let rows = rows_now tables w f.node in
      done_one w number f d c a b u v
      (alike _ _ _ (λ hop other x y. next_in tables.plan tables.after (w.switched f.node) f.node (destination f) hop.next other.next apart.0 apart.1 (named rows (destination f) hop x) (named rows (destination f) other y)) (destination f) d c decided decided')
      done done'

  happens_one : (w : NetworkState) (lists : HoldsLawfulLists w) (event : EventValue) (a b : OutcomeValue) (u v : NetworkState) → Happens tables w event a u → Happens tables w event b v → AreOne a b u v
  happens_one w lists (Put node bytes) (PutIn k n) (PutIn j m) u v (p, spelled, number, at, is) (q, spelled', number', at', is') =
      let packets : p ≡ q = one_packet_value (unit_of tables.plan) p q spelled.0 spelled'.0 (spelling spelled.1 spelled'.1) in
      let flights : k ≡ j = number ∙ sym number' in
      let nodes : n ≡ m = at ∙ sym at' in
      (λ i. PutIn (flights i) (nodes i), is ∙ (ap (λ (x : PacketValue). with_packet w node x) packets ∙ sym is'))
    where
      spelling : {x y : List ℕ} → bytes ≡ x → bytes ≡ y → x ≡ y
      spelling e g = sym e ∙ g
  happens_one w lists (Put node bytes) (PutIn k n) _ u v x y = absurd y
  happens_one w lists (Put node bytes) _ _ u v x y = absurd x
  happens_one w lists (Move number false) a b u v (f, stands, moves) (g, stands', moves') =
      let same : g ≡ f = same_Some g f (sym stands' ∙ stands) in
      moves_one (without_flight w number) number f a b u v moves (subst (λ (h : Flight). Moves tables (without_flight w number) number h b v) same moves')
  happens_one w lists (Move number true) a b u v (f, stands, moves) (g, stands', moves') =
      let same : g ≡ f = same_Some g f (sym stands' ∙ stands) in
      moves_one (with_made w (w.made + 1)) (w.made + 1) f a b u v moves (subst (λ (h : Flight). Moves tables (with_made w (w.made + 1)) (w.made + 1) h b v) same moves')
  happens_one w lists (Lose number) (Lost k) (Lost j) u v (at, is) (at', is') = (ap Lost (at ∙ sym at'), is ∙ sym is')
  happens_one w lists (Lose number) (Lost k) _ u v x y = absurd y
  happens_one w lists (Lose number) _ _ u v x y = absurd x
  happens_one w lists (Expire node key) (Expired n was) (Expired m had) u v (at, opened, is) (at', opened', is') =
      let nodes : n ≡ m = at ∙ sym at' in
      let truths : was ≡ had = same_truth _ was had opened opened' in
      (λ i. Expired (nodes i) (truths i), is ∙ sym is')
  happens_one w lists (Expire node key) (Expired n was) _ u v x y = absurd y
  happens_one w lists (Expire node key) _ _ u v x y = absurd x
  happens_one w lists (AnswerAt node) a b u v (t, oldest, rest, answer, tid, is, waits, answers, x) (s, other, others, reply, next, is', waits', answers', y) =
      terminus_one tables.plan node w lists a b u v t s oldest other rest others answer reply tid next is is' waits waits' answers answers' x y
  happens_one w lists (Switch node) (Switched n) (Switched m) u v (at, is) (at', is') = (ap Switched (at ∙ sym at'), is ∙ sym is')
  happens_one w lists (Switch node) (Switched n) _ u v x y = absurd y
  happens_one w lists (Switch node) _ _ u v x y = absurd x

  -- an outcome is a refusal, or it happens
  Refuses : NetworkState → EventValue → OutcomeValue → NetworkState → Type 0
  Refuses w event a u = (why : Refusal) × (a ≡ Refused why) × IsFirstRefusal tables w event why × (u ≡ w)

  refused_or_not : (w : NetworkState) (event : EventValue) (a : OutcomeValue) (u : NetworkState) → Step tables w event a u
      → Refuses w event a u ⊎ (((why : Refusal) → ¬ IsRefused tables w event why) × Happens tables w event a u)
  unfolding Refuses
  refused_or_not w event (Refused why) u step = inl (why, refl, step.0, step.1)
  refused_or_not w event _ u step = inr step

  pub step_one : (w : NetworkState) (event : EventValue) → HoldsLawfulLists w → HasOneOutcome tables w event
  unfolding Refuses
  step_one w event lists a b u v step step' = by (refused_or_not w event a u step) (refused_or_not w event b v step')
    where
      by : Refuses w event a u ⊎ (((why : Refusal) → ¬ IsRefused tables w event why) × Happens tables w event a u)
          → Refuses w event b v ⊎ (((why : Refusal) → ¬ IsRefused tables w event why) × Happens tables w event b v) → AreOne a b u v
      by (inl (why, is, first, same)) (inl (other, is', first', same')) = (is ∙ (ap Refused (one_refusal tables w event why other first first') ∙ sym is'), same ∙ sym same')
      by (inl (why, is, first, same)) (inr (may, _)) = absurd (may why first.0)
      by (inr (may, _)) (inl (why, is, first, same)) = absurd (may why first.0)
      by (inr (_, x)) (inr (_, y)) = happens_one w lists event a b u v x y

pub one_outcome : (tables : Tables) (w : NetworkState) (event : EventValue) → HaveRowsApart tables → HoldsLawfulLists w → HasOneOutcome tables w event
one_outcome tables w event apart lists = step_one tables apart w event lists

-- The tables of runs that keep their termini's records in order.
module _ (tables : Tables) (cert : Certificate) (apart : HaveRowsApart tables) (orders : RecordsHaveOrder tables.plan cert) where
  lawful_there : (turns : List Turn) → RunOf tables cert turns → HoldsLawfulLists (reached tables.plan cert turns)
  lawful_there turns run n t is =
      let records = keeps_records tables cert turns run n t is in
      subst lawful.IsLawful (sym records) (is_lawful (records_of tables.plan n) (places_of cert n) (orders n (termini_are_there tables cert turns run n t is)))

  pub runs_have_one_outcome : RunsHaveOneOutcome tables cert
  runs_have_one_outcome turns event run = step_one tables apart (reached tables.plan cert turns) event (lawful_there turns run)
