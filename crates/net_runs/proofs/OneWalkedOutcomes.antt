-- An event has one outcome, and leaves one next state, with walkers too.
use Rattle.std.{proofs.Common.{◌≡◌, ◌⊎◌, ℕ, ◌==◌, if◌then◌else◌, List, [], ◌∷◌, length, Option, Some, None, Result, Ok, Err, refl, sym, ap, ◌∙◌, subst, inl, inr}, specs.Prelude.{MatchResult}, proofs.lemmas.Bool.{cases_order}, proofs.lemmas.Option.{same_Some}}
use Rattle.mctp_transport.{specs.PacketValues.{PacketValue, KeyValue, packet_value_bytes}, specs.Cutting.{ArePacketsOf}, specs.Hearing.{Whole}, proofs.PacketLists.{same_packets}}
use Rattle.pldm_message.{specs.InstanceIds.{IdSet, Gives, TakesBack}, proofs.OneInstanceIds.{gives_one, takes_back_one}}
use Rattle.pdr_repository.{specs.Walkers.{Asks, Takes}, proofs.OneTakings.{takes_one, asks_one}, specs.declared.walk_fault.Step.{Step as WalkStep}, specs.declared.walk_fault.WalkFault.{WalkFault}}
use Rattle.plan_values.{specs.declared.plan.Plan.{Plan}, specs.declared.certificate.Certificate.{Certificate}}
use Rattle.net_runs.{specs.States.{NetworkState, unit_of}, specs.Events.{EventValue, Put, OutcomeValue, PutIn, Entered, N01, N02, N03, N04, N05, N06, N07}, specs.OneOutcome.{HaveRowsApart, HoldsLawfulLists, HasOneOutcome, RunsHaveOneOutcome}, specs.OneWalkedOutcome.{HaveWalkersApart, HasOneWalkedOutcome, WalkedRunsHaveOneOutcome}, specs.Walkers.{WalkerValue, WalkedState, WalkedEvent, Happening, BeginWalk, Ask, TellWalk, WalkedOutcome, Happened, Begun, Asked, ToldWalk, WalkRefused, WalkRefusal, Also, N08, N09, N10, N11, N12, N13, Handed, AreSettled, walked_at_start, fresh_walker, with_walker, asking_key, answering_key, ended_after, standing_of, walk_refusal_number, IsWalkRefused, IsFirstWalkRefusal}, specs.WalkedRuns.{IsAsking, IsHanded, WalkedHappens, WalkedStep, walked_reached}, proofs.Below.{runs_below}, proofs.OneOutcomes.{one_outcome}, proofs.Soundness.{IsAlike, run_sound, start_sound}, proofs.OneTaken.{same_message}}
use Rattle.net_tables.specs.TwoPlans.{Tables}
use Rattle.net_runs.specs.Networks as network

-- ---- refusals

refusal_from : ℕ → WalkRefusal
refusal_from n = if n == 8 then N08
    else (if n == 9 then N09
    else (if n == 10 then N10
    else (if n == 11 then N11
    else (if n == 12 then N12
    else (if n == 13 then N13
    else (if n == 1 then Also N01
    else (if n == 2 then Also N02
    else (if n == 3 then Also N03
    else (if n == 4 then Also N04 else (if n == 5 then Also N05 else (if n == 6 then Also N06 else Also N07)))))))))))

numbered : (why : WalkRefusal) → refusal_from (walk_refusal_number why) ≡ why
unfolding refusal_from
numbered (Also N01) = refl
numbered (Also N02) = refl
numbered (Also N03) = refl
numbered (Also N04) = refl
numbered (Also N05) = refl
numbered (Also N06) = refl
numbered (Also N07) = refl
numbered N08 = refl
numbered N09 = refl
numbered N10 = refl
numbered N11 = refl
numbered N12 = refl
numbered N13 = refl

one_refusal : (plan : Plan) (w : WalkedState) (event : WalkedEvent) (why other : WalkRefusal) → IsFirstWalkRefusal plan w event why → IsFirstWalkRefusal plan w event other → why ≡ other
one_refusal plan w event why other (is, first) (is', first') = elim (cases_order (walk_refusal_number why) (walk_refusal_number other)) [
  | inl same ↦ sym (numbered why) ∙ (ap refusal_from same ∙ numbered other)
  | inr (inl less) ↦ absurd (first' why less is)
  | inr (inr more) ↦ absurd (first other more is')
]

-- ---- requests

same_flight : (k j node : ℕ) → ◌≡◌ {A = OutcomeValue} (PutIn k node) (PutIn j node) → k ≡ j
same_flight k j node e = cc

same_first : (p q : PacketValue) → ◌≡◌ {A = List PacketValue} (p ∷ []) (q ∷ []) → p ≡ q
same_first p q e = cc

module _ (tables : Tables) (w : NetworkState) (one : (event : EventValue) → HasOneOutcome tables w event) (walker : WalkerValue) where
  record IsOneAsking (flight other : ℕ) (u v : NetworkState) (next next' : WalkerValue) : Type 0 where
    flights : flight ≡ other
    networks : u ≡ v
    walkers : next ≡ next'

  under_one : (own id id' : ℕ) (ids ids' : IdSet) → ((walker.walk.waiting ≡ Some id) × (ids ≡ walker.ids)) ⊎ ((walker.walk.waiting ≡ None) × AreSettled tables.plan w own walker × Gives walker.ids id ids)
      → ((walker.walk.waiting ≡ Some id') × (ids' ≡ walker.ids)) ⊎ ((walker.walk.waiting ≡ None) × AreSettled tables.plan w own walker × Gives walker.ids id' ids') → (id ≡ id') × (ids ≡ ids')
  under_one own id id' ids ids' (inl (waits, same)) (inl (waits', same')) = (same_Some id id' (sym waits ∙ waits'), same ∙ sym same')
  under_one own id id' ids ids' (inl (waits, same)) (inr (none, _, _)) = absurd (let e : None ≡ Some id = sym none ∙ waits in cc)
  under_one own id id' ids ids' (inr (none, _, _)) (inl (waits, same)) = absurd (let e : None ≡ Some id' = sym none ∙ waits in cc)
  under_one own id id' ids ids' (inr (_, _, gives)) (inr (_, _, gives')) = gives_one walker.ids id id' ids ids' gives gives'

  asking_one : (flight other : ℕ) (u v : NetworkState) (next next' : WalkerValue) → IsAsking tables w walker flight u next → IsAsking tables w walker other v next' → IsOneAsking flight other u v next next'
  asking_one flight other u v next next' x y =
      let own : y.own ≡ x.own = same_Some y.own x.own (sym y.holds ∙ x.holds) in
      let U : ℕ → Type 0 = λ o. ((walker.walk.waiting ≡ Some y.id) × (y.ids ≡ walker.ids)) ⊎ ((walker.walk.waiting ≡ None) × AreSettled tables.plan w o walker × Gives walker.ids y.id y.ids) in
      let under = under_one x.own x.id y.id x.ids y.ids x.under (subst U own y.under) in
      let A : ℕ → Type 0 = λ i. Asks walker.walk i (Some x.request) x.walk in
      let asks = asks_one walker.walk y.id x.request y.request x.walk y.walk (subst A under.0 x.asks) y.asks in
      let P : List ℕ → Type 0 = λ m. ArePacketsOf (unit_of tables.plan) m walker.eid (asking_key x.own walker) 0 (x.packet ∷ []) in
      let Q : ℕ → Type 0 = λ o. ArePacketsOf (unit_of tables.plan) y.request walker.eid (asking_key o walker) 0 (y.packet ∷ []) in
      let packet : x.packet ≡ y.packet =
      same_first x.packet y.packet (same_packets (unit_of tables.plan) y.request walker.eid (asking_key x.own walker) 0 (x.packet ∷ []) (y.packet ∷ []) (subst P asks.0 x.cut) (subst Q own y.cut)) in
      let bytes : x.bytes ≡ y.bytes = x.spelled.1 ∙ (ap packet_value_bytes packet ∙ sym y.spelled.1) in
      let S : List ℕ → Type 0 = λ b. network.Step tables w (Put walker.node b) (PutIn flight walker.node) u in
      let put = one (Put walker.node y.bytes) (PutIn flight walker.node) (PutIn other walker.node) u v (subst S bytes x.put) y.put in
      record {
        flights = same_flight flight other walker.node put.0;
        networks = put.1;
        walkers = x.is ∙ ((λ j. record walker { walk = asks.1 j; ids = under.1 j }) ∙ sym y.is);
      }

-- ---- messages

same_node : (f g n m : ℕ) (k l : KeyValue) (x y : List ℕ) → ◌≡◌ {A = OutcomeValue} (Entered f n k (Whole x)) (Entered g m l (Whole y)) → n ≡ m
same_node f g n m k l x y e = cc

same_word : (f g n m : ℕ) (k l : KeyValue) (x y : List ℕ) → ◌≡◌ {A = OutcomeValue} (Entered f n k (Whole x)) (Entered g m l (Whole y)) → k ≡ l
same_word f g n m k l x y e = cc

GivesBack : WalkerValue → Result WalkStep WalkFault → IdSet → Type 0
GivesBack walker result ids = MatchResult result (λ step. (id : ℕ) × (walker.walk.waiting ≡ Some id) × TakesBack walker.ids id ids) (λ fault. ids ≡ walker.ids)

back_one : (walker : WalkerValue) (result : Result WalkStep WalkFault) (a b : IdSet) → GivesBack walker result a → GivesBack walker result b → a ≡ b
unfolding GivesBack
back_one walker (Ok step) a b (id, waits, back) (other, waits', back') =
    let same : id ≡ other = same_Some id other (sym waits ∙ waits') in
    let T : ℕ → Type 0 = λ i. TakesBack walker.ids i a in
    takes_back_one walker.ids other a b (subst T same back) back'
back_one walker (Err fault) a b x y = x ∙ sym y

module _ (walkers : ℕ → Option WalkerValue) (apart : (i j : ℕ) (x y : WalkerValue) → walkers i ≡ Some x → walkers j ≡ Some y → IsAlike x y → i ≡ j) (outcome : OutcomeValue) where
  handed_one : (h g : Handed) (next next' : ℕ → Option WalkerValue) → IsHanded walkers outcome h next → IsHanded walkers outcome g next' → (h ≡ g) × (next ≡ next')
  unfolding GivesBack
  handed_one h g next next' x y =
      let told = sym x.meant.1 ∙ y.meant.1 in
      let node = same_node x.meant.0 y.meant.0 x.walker.node y.walker.node (answering_key x.walker) (answering_key y.walker) x.message y.message told in
      let key = same_word x.meant.0 y.meant.0 x.walker.node y.walker.node (answering_key x.walker) (answering_key y.walker) x.message y.message told in
      let message = same_message x.meant.0 y.meant.0 x.walker.node y.walker.node (answering_key x.walker) (answering_key y.walker) x.message y.message told in
      let number : h.number ≡ g.number = apart h.number g.number x.walker y.walker x.there y.there (node, ap (λ (k : KeyValue). k.source) key, ap (λ (k : KeyValue). k.tag) key) in
      let walker : y.walker ≡ x.walker = same_Some y.walker x.walker (sym y.there ∙ (ap walkers (sym number) ∙ x.there)) in
      let T : WalkerValue → Type 0 = λ k. Takes k.walk y.message g.result y.walk in
      let M : List ℕ → Type 0 = λ m. Takes x.walker.walk m g.result y.walk in
      let taken = takes_one x.walker.walk h.result g.result x.walk y.walk x.memory y.memory x.message x.takes (subst M (sym message) (subst T walker y.takes)) in
      let R : Result WalkStep WalkFault → Type 0 = λ r. GivesBack x.walker r x.ids in
      let W : WalkerValue → Type 0 = λ k. GivesBack k g.result y.ids in
      let ids = back_one x.walker g.result x.ids y.ids (subst R taken.0 x.given_back) (subst W walker y.given_back) in (
        λ j. record { number = number j; result = taken.0 j },
        x.is
            ∙ ((λ j. with_walker walkers (number j) (record x.walker { walk = taken.1 j; ids = ids j; ended = ended_after x.walker.ended (taken.0 j) }))
            ∙ (ap (λ (k : WalkerValue). with_walker walkers g.number (record k { walk = y.walk; ids = y.ids; ended = ended_after k.ended g.result })) (sym walker) ∙ sym y.is)),
      )

-- ---- steps

same_state : (u v : WalkedState) → u.network ≡ v.network → u.walker ≡ v.walker → u.begun ≡ v.begun → u ≡ v
same_state u v network walker begun = λ j. record { network = network j; walker = walker j; begun = begun j }

AreOne : WalkedOutcome → WalkedOutcome → WalkedState → WalkedState → Type 0
AreOne a b u v = (a ≡ b) × (u ≡ v)

module _ (tables : Tables) (w : WalkedState) (one : (event : EventValue) → HasOneOutcome tables w.network event) (apart : HaveWalkersApart w) where
  happens_one : (event : WalkedEvent) (a b : WalkedOutcome) (u v : WalkedState) → WalkedHappens tables w event a u → WalkedHappens tables w event b v → AreOne a b u v
  unfolding AreOne
  happens_one (Happening event) (Happened o None) (Happened p None) u v (step, none, same, begun) (step', none', same', begun') =
      let lower = one event o p u.network v.network step step' in
      (ap (λ x. Happened x None) lower.0, same_state u v lower.1 (same ∙ sym same') (begun ∙ sym begun'))
  happens_one (Happening event) (Happened o None) (Happened p (Some g)) u v (step, none, same, begun) (step', given, begun') =
      let lower = one event o p u.network v.network step step' in
      absurd (none g.number given.walker given.message given.there (given.meant.0, lower.0 ∙ given.meant.1))
  happens_one (Happening event) (Happened o (Some h)) (Happened p None) u v (step, given, begun) (step', none, same, begun') =
      let lower = one event o p u.network v.network step step' in
      absurd (none h.number given.walker given.message given.there (given.meant.0, sym lower.0 ∙ given.meant.1))
  happens_one (Happening event) (Happened o (Some h)) (Happened p (Some g)) u v (step, given, begun) (step', given', begun') =
      let lower = one event o p u.network v.network step step' in
      let O : OutcomeValue → Type 0 = λ x. IsHanded w.walker x h u.walker in
      let handed = handed_one w.walker apart p h g u.walker v.walker (subst O lower.0 given) given' in
      (λ j. Happened (lower.0 j) (Some (handed.0 j)), same_state u v lower.1 handed.1 (begun ∙ sym begun'))
  happens_one (Happening event) (Happened o None) _ u v x y = absurd y
  happens_one (Happening event) (Happened o (Some h)) _ u v x y = absurd y
  happens_one (Happening event) _ _ u v x y = absurd x
  happens_one (BeginWalk node eid tag count) (Begun k) (Begun j) u v (number, is) (number', is') =
      let same : k ≡ j = number ∙ sym number' in
      (ap Begun same, is ∙ ((λ i. record { network = w.network; walker = with_walker w.walker (same i) (fresh_walker node eid tag count); begun = same i }) ∙ sym is'))
  happens_one (BeginWalk node eid tag count) (Begun k) _ u v x y = absurd y
  happens_one (BeginWalk node eid tag count) _ _ u v x y = absurd x
  happens_one (Ask k) (Asked i flight) (Asked j other) u v (number, walker, next, there, asking, is, begun) (number', walker', next', there', asking', is', begun') =
      let same : walker' ≡ walker = same_Some walker' walker (sym there' ∙ there) in
      let A : WalkerValue → Type 0 = λ x. IsAsking tables w.network x other v.network next' in
      let asked = asking_one tables w.network one walker flight other u.network v.network next next' asking (subst A same asking') in
      let numbers : i ≡ j = number ∙ sym number' in
      (λ m. Asked (numbers m) (asked.flights m), same_state u v asked.networks (is ∙ (ap (λ x. with_walker w.walker k x) asked.walkers ∙ sym is')) (begun ∙ sym begun'))
  happens_one (Ask k) (Asked i flight) _ u v x y = absurd y
  happens_one (Ask k) _ _ u v x y = absurd x
  happens_one (TellWalk k) (ToldWalk i records standing) (ToldWalk j records' standing') u v (number, walker, there, many, stands, is) (number', walker', there', many', stands', is') =
      let same : walker ≡ walker' = same_Some walker walker' (sym there ∙ there') in
      let numbers : i ≡ j = number ∙ sym number' in
      let counts : records ≡ records' = many ∙ (ap (λ (x : WalkerValue). length x.walk.records) same ∙ sym many') in
      let standings : standing ≡ standing' = stands ∙ (ap standing_of same ∙ sym stands') in
      (λ m. ToldWalk (numbers m) (counts m) (standings m), is ∙ sym is')
  happens_one (TellWalk k) (ToldWalk i records standing) _ u v x y = absurd y
  happens_one (TellWalk k) _ _ u v x y = absurd x

  -- an outcome is a refusal, or it happens
  Refuses : WalkedEvent → WalkedOutcome → WalkedState → Type 0
  Refuses event a u = (why : WalkRefusal) × (a ≡ WalkRefused why) × IsFirstWalkRefusal tables.plan w event why × (u ≡ w)

  refused_or_not : (event : WalkedEvent) (a : WalkedOutcome) (u : WalkedState) → WalkedStep tables w event a u
      → Refuses event a u ⊎ (((why : WalkRefusal) → ¬ IsWalkRefused tables.plan w event why) × WalkedHappens tables w event a u)
  unfolding Refuses
  refused_or_not event (WalkRefused why) u step = inl (why, refl, step.0, step.1)
  refused_or_not event _ u step = inr step

  step_one : (event : WalkedEvent) → HasOneWalkedOutcome tables w event
  unfolding Refuses AreOne
  step_one event a b u v step step' = by (refused_or_not event a u step) (refused_or_not event b v step')
    where
      by : Refuses event a u ⊎ (((why : WalkRefusal) → ¬ IsWalkRefused tables.plan w event why) × WalkedHappens tables w event a u)
          → Refuses event b v ⊎ (((why : WalkRefusal) → ¬ IsWalkRefused tables.plan w event why) × WalkedHappens tables w event b v) → (a ≡ b) × (u ≡ v)
      by (inl (why, is, first, same)) (inl (other, is', first', same')) = (is ∙ (ap WalkRefused (one_refusal tables.plan w event why other first first') ∙ sym is'), same ∙ sym same')
      by (inl (why, is, first, same)) (inr (may, _)) = absurd (may why first.0)
      by (inr (may, _)) (inl (why, is, first, same)) = absurd (may why first.0)
      by (inr (_, x)) (inr (_, y)) = happens_one event a b u v x y

-- over rows that lie apart, where termini hold lawful lists and walkers differ
pub one_walked_outcome : (tables : Tables) (w : WalkedState) (event : WalkedEvent) → HaveRowsApart tables → HoldsLawfulLists w.network → HaveWalkersApart w → HasOneWalkedOutcome tables w event
one_walked_outcome tables w event rows lists walkers = step_one tables w (λ e. one_outcome tables w.network e rows lists) walkers event

-- and so in runs
pub walked_runs_have_one_outcome : (tables : Tables) (cert : Certificate) → RunsHaveOneOutcome tables cert → WalkedRunsHaveOneOutcome tables cert
walked_runs_have_one_outcome tables cert runs turns event run =
    let w = walked_reached tables.plan cert turns in
    let below = runs_below tables (walked_at_start tables.plan cert) turns run in
    let sound = run_sound tables cert (walked_at_start tables.plan cert) turns (start_sound tables cert) run in
    step_one tables w (λ e. let O : NetworkState → Type 0 = λ u. HasOneOutcome tables u e in subst O below.reaches (runs below.below e below.run)) sound.walkers.apart event
