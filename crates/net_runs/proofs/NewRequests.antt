-- A walker puts its request in, or another walker does.
use Rattle.std.{proofs.Common.{◌≡◌, ◌≢◌, ◌⊎◌, ℕ, ◌+◌, ◌*◌, ◌≤◌, true, false, List, [], ◌∷◌, Some, None, refl, sym, ap, ◌∙◌, subst, inl, inr}, specs.List.{AllByRecursion}, proofs.lemmas.List.Elements.{recursion_from_All}, proofs.lemmas.Option.{same_Some}}
use Rattle.mctp_transport.{specs.PacketValues.{PacketValue, KeyValue, key_of, Spelled}, specs.PacketValueLaws.{one_packet_value}, specs.Sending.{IsPacketOf}}
use Rattle.pldm_message.{specs.Pdrs.{PartRequest, IsPartRequest, get_pdr_request_bytes}, specs.InstanceIds.{Gives}}
use Rattle.pdr_repository.{specs.Records.{IsLawful}, specs.Walkers.{WalkState, Asks, asked_under}}
use Rattle.net_tables.{specs.TwoPlans.{Tables}, specs.Routing.{Holds}, specs.Repositories.{records_by_place}}
use Rattle.plan_values.specs.declared.certificate.Certificate.{Certificate}
use Rattle.net_runs.{specs.Termini.{WaitingMessage}, specs.States.{NetworkState, unit_of}, specs.Events.{EventValue, Put, PutIn, OutcomeValue}, specs.ExactMessages.{IsSettled}, specs.Walkers.{WalkerValue, AreSettled, asking_key, answering_key}, specs.WalkedRuns.{IsAsking}, proofs.Such.{quiet_are_such}, proofs.UnderWay.{IsPlain, IsUnderWay, PutsOnlyThis, IsOfRequest, IsOfReply, still_under_way}, proofs.Soundness.{IsAlike}, proofs.Walking.{Walks, Phase}}

-- two puts of the same bytes put one packet in
same_put : (node at : ℕ) (xs ys : List ℕ) → ◌≡◌ {A = EventValue} (Put node xs) (Put at ys) → xs ≡ ys
same_put node at xs ys e = cc

-- where no message has the key, what is said of those that have it holds
none_have : (key : KeyValue) (H : Type 0) (B : List ℕ) (ms : List WaitingMessage) → (H → AllByRecursion (λ m. m.key ≢ key) ms)
    → AllByRecursion (λ m. H → m.key ≡ key → m.bytes ≡ B) ms
none_have key H B [] none = tt
none_have key H B (m ∷ ms) none = (λ holds mine. absurd ((none holds).0 mine), none_have key H B ms (λ holds. (none holds).1))

module _ (tables : Tables) (cert : Certificate) (own n : ℕ) (first : WalkerValue) (home : Holds tables.plan first.node own) (alone : (m : ℕ) → Holds tables.plan m first.eid → m ≡ n)
    (lawful : IsLawful (records_by_place tables.plan cert n)) (least : 8 ≤ first.walk.count) (most : first.walk.count ≤ 4079) (few : first.walk.count + 17 ≤ 5 * (unit_of tables.plan)) where
  abbrev Own : KeyValue
  Own = record { source = own; tag = first.tag; owner = true }

  abbrev Under : ℕ → PartRequest → NetworkState → Type 0
  Under id r w = IsUnderWay tables cert own first.eid first.tag n alone lawful id r w

  abbrev Only : ℕ → PartRequest → EventValue → OutcomeValue → Type 0
  Only id r event outcome = PutsOnlyThis tables cert own first.eid first.tag n alone lawful id r event outcome

  module _ (w new : NetworkState) (walker next : WalkerValue) (flight : ℕ) (asking : IsAsking tables w walker flight new next) where
    its_packet : (at : ℕ) (bytes : List ℕ) (p : PacketValue) → Put walker.node asking.bytes ≡ Put at bytes → Spelled (unit_of tables.plan) p bytes → p ≡ asking.packet
    its_packet at bytes p is spelled =
        one_packet_value (unit_of tables.plan) p asking.packet spelled.0 asking.spelled.0 (sym spelled.1 ∙ sym (same_put walker.node at asking.bytes bytes is) ∙ asking.spelled.1)

    -- the request of a walker elsewhere, to another endpoint or under another tag, is under neither key
    pub other_ask : (id : ℕ) (r : PartRequest) → ((m : ℕ) → Holds tables.plan m own → m ≡ first.node) → ¬ IsAlike walker first → Only id r (Put walker.node asking.bytes) (PutIn flight walker.node)
    other_ask id r one_home unlike at number node bytes p is told spelled =
        let same = its_packet at bytes p is spelled in
        let key : key_of p ≡ asking_key asking.own walker = ap key_of same ∙ asking.cut.of_key 0 asking.packet refl in (
          λ mine there.
              let k : asking_key asking.own walker ≡ Own = sym key ∙ mine in
              let H : ℕ → Type 0 = λ e. Holds tables.plan walker.node e in
              let at_home : walker.node ≡ first.node = one_home walker.node (subst H (ap (λ (x : KeyValue). x.source) k) asking.holds) in
              let eid : walker.eid ≡ first.eid = sym (asking.cut.addressed 0 asking.packet refl) ∙ ap (λ (q : PacketValue). q.destination) (sym same) ∙ there in
              absurd (unlike (at_home, eid, ap (λ (x : KeyValue). x.tag) k)),
          λ mine there. let clash : true ≡ false = ap (λ (x : KeyValue). x.owner) (sym key ∙ mine) in cc,
        )

    module _ (plain : IsPlain tables.plan cert w) (walks : Walks tables.plan cert n first walker) (phase : Phase tables cert own n first home alone lawful least most few w walker.walk) where
      its_own : asking.own ≡ own
      its_own = let H : ℕ → Type 0 = λ m. Holds tables.plan m asking.own in same_Some asking.own own (sym (subst H walks.same.node asking.holds) ∙ home)

      its_key : asking_key asking.own walker ≡ Own
      its_key = λ j. record { source = its_own j; tag = walks.same.tag j; owner = true }

      -- its packet is of the request
      own_only : (r : PartRequest) → asking.request ≡ get_pdr_request_bytes (asked_under asking.id r) → Only asking.id r (Put walker.node asking.bytes) (PutIn flight walker.node)
      own_only r request at number node bytes p is told spelled =
          let same = its_packet at bytes p is spelled in
          let A : List ℕ → Type 0 = λ m. IsPacketOf (unit_of tables.plan) m walker.eid (asking_key asking.own walker) 0 asking.packet in
          let B : ℕ → Type 0 = λ d. IsPacketOf (unit_of tables.plan) (get_pdr_request_bytes (asked_under asking.id r)) d (asking_key asking.own walker) 0 asking.packet in
          let C : KeyValue → Type 0 = λ k. IsPacketOf (unit_of tables.plan) (get_pdr_request_bytes (asked_under asking.id r)) first.eid k 0 asking.packet in
          let D : PacketValue → Type 0 = λ q. IsPacketOf (unit_of tables.plan) (get_pdr_request_bytes (asked_under asking.id r)) first.eid Own 0 q in
          let one : A asking.request = (asking.packet ∷ [], 0, asking.cut, refl) in
          let key : key_of p ≡ asking_key asking.own walker = ap key_of same ∙ asking.cut.of_key 0 asking.packet refl in (
            λ mine there. subst D (sym same) (subst C its_key (subst B walks.same.eid (subst A request one))),
            λ mine there. let clash : true ≡ false = ap (λ (x : KeyValue). x.owner) (sym key ∙ mine) in cc,
          )

      -- before it is put in: a new one where both keys are settled, the outstanding one at any time
      under_before : (r : PartRequest) → ¬ (walker.walk.failed ≡ true) → walker.walk.due ≡ Some r → IsPartRequest r → Under asking.id r w
      under_before r goes due fits = by asking.under phase
        where
          by : ((walker.walk.waiting ≡ Some asking.id) × (asking.ids ≡ walker.ids)) ⊎ ((walker.walk.waiting ≡ None) × AreSettled tables.plan w asking.own walker × Gives walker.ids asking.id asking.ids)
              → Phase tables cert own n first home alone lawful least most few w walker.walk → Under asking.id r w
          by under (inl failed) = absurd (goes failed)
          by (inl (waiting, ids)) (inr (inl none)) = absurd (let e : None ≡ Some asking.id = sym none ∙ waiting in cc)
          by (inl (waiting, ids)) (inr (inr (id, s, waits, asked, under))) =
              let I : ℕ → Type 0 = λ i. Under i s w in
              let R : PartRequest → Type 0 = λ q. Under asking.id q w in
              subst R (same_Some s r (sym asked ∙ due)) (subst I (same_Some id asking.id (sym waits ∙ waiting)) under)
          by (inr (none, settled, gives)) (inr _) =
              let Q : KeyValue → ℕ → Type 0 = λ k d. IsSettled tables.plan w k d in
              let asks : IsSettled tables.plan w Own first.eid = subst (λ d. IsSettled tables.plan w Own d) walks.same.eid (subst (λ k. IsSettled tables.plan w k walker.eid) its_key settled.0) in
              let key : answering_key walker ≡ record { source = first.eid; tag = first.tag; owner = false } = λ j. record { source = walks.same.eid j; tag = walks.same.tag j; owner = false } in
              let answers : IsSettled tables.plan w (answering_key first) own = subst (λ d. IsSettled tables.plan w (answering_key first) d) its_own (subst (λ k. IsSettled tables.plan w k asking.own) key settled.1) in
              record {
                request = fits;
                small = gives.next.free.0;
                asked = quiet_are_such tables Own first.eid (IsOfRequest tables cert own first.eid first.tag n alone lawful asking.id r) w asks.quiet;
                replied = quiet_are_such tables (answering_key first) own (IsOfReply tables cert own first.eid first.tag n alone lawful asking.id r) w answers.quiet;
                waiting = λ m t stands. none_have Own (Holds tables.plan m first.eid) (get_pdr_request_bytes (asked_under asking.id r)) t.waiting
                    (λ holds. recursion_from_All (λ message. message.key ≢ Own) t.waiting (asks.none_waits m t holds stands));
              }

      pub own_ask : (v : Walks tables.plan cert n first next) × (v.taken ≡ walks.taken) × Phase tables cert own n first home alone lawful least most few new next.walk
      own_ask = by asking.asks
        where
          by : Asks walker.walk asking.id (Some asking.request) asking.walk → (v : Walks tables.plan cert n first next) × (v.taken ≡ walks.taken) × Phase tables cert own n first home alone lawful least most few new next.walk
          by (inl (over, (none, same))) = absurd (let e : Some asking.request ≡ None = none in cc)
          by (inr (goes, (r, due, fits, bytes, is))) =
              let request = same_Some asking.request (get_pdr_request_bytes (asked_under asking.id r)) bytes in
              let under = still_under_way tables cert own first.eid first.tag n alone lawful asking.id r w (Put walker.node asking.bytes) (PutIn flight walker.node) new plain
              (under_before r (λ failed. goes (inl failed)) due fits) (own_only r request) asking.put in
              let walk : next.walk ≡ record walker.walk { waiting = Some asking.id } = ap (λ (x : WalkerValue). x.walk) asking.is ∙ is in
              let asked : WalkerValue = record walker { walk = record walker.walk { waiting = Some asking.id }; ids = asking.ids } in
              let same : next ≡ asked = asking.is ∙ ap (λ (v : WalkState). record walker { walk = v; ids = asking.ids }) is in
              let W : WalkerValue → Type 0 = λ x. (v : Walks tables.plan cert n first x) × (v.taken ≡ walks.taken) in
              let there : Walks tables.plan cert n first asked = record {
                same = record { node = walks.same.node; eid = walks.same.eid; tag = walks.same.tag; count = walks.same.count };
                taken = walks.taken;
                walk = walks.walk;
                collects = walks.collects;
                due = walks.due;
                stands = walks.stands;
              } in
              let moved = subst W (sym same) (there, refl) in (
                moved.0,
                moved.1,
                inr (inr (asking.id, r, ap (λ (v : WalkState). v.waiting) walk, ap (λ (v : WalkState). v.due) walk ∙ due, under)),
              )
