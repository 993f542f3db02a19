-- While a request of a walker is outstanding: what is on its way and what waits under its keys is of that request and
-- of the answer to it.
use Rattle.std.{proofs.Common.{◌≡◌, ℕ, ◌<◌, true, false, List, Some, refl, sym, ap, ◌∙◌, subst, inl, inr, arith}, specs.List.{AllByRecursion}, proofs.lemmas.Option.{same_Some}}
use Rattle.mctp_transport.{specs.PacketValues.{PacketValue, KeyValue, key_of, Spelled}, specs.Sending.{IsPacketOf}, proofs.Sending.{joins_to_itself}}
use Rattle.pldm_message.{specs.Pdrs.{PartRequest, IsPartRequest, get_pdr_request_bytes, get_pdr_answer_bytes, Part}, specs.Messages.{ResponseMessage}}
use Rattle.pdr_repository.{specs.Records.{Entry, IsLawful}, specs.Parts.{PartAnswer, AnswersPart}, specs.Answers.{Answers}, specs.Walkers.{asked_under, IsAnswerIn, AnswersWalker}, proofs.Meeting.{requests_are_answered}}
use Rattle.plan_values.{specs.declared.plan.Plan.{Plan}, specs.declared.certificate.Certificate.{Certificate}}
use Rattle.net_runs.{proofs.Units.{least_unit}, specs.Termini.{WaitingMessage}, specs.States.{NetworkState, unit_of}, specs.Events.{EventValue, Put, OutcomeValue, PutIn}, specs.Networks.{Step, answer_key}, specs.Runs.{IsPutOf}, specs.Headline.{HasPlannedRecords}, proofs.Nexts.{step_is_next}, proofs.Promised.{step_tells, TellsMessage}, proofs.Such.{AreSuch, PutsSuch, next_are_such, told_joins_such}, proofs.Waitings.{EachWaiting, IsToldAt, step_waiting}, proofs.AnswerPuts.{IsOfAnswer, put_is_by}}
use Rattle.net_tables.{specs.TwoPlans.{Tables}, specs.Routing.{Holds}, specs.Repositories.{records_by_place}}

-- the message of an answer
abbrev pub answer_under : ℕ → PartAnswer → ResponseMessage Part
answer_under id a = record { head = record { reserved = false; instance = id }; outcome = a }

-- what waits has the owner bit, and termini have their planned records
pub record IsPlain (plan : Plan) (cert : Certificate) (w : NetworkState) : Type 0 where
  pub owners : EachWaiting (λ n m. m.key.owner ≡ true) w
  pub records : HasPlannedRecords plan cert w

-- the requests' tag and the endpoint IDs on both sides; n alone holds the one that is asked, and its records are lawful
module _ (tables : Tables) (cert : Certificate) (own eid tag n : ℕ) (alone : (m : ℕ) → Holds tables.plan m eid → m ≡ n) (lawful : IsLawful (records_by_place tables.plan cert n)) where
  abbrev pub Asking : KeyValue
  Asking = record { source = own; tag = tag; owner = true }

  abbrev pub Answering : KeyValue
  Answering = record { source = eid; tag = tag; owner = false }

  module _ (id : ℕ) (r : PartRequest) where
    abbrev pub IsOfRequest : PacketValue → Type 0
    IsOfRequest p = IsPacketOf (unit_of tables.plan) (get_pdr_request_bytes (asked_under id r)) eid Asking 0 p

    abbrev pub IsOfReply : PacketValue → Type 0
    IsOfReply p = (a : PartAnswer) × AnswersPart (records_by_place tables.plan cert n) r a
        × IsAnswerIn (get_pdr_answer_bytes (answer_under id a)) (answer_under id a)
        × IsPacketOf (unit_of tables.plan) (get_pdr_answer_bytes (answer_under id a)) own Answering 0 p

    abbrev pub WaitsAsked : ℕ → WaitingMessage → Type 0
    WaitsAsked m message = Holds tables.plan m eid → message.key ≡ Asking → message.bytes ≡ get_pdr_request_bytes (asked_under id r)

    pub record IsUnderWay (w : NetworkState) : Type 0 where
      pub request : IsPartRequest r
      pub small : id < 32
      pub asked : AreSuch tables Asking eid IsOfRequest w
      pub replied : AreSuch tables Answering own IsOfReply w
      pub waiting : EachWaiting WaitsAsked w

    -- what an event puts in itself is of the request, or under neither key
    abbrev pub PutsOnlyThis : EventValue → OutcomeValue → Type 0
    PutsOnlyThis event outcome = (at flight node : ℕ) (bytes : List ℕ) (p : PacketValue) → event ≡ Put at bytes → outcome ≡ PutIn flight node → Spelled (unit_of tables.plan) p bytes
        → (key_of p ≡ Asking → p.destination ≡ eid → IsOfRequest p) × (key_of p ≡ Answering → p.destination ≡ own → ⊥)

    module _ (w : NetworkState) (event : EventValue) (outcome : OutcomeValue) (new : NetworkState) (plain : IsPlain tables.plan cert w) (under : IsUnderWay w)
        (only : PutsOnlyThis event outcome) (step : Step tables w event outcome new) where
      asked_puts : PutsSuch tables Asking eid IsOfRequest (IsPutOf tables.plan event outcome new)
      asked_puts p put mine there = elim (put_is_by tables w event outcome new step p put) [
        | inl (at, flight, node, bytes, is, told, spelled) ↦ (only at flight node bytes p is told spelled).0 mine there
        | inr (node, is, by) ↦
            let (ps, i, are, here) = by.is in
            let clash : true ≡ false = ap (λ (k : KeyValue). k.owner) (sym mine ∙ are.of_key i p here) in
            absurd (cc)
      ]

      -- the answer is to the request
      reply : (node : ℕ) (p : PacketValue) → IsOfAnswer tables.plan w node p → key_of p ≡ Answering → p.destination ≡ own → IsOfReply p
      reply node p by mine there =
          let (ps, i, are, here) = by.is in
          let key : answer_key by.eid by.oldest.key ≡ Answering = sym (are.of_key i p here) ∙ mine in
          let its_eid : by.eid ≡ eid = ap (λ (k : KeyValue). k.source) key in
          let its_tag : by.oldest.key.tag ≡ tag = ap (λ (k : KeyValue). k.tag) key in
          let its_source : by.oldest.key.source ≡ own = sym (are.addressed i p here) ∙ there in
          let H : ℕ → Type 0 = λ e. Holds tables.plan node e in
          let holds : Holds tables.plan node eid = subst H its_eid by.holds in
          let at : node ≡ n = alone node holds in
          let O : List WaitingMessage → Type 0 = AllByRecursion (λ m. m.key.owner ≡ true) in
          let owned : by.oldest.key.owner ≡ true = (subst O by.waits (plain.owners node by.state by.stands)).0 in
          let asking : by.oldest.key ≡ Asking = λ j. record { source = its_source j; tag = its_tag j; owner = owned j } in
          let W : List WaitingMessage → Type 0 = AllByRecursion (WaitsAsked node) in
          let same : by.oldest.bytes ≡ get_pdr_request_bytes (asked_under id r) = (subst W by.waits (under.waiting node by.state by.stands)).0 holds asking in
          let records : by.state.records ≡ records_by_place tables.plan cert n = plain.records node by.state by.stands ∙ ap (records_by_place tables.plan cert) at in
          let A : List Entry → Type 0 = λ rs. Answers by.state.tid rs by.oldest.bytes (Some by.answer) by.next_tid in
          let B : List ℕ → Type 0 = λ bytes. Answers by.state.tid (records_by_place tables.plan cert n) bytes (Some by.answer) by.next_tid in
          let answered : AnswersWalker (records_by_place tables.plan cert n) id r (Some by.answer) =
          requests_are_answered by.state.tid by.next_tid id (records_by_place tables.plan cert n) r (Some by.answer) lawful under.request under.small (subst B same (subst A records by.answers)) in
          let is : by.answer ≡ get_pdr_answer_bytes (answer_under id answered.outcome) = same_Some by.answer answered.bytes answered.is ∙ answered.spelled.1 in
          let P : List ℕ → Type 0 = λ bytes. IsPacketOf (unit_of tables.plan) bytes by.oldest.key.source (answer_key by.eid by.oldest.key) 0 p in
          let Q : ℕ → Type 0 = λ d. IsPacketOf (unit_of tables.plan) (get_pdr_answer_bytes (answer_under id answered.outcome)) d (answer_key by.eid by.oldest.key) 0 p in
          let R : KeyValue → Type 0 = λ k. IsPacketOf (unit_of tables.plan) (get_pdr_answer_bytes (answer_under id answered.outcome)) own k 0 p in
          (answered.outcome, answered.answered, (answered.spelled.0, refl), subst R key (subst Q its_source (subst P is by.is)))

      reply_puts : PutsSuch tables Answering own IsOfReply (IsPutOf tables.plan event outcome new)
      reply_puts p put mine there = elim (put_is_by tables w event outcome new step p put) [
        | inl (at, flight, node, bytes, is, told, spelled) ↦ absurd ((only at flight node bytes p is told spelled).1 mine there)
        | inr (node, is, by) ↦ reply node p by mine there
      ]

      -- a request that comes is the one that was sent
      comes_asked : (m : ℕ) (message : WaitingMessage) → IsToldAt outcome m message → WaitsAsked m message
      comes_asked m message (number, is, owned) holds mine =
          let told = step_tells tables w event outcome number m message.key message.bytes new step is in
          let T : KeyValue → Type 0 = λ k. TellsMessage tables w m k message.bytes in
          let (p, ps, one, joined, all) = told_joins_such tables Asking eid IsOfRequest w m message.bytes under.asked holds (subst T mine told) in
          joins_to_itself (unit_of tables.plan) (get_pdr_request_bytes (asked_under id r)) eid Asking 0 ps message.bytes (omega (arith, least_unit tables.plan)) all joined

      pub still_under_way : IsUnderWay new
      still_under_way =
          let next = step_is_next tables w event outcome new step in
          record {
            request = under.request;
            small = under.small;
            asked = next_are_such tables Asking eid IsOfRequest w (IsPutOf tables.plan event outcome new) new under.asked asked_puts next;
            replied = next_are_such tables Answering own IsOfReply w (IsPutOf tables.plan event outcome new) new under.replied reply_puts next;
            waiting = step_waiting tables WaitsAsked w event outcome new under.waiting step comes_asked;
          }
