-- A message that comes to a walker while its request is outstanding is the answer to it, and the walker takes it.
use Rattle.std.{proofs.Common.{◌≡◌, ℕ, ◌+◌, ◌*◌, ◌≤◌, min, List, [], ◌∷◌, length, drop, Ok, sym, ap, subst, inl, inr, arith, length-append}, specs.Option.{option_to_list}, specs.List.{AllByRecursion}, proofs.lemmas.List.{length-take}}
use Rattle.mctp_transport.{specs.PacketValues.{PacketValue}, specs.Hearing.{Whole}, specs.Sending.{IsPacketOf}, proofs.Sending.{joins_to_itself}}
use Rattle.pldm_message.specs.Pdrs.{PartRequest, Part, get_pdr_answer_bytes}
use Rattle.pdr_repository.{specs.Records.{Entry, IsLawful}, specs.Parts.{PartAnswer, AnswersPart, IsPartOf, offset_of}, specs.Walkers.{IsAnswerIn}, proofs.OneAnswers.{one_answer}, proofs.FivePackets.{one_at_most}}
use Rattle.net_tables.{specs.TwoPlans.{Tables}, specs.Routing.{Holds}, specs.Repositories.{records_by_place}}
use Rattle.plan_values.specs.declared.certificate.Certificate.{Certificate}
use Rattle.net_runs.{specs.States.{NetworkState, unit_of}, specs.Events.{EventValue, OutcomeValue, Entered}, specs.Networks.{Step}, proofs.Promised.{step_tells}, proofs.Such.{told_joins_such}, proofs.UnderWay.{IsUnderWay, IsOfReply, Answering, answer_under}}

part_is_short : (id next : ℕ) (bytes : List ℕ) (r : PartRequest) (p : Part) → IsPartOf next bytes r p → length (get_pdr_answer_bytes (answer_under id (Ok p))) ≤ r.count + 17
part_is_short id next bytes r p part =
    let long : length p.bytes ≤ r.count = omega (arith, ap length part.taken, length-take (min r.count 4079) (drop (offset_of r) bytes)) in
    let check = one_at_most p.crc in
    let both = length-append p.bytes (option_to_list p.crc) in
    omega (arith, long, check, both)

pub answer_is_short : (id : ℕ) (records : List Entry) (r : PartRequest) (a : PartAnswer) → AnswersPart records r a → length (get_pdr_answer_bytes (answer_under id a)) ≤ r.count + 17
answer_is_short id records r a (inl (_, is)) = rw is (omega arith)
answer_is_short id records r a (inr (_, inl (_, is))) = rw is (omega arith)
answer_is_short id records r a (inr (_, inr (_, inl (_, is)))) = rw is (omega arith)
answer_is_short id records r a (inr (_, inr (_, inr (_, (place, e, means, inl (_, is)))))) = rw is (omega arith)
answer_is_short id records r a (inr (_, inr (_, inr (_, (place, e, means, inr (_, inl (_, is))))))) = rw is (omega arith)
answer_is_short id records r a (inr (_, inr (_, inr (_, (place, e, means, inr (_, inr (_, (p, is, part)))))))) =
    let P : PartAnswer → Type 0 = λ b. length (get_pdr_answer_bytes (answer_under id b)) ≤ r.count + 17 in
    subst P (sym is) (part_is_short id _ e.bytes r p part)

module _ (tables : Tables) (cert : Certificate) (own eid tag n : ℕ) (alone : (m : ℕ) → Holds tables.plan m eid → m ≡ n) (lawful : IsLawful (records_by_place tables.plan cert n)) (id : ℕ) (r : PartRequest) where
  abbrev Reply : PacketValue → Type 0
  Reply = IsOfReply tables cert own eid tag n alone lawful id r

  -- all packets of answers are of one answer
  all_of_one : (a : PartAnswer) → AnswersPart (records_by_place tables.plan cert n) r a → (ps : List PacketValue) → AllByRecursion Reply ps
      → AllByRecursion (IsPacketOf (unit_of tables.plan) (get_pdr_answer_bytes (answer_under id a)) own (Answering tables cert own eid tag n alone lawful) 0) ps
  all_of_one a answered [] all = tt
  all_of_one a answered (p ∷ ps) ((b, other, spelled, is), all) =
      let same : b ≡ a = one_answer (records_by_place tables.plan cert n) r b a lawful other answered in
      let P : PartAnswer → Type 0 = λ c. IsPacketOf (unit_of tables.plan) (get_pdr_answer_bytes (answer_under id c)) own (Answering tables cert own eid tag n alone lawful) 0 p in
      (subst P same is, all_of_one a answered ps all)

  -- what is told under the key of the answers is the answer
  pub told_is_answer : (w : NetworkState) (event : EventValue) (outcome : OutcomeValue) (new : NetworkState) (flight node : ℕ) (message : List ℕ)
      → IsUnderWay tables cert own eid tag n alone lawful id r w → r.count + 17 ≤ 5 * (unit_of tables.plan) → Step tables w event outcome new → Holds tables.plan node own
      → outcome ≡ Entered flight node (Answering tables cert own eid tag n alone lawful) (Whole message)
      → (a : PartAnswer) × AnswersPart (records_by_place tables.plan cert n) r a × IsAnswerIn message (answer_under id a)
  told_is_answer w event outcome new flight node message under few step holds is =
      let told = step_tells tables w event outcome flight node (Answering tables cert own eid tag n alone lawful) message new step is in
      let (p, ps, (a, answered, spelled, one), joined, all) = told_joins_such tables (Answering tables cert own eid tag n alone lawful) own Reply w node message under.replied holds told in
      let short = answer_is_short id (records_by_place tables.plan cert n) r a answered in
      (a, answered, (spelled.0, joins_to_itself (unit_of tables.plan) (get_pdr_answer_bytes (answer_under id a)) own (Answering tables cert own eid tag n alone lawful) 0 ps message (omega (arith, short, few)) (all_of_one a answered ps all) joined))
