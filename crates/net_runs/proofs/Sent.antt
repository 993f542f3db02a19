-- Tidy runs in which messages of several packets come as they were sent, and one of six packets comes otherwise.
use Rattle.std.{proofs.Common.{◌≡◌, ◌≢◌, ℕ, ◌*◌, ◌<◌, ◌≤◌, true, false, List, [], ◌∷◌, ◌++◌, length, refl, ap, subst, inl, inr, arith}, specs.List.{AllByRecursion}, proofs.lemmas.Option.{slice_get_within}}
use Rattle.mctp_transport.{specs.PacketValues.{PacketValue, KeyValue}, specs.Messages.{Joined, payloads_of}, specs.Cutting.{ArePacketsOf}, specs.PacketsLeft.{cut}, proofs.PacketLists.{all_packets, packets_join, payload_at, payloads_length, within_unit, last_or_not}, proofs.InOrder.{all_from, all_front}, proofs.Sending.{few_packets, many_packets, ends_of_six_join}}
use Rattle.plan_values.{specs.declared.plan.Plan.{Plan}, specs.declared.certificate.Certificate.{Certificate}}
use Rattle.net_runs.{proofs.Units.{least_unit, most_unit}, specs.States.{unit_of, limit}, specs.ExactMessages.{FitsKey, IsTold, CanBeSent, SixAreTooMany}, proofs.Sends.{IsSendable, sent_is_told}}
use Rattle.net_tables.specs.Routing.{Holds}

-- the packets of a message
pub message_packets : (plan : Plan) (message : List ℕ) (d : ℕ) (key : KeyValue) → (ps : List PacketValue) × ArePacketsOf (unit_of plan) message d key 0 ps
message_packets plan message d key =
    let f : PacketValue = record {
      reserved = 0;
      destination = d;
      source = key.source;
      som = true;
      eom = false;
      number = 0;
      owner = key.owner;
      tag = key.tag;
      payload = message;
    } in
    (cut (unit_of plan) (length message) f, all_packets (unit_of plan) f (omega (arith, least_unit plan)) (omega arith) refl refl)

-- a message that isn't empty has packets
pub packets_some : (unit : ℕ) (message : List ℕ) (d : ℕ) (key : KeyValue) (ps : List PacketValue) → ArePacketsOf unit message d key 0 ps → 0 < length message → 0 < length ps
packets_some unit message d key [] are some = absurd (omega (arith, some, many_packets unit message d key 0 [] are))
packets_some unit message d key (p ∷ ps) are some = omega arith

-- a list that isn't empty has a last
parts : (p : PacketValue) (ps : List PacketValue) → (init : List PacketValue) × (last : PacketValue) × (p ∷ ps ≡ init ++ last ∷ [])
parts p [] = ([], p, refl)
parts p (q ∷ ps) = let h = parts q ps in (p ∷ h.0, h.1, ap (λ (rs : List PacketValue). p ∷ rs) h.2)

last_of_all : (P : PacketValue → Type 0) (init : List PacketValue) (last : PacketValue) → AllByRecursion P (init ++ last ∷ []) → P last
last_of_all P [] last all = all.0
last_of_all P (p ∷ init) last all = last_of_all P init last all.1

module _ (plan : Plan) (n d : ℕ) (key : KeyValue) (message : List ℕ) (there : n < length plan.nodes.items) (holds : Holds plan n d) (small : d < 256) (fits : FitsKey key) where
  -- each packet of the message may be sent
  pub sendable : (ps : List PacketValue) → ArePacketsOf (unit_of plan) message d key 0 ps → AllByRecursion (IsSendable plan n d key (record { message = message; first_number = 0 }) there holds) ps
  sendable ps are = all_from (IsSendable plan n d key (record { message = message; first_number = 0 }) there holds) ps (λ i p at.
      let long = payloads_length ps in
      let inside = slice_get_within ps i p at in
      let reserved = are.reserved i p at in
      let to = are.addressed i p at in
      let mine = are.of_key i p at in
      let number = are.numbers i p at in
      let source = ap (λ (k : KeyValue). k.source) mine in
      let tag = ap (λ (k : KeyValue). k.tag) mine in
      let narrow = fits.0 in
      let short = fits.1 in
      let payload = payload_at ps i p at in
      let some : 0 < length p.payload = elim (last_or_not i (length ps) inside) [
        | inl more ↦ let full = are.cut.full i p.payload payload (omega arith) in omega arith
        | inr ends ↦ (are.cut.last i p.payload payload (omega arith)).0
      ] in
      record {
        lawful = record {
          reserved = omega arith;
          destination = omega arith;
          source = omega arith;
          number = omega arith;
          tag = omega arith;
          some = some;
          most = within_unit (unit_of plan) message _ i p.payload are.cut (omega arith) payload;
        };
        to = to;
        of_key = mine;
        of_epoch = (ps, i, are, at);
      })

  sent_so : (cert : Certificate) → 1 ≤ length message → length message ≤ limit → IsTold (unit_of plan) plan cert key d (record { message = message; first_number = 0 }) message
  sent_so cert some most = by (message_packets plan message d key)
    where
      by : (ps : List PacketValue) × ArePacketsOf (unit_of plan) message d key 0 ps → IsTold (unit_of plan) plan cert key d (record { message = message; first_number = 0 }) message
      by ([], are) = absurd (omega (arith, many_packets (unit_of plan) message d key 0 [] are))
      by (p ∷ ps, are) =
          let (init, last, same) = parts p ps in
          let few = few_packets (unit_of plan) 64 message d key 0 (p ∷ ps) are (omega (arith, least_unit plan)) in
          let S : PacketValue → Type 0 = IsSendable plan n d key (record { message = message; first_number = 0 }) there holds in
          let A : List PacketValue → Type 0 = AllByRecursion S in
          let J : List PacketValue → Type 0 = λ qs. Joined qs message in
          let all = subst A same (sendable (p ∷ ps) are) in
          let size = length_front init last in
          sent_is_told plan n d key (record { message = message; first_number = 0 }) there holds cert init last message (omega (arith, ap length same))
          (all_front S init (last ∷ []) all) (last_of_all S init last all)
          (subst J same (packets_join (unit_of plan) message d key 0 (p ∷ ps) (omega arith) are)) most
        where
          length_front : (xs : List PacketValue) (x : PacketValue) → length xs ≤ length (xs ++ x ∷ [])
          length_front [] x = omega arith
          length_front (y ∷ xs) x = let h = length_front xs x in omega arith

  six_so : (cert : Certificate) → 5 * (unit_of plan) < length message → length message ≤ 6 * (unit_of plan)
      → (other : List ℕ) × (other ≢ message) × IsTold (unit_of plan) plan cert key d (record { message = message; first_number = 0 }) other
  six_so cert more most = by (message_packets plan message d key)
    where
      by : (ps : List PacketValue) × ArePacketsOf (unit_of plan) message d key 0 ps
          → (other : List ℕ) × (other ≢ message) × IsTold (unit_of plan) plan cert key d (record { message = message; first_number = 0 }) other
      by (a ∷ b ∷ c ∷ e ∷ f ∷ g ∷ [], are) =
          let joins = ends_of_six_join (unit_of plan) message d key 0 a b c e f g are in
          let (sa, (sb, (sc, (se, (sf, (sg, none)))))) = sendable (a ∷ b ∷ c ∷ e ∷ f ∷ g ∷ []) are in
          let short = joins.1 in (
            payloads_of (a ∷ g ∷ []),
            (λ same. let long = ap length same in let least = least_unit plan in omega arith),
            sent_is_told plan n d key (record { message = message; first_number = 0 }) there holds cert (a ∷ []) g (payloads_of (a ∷ g ∷ [])) (omega arith) (sa, tt) sg joins.0
                (omega (arith, most_unit plan)),
          )
      by ([], are) = absurd (omega (arith, many_packets (unit_of plan) message d key 0 _ are))
      by (a ∷ [], are) = absurd (omega (arith, many_packets (unit_of plan) message d key 0 _ are))
      by (a ∷ b ∷ [], are) = absurd (omega (arith, many_packets (unit_of plan) message d key 0 _ are))
      by (a ∷ b ∷ c ∷ [], are) = absurd (omega (arith, many_packets (unit_of plan) message d key 0 _ are))
      by (a ∷ b ∷ c ∷ e ∷ [], are) = absurd (omega (arith, many_packets (unit_of plan) message d key 0 _ are))
      by (a ∷ b ∷ c ∷ e ∷ f ∷ [], are) = absurd (omega (arith, many_packets (unit_of plan) message d key 0 _ are))
      by (a ∷ b ∷ c ∷ e ∷ f ∷ g ∷ h ∷ ps, are) = absurd (omega (arith, few_packets (unit_of plan) 6 message d key 0 _ are most))

pub can_be_sent : (plan : Plan) (cert : Certificate) → CanBeSent (unit_of plan) plan cert
can_be_sent plan cert n d key message there holds small fits some most = sent_so plan n d key message there holds small fits cert some most

pub six_are_too_many : (plan : Plan) (cert : Certificate) → SixAreTooMany (unit_of plan) plan cert
six_are_too_many plan cert n d key message there holds small fits more most = six_so plan n d key message there holds small fits cert more most
