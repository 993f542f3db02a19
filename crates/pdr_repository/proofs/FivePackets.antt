-- The packets of an answer with a part.
use Rattle.std.{proofs.Common.{◌≡◌, ℕ, ◌+◌, ◌*◌, ◌<◌, ◌≤◌, true, false, List, length, Option, Some, None, is_some, Ok, Err, refl, ap, sym, subst, inl, inr, arith, length-append, length-take}, specs.Option.{option_to_list}}
use Rattle.mctp_transport.{specs.PacketValues.{PacketValue}, proofs.Sending.{few_packets, many_packets}}
use Rattle.pldm_message.{specs.Messages.{ResponseHeadValue}, specs.Pdrs.{PartRequest, Part, part_numbers, get_pdr_answer_bytes}}
use Rattle.pdr_repository.{specs.Records.{Entry}, specs.Parts.{PartAnswer, AnswersPart}, specs.FivePackets.{AreSentFor, FitFive, PassFive}}

-- the header, the completion code and the numbers are 16 bytes
length_of : (head : ResponseHeadValue) (p : Part) → length (get_pdr_answer_bytes (record { head = head; outcome = Ok p })) ≡ 16 + length p.bytes + length (option_to_list p.crc)
length_of head p = omega (arith, length-append (part_numbers p) p.bytes, length-append p.bytes (option_to_list p.crc))

pub one_at_most : (check : Option ℕ) → length (option_to_list check) ≤ 1
one_at_most None = omega arith
one_at_most (Some byte) = omega arith

one_there : (check : Option ℕ) → is_some check ≡ true → length (option_to_list check) ≡ 1
one_there None none = absurd (let e : false ≡ true = none in cc)
one_there (Some byte) there = refl

-- a part is no longer than asked for
not_longer : (records : List Entry) (r : PartRequest) (p : Part) → AnswersPart records r (Ok p) → length p.bytes ≤ r.count
not_longer records r p (inl (_, is)) = absurd (let e : Ok p ≡ Err 0x81 = is in cc)
not_longer records r p (inr (_, inl (_, is))) = absurd (let e : Ok p ≡ Err 0x02 = is in cc)
not_longer records r p (inr (_, inr (_, inl (_, is)))) = absurd (let e : Ok p ≡ Err 0x82 = is in cc)
not_longer records r p (inr (_, inr (_, inr (_, (place, e, _, inl (_, is)))))) = absurd (let e : Ok p ≡ Err 0x83 = is in cc)
not_longer records r p (inr (_, inr (_, inr (_, (place, e, _, inr (_, inl (_, is))))))) = absurd (let e : Ok p ≡ Err 0x80 = is in cc)
not_longer records r p (inr (_, inr (_, inr (_, (place, e, _, inr (_, inr (_, (q, is, part)))))))) =
    let same : p ≡ q = cc in
    let taken : length q.bytes ≤ r.count = omega (arith, ap length part.taken, length-take {A = ℕ}) in
    subst (λ (s : Part). length s.bytes ≤ r.count) (sym same) taken

five : (unit : ℕ) (head : ResponseHeadValue) (a : PartAnswer) (packets : List PacketValue) → length (get_pdr_answer_bytes (record { head = head; outcome = a })) ≤ 5 * unit
    → AreSentFor unit (record { head = head; outcome = a }) packets → length packets ≤ 5
five unit head a packets short (d, key, start, are) = few_packets unit 5 _ d key start packets are short

fit_at : (unit count : ℕ) (records : List Entry) (r : PartRequest) (head : ResponseHeadValue) (a : PartAnswer) (packets : List PacketValue) → 64 ≤ unit → count + 17 ≤ 5 * unit → r.count ≤ count
    → AnswersPart records r a → AreSentFor unit (record { head = head; outcome = a }) packets → length packets ≤ 5
fit_at unit count records r head (Err code) packets least room few answered sent = five unit head (Err code) packets (omega arith) sent
fit_at unit count records r head (Ok p) packets least room few answered sent =
    let long = length_of head p in
    let bytes = not_longer records r p answered in
    let check = one_at_most p.crc in
    five unit head (Ok p) packets (omega arith) sent

-- with 17 bytes around them so many bytes fit five packets
pub fit_five : (unit count : ℕ) → 64 ≤ unit → count + 17 ≤ 5 * unit → FitFive unit count
fit_five unit count least room records r m packets few answered sent = fit_at unit count records r m.head m.outcome packets least room few answered sent

-- and more don't
pub pass_five : (unit count : ℕ) → 5 * unit < count + 17 → PassFive unit count
pass_five unit count over m p packets is long check (d, key, start, are) =
    let P : PartAnswer → Type 0 = λ a. length (get_pdr_answer_bytes (record { head = m.head; outcome = a })) ≡ 16 + length p.bytes + length (option_to_list p.crc) in
    let whole : length (get_pdr_answer_bytes m) ≡ 16 + length p.bytes + length (option_to_list p.crc) = subst P (sym is) (length_of m.head p) in
    let one = one_there p.crc check in
    let most = many_packets unit _ d key start packets are in
    let room : 5 * unit < length packets * unit = omega arith in
    more_than 5 (length packets) unit room
  where
    more_than : (a b unit : ℕ) → a * unit < b * unit → a < b
    more_than a b unit less = grind arith
