-- A terminus answers the requests of a walker.
use Rattle.std.{proofs.Common.{◌≡◌, ◌≢◌, inl, inr, ℕ, ◌+◌, ◌^◌, ◌<◌, ◌≤◌, min, true, false, Bool, List, ◌++◌, length, drop, Option, Some, None, refl, ap, sym, ◌∙◌, subst, arith}, specs.Prelude.{MatchOption, is_some, ◌==◌, if◌then◌else◌}, proofs.lemmas.Bool.{cases_lt}, proofs.lemmas.Bool.Decides.{eqb_tells}, proofs.lemmas.List.{length-take}, proofs.lemmas.Option.{slice_get_cases}}
use Rattle.pldm_message.{specs.declared.kind.MessageKind.TheVariants.{Request}, specs.declared.command.Command.TheVariants.{SetTid, GetTid, GetPldmTypes, GetPdr}, specs.Headers.{HeaderValue, IsHeader, header_bytes}, specs.HeaderLaws.{one_header}, specs.Messages.{RequestMessage, IsOutcome, outcome_bytes}, specs.Pdrs.{PartRequest, IsPartRequest, Part, IsPart, part_request_bytes, part_bytes, get_pdr_request_bytes}, specs.PdrLaws.{one_get_pdr_request}}
use Rattle.pdr_repository.{specs.Crc.{IsCrc}, specs.Records.{Entry, IsLawful, handle_at}, specs.Parts.{PartAnswer, AnswersPart, IsPartOf, offset_of}, specs.Answers.{AnswersCommand, AnswersData, reply_header}, specs.Walkers.{asked_under, AnswersWalker, EveryRequestIsAnswered}, proofs.Headers.{lawful_header}}

-- handles fit their field
handle_fits : (records : List Entry) → IsLawful records → (place : ℕ) → handle_at records place < 2 ^ 32
handle_fits records lawful place = elim (slice_get_cases records place).1 [
  | inl (e, _, here, _) ↦ rw here (lawful_header records lawful place e here).fits
  | inr (_, none) ↦ rw none (omega arith)
]

checked : (flag : ℕ) (bytes : List ℕ) (crc : Option ℕ) → MatchOption crc (flag ≢ 4) (λ k. (flag ≡ 4) × IsCrc bytes k) → is_some crc ≡ (flag == 4)
checked flag bytes None unlike = elim (eqb_tells flag 4) [ inl same ↦ absurd (unlike same.1) | inr other ↦ sym other.0 ]
checked flag bytes (Some k) (is, _) = rw is refl

crc_fits : (flag : ℕ) (bytes : List ℕ) (crc : Option ℕ) → MatchOption crc (flag ≢ 4) (λ k. (flag ≡ 4) × IsCrc bytes k) → (byte : ℕ) → crc ≡ Some byte → byte < 256
unfolding IsCrc
crc_fits flag bytes None unlike byte e = absurd (cc)
crc_fits flag bytes (Some k) (_, (q, _, small)) byte e = let same : k ≡ byte = cc in omega (arith, small, same)

flag_fits : (b : Bool) (m n flag : ℕ) → m < 256 → n < 256 → flag ≡ (if b then m else n) → flag < 256
flag_fits true m n flag a b e = omega arith
flag_fits false m n flag a b e = omega arith

-- a part that is given has a spelling
given_fits : (next : ℕ) (bytes : List ℕ) (r : PartRequest) (p : Part) → next < 2 ^ 32 → length bytes < 2 ^ 17 → IsPartOf next bytes r p → IsPart p
given_fits next bytes r p small short part =
    let long : length p.bytes ≤ 4079 = omega (arith, ap length part.taken, length-take (min r.count 4079) (drop (offset_of r) bytes)) in
    let first = r.operation == 1 in
    elim (cases_lt (offset_of r + length p.bytes) (length bytes)) [
      | inl more ↦
          let says = part.more more in
          record { next = omega (arith, part.follows, small); transfer = omega (arith, says.1, more, short); flag = flag_fits first 0 1 p.flag (omega arith) (omega arith) says.0; count = omega arith; checked = checked p.flag bytes p.crc part.crc; crc = crc_fits p.flag bytes p.crc part.crc }
      | inr over ↦
          let says = part.last over in
          record { next = omega (arith, part.follows, small); transfer = omega (arith, says.1); flag = flag_fits first 5 4 p.flag (omega arith) (omega arith) says.0; count = omega arith; checked = checked p.flag bytes p.crc part.crc; crc = crc_fits p.flag bytes p.crc part.crc }
    ]

-- an outcome has a spelling
outcome_fits : (records : List Entry) (r : PartRequest) (a : PartAnswer) → IsLawful records → AnswersPart records r a → IsOutcome IsPart a
outcome_fits records r a lawful (inl (_, is)) = rw is (omega arith, omega arith)
outcome_fits records r a lawful (inr (_, inl (_, is))) = rw is (omega arith, omega arith)
outcome_fits records r a lawful (inr (_, inr (_, inl (_, is)))) = rw is (omega arith, omega arith)
outcome_fits records r a lawful (inr (_, inr (_, inr (_, (place, e, means, inl (_, is)))))) = rw is (omega arith, omega arith)
outcome_fits records r a lawful (inr (_, inr (_, inr (_, (place, e, means, inr (_, inl (_, is))))))) = rw is (omega arith, omega arith)
outcome_fits records r a lawful (inr (_, inr (_, inr (_, (place, e, means, inr (_, inr (_, (p, is, part)))))))) =
    let P : PartAnswer → Type 0 = λ b. IsOutcome IsPart b in
    subst P (sym is) (given_fits (handle_at records (place + 1)) e.bytes r p (handle_fits records lawful (place + 1)) (lawful_header records lawful place e means.stands).short part)

-- the header of a walker's request
abbrev Asking : ℕ → HeaderValue
Asking id = record { kind = Request; reserved = false; instance = id; pldm_type = 2; command = 0x51 }

asking_fits : (id : ℕ) → id < 32 → IsHeader (Asking id)
asking_fits id small = record { instance = small; pldm_type = omega arith; command = omega arith }

-- the answer to the data of a request for a part
from_data : (tid next_tid id : ℕ) (records : List Entry) (r : PartRequest) (answer : Option (List ℕ)) (reply : List ℕ) → IsLawful records → IsPartRequest r → id < 32
    → answer ≡ Some (header_bytes (reply_header (Asking id)) ++ reply) → AnswersData GetPdr tid records (part_request_bytes r) reply next_tid → AnswersWalker records id r answer
from_data tid next_tid id records r answer reply lawful fits small is (s, a, known, same, answered, replied, _) =
    let bytes : get_pdr_request_bytes (asked_under id s) ≡ get_pdr_request_bytes (asked_under id r) = ap (λ xs. header_bytes (Asking id) ++ xs) (sym same) in
    let asked : asked_under id s ≡ asked_under id r = one_get_pdr_request (asked_under id s) (asked_under id r) (small, known) (small, fits) bytes in
    let request : s ≡ r = ap (λ (m : RequestMessage PartRequest). m.body) asked in
    let P : PartRequest → Type 0 = λ q. AnswersPart records q a in
    let right = subst P request answered in
    record {
      outcome = a;
      bytes = header_bytes (reply_header (Asking id)) ++ outcome_bytes part_bytes a;
      is = is ∙ ap (λ xs. Some (header_bytes (reply_header (Asking id)) ++ xs)) replied;
      answered = right;
      spelled = ((small, outcome_fits records r a lawful right), refl);
    }

-- the command of the request is known, and its length is right
from_command : (tid next_tid id : ℕ) (records : List Entry) (r : PartRequest) (answer : Option (List ℕ)) (reply : List ℕ) → IsLawful records → IsPartRequest r → id < 32
    → answer ≡ Some (header_bytes (reply_header (Asking id)) ++ reply) → AnswersCommand (Asking id) tid records (part_request_bytes r) reply next_tid → AnswersWalker records id r answer
from_command tid next_tid id records r answer reply lawful fits small is (inl (unknown, _)) = absurd (unknown.1 refl)
from_command tid next_tid id records r answer reply lawful fits small is (inr (_, inl (none, _))) = absurd (none GetPdr (refl, refl))
from_command tid next_tid id records r answer reply lawful fits small is (inr (_, inr (_, (SetTid, of, _)))) = absurd (omega (arith, of.0))
from_command tid next_tid id records r answer reply lawful fits small is (inr (_, inr (_, (GetTid, of, _)))) = absurd (omega (arith, of.0))
from_command tid next_tid id records r answer reply lawful fits small is (inr (_, inr (_, (GetPldmTypes, of, _)))) = absurd (omega (arith, of.0))
from_command tid next_tid id records r answer reply lawful fits small is (inr (_, inr (_, (GetPdr, of, inl (long, _))))) = absurd (long refl)
from_command tid next_tid id records r answer reply lawful fits small is (inr (_, inr (_, (GetPdr, of, inr (_, replied))))) = from_data tid next_tid id records r answer reply lawful fits small is replied

pub requests_are_answered : EveryRequestIsAnswered
requests_are_answered tid next_tid id records r answer lawful fits small (inl (unasked, _)) = absurd (unasked (Asking id, (asking_fits id small, refl), refl))
requests_are_answered tid next_tid id records r answer lawful fits small (inr (_, (h, reply, begins, is, replied))) =
    let same : h ≡ Asking id = one_header h (Asking id) begins.0 (asking_fits id small) (sym begins.1) in
    let P : HeaderValue → Type 0 = λ g. answer ≡ Some (header_bytes (reply_header g) ++ reply) in
    let Q : HeaderValue → Type 0 = λ g. AnswersCommand g tid records (part_request_bytes r) reply next_tid in
    from_command tid next_tid id records r answer reply lawful fits small (subst P same is) (subst Q same replied)
