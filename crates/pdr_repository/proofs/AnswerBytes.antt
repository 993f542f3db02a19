-- What a terminus of byte records answers to bytes is bytes.
use Rattle.std.{proofs.Common.{◌≡◌, ◌≢◌, ℕ, zero, suc, ◌+◌, ◌<◌, Bool, true, false, cond, nat_eq, List, [], ◌∷◌, ◌++◌, length, take, drop, min, Option, Some, None, sym, ◌∙◌, subst, inl, inr, arith}, specs.Prelude.{MatchOption}, specs.Option.{option_to_list}, proofs.lemmas.Bool.{cases_lt}}
use Rattle.pldm_message.{specs.declared.command.Command.{Command}, specs.declared.command.Command.TheVariants.{SetTid, GetTid, GetPldmTypes, GetPdr}, specs.Headers.{HeaderValue, IsHeader, header_bytes}, specs.Messages.{outcome_bytes}, specs.Pdrs.{PartRequest, Part, part_bytes, part_numbers}}
use Rattle.pdr_repository.{specs.Crc.{IsCrc}, specs.Records.{Entry}, specs.Parts.{PartAnswer, offset_of, IsPartOf, AnswersFrom, AnswersPart}, specs.Answers.{reply_header, AnswersData, AnswersCommand, Answers}, proofs.SomeAnswers.{EachByte, RecordsOfBytes, bytes_drop}}

pub bytes_append : (xs ys : List ℕ) → EachByte xs → EachByte ys → EachByte (xs ++ ys)
bytes_append [] ys a b = b
bytes_append (x ∷ xs) ys a b = (a.0, bytes_append xs ys a.1 b)

bytes_take : (n : ℕ) (xs : List ℕ) → EachByte xs → EachByte (take n xs)
bytes_take zero xs all = tt
bytes_take (suc n) [] all = tt
bytes_take (suc n) (x ∷ xs) all = (all.0, bytes_take n xs all.1)

numbers_are_bytes : (p : Part) → p.flag < 256 → EachByte (part_numbers p)
numbers_are_bytes p flag = (
  omega arith,
  (omega arith, (omega arith, (omega arith, (omega arith, (omega arith, (omega arith, (omega arith, (flag, (omega arith, (omega arith, tt)))))))))),
)

small_flag : (a b : ℕ) (first : Bool) (flag : ℕ) → a < 256 → b < 256 → flag ≡ cond first a b → flag < 256
small_flag a b true flag low high is = omega arith
small_flag a b false flag low high is = omega arith

crc_byte : (bytes : List ℕ) (crc : ℕ) → IsCrc bytes crc → crc < 256
unfolding IsCrc
crc_byte bytes crc is = is.2

part_is_bytes : (next : ℕ) (bytes : List ℕ) (r : PartRequest) (p : Part) → EachByte bytes → IsPartOf next bytes r p → EachByte (part_bytes p)
part_is_bytes next bytes r p all is =
    let E : List ℕ → Type 0 = EachByte in
    let flag : p.flag < 256 = elim (cases_lt (offset_of r + length p.bytes) (length bytes)) [
      | inl more ↦ small_flag 0 1 (nat_eq r.operation 1) p.flag (omega arith) (omega arith) (is.more more).0
      | inr past ↦ small_flag 5 4 (nat_eq r.operation 1) p.flag (omega arith) (omega arith) (is.last (omega arith)).0
    ] in
    let numbers = numbers_are_bytes p flag in
    let content : EachByte p.bytes = subst E (sym is.taken) (bytes_take (min r.count 4079) (drop (offset_of r) bytes) (bytes_drop (offset_of r) bytes all)) in
    bytes_append (part_numbers p ++ p.bytes) (option_to_list p.crc) (bytes_append (part_numbers p) p.bytes numbers content) (check p.crc is.crc)
  where
    check : (crc : Option ℕ) → MatchOption crc (p.flag ≢ 4) (λ c. (p.flag ≡ 4) × IsCrc bytes c) → EachByte (option_to_list crc)
    check None h = tt
    check (Some c) h = (crc_byte bytes c h.1, tt)

from_is_bytes : (next : ℕ) (bytes : List ℕ) (r : PartRequest) (a : PartAnswer) → EachByte bytes → AnswersFrom next bytes r a → EachByte (outcome_bytes part_bytes a)
from_is_bytes next bytes r a all (inl (changed, is)) = let E : PartAnswer → Type 0 = λ x. EachByte (outcome_bytes part_bytes x) in subst E (sym is) (omega arith, tt)
from_is_bytes next bytes r a all (inr (same, inl (beyond, is))) = let E : PartAnswer → Type 0 = λ x. EachByte (outcome_bytes part_bytes x) in subst E (sym is) (omega arith, tt)
from_is_bytes next bytes r a all (inr (same, inr (within, (p, is, part)))) =
    let E : PartAnswer → Type 0 = λ x. EachByte (outcome_bytes part_bytes x) in subst E (sym is) (omega arith, part_is_bytes next bytes r p all part)

part_answer_is_bytes : (records : List Entry) (r : PartRequest) (a : PartAnswer) → RecordsOfBytes records → AnswersPart records r a → EachByte (outcome_bytes part_bytes a)
part_answer_is_bytes records r a all (inl (unknown, is)) = let E : PartAnswer → Type 0 = λ x. EachByte (outcome_bytes part_bytes x) in subst E (sym is) (omega arith, tt)
part_answer_is_bytes records r a all (inr (known, inl (nothing, is))) = let E : PartAnswer → Type 0 = λ x. EachByte (outcome_bytes part_bytes x) in subst E (sym is) (omega arith, tt)
part_answer_is_bytes records r a all (inr (known, inr (some, inl (none, is)))) = let E : PartAnswer → Type 0 = λ x. EachByte (outcome_bytes part_bytes x) in subst E (sym is) (omega arith, tt)
part_answer_is_bytes records r a all (inr (known, inr (some, inr (meant, (place, e, means, answers))))) = from_is_bytes _ e.bytes r a (all place e means.stands) answers

-- what follows the header is bytes, and the TID afterwards is one
abbrev AreReplied : List ℕ → ℕ → Type 0
AreReplied reply tid = EachByte reply × (tid < 256)

replied : (reply said : List ℕ) (tid tid_after : ℕ) → reply ≡ said → tid_after ≡ tid → EachByte said → tid < 256 → AreReplied reply tid_after
replied reply said tid tid_after is stays bytes small = let E : List ℕ → Type 0 = EachByte in (subst E (sym is) bytes, omega arith)

data_is_bytes : (c : Command) (tid : ℕ) (records : List Entry) (asked reply : List ℕ) (tid_after : ℕ) → tid < 256 → RecordsOfBytes records → EachByte asked
    → AnswersData c tid records asked reply tid_after → AreReplied reply tid_after
data_is_bytes SetTid tid records asked reply tid_after small all bytes (wanted, is, inl (reserved, (said, stays))) = replied reply (0x02 ∷ []) tid tid_after said stays (omega arith, tt) small
data_is_bytes SetTid tid records asked reply tid_after small all bytes (wanted, is, inr (free, (said, set))) =
    let E : List ℕ → Type 0 = EachByte in replied reply (0 ∷ []) wanted tid_after said set (omega arith, tt) (subst E is bytes).0
data_is_bytes GetTid tid records asked reply tid_after small all bytes (said, stays) = replied reply (0 ∷ tid ∷ []) tid tid_after said stays (omega arith, (small, tt)) small
data_is_bytes GetPldmTypes tid records asked reply tid_after small all bytes (said, stays) =
    replied reply _ tid tid_after said stays
    (omega arith, (omega arith, (omega arith, (omega arith, (omega arith, (omega arith, (omega arith, (omega arith, (omega arith, tt))))))))) small
data_is_bytes GetPdr tid records asked reply tid_after small all bytes (r, a, fits, is, part, said, stays) =
    replied reply (outcome_bytes part_bytes a) tid tid_after said stays (part_answer_is_bytes records r a all part) small

command_is_bytes : (h : HeaderValue) (tid : ℕ) (records : List Entry) (asked reply : List ℕ) (tid_after : ℕ) → tid < 256 → RecordsOfBytes records → EachByte asked
    → AnswersCommand h tid records asked reply tid_after → AreReplied reply tid_after
command_is_bytes h tid records asked reply tid_after small all bytes (inl (unknown, (said, stays))) = replied reply (0x20 ∷ []) tid tid_after said stays (omega arith, tt) small
command_is_bytes h tid records asked reply tid_after small all bytes (inr (known, inl (none, (said, stays)))) = replied reply (0x05 ∷ []) tid tid_after said stays (omega arith, tt) small
command_is_bytes h tid records asked reply tid_after small all bytes (inr (known, inr (some, (c, is, inl (other, (said, stays)))))) = replied reply (0x03 ∷ []) tid tid_after said stays (omega arith, tt) small
command_is_bytes h tid records asked reply tid_after small all bytes (inr (known, inr (some, (c, is, inr (long, answers))))) = data_is_bytes c tid records asked reply tid_after small all bytes answers

header_is_bytes : (h : HeaderValue) → IsHeader h → EachByte (header_bytes (reply_header h))
header_is_bytes h is =
    let instance = is.instance in
    let pldm_type = is.pldm_type in
    let command = is.command in
    (omega arith, (omega arith, (omega arith, (omega arith, tt))))

-- the answer is bytes, and the TID afterwards is one
pub answer_is_bytes : (tid : ℕ) (records : List Entry) (request : List ℕ) (answer : Option (List ℕ)) (tid_after : ℕ) → tid < 256 → RecordsOfBytes records → EachByte request
    → Answers tid records request answer tid_after → ((bytes : List ℕ) → answer ≡ Some bytes → EachByte bytes) × (tid_after < 256)
answer_is_bytes tid records request answer tid_after small all bytes (inl (not, (none, stays))) = ((λ said is. absurd (cc)), omega arith)
answer_is_bytes tid records request answer tid_after small all bytes (inr (asked, (h, reply, begins, same, answers))) =
    let r = command_is_bytes h tid records (drop 4 request) reply tid_after small all (bytes_drop 4 request bytes) answers in
    let whole = bytes_append (header_bytes (reply_header h)) reply (header_is_bytes h begins.0) r.0 in
    ((λ said is. by said (sym same ∙ is) whole), r.1)
  where
    by : (said : List ℕ) → Some (header_bytes (reply_header h) ++ reply) ≡ Some said → EachByte (header_bytes (reply_header h) ++ reply) → EachByte said
    by said is whole = let E : List ℕ → Type 0 = EachByte in let e : header_bytes (reply_header h) ++ reply ≡ said = cc in subst E e whole
