-- Each message of bytes has its answer from records of bytes, or has none.
use Rattle.std.{proofs.Common.{◌≡◌, ◌⊎◌, ℕ, zero, suc, ◌+◌, ◌*◌, ◌/◌, ◌%◌, ◌<◌, ◌≤◌, Bool, true, false, cond, nat_eq, List, [], ◌∷◌, ◌++◌, length, take, drop, min, slice_get, Option, Some, None, refl, sym, ap, ◌∙◌, subst, inl, inr, arith, append_assoc}, specs.Prelude.{Ok, Err, bit_xor, All}, specs.List.{AllByRecursion}, proofs.lemmas.Bool.{cases_lt}, proofs.lemmas.List.{append-nil}, proofs.lemmas.Option.{same_Some, none-some}, proofs.lemmas.List.Elements.{All-head, All-tail}, proofs.lemmas.Nat.{xor_of_8}}
use Rattle.mctp_transport.{specs.Bits.{bit_most}, specs.PacketValues.{bit}, proofs.Spellings.{flag_of}}
use Rattle.pldm_message.{specs.declared.kind.MessageKind.TheVariants.{Request}, specs.declared.command.Command.{Command}, specs.declared.command.Command.TheVariants.{SetTid, GetTid, GetPldmTypes, GetPdr}, specs.Commands.{type_of, command_byte}, specs.Headers.{HeaderValue, IsHeader, header_bytes, instance_byte}, specs.Messages.{outcome_bytes}, specs.Pdrs.{PartRequest, IsPartRequest, part_request_bytes, Part, part_bytes}}
use Rattle.pdr_repository.{specs.Crc.{IsCrc}, proofs.Crcs.{crc-none, crc-more, table_entry, IsEntry}, specs.Records.{Entry, IsMeant, handle_at, change_in}, specs.Parts.{PartAnswer, offset_of, HasChange, IsWithin, IsPartOf, AnswersFrom, AnswersPart}, specs.Answers.{IsAsked, reply_header, known_types, request_length, AnswersData, IsOf, AnswersCommand, Answers}, proofs.Deciding.{OrNot, both_or_not, implied_or_not, not_or_not, same_or_not, less_or_not, at_most_or_not}}

-- each number is a byte
abbrev pub EachByte : List ℕ → Type 0
EachByte bytes = AllByRecursion (λ b. b < 256) bytes

pub each_byte : (bytes : List ℕ) → All (λ b. b < 256) bytes → EachByte bytes
each_byte [] all = tt
each_byte (b ∷ bytes) all = (All-head (λ n. n < 256) b bytes all, each_byte bytes (All-tail (λ n. n < 256) b bytes all))

-- a byte has a remainder
some_entry : (i : ℕ) → i < 256 → (t : ℕ) × IsEntry i t
some_entry i small = (_, table_entry i small)

-- a list of bytes has a check byte
crc_after : (before : List ℕ) (crc : ℕ) → crc < 256 → IsCrc before crc → (bytes : List ℕ) → EachByte bytes → (next : ℕ) × IsCrc (before ++ bytes) next
crc_after before crc below is [] all = (crc, subst (λ (bs : List ℕ). IsCrc bs crc) (sym (append-nil before)) is)
crc_after before crc below is (b ∷ bs) all =
    let entry = some_entry (bit_xor crc b) (xor_of_8 crc b below all.0) in
    let rest = crc_after (before ++ b ∷ []) entry.0 entry.1.2 (crc-more before b crc entry.0 all.0 is entry.1) bs all.1 in
    (rest.0, subst (λ (xs : List ℕ). IsCrc xs rest.0) (append_assoc before (b ∷ []) bs) rest.1)

pub some_crc : (bytes : List ℕ) → EachByte bytes → (crc : ℕ) × IsCrc bytes crc
some_crc bytes all = crc_after [] 0 (omega arith) crc-none bytes all

-- the flags of a start and of a middle are no end's
not_end : (first : Bool) → ¬ ◌≡◌ {A = ℕ} (cond first 0 1) 4
not_end true e = omega (arith, e)
not_end false e = omega (arith, e)

-- the part that a request asks for
some_part : (next : ℕ) (bytes : List ℕ) (r : PartRequest) → EachByte bytes → (p : Part) × IsPartOf next bytes r p
some_part next bytes r all = by (nat_eq r.operation 1) refl
  where
    taken : List ℕ
    taken = take (min r.count 4079) (drop (offset_of r) bytes)

    by : (first : Bool) → nat_eq r.operation 1 ≡ first → (p : Part) × IsPartOf next bytes r p
    by first is = elim (cases_lt (offset_of r + length taken) (length bytes)) [
      | inl more ↦ (
        record { next = next; transfer = offset_of r + length taken; flag = cond first 0 1; bytes = taken; crc = None },
        record {
          taken = refl;
          follows = refl;
          more = λ _. (rw is refl, refl);
          last = λ past. absurd (omega arith);
          crc = not_end first;
        },
      )
      | inr past ↦ last_part first is (omega arith)
    ]
      where
        last_part : (first : Bool) → nat_eq r.operation 1 ≡ first → length bytes ≤ offset_of r + length taken → (p : Part) × IsPartOf next bytes r p
        last_part true is past = (
          record { next = next; transfer = 0; flag = 5; bytes = taken; crc = None },
          record {
            taken = refl;
            follows = refl;
            more = λ more. absurd (omega arith);
            last = λ _. (rw is refl, refl);
            crc = λ e. omega arith;
          },
        )
        last_part false is past =
            let crc = some_crc bytes all in (
              record { next = next; transfer = 0; flag = 4; bytes = taken; crc = Some crc.0 },
              record {
                taken = refl;
                follows = refl;
                more = λ more. absurd (omega arith);
                last = λ _. (rw is refl, refl);
                crc = (refl, crc.1);
              },
            )

change_or_not : (r : PartRequest) (bytes : List ℕ) → OrNot (HasChange r bytes)
change_or_not r bytes = implied_or_not _ _ (same_or_not r.operation 0) (same_or_not r.change (change_in bytes))

within_or_not : (r : PartRequest) (bytes : List ℕ) → OrNot (IsWithin r bytes)
within_or_not r bytes = implied_or_not _ _ (same_or_not r.operation 0) (both_or_not _ _ (less_or_not 0 r.transfer) (less_or_not r.transfer (length bytes)))

answer_from : (next : ℕ) (bytes : List ℕ) (r : PartRequest) → EachByte bytes → (a : PartAnswer) × AnswersFrom next bytes r a
answer_from next bytes r all = elim (change_or_not r bytes) [
  | inr changed ↦ (Err 0x83, inl (changed, refl))
  | inl same ↦ elim (within_or_not r bytes) [
    | inr beyond ↦ (Err 0x80, inr ((λ not. not same), inl (beyond, refl)))
    | inl within ↦
        let p = some_part next bytes r all in
        (Ok p.0, inr ((λ not. not same), inr ((λ not. not within), (p.0, refl, p.1))))
  ]
]

-- a handle means a record, or none
has_handle : (records : List Entry) (handle : ℕ) → OrNot ((place : ℕ) × (e : Entry) × (slice_get records place ≡ Some e) × (e.handle ≡ handle))
has_handle [] handle = inr (λ (place, e, is, same). none-some e is)
has_handle (e ∷ es) handle = elim (same_or_not e.handle handle) [
  | inl same ↦ inl (0, e, refl, same)
  | inr other ↦ elim (has_handle es handle) [
    | inl (place, f, is, same) ↦ inl (suc place, f, is, same)
    | inr none ↦ inr (λ (place, f, is, same). in_neither place f is same other none)
  ]
]
  where
    in_neither : (place : ℕ) (f : Entry) → slice_get (e ∷ es) place ≡ Some f → f.handle ≡ handle → ¬ (e.handle ≡ handle)
        → ¬ ((place : ℕ) × (g : Entry) × (slice_get es place ≡ Some g) × (g.handle ≡ handle)) → ⊥
    in_neither zero f is same other none = other (ap (λ (x : Entry). x.handle) (same_Some e f is) ∙ same)
    in_neither (suc place) f is same other none = none (place, f, is, same)

meant_or_not : (records : List Entry) (handle : ℕ) → OrNot (IsMeant records handle)
meant_or_not records handle = elim (same_or_not handle 0) [
  | inl zeroth ↦ first_or_none records refl zeroth
  | inr named ↦ elim (has_handle records handle) [
    | inl (place, e, is, same) ↦ inl (place, e, record { stands = is; first = λ none. absurd (named none); named = λ _. same })
    | inr none ↦ inr (λ (place, e, means). none (place, e, means.stands, means.named named))
  ]
]
  where
    first_or_none : (all : List Entry) → records ≡ all → handle ≡ 0 → OrNot (IsMeant records handle)
    first_or_none [] is zeroth = inr (λ (place, e, means).
        let R : List Entry → Type 0 = λ es. slice_get es place ≡ Some e in none-some e (subst R is means.stands))
    first_or_none (e ∷ es) is zeroth =
        let R : List Entry → Type 0 = λ es. slice_get es 0 ≡ Some e in
        inl (0, e, record { stands = subst R (sym is) refl; first = λ _. refl; named = λ named. absurd (named zeroth) })

-- records of bytes
abbrev pub RecordsOfBytes : List Entry → Type 0
RecordsOfBytes records = (place : ℕ) (e : Entry) → slice_get records place ≡ Some e → EachByte e.bytes

pub records_of_bytes : (records : List Entry) → All (λ e. All (λ b. b < 256) e.bytes) records → RecordsOfBytes records
records_of_bytes [] all place e is = absurd (none-some e is)
records_of_bytes (r ∷ rs) all zero e is =
    let P : Entry → Type 0 = λ x. EachByte x.bytes in
    subst P (same_Some r e is) (each_byte r.bytes (All-head (λ x. All (λ b. b < 256) x.bytes) r rs all))
records_of_bytes (r ∷ rs) all (suc place) e is = records_of_bytes rs (All-tail (λ x. All (λ b. b < 256) x.bytes) r rs all) place e is

some_part_answer : (records : List Entry) (r : PartRequest) → RecordsOfBytes records → (a : PartAnswer) × AnswersPart records r a
some_part_answer records r all = elim (less_or_not 1 r.operation) [
  | inl unknown ↦ (Err 0x81, inl (unknown, refl))
  | inr known ↦ elim (same_or_not r.count 0) [
    | inl nothing ↦ (Err 0x02, inr (known, inl (nothing, refl)))
    | inr some ↦ elim (meant_or_not records r.handle) [
      | inr none ↦ (Err 0x82, inr (known, inr (some, inl (none, refl))))
      | inl (place, e, means) ↦
          let a = answer_from (handle_at records (place + 1)) e.bytes r (all place e means.stands) in
          (a.0, inr (known, inr (some, inr ((λ not. not (place, e, means)), (place, e, means, a.1)))))
    ]
  ]
]

some_request : (asked : List ℕ) → EachByte asked → length asked ≡ 13 → (r : PartRequest) × IsPartRequest r × (asked ≡ part_request_bytes r)
some_request (a ∷ b ∷ c ∷ d ∷ e ∷ f ∷ g ∷ h ∷ o ∷ i ∷ j ∷ k ∷ l ∷ []) (pa, (pb, (pc, (pd, (pe, (pf, (pg, (ph, (po, (pi, (pj, (pk, (pl, none))))))))))))) long =
    let r : PartRequest = record {
      handle = a + 256 * b + 65536 * c + 16777216 * d;
      transfer = e + 256 * f + 65536 * g + 16777216 * h;
      operation = o;
      count = i + 256 * j;
      change = k + 256 * l;
    } in
    let a' : a ≡ r.handle % 256 = omega arith in
    let b' : b ≡ r.handle / 256 % 256 = omega arith in
    let c' : c ≡ r.handle / 65536 % 256 = omega arith in
    let d' : d ≡ r.handle / 16777216 % 256 = omega arith in
    let e' : e ≡ r.transfer % 256 = omega arith in
    let f' : f ≡ r.transfer / 256 % 256 = omega arith in
    let g' : g ≡ r.transfer / 65536 % 256 = omega arith in
    let h' : h ≡ r.transfer / 16777216 % 256 = omega arith in
    let i' : i ≡ r.count % 256 = omega arith in
    let j' : j ≡ r.count / 256 % 256 = omega arith in
    let k' : k ≡ r.change % 256 = omega arith in
    let l' : l ≡ r.change / 256 % 256 = omega arith in (
      r,
      record { handle = omega arith; transfer = omega arith; operation = po; count = omega arith; change = omega arith },
      λ n. a' n ∷ b' n ∷ c' n ∷ d' n ∷ e' n ∷ f' n ∷ g' n ∷ h' n ∷ o ∷ i' n ∷ j' n ∷ k' n ∷ l' n ∷ [],
    )
some_request asked all long = absurd (omega arith)

-- what follows the header of an answer, and the TID afterwards
pub record SomeData (c : Command) (tid : ℕ) (records : List Entry) (asked : List ℕ) : Type 0 where
  pub reply : List ℕ
  pub tid_after : ℕ
  pub answers : AnswersData c tid records asked reply tid_after

some_data : (c : Command) (tid : ℕ) (records : List Entry) (asked : List ℕ) → RecordsOfBytes records → EachByte asked → length asked ≡ request_length c → SomeData c tid records asked
some_data SetTid tid records (wanted ∷ []) all bytes long = elim (both_or_not _ _ (at_most_or_not 1 wanted) (at_most_or_not wanted 254)) [
  | inr reserved ↦ record { reply = 0x02 ∷ []; tid_after = tid; answers = (wanted, refl, inl (reserved, (refl, refl))) }
  | inl free ↦ record { reply = 0 ∷ []; tid_after = wanted; answers = (wanted, refl, inr ((λ not. not free), (refl, refl))) }
]
some_data SetTid tid records [] all bytes long = absurd (omega arith)
some_data SetTid tid records (a ∷ b ∷ rest) all bytes long = absurd (omega arith)
some_data GetTid tid records asked all bytes long = record { reply = 0 ∷ tid ∷ []; tid_after = tid; answers = (refl, refl) }
some_data GetPldmTypes tid records asked all bytes long = record { reply = 0 ∷ known_types; tid_after = tid; answers = (refl, refl) }
some_data GetPdr tid records asked all bytes long =
    let r = some_request asked bytes long in
    let a = some_part_answer records r.0 all in
    record { reply = outcome_bytes part_bytes a.0; tid_after = tid; answers = (r.0, a.0, r.1, r.2, a.1, refl, refl) }

of_or_not : (c : Command) (h : HeaderValue) → OrNot (IsOf c h)
of_or_not c h = both_or_not _ _ (same_or_not h.pldm_type (type_of c)) (same_or_not h.command (command_byte c))

command_or_none : (h : HeaderValue) → ((c : Command) × IsOf c h) ⊎ ((c : Command) → ¬ IsOf c h)
command_or_none h = elim (of_or_not SetTid h) [
  | inl is ↦ inl (SetTid, is)
  | inr a ↦ elim (of_or_not GetTid h) [
    | inl is ↦ inl (GetTid, is)
    | inr b ↦ elim (of_or_not GetPldmTypes h) [
      | inl is ↦ inl (GetPldmTypes, is)
      | inr c ↦ elim (of_or_not GetPdr h) [ inl is ↦ inl (GetPdr, is) | inr d ↦ inr (no_command h a b c d) ]
    ]
  ]
]
  where
    no_command : (h : HeaderValue) → ¬ IsOf SetTid h → ¬ IsOf GetTid h → ¬ IsOf GetPldmTypes h → ¬ IsOf GetPdr h → (c : Command) → ¬ IsOf c h
    no_command h a b c d SetTid = a
    no_command h a b c d GetTid = b
    no_command h a b c d GetPldmTypes = c
    no_command h a b c d GetPdr = d

pub record SomeReply (h : HeaderValue) (tid : ℕ) (records : List Entry) (asked : List ℕ) : Type 0 where
  pub reply : List ℕ
  pub tid_after : ℕ
  pub answers : AnswersCommand h tid records asked reply tid_after

some_command : (h : HeaderValue) (tid : ℕ) (records : List Entry) (asked : List ℕ) → RecordsOfBytes records → EachByte asked → SomeReply h tid records asked
some_command h tid records asked all bytes = elim (both_or_not _ _ (not_or_not _ (same_or_not h.pldm_type 0)) (not_or_not _ (same_or_not h.pldm_type 2))) [
  | inl unknown ↦ record { reply = 0x20 ∷ []; tid_after = tid; answers = inl (unknown, (refl, refl)) }
  | inr known ↦ elim (command_or_none h) [
    | inr none ↦ record { reply = 0x05 ∷ []; tid_after = tid; answers = inr (known, inl (none, (refl, refl))) }
    | inl (c, is) ↦ elim (same_or_not (length asked) (request_length c)) [
      | inr other ↦ record { reply = 0x03 ∷ []; tid_after = tid; answers = inr (known, inr ((λ none. none c is), (c, is, inl (other, (refl, refl))))) }
      | inl long ↦
          let d = some_data c tid records asked all bytes long in
          record { reply = d.reply; tid_after = d.tid_after; answers = inr (known, inr ((λ none. none c is), (c, is, inr ((λ other. other long), d.answers)))) }
    ]
  ]
]

asked_or_not : (request : List ℕ) → OrNot (IsAsked request)
asked_or_not [] = inr (λ (h, (is, same), kind). let e = ap length same in omega arith)
asked_or_not (a ∷ []) = inr (λ (h, (is, same), kind). let e = ap length same in omega arith)
asked_or_not (a ∷ b ∷ []) = inr (λ (h, (is, same), kind). let e = ap length same in omega arith)
asked_or_not (a ∷ b ∷ c ∷ []) = inr (λ (h, (is, same), kind). let e = ap length same in omega arith)
asked_or_not (a ∷ b ∷ c ∷ d ∷ rest) =
    elim (both_or_not _ _ (same_or_not a 1) (both_or_not _ _ (same_or_not (b / 64) 2) (both_or_not _ _ (less_or_not c 64) (less_or_not d 256)))) [
      | inl (first, (second, (third, fourth))) ↦
          let reserved = flag_of (b / 32 % 2) (omega arith) in
          let h : HeaderValue = record { kind = Request; reserved = reserved.0; instance = b % 32; pldm_type = c; command = d } in
          let byte : b ≡ instance_byte h = omega (arith, reserved.1) in
          inl (h, (record { instance = omega arith; pldm_type = third; command = fourth }, λ n. first n ∷ byte n ∷ c ∷ d ∷ []), refl)
      | inr not ↦ inr (λ (h, (is, same), kind). not (parts h is same kind))
    ]
  where
    parts : (h : HeaderValue) → IsHeader h → take 4 (a ∷ b ∷ c ∷ d ∷ rest) ≡ header_bytes h → h.kind ≡ Request → (a ≡ 1) × ((b / 64 ≡ 2) × ((c < 64) × (d < 256)))
    parts h is same kind =
        let first : a ≡ 1 = cc in
        let second : b ≡ instance_byte h = cc in
        let third : c ≡ h.pldm_type = cc in
        let fourth : d ≡ h.command = cc in
        let instance = is.instance in
        let pldm_type = is.pldm_type in
        let command = is.command in
        let reserved = bit_most h.reserved in
        let byte : b ≡ 64 * 2 + 32 * bit h.reserved + h.instance = second ∙ rw kind refl in
        (first, (omega arith, (omega arith, omega arith)))

pub bytes_drop : (n : ℕ) (bytes : List ℕ) → EachByte bytes → EachByte (drop n bytes)
bytes_drop zero bytes all = all
bytes_drop (suc n) [] all = all
bytes_drop (suc n) (b ∷ bytes) all = bytes_drop n bytes all.1

-- an answer, or none, and the TID afterwards
pub record SomeAnswer (tid : ℕ) (records : List Entry) (request : List ℕ) : Type 0 where
  pub answer : Option (List ℕ)
  pub tid_after : ℕ
  pub answers : Answers tid records request answer tid_after

pub some_answering : (tid : ℕ) (records : List Entry) (request : List ℕ) → All (λ e. All (λ b. b < 256) e.bytes) records → All (λ b. b < 256) request → SomeAnswer tid records request
some_answering tid records request all bytes = elim (asked_or_not request) [
  | inr not ↦ record { answer = None; tid_after = tid; answers = inl (not, (refl, refl)) }
  | inl (h, begins, kind) ↦
      let c = some_command h tid records (drop 4 request) (records_of_bytes records all) (bytes_drop 4 request (each_byte request bytes)) in
      record {
        answer = Some (header_bytes (reply_header h) ++ c.reply);
        tid_after = c.tid_after;
        answers = inr ((λ not. not (h, begins, kind)), (h, c.reply, begins, refl, c.answers));
      }
]
