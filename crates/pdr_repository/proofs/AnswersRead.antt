-- Whatever the bytes, they begin with a header or don't, and are an answer to a request for a part or are none.
use Rattle.std.{proofs.Common.{◌≡◌, ◌≢◌, ◌⊎◌, ℕ, zero, suc, ◌+◌, ◌*◌, ◌/◌, ◌%◌, ◌<◌, ◌≤◌, true, false, nat_eq, List, [], ◌∷◌, ◌++◌, length, take, drop, Option, Some, None, Ok, Err, refl, sym, ap, ◌∙◌, inl, inr, arith}, specs.Option.{option_to_list}, proofs.lemmas.Bool.{cases_lt}, proofs.lemmas.Bool.Decides.{eqb_tells}, proofs.lemmas.List.{append-nil, length_push}, proofs.lemmas.Option.{same_Some}}
use Rattle.mctp_transport.{specs.Bits.{bit_most}, proofs.Spellings.{flag_of}}
use Rattle.pldm_message.{specs.declared.kind.MessageKind.{MessageKind}, specs.declared.kind.MessageKind.TheVariants.{Request, Datagram, Response}, specs.declared.command.Command.TheVariants.{GetPdr}, specs.Commands.{type_of, command_byte}, specs.Headers.{HeaderValue, IsHeader, header_bytes, kind_bits, instance_byte, BeginsWith}, specs.Messages.{ResponseMessage, ResponseHeadValue, answer_header}, specs.Pdrs.{Part, IsPart, part_bytes, IsChecked}}
use Rattle.pdr_repository.{specs.Parts.{PartAnswer}, specs.Walkers.{IsAnswerIn}, proofs.SomeAnswers.{EachByte}, proofs.Deciding.{OrNot, both_or_not, same_or_not, less_or_not}, proofs.Searching.{each_or_not, three_or_not, four_or_not}}

-- ---- headers

-- two bits say what a message is, or nothing
kind_or_none : (bits : ℕ) → ((kind : MessageKind) × (kind_bits kind ≡ bits)) ⊎ ((kind : MessageKind) → kind_bits kind ≢ bits)
kind_or_none bits = elim (same_or_not 2 bits) [
  | inl is ↦ inl (Request, is)
  | inr a ↦ elim (same_or_not 3 bits) [
    | inl is ↦ inl (Datagram, is)
    | inr b ↦ elim (same_or_not 0 bits) [ inl is ↦ inl (Response, is) | inr c ↦ inr (none a b c) ]
  ]
]
  where
    none : ¬ (2 ≡ bits) → ¬ (3 ≡ bits) → ¬ (0 ≡ bits) → (kind : MessageKind) → kind_bits kind ≢ bits
    none a b c Request = a
    none a b c Datagram = b
    none a b c Response = c

pub header_or_none : (bytes : List ℕ) → ((h : HeaderValue) × BeginsWith h bytes) ⊎ ((h : HeaderValue) → ¬ BeginsWith h bytes)
header_or_none [] = inr (λ h begins. let e = ap length begins.1 in omega arith)
header_or_none (a ∷ []) = inr (λ h begins. let e = ap length begins.1 in omega arith)
header_or_none (a ∷ b ∷ []) = inr (λ h begins. let e = ap length begins.1 in omega arith)
header_or_none (a ∷ b ∷ c ∷ []) = inr (λ h begins. let e = ap length begins.1 in omega arith)
header_or_none (a ∷ b ∷ c ∷ d ∷ rest) = elim (three_or_not _ _ _ (same_or_not a 1) (less_or_not c 64) (less_or_not d 256)) [
  | inr not ↦ inr (λ h (is, same). not (others h is same))
  | inl (first, third, fourth) ↦ elim (kind_or_none (b / 64)) [
    | inr none ↦ inr (λ h (is, same). none h.kind (bits h is same))
    | inl (kind, is) ↦
        let reserved = flag_of (b / 32 % 2) (omega arith) in
        let h : HeaderValue = record { kind = kind; reserved = reserved.0; instance = b % 32; pldm_type = c; command = d } in
        let byte : b ≡ instance_byte h = omega (arith, reserved.1, is) in
        inl (h, (record { instance = omega arith; pldm_type = third; command = fourth }, λ n. first n ∷ byte n ∷ c ∷ d ∷ []))
  ]
]
  where
    others : (h : HeaderValue) → IsHeader h → take 4 (a ∷ b ∷ c ∷ d ∷ rest) ≡ header_bytes h → (a ≡ 1) × (c < 64) × (d < 256)
    others h is same =
        let first : a ≡ 1 = cc in
        let third : c ≡ h.pldm_type = cc in
        let fourth : d ≡ h.command = cc in
        let pldm_type = is.pldm_type in
        let command = is.command in
        (first, omega arith, omega arith)

    bits : (h : HeaderValue) → IsHeader h → take 4 (a ∷ b ∷ c ∷ d ∷ rest) ≡ header_bytes h → kind_bits h.kind ≡ b / 64
    bits h is same =
        let second : b ≡ instance_byte h = cc in
        let instance = is.instance in
        let reserved = bit_most h.reserved in
        omega arith

-- ---- parts

-- a list of a known length ends with one item
last_split : (count : ℕ) (xs : List ℕ) → length xs ≡ count + 1 → (front : List ℕ) × (x : ℕ) × (xs ≡ front ++ x ∷ []) × (length front ≡ count)
last_split count [] long = absurd (omega arith)
last_split zero (x ∷ []) long = ([], x, refl, refl)
last_split zero (x ∷ y ∷ xs) long = absurd (omega arith)
last_split (suc count) (x ∷ xs) long =
    let rest = last_split count xs (omega arith) in
    (x ∷ rest.0, rest.1, ap (λ (ys : List ℕ). x ∷ ys) rest.2, ap suc rest.3)

same_last : (bs cs : List ℕ) (x y : ℕ) → bs ++ x ∷ [] ≡ cs ++ y ∷ [] → length bs ≡ length cs → x ≡ y
same_last [] [] x y e long = cc
same_last [] (c ∷ cs) x y e long = absurd (omega (arith, long))
same_last (b ∷ bs) [] x y e long = absurd (omega (arith, long))
same_last (b ∷ bs) (c ∷ cs) x y e long = same_last bs cs x y (cc) (omega (arith, long))

-- what follows the numbers of a part are its bytes and its check byte, or nothing is
checked_or_none : (tail : List ℕ) (count flag : ℕ) → ((bytes : List ℕ) × (crc : Option ℕ) × IsChecked tail count flag bytes crc) ⊎ ((bytes : List ℕ) (crc : Option ℕ) → ¬ IsChecked tail count flag bytes crc)
checked_or_none tail count flag = elim (eqb_tells flag 4) [
  | inl end ↦ elim (same_or_not (length tail) (count + 1)) [
    | inr other ↦ inr (λ bytes crc is. other (ended bytes crc end.0 is).1)
    | inl long ↦
        let split = last_split count tail long in
        elim (less_or_not split.1 256) [
          | inl small ↦ inl (
            split.0,
            Some split.1,
            record {
              spelled = split.2;
              counted = split.3;
              checked = sym end.0;
              in_range = λ byte same. let e : split.1 ≡ byte = same_Some split.1 byte same in omega arith;
            },
          )
          | inr large ↦ inr (λ bytes crc is. large (
              let e = ended bytes crc end.0 is in
              let same : split.1 ≡ e.0 = same_last split.0 bytes split.1 e.0 (sym split.2 ∙ is.spelled ∙ ap (λ o. bytes ++ option_to_list o) e.2) (split.3 ∙ sym is.counted) in
              let small = is.in_range e.0 e.2 in
              omega arith))
        ]
  ]
  | inr going ↦ elim (same_or_not (length tail) count) [
    | inl long ↦ inl (tail, None, record { spelled = sym (append-nil tail); counted = long; checked = sym going.0; in_range = λ byte same. absurd (cc) })
    | inr other ↦ inr (λ bytes crc is. other (alone bytes crc going.0 is))
  ]
]
  where
    ended : (bytes : List ℕ) (crc : Option ℕ) → nat_eq flag 4 ≡ true → IsChecked tail count flag bytes crc → (byte : ℕ) × (length tail ≡ count + 1) × (crc ≡ Some byte)
    ended bytes None end is = absurd (let e : false ≡ true = is.checked ∙ end in cc)
    ended bytes (Some byte) end is = (byte, ap length is.spelled ∙ length_push bytes byte ∙ ap (λ n. n + 1) is.counted, refl)

    alone : (bytes : List ℕ) (crc : Option ℕ) → nat_eq flag 4 ≡ false → IsChecked tail count flag bytes crc → length tail ≡ count
    alone bytes None going is = ap length is.spelled ∙ ap length (append-nil bytes) ∙ is.counted
    alone bytes (Some byte) going is = absurd (let e : true ≡ false = is.checked ∙ going in cc)

-- the data of an answer are a part's
abbrev IsPartIn : List ℕ → Part → Type 0
IsPartIn tail p = IsPart p × (tail ≡ part_bytes p)

part_or_none : (tail : List ℕ) → ((p : Part) × IsPartIn tail p) ⊎ ((p : Part) → ¬ IsPartIn tail p)
part_or_none tail = elim (cases_lt (length tail) 11) [
  | inl short ↦ inr (λ p is. let long = ap length is.1 in omega arith)
  | inr long ↦ by tail long
]
  where
    by : (tail : List ℕ) → 11 ≤ length tail → ((p : Part) × IsPartIn tail p) ⊎ ((p : Part) → ¬ IsPartIn tail p)
    by (a ∷ b ∷ c ∷ d ∷ e ∷ f ∷ g ∷ h ∷ o ∷ i ∷ j ∷ rest) long =
        elim (each_or_not (λ n. n < 256) (λ n. less_or_not n 256) (a ∷ b ∷ c ∷ d ∷ e ∷ f ∷ g ∷ h ∷ o ∷ i ∷ j ∷ [])) [
          | inr not ↦ inr (λ p is. not (numbers p is))
          | inl (pa, (pb, (pc, (pd, (pe, (pf, (pg, (ph, (po, (pi, (pj, none))))))))))) ↦ elim (checked_or_none rest (i + 256 * j) o) [
            | inr not ↦ inr (λ p is. not p.bytes p.crc (checked p is))
            | inl (bytes, crc, is) ↦
                let p : Part = record {
                  next = a + 256 * b + 65536 * c + 16777216 * d;
                  transfer = e + 256 * f + 65536 * g + 16777216 * h;
                  flag = o;
                  bytes = bytes;
                  crc = crc;
                } in
                let counted = is.counted in
                let a' : a ≡ p.next % 256 = omega arith in
                let b' : b ≡ p.next / 256 % 256 = omega arith in
                let c' : c ≡ p.next / 65536 % 256 = omega arith in
                let d' : d ≡ p.next / 16777216 % 256 = omega arith in
                let e' : e ≡ p.transfer % 256 = omega arith in
                let f' : f ≡ p.transfer / 256 % 256 = omega arith in
                let g' : g ≡ p.transfer / 65536 % 256 = omega arith in
                let h' : h ≡ p.transfer / 16777216 % 256 = omega arith in
                let i' : i ≡ length bytes % 256 = omega arith in
                let j' : j ≡ length bytes / 256 % 256 = omega arith in
                let r' = is.spelled in
                inl (
                  p,
                  (
                    record { next = omega arith; transfer = omega arith; flag = po; count = omega arith; checked = is.checked; crc = is.in_range },
                    λ n. a' n ∷ b' n ∷ c' n ∷ d' n ∷ e' n ∷ f' n ∷ g' n ∷ h' n ∷ o ∷ i' n ∷ j' n ∷ r' n,
                  ),
                )
          ]
        ]
      where
        whole : List ℕ
        whole = a ∷ b ∷ c ∷ d ∷ e ∷ f ∷ g ∷ h ∷ o ∷ i ∷ j ∷ rest

        numbers : (p : Part) → IsPartIn whole p → EachByte (a ∷ b ∷ c ∷ d ∷ e ∷ f ∷ g ∷ h ∷ o ∷ i ∷ j ∷ [])
        numbers p (is, same) =
            let a' : a ≡ p.next % 256 = cc in
            let b' : b ≡ p.next / 256 % 256 = cc in
            let c' : c ≡ p.next / 65536 % 256 = cc in
            let d' : d ≡ p.next / 16777216 % 256 = cc in
            let e' : e ≡ p.transfer % 256 = cc in
            let f' : f ≡ p.transfer / 256 % 256 = cc in
            let g' : g ≡ p.transfer / 65536 % 256 = cc in
            let h' : h ≡ p.transfer / 16777216 % 256 = cc in
            let o' : o ≡ p.flag = cc in
            let i' : i ≡ length p.bytes % 256 = cc in
            let j' : j ≡ length p.bytes / 256 % 256 = cc in
            let small = is.flag in
            (omega arith, (omega arith, (omega arith, (omega arith, (omega arith, (omega arith, (omega arith, (omega arith, (omega arith, (omega arith, (omega arith, tt)))))))))))

        checked : (p : Part) → IsPartIn whole p → IsChecked rest (i + 256 * j) o p.bytes p.crc
        checked p (is, same) =
            let o' : o ≡ p.flag = cc in
            let i' : i ≡ length p.bytes % 256 = cc in
            let j' : j ≡ length p.bytes / 256 % 256 = cc in
            let few = is.count in
            record {
              spelled = ap (drop 11) same;
              counted = omega arith;
              checked = is.checked ∙ ap (λ n. nat_eq n 4) (sym o');
              in_range = is.crc;
            }
    by tail long = absurd (omega arith)

-- ---- answers

pub answer_or_none : (bytes : List ℕ) → ((m : ResponseMessage Part) × IsAnswerIn bytes m) ⊎ ((m : ResponseMessage Part) → ¬ IsAnswerIn bytes m)
answer_or_none bytes = elim (cases_lt (length bytes) 5) [
  | inl short ↦ inr (λ m is. too_short m.head m.outcome short is)
  | inr long ↦ by bytes long
]
  where
    too_short : (head : ResponseHeadValue) (outcome : PartAnswer) → length bytes < 5 → ¬ IsAnswerIn bytes (record { head = head; outcome = outcome })
    too_short head (Ok p) short is = let e = ap length is.1 in omega arith
    too_short head (Err code) short is = let e = ap length is.1 in omega arith

    by : (bytes : List ℕ) → 5 ≤ length bytes → ((m : ResponseMessage Part) × IsAnswerIn bytes m) ⊎ ((m : ResponseMessage Part) → ¬ IsAnswerIn bytes m)
    by (a ∷ b ∷ c ∷ d ∷ k ∷ tail) long =
        elim (four_or_not _ _ _ _ (same_or_not a 1) (less_or_not b 64) (same_or_not c (type_of GetPdr)) (same_or_not d (command_byte GetPdr))) [
          | inr not ↦ inr (λ m is. not (front m.head m.outcome is))
          | inl (first, second, third, fourth) ↦
              let reserved = flag_of (b / 32 % 2) (omega arith) in
              let head : ResponseHeadValue = record { reserved = reserved.0; instance = b % 32 } in
              let byte : b ≡ instance_byte (answer_header GetPdr head) = omega (arith, reserved.1) in
              elim (same_or_not k 0) [
                | inl success ↦ elim (part_or_none tail) [
                  | inl (p, part) ↦ inl (record { head = head; outcome = Ok p }, ((omega arith, part.0), λ n. first n ∷ byte n ∷ third n ∷ fourth n ∷ success n ∷ part.1 n))
                  | inr none ↦ inr (λ m is. no_part m.head m.outcome success none is)
                ]
                | inr fails ↦ elim (both_or_not _ _ (less_or_not k 256) (empty tail)) [
                  | inl (small, nothing) ↦
                      inl (record { head = head; outcome = Err k }, ((omega arith, (omega arith, small)), λ n. first n ∷ byte n ∷ third n ∷ fourth n ∷ k ∷ nothing n))
                  | inr not ↦ inr (λ m is. no_code m.head m.outcome fails not is)
                ]
              ]
        ]
      where
        whole : List ℕ
        whole = a ∷ b ∷ c ∷ d ∷ k ∷ tail

        empty : (xs : List ℕ) → OrNot (xs ≡ [])
        empty [] = inl refl
        empty (x ∷ xs) = inr (λ e. cc)

        instance_small : (head : ResponseHeadValue) → head.instance < 32 → b ≡ instance_byte (answer_header GetPdr head) → b < 64
        instance_small head small is = let reserved = bit_most head.reserved in omega arith

        front : (head : ResponseHeadValue) (outcome : PartAnswer) → IsAnswerIn whole (record { head = head; outcome = outcome })
            → (a ≡ 1) × (b < 64) × (c ≡ type_of GetPdr) × (d ≡ command_byte GetPdr)
        front head (Ok p) ((small, part), same) =
            let byte : b ≡ instance_byte (answer_header GetPdr head) = cc in (cc, instance_small head small byte, cc, cc)
        front head (Err code) ((small, part), same) =
            let byte : b ≡ instance_byte (answer_header GetPdr head) = cc in (cc, instance_small head small byte, cc, cc)

        no_part : (head : ResponseHeadValue) (outcome : PartAnswer) → k ≡ 0 → ((p : Part) → ¬ IsPartIn tail p) → ¬ IsAnswerIn whole (record { head = head; outcome = outcome })
        no_part head (Ok p) success none ((small, part), same) = none p (part, ap (drop 5) same)
        no_part head (Err code) success none ((small, some), same) = let e : k ≡ code = cc in let positive = some.0 in omega arith

        no_code : (head : ResponseHeadValue) (outcome : PartAnswer) → ¬ (k ≡ 0) → ¬ ((k < 256) × (tail ≡ [])) → ¬ IsAnswerIn whole (record { head = head; outcome = outcome })
        no_code head (Ok p) fails not ((small, part), same) = fails (cc)
        no_code head (Err code) fails not ((small, some), same) = let e : k ≡ code = cc in let below = some.1 in not (omega arith, ap (drop 5) same)
    by bytes long = absurd (omega arith)
