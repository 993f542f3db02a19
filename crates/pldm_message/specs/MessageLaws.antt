-- No two messages of a command have the same bytes, where no two of their data have.
use Rattle.std.{specs.Prelude.{◌≡◌, ℕ, List, Result, Ok, Err, refl}, proofs.Common.{arith, ap}}
use Rattle.mctp_transport.{specs.PacketValues.{bit}, specs.Bits.{bit_most, bit_one}}
use Rattle.pldm_message.{specs.declared.kind.RequestKind.{RequestKind}, specs.declared.kind.RequestKind.TheVariants.{Request, Datagram}, specs.declared.command.Command.{Command}, specs.Headers.{instance_byte, kind_bits}, specs.HeaderLaws.{digits}, specs.Messages.{RequestHeadValue, ResponseHeadValue, RequestMessage, ResponseMessage, IsRequest, IsAnswer, IsOutcome, request_bytes, answer_bytes, outcome_bytes, request_header, answer_header, message_kind}}

-- no two values have one spelling
abbrev pub IsOneValue : {A : Type 0} → (A → Type 0) → (A → List ℕ) → Type 0
IsOneValue {A = A} lawful spelling = (m n : A) → lawful m → lawful n → spelling m ≡ spelling n → m ≡ n

request_one : (a b : RequestKind) → kind_bits (message_kind a) ≡ kind_bits (message_kind b) → a ≡ b
request_one Request Request e = refl
request_one Datagram Datagram e = refl
request_one Request Datagram e = absurd (omega arith)
request_one Datagram Request e = absurd (omega arith)

same_request_head : (m n : RequestHeadValue) → m.kind ≡ n.kind → m.reserved ≡ n.reserved → m.instance ≡ n.instance
    → m ≡ n
same_request_head m n k r i = λ j. record { kind = k j; reserved = r j; instance = i j }

same_answer_head : (m n : ResponseHeadValue) → m.reserved ≡ n.reserved → m.instance ≡ n.instance → m ≡ n
same_answer_head m n r i = λ j. record { reserved = r j; instance = i j }

same_request : {A : Type 0} (m n : RequestMessage A) → m.head ≡ n.head → m.body ≡ n.body → m ≡ n
same_request m n h d = λ j. record { head = h j; body = d j }

same_answer : {A : Type 0} (m n : ResponseMessage A) → m.head ≡ n.head → m.outcome ≡ n.outcome → m ≡ n
same_answer m n h o = λ j. record { head = h j; outcome = o j }

one_outcome : {A : Type 0} (lawful : A → Type 0) (spell : A → List ℕ) → IsOneValue lawful spell → (m n : Result A ℕ)
    → IsOutcome lawful m → IsOutcome lawful n → outcome_bytes spell m ≡ outcome_bytes spell n → m ≡ n
one_outcome lawful spell one (Ok a) (Ok b) hm hn e = ap Ok (one a b hm hn (cc))
one_outcome lawful spell one (Ok a) (Err d) hm hn e = let byte : 0 ≡ d = cc in absurd (omega (arith, hn.0, byte))
one_outcome lawful spell one (Err c) (Ok b) hm hn e = let byte : c ≡ 0 = cc in absurd (omega (arith, hm.0, byte))
one_outcome lawful spell one (Err c) (Err d) hm hn e = ap Err (cc)

pub one_request : {A : Type 0} (c : Command) (lawful : A → Type 0) (spell : A → List ℕ) → IsOneValue lawful spell
    → IsOneValue (IsRequest lawful) (request_bytes c spell)
one_request c lawful spell one m n hm hn e =
    let byte : instance_byte (request_header c m.head) ≡ instance_byte (request_header c n.head) = cc in
    let d =
    digits (kind_bits (message_kind m.head.kind)) (bit m.head.reserved) m.head.instance
    (kind_bits (message_kind n.head.kind)) (bit n.head.reserved) n.head.instance
    (bit_most m.head.reserved) hm.0 (bit_most n.head.reserved) hn.0 byte in
    let rest : spell m.body ≡ spell n.body = cc in
    same_request m n
    (same_request_head m.head n.head (request_one m.head.kind n.head.kind d.first)
    (bit_one m.head.reserved n.head.reserved d.second) d.third)
    (one m.body n.body hm.1 hn.1 rest)

pub one_answer : {A : Type 0} (c : Command) (lawful : A → Type 0) (spell : A → List ℕ) → IsOneValue lawful spell
    → IsOneValue (IsAnswer lawful) (answer_bytes c spell)
one_answer c lawful spell one m n hm hn e =
    let byte : instance_byte (answer_header c m.head) ≡ instance_byte (answer_header c n.head) = cc in
    let d = digits 0 (bit m.head.reserved) m.head.instance 0 (bit n.head.reserved) n.head.instance
    (bit_most m.head.reserved) hm.0 (bit_most n.head.reserved) hn.0 byte in
    let rest : outcome_bytes spell m.outcome ≡ outcome_bytes spell n.outcome = cc in
    same_answer m n (same_answer_head m.head n.head (bit_one m.head.reserved n.head.reserved d.second) d.third)
    (one_outcome lawful spell one m.outcome n.outcome hm.1 hn.1 rest)
