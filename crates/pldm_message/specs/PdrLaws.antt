-- No two requests for parts, and no two parts, have the same bytes.
use Rattle.std.{specs.Prelude.{◌≡◌, ℕ, ◌<◌, ◌^◌, ◌+◌, ◌/◌, ◌%◌, List, [], ◌∷◌, ◌++◌, length, Option, Some, None, take, drop, refl, is_some, ◌==◌}, proofs.Common.{arith, ap, length-append}, specs.Option.{option_to_list}}
use Rattle.byteorder.specs.Endian.{little_bytes}
use Rattle.mctp_transport.specs.Wire.{Spells}
use Rattle.pldm_message.{specs.MessageLaws.{IsOneValue, one_request, one_answer}, specs.Pdrs.{PartRequest, IsPartRequest, part_request_bytes, Part, IsPart, part_bytes, IsGetPdrRequest, get_pdr_request_bytes, IsGetPdrResponse, get_pdr_answer_bytes, check_length, part_length}}
use Rattle.pldm_message.specs.declared.command.Command.TheVariants as command

-- a number of four bytes is known by them
four : (a b : ℕ) → a < 2 ^ 32 → b < 2 ^ 32 → little_bytes 4 a ≡ little_bytes 4 b → a ≡ b
four a b ha hb e =
    let e0 : a % 256 ≡ b % 256 = cc in
    let e1 : a / 256 % 256 ≡ b / 256 % 256 = cc in
    let e2 : a / 65536 % 256 ≡ b / 65536 % 256 = cc in
    let e3 : a / 16777216 % 256 ≡ b / 16777216 % 256 = cc in
    omega arith

two : (a b : ℕ) → a < 2 ^ 16 → b < 2 ^ 16 → little_bytes 2 a ≡ little_bytes 2 b → a ≡ b
two a b ha hb e =
    let e0 : a % 256 ≡ b % 256 = cc in
    let e1 : a / 256 % 256 ≡ b / 256 % 256 = cc in
    omega arith

same_part_request : (m n : PartRequest) → m.handle ≡ n.handle → m.transfer ≡ n.transfer → m.operation ≡ n.operation
    → m.count ≡ n.count → m.change ≡ n.change → m ≡ n
same_part_request m n h t o c g =
    λ j. record { handle = h j; transfer = t j; operation = o j; count = c j; change = g j }

one_part_request : IsOneValue IsPartRequest part_request_bytes
one_part_request m n hm hn e =
    let handle : little_bytes 4 m.handle ≡ little_bytes 4 n.handle = ap (take 4) e in
    let transfer : little_bytes 4 m.transfer ≡ little_bytes 4 n.transfer = ap (λ xs. take 4 (drop 4 xs)) e in
    let operation : m.operation ≡ n.operation = cc in
    let count : little_bytes 2 m.count ≡ little_bytes 2 n.count = ap (λ xs. take 2 (drop 9 xs)) e in
    let change : little_bytes 2 m.change ≡ little_bytes 2 n.change = ap (drop 11) e in
    same_part_request m n (four m.handle n.handle hm.handle hn.handle handle)
    (four m.transfer n.transfer hm.transfer hn.transfer transfer) operation
    (two m.count n.count hm.count hn.count count) (two m.change n.change hm.change hn.change change)

pub one_get_pdr_request : IsOneValue IsGetPdrRequest get_pdr_request_bytes
one_get_pdr_request m n hm hn e =
    one_request command.GetPdr IsPartRequest part_request_bytes one_part_request m n hm hn e

same_part : (m n : Part) → m.next ≡ n.next → m.transfer ≡ n.transfer → m.flag ≡ n.flag → m.bytes ≡ n.bytes
    → m.crc ≡ n.crc → m ≡ n
same_part m n x t f b c = λ j. record { next = x j; transfer = t j; flag = f j; bytes = b j; crc = c j }

-- lists of one length at the front of equal lists are equal, and so is what follows them
fronts : (xs ys us vs : List ℕ) → length xs ≡ length ys → xs ++ us ≡ ys ++ vs → (xs ≡ ys) × (us ≡ vs)
fronts [] [] us vs l e = (refl, e)
fronts [] (y ∷ ys) us vs l e = absurd (omega arith)
fronts (x ∷ xs) [] us vs l e = absurd (omega arith)
fronts (x ∷ xs) (y ∷ ys) us vs l e =
    let head : x ≡ y = cc in
    let tail : xs ++ us ≡ ys ++ vs = cc in
    let later = fronts xs ys us vs (omega arith) tail in
    ((λ j. head j ∷ later.0 j), later.1)

listed : (a b : Option ℕ) → option_to_list a ≡ option_to_list b → a ≡ b
listed None None e = refl
listed None (Some y) e = absurd (cc)
listed (Some x) None e = absurd (cc)
listed (Some x) (Some y) e = let same : x ≡ y = cc in ap Some same

pub one_part : IsOneValue IsPart part_bytes
one_part m n hm hn e =
    let next : little_bytes 4 m.next ≡ little_bytes 4 n.next = ap (take 4) e in
    let transfer : little_bytes 4 m.transfer ≡ little_bytes 4 n.transfer = ap (λ xs. take 4 (drop 4 xs)) e in
    let flag : m.flag ≡ n.flag = cc in
    let count : little_bytes 2 (length m.bytes) ≡ little_bytes 2 (length n.bytes) = ap (λ xs. take 2 (drop 9 xs)) e in
    let rest : m.bytes ++ option_to_list m.crc ≡ n.bytes ++ option_to_list n.crc = ap (drop 11) e in
    let both =
    fronts m.bytes n.bytes (option_to_list m.crc) (option_to_list n.crc)
    (two (length m.bytes) (length n.bytes) hm.count hn.count count) rest in
    same_part m n (four m.next n.next hm.next hn.next next)
    (four m.transfer n.transfer hm.transfer hn.transfer transfer) flag both.0 (listed m.crc n.crc both.1)

length-listed : (flag : ℕ) (a : Option ℕ) → is_some a ≡ (flag == 4) → length (option_to_list a) ≡ check_length flag
length-listed flag None e = rw (← e) refl
length-listed flag (Some x) e = rw (← e) refl

-- a part's bytes are as long as their numbers say
pub part_is_as_long : (m : Part) (bytes : List ℕ) → Spells IsPart part_bytes m bytes → length bytes ≡ part_length bytes
part_is_as_long m bytes h =
    let numbers : part_length bytes ≡ 11 + length m.bytes + check_length m.flag = rw h.1 (omega (arith, h.0.count)) in
    let long : length bytes ≡ 11 + length (m.bytes ++ option_to_list m.crc) = rw h.1 (omega arith) in
    let check = length-listed m.flag m.crc h.0.checked in
    omega (arith, numbers, long, check, length-append m.bytes (option_to_list m.crc))

pub one_get_pdr_answer : IsOneValue IsGetPdrResponse get_pdr_answer_bytes
one_get_pdr_answer m n hm hn e = one_answer command.GetPdr IsPart part_bytes one_part m n hm hn e
