-- No two headers have the same bytes.
use Rattle.std.{specs.Prelude.{◌≡◌, ℕ, ◌<◌, ◌≤◌, ◌+◌, ◌*◌, refl}, proofs.Common.{arith}}
use Rattle.mctp_transport.{specs.PacketValues.{bit}, specs.Bits.{bit_most, bit_one}}
use Rattle.pldm_message.{specs.declared.kind.MessageKind.{MessageKind}, specs.declared.kind.MessageKind.TheVariants.{Request, Datagram, Response}, specs.Headers.{HeaderValue, IsHeader, header_bytes, instance_byte, kind_bits}}

-- the two bits say what a message is
pub kind_one : (a b : MessageKind) → kind_bits a ≡ kind_bits b → a ≡ b
kind_one Request Request e = refl
kind_one Datagram Datagram e = refl
kind_one Response Response e = refl
kind_one Request Datagram e = absurd (omega arith)
kind_one Request Response e = absurd (omega arith)
kind_one Datagram Request e = absurd (omega arith)
kind_one Datagram Response e = absurd (omega arith)
kind_one Response Request e = absurd (omega arith)
kind_one Response Datagram e = absurd (omega arith)

-- digits in the places 64, 32 and 1: from the sum each is known
pub record SameDigits (k r i k' r' i' : ℕ) : Type 0 where
  pub first : k ≡ k'
  pub second : r ≡ r'
  pub third : i ≡ i'

pub digits : (k r i k' r' i' : ℕ) → r ≤ 1 → i < 32 → r' ≤ 1 → i' < 32 → 64 * k + 32 * r + i ≡ 64 * k' + 32 * r' + i'
    → SameDigits k r i k' r' i'
digits k r i k' r' i' hr hi hr' hi' e = record { first = omega arith; second = omega arith; third = omega arith }

-- headers are equal where their fields are
same_header : (m n : HeaderValue) → m.kind ≡ n.kind → m.reserved ≡ n.reserved → m.instance ≡ n.instance
    → m.pldm_type ≡ n.pldm_type → m.command ≡ n.command → m ≡ n
same_header m n k r i t c = λ j. record { kind = k j; reserved = r j; instance = i j; pldm_type = t j; command = c j }

pub one_header : (m n : HeaderValue) → IsHeader m → IsHeader n → header_bytes m ≡ header_bytes n → m ≡ n
one_header m n hm hn e =
    let byte : instance_byte m ≡ instance_byte n = cc in
    let d =
    digits (kind_bits m.kind) (bit m.reserved) m.instance (kind_bits n.kind) (bit n.reserved) n.instance
    (bit_most m.reserved) hm.instance (bit_most n.reserved) hn.instance byte in
    same_header m n (kind_one m.kind n.kind d.first) (bit_one m.reserved n.reserved d.second) d.third (cc) (cc)
