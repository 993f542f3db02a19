-- No two packets have the same bytes.
use Rattle.std.{specs.Prelude.{◌≡◌, ℕ, ◌<◌, ◌≤◌, ◌+◌, ◌*◌}, proofs.Common.{arith}}
use Rattle.mctp_transport.{specs.PacketValues.{PacketValue, IsPacketValue, packet_value_bytes, bit, flag_byte, version_byte}, specs.Bits.{bit_most, bit_one}}

-- digits in the places 128, 64, 16, 8 and 1: from the sum each is known
pub record SameDigits (a b n c t a' b' n' c' t' : ℕ) : Type 0 where
  pub first : a ≡ a'
  pub second : b ≡ b'
  pub third : n ≡ n'
  pub fourth : c ≡ c'
  pub fifth : t ≡ t'

digits : (a b n c t a' b' n' c' t' : ℕ) → a ≤ 1 → b ≤ 1 → n < 4 → c ≤ 1 → t < 8 → a' ≤ 1 → b' ≤ 1 → n' < 4 → c' ≤ 1
    → t' < 8
    → 128 * a + 64 * b + 16 * n + 8 * c + t ≡ 128 * a' + 64 * b' + 16 * n' + 8 * c' + t'
    → SameDigits a b n c t a' b' n' c' t'
digits a b n c t a' b' n' c' t' ha hb hn hc ht ha' hb' hn' hc' ht' e = record {
  first = omega arith;
  second = omega arith;
  third = omega arith;
  fourth = omega arith;
  fifth = omega arith;
}

-- frames are equal where their fields are
same_frame : (m n : PacketValue) → m.reserved ≡ n.reserved → m.destination ≡ n.destination → m.source ≡ n.source
    → m.som ≡ n.som → m.eom ≡ n.eom
    → m.number ≡ n.number → m.owner ≡ n.owner → m.tag ≡ n.tag → m.payload ≡ n.payload → m ≡ n
same_frame m n r d s a b q o t p =
    λ i. record {
      reserved = r i;
      destination = d i;
      source = s i;
      som = a i;
      eom = b i;
      number = q i;
      owner = o i;
      tag = t i;
      payload = p i;
    }

pub one_packet_value : (unit : ℕ) (m n : PacketValue) → IsPacketValue unit m → IsPacketValue unit n
    → packet_value_bytes m ≡ packet_value_bytes n → m ≡ n
one_packet_value unit m n hm hn e =
    let e0 : version_byte m ≡ version_byte n = cc in
    let e3 : flag_byte m ≡ flag_byte n = cc in
    let f =
    digits (bit m.som) (bit m.eom) m.number (bit m.owner) m.tag (bit n.som) (bit n.eom) n.number (bit n.owner) n.tag
    (bit_most m.som) (bit_most m.eom) hm.number (bit_most m.owner) hm.tag (bit_most n.som) (bit_most n.eom)
    hn.number (bit_most n.owner) hn.tag e3 in
    same_frame m n (omega arith) (cc) (cc) (bit_one m.som n.som f.first) (bit_one m.eom n.eom f.second) f.third
    (bit_one m.owner n.owner f.fourth) f.fifth (cc)
