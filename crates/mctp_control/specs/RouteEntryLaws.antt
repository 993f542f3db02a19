-- No two entries have the same bytes.
use Rattle.std.specs.Prelude.{◌≡◌}
use Rattle.mctp_transport.{specs.PacketValues.{bit}, specs.Bits.{bit_most, bit_one}}
use Rattle.mctp_control.{specs.Digits.{digits_64_32}, specs.RouteEntries.{EntryValue, IsEntry, entry_bytes, port_byte}}

-- entries are equal where their fields are
same_entry : (m n : EntryValue) → m.size ≡ n.size → m.first ≡ n.first → m.kind ≡ n.kind → m.fixed ≡ n.fixed
    → m.port ≡ n.port → m.binding ≡ n.binding → m.media ≡ n.media → m.address ≡ n.address → m ≡ n
same_entry m n s f k x p b d a =
    λ i. record {
      size = s i;
      first = f i;
      kind = k i;
      fixed = x i;
      port = p i;
      binding = b i;
      media = d i;
      address = a i;
    }

pub one_entry : (m n : EntryValue) → IsEntry m → IsEntry n → entry_bytes m ≡ entry_bytes n → m ≡ n
one_entry m n hm hn e =
    let e2 : port_byte m ≡ port_byte n = cc in
    let f =
    digits_64_32 m.kind (bit m.fixed) m.port n.kind (bit n.fixed) n.port (bit_most m.fixed) hm.port
    (bit_most n.fixed) hn.port e2 in
    same_entry m n (cc) (cc) f.first (bit_one m.fixed n.fixed f.second) f.third (cc) (cc) (cc)
