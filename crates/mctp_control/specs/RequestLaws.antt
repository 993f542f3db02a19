-- No two requests have the same bytes.
use Rattle.std.{specs.Prelude.{◌≡◌, ℕ, ◌<◌, ◌+◌, ◌*◌, refl}, proofs.Common.{arith}}
use Rattle.mctp_transport.{specs.PacketValues.{bit}, specs.Bits.{bit_most, bit_one}}
use Rattle.mctp_control.{specs.Digits.{digits_4, digits_64_32}, specs.Headers.{HeaderValue, header_byte}, specs.Requests.{CommandValue, SetsEid, GetsEid, AllocatesEids, GetsEntries, RequestValue, IsCommand, IsRequest, command_bytes, request_bytes}}

-- headers are equal where their bytes are
pub one_header : (rq : ℕ) (g h : HeaderValue) → g.instance < 32 → h.instance < 32 → header_byte rq g ≡ header_byte rq h
    → g ≡ h
one_header rq g h hg hh e =
    let f =
    digits_64_32 (2 * rq + bit g.datagram) (bit g.reserved) g.instance (2 * rq + bit h.datagram)
    (bit h.reserved) h.instance
    (bit_most g.reserved) hg (bit_most h.reserved) hh (omega arith) in
    let d : g.datagram ≡ h.datagram = bit_one g.datagram h.datagram (omega (arith, f.first)) in
    let r : g.reserved ≡ h.reserved = bit_one g.reserved h.reserved f.second in
    let n : g.instance ≡ h.instance = f.third in
    λ i. record { datagram = d i; reserved = r i; instance = n i }

one_command : (c d : CommandValue) → IsCommand c → IsCommand d → command_bytes c ≡ command_bytes d → c ≡ d
one_command (SetsEid o r x) (SetsEid o' r' x') hc hd e =
    let f = digits_4 r o r' o' hc.0 hd.0 (cc) in
    let k : x ≡ x' = cc in
    λ i. SetsEid (f.second i) (f.first i) (k i)
one_command GetsEid GetsEid hc hd e = refl
one_command (AllocatesEids o r s x) (AllocatesEids o' r' s' x') hc hd e =
    let f = digits_4 r o r' o' hc.0 hd.0 (cc) in
    let j : s ≡ s' = cc in
    let k : x ≡ x' = cc in
    λ i. AllocatesEids (f.second i) (f.first i) (j i) (k i)
one_command (GetsEntries n) (GetsEntries n') hc hd e = let k : n ≡ n' = cc in λ i. GetsEntries (k i)
one_command (SetsEid o r x) GetsEid hc hd e = cc
one_command (SetsEid o r x) (AllocatesEids o' r' s' x') hc hd e = cc
one_command (SetsEid o r x) (GetsEntries n') hc hd e = cc
one_command GetsEid (SetsEid o' r' x') hc hd e = cc
one_command GetsEid (AllocatesEids o' r' s' x') hc hd e = cc
one_command GetsEid (GetsEntries n') hc hd e = cc
one_command (AllocatesEids o r s x) (SetsEid o' r' x') hc hd e = cc
one_command (AllocatesEids o r s x) GetsEid hc hd e = cc
one_command (AllocatesEids o r s x) (GetsEntries n') hc hd e = cc
one_command (GetsEntries n) (SetsEid o' r' x') hc hd e = cc
one_command (GetsEntries n) GetsEid hc hd e = cc
one_command (GetsEntries n) (AllocatesEids o' r' s' x') hc hd e = cc

pub one_request : (m n : RequestValue) → IsRequest m → IsRequest n → request_bytes m ≡ request_bytes n → m ≡ n
one_request m n hm hn e =
    let h : m.header ≡ n.header = one_header 1 m.header n.header hm.instance hn.instance (cc) in
    let c : m.command ≡ n.command = one_command m.command n.command hm.command hn.command (cc) in
    λ i. record { header = h i; command = c i }
