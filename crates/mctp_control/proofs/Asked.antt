-- A body that asks for a response, of a known command and the right length, is a request.
use Rattle.std.{proofs.Common.{◌≡◌, ℕ, suc, ◌+◌, ◌-◌, ◌*◌, ◌/◌, ◌%◌, ◌<◌, ◌≤◌, true, false, List, [], ◌∷◌, length, slice_index, refl, sym, subst, arith}, proofs.Math.Decide.{dec_le}}
use Rattle.mctp_control.{specs.Headers.{HeaderValue, header_byte}, specs.Requests.{CommandValue, SetsEid, GetsEid, AllocatesEids, GetsEntries, RequestValue, IsCommand, command_bytes, SpellsRequest}, specs.Refusals.{IsUnknown, IsCommandLength, HasRequestLength}, specs.Replies.{IsAsked, IsBytes}, proofs.Deciding.{dec_then, dec_same}}

pub dec_asked : (body : List ℕ) → Dec (IsAsked body)
dec_asked body = by (dec_le 3 (length body)) (dec_same (slice_index body 0) 0) (dec_same (slice_index body 1 / 64) 2)
  where
    by : Dec (3 ≤ length body) → Dec (slice_index body 0 ≡ 0) → Dec (slice_index body 1 / 64 ≡ 2) → Dec (IsAsked body)
    by (yes a) (yes b) (yes c) = yes (a, b, c)
    by (yes a) (yes b) (no c) = no (λ h. c h.2)
    by (yes a) (no b) c = no (λ h. b h.1)
    by (no a) b c = no (λ h. a h.0)

pub dec_length : (body : List ℕ) → Dec (HasRequestLength body)
dec_length body = by (one 1 2) (one 2 0) (one 8 3) (one 10 1)
  where
    number : ℕ
    number = slice_index body 2

    count : ℕ
    count = length body - 3

    one : (n k : ℕ) → Dec (number ≡ n → count ≡ k)
    one n k = dec_then (dec_same number n) (dec_same count k)

    by : Dec (number ≡ 1 → count ≡ 2) → Dec (number ≡ 2 → count ≡ 0) → Dec (number ≡ 8 → count ≡ 3) → Dec (number ≡ 10 → count ≡ 1)
        → Dec (HasRequestLength body)
    by (yes a) (yes b) (yes c) (yes d) = yes (a, b, c, d)
    by (no a) b c d = no (λ h. a h.0)
    by (yes a) (no b) c d = no (λ h. b h.1)
    by (yes a) (yes b) (no c) d = no (λ h. c h.2)
    by (yes a) (yes b) (yes c) (no d) = no (λ h. d h.3)

-- a header that is this byte
header_of : (byte : ℕ) → 128 ≤ byte → byte < 192 → (h : HeaderValue) × (h.instance < 32) × (header_byte 1 h ≡ byte)
header_of byte low high = by (dec_le 160 byte)
  where
    by : Dec (160 ≤ byte) → (h : HeaderValue) × (h.instance < 32) × (header_byte 1 h ≡ byte)
    by (yes a) = (record { datagram = false; reserved = true; instance = byte - 160 }, omega arith, omega arith)
    by (no a) = (record { datagram = false; reserved = false; instance = byte - 128 }, omega arith, omega arith)

-- a command that has this number and these bytes after it
HasCommand : ℕ → List ℕ → Type 0
HasCommand number rest = (c : CommandValue) × IsCommand c × (command_bytes c ≡ number ∷ rest)

-- a byte of an operation, taken apart and put together
operation_byte : (x : ℕ) → 4 * (x / 4) + x % 4 ≡ x
operation_byte x = omega arith

set_of : (rest : List ℕ) → IsBytes rest → length rest ≡ 2 → HasCommand 1 rest
unfolding HasCommand
set_of (x ∷ y ∷ []) b e =
    let p : x < 256 = b 0 in
    let q : y < 256 = b 1 in
    let o = operation_byte x in
    (SetsEid (x % 4) (x / 4) y, (omega arith, omega arith, q), λ i. 1 ∷ o i ∷ y ∷ [])
set_of [] b e = absurd (omega arith)
set_of (x ∷ []) b e = absurd (omega arith)
set_of (x ∷ y ∷ z ∷ zs) b e = absurd (omega arith)

get_of : (rest : List ℕ) → length rest ≡ 0 → HasCommand 2 rest
unfolding HasCommand
get_of [] e = (GetsEid, tt, refl)
get_of (x ∷ xs) e = absurd (omega arith)

allocate_of : (rest : List ℕ) → IsBytes rest → length rest ≡ 3 → HasCommand 8 rest
unfolding HasCommand
allocate_of (x ∷ y ∷ z ∷ []) b e =
    let p : x < 256 = b 0 in
    let q : y < 256 = b 1 in
    let r : z < 256 = b 2 in
    let o = operation_byte x in
    (AllocatesEids (x % 4) (x / 4) y z, (omega arith, omega arith, q, r), λ i. 8 ∷ o i ∷ y ∷ z ∷ [])
allocate_of [] b e = absurd (omega arith)
allocate_of (x ∷ []) b e = absurd (omega arith)
allocate_of (x ∷ y ∷ []) b e = absurd (omega arith)
allocate_of (x ∷ y ∷ z ∷ w ∷ ws) b e = absurd (omega arith)

entries_of : (rest : List ℕ) → IsBytes rest → length rest ≡ 1 → HasCommand 10 rest
unfolding HasCommand
entries_of (x ∷ []) b e = let p : x < 256 = b 0 in (GetsEntries x, p, refl)
entries_of [] b e = absurd (omega arith)
entries_of (x ∷ y ∷ ys) b e = absurd (omega arith)

command_of : (number : ℕ) (rest : List ℕ) → IsBytes rest → ¬ IsUnknown number → IsCommandLength number (length rest) → HasCommand number rest
command_of number rest b known l = by (dec_same number 1) (dec_same number 2) (dec_same number 8) (dec_same number 10)
  where
    by : Dec (number ≡ 1) → Dec (number ≡ 2) → Dec (number ≡ 8) → Dec (number ≡ 10) → HasCommand number rest
    by (yes n) x y z = rw n (set_of rest b (l.0 n))
    by (no w) (yes n) y z = rw n (get_of rest (l.1 n))
    by (no w) (no x) (yes n) z = rw n (allocate_of rest b (l.2 n))
    by (no w) (no x) (no y) (yes n) = rw n (entries_of rest b (l.3 n))
    by (no w) (no x) (no y) (no z) = absurd (known (w, x, y, z))

pub request_of : (body : List ℕ) → IsBytes body → IsAsked body → ¬ IsUnknown (slice_index body 2) → HasRequestLength body
    → (r : RequestValue) × SpellsRequest r body
unfolding HasCommand
request_of (first ∷ byte ∷ number ∷ rest) b asked known l =
    let half = asked.2 in
    let h = header_of byte (omega (arith, half)) (omega (arith, half)) in
    let k : length (first ∷ byte ∷ number ∷ rest) - 3 ≡ length rest = omega arith in
    let fits : IsCommandLength number (length rest) = subst (λ n. IsCommandLength number n) k l in
    let c = command_of number rest (λ i. b (suc (suc (suc i)))) known fits in
    let z = asked.1 in
    let hb = h.2 in
    let cb = c.2 in
    (record { header = h.0; command = c.0 }, (record { instance = h.1; command = c.1 }, λ i. z i ∷ sym hb i ∷ sym cb i))
request_of [] b asked known l = absurd (let k = asked.0 in omega (arith, k))
request_of (x ∷ []) b asked known l = absurd (let k = asked.0 in omega (arith, k))
request_of (x ∷ y ∷ []) b asked known l = absurd (let k = asked.0 in omega (arith, k))
