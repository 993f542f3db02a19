-- Bytes are a packet's, or no packet's.
use Rattle.std.{proofs.Common.{◌≡◌, ◌⊎◌, ℕ, ◌/◌, ◌%◌, ◌<◌, ◌≤◌, Bool, true, false, List, [], ◌∷◌, length, ap, arith, inl, inr}, proofs.lemmas.Bool.{cases_lt, cases_order}}
use Rattle.mctp_transport.{specs.PacketValues.{PacketValue, Spelled, bit, flag_byte, version_byte}, specs.Bits.{bit_most}}

-- a digit of 0 or 1 is a flag
pub flag_of : (n : ℕ) → n < 2 → (b : Bool) × (bit b ≡ n)
flag_of n small = elim (cases_lt n 1) [ inl none ↦ (false, omega arith) | inr one ↦ (true, omega arith) ]

-- numbers in the ranges of a header, and the flag byte that they make
pub record IsInRange (unit version destination source flags : ℕ) (payload : List ℕ) : Type 0 where
  pub reserved : version < 256
  pub version_is : version % 16 ≡ 1
  pub destination_is : destination < 256
  pub source_is : source < 256
  pub flags_are : flags < 256
  pub some : 0 < length payload
  pub most : length payload ≤ unit

in_range : (unit v d s f : ℕ) (payload : List ℕ) → IsInRange unit v d s f payload → (p : PacketValue) × Spelled unit p (v ∷ d ∷ s ∷ f ∷ payload)
in_range unit v d s f payload h =
    let reserved = h.reserved in
    let version = h.version_is in
    let flags = h.flags_are in
    let som = flag_of (f / 128) (omega arith) in
    let eom = flag_of (f / 64 % 2) (omega arith) in
    let owner = flag_of (f / 8 % 2) (omega arith) in
    let p : PacketValue = record {
      reserved = v / 16;
      destination = d;
      source = s;
      som = som.0;
      eom = eom.0;
      number = f / 16 % 4;
      owner = owner.0;
      tag = f % 8;
      payload = payload;
    } in
    let first : v ≡ version_byte p = omega arith in
    let last : f ≡ flag_byte p = omega (arith, som.1, eom.1, owner.1) in (
      p,
      (
        record {
          reserved = omega arith;
          destination = h.destination_is;
          source = h.source_is;
          number = omega arith;
          tag = omega arith;
          some = h.some;
          most = h.most;
        },
        cc,
      ),
    )

-- what bytes of a packet are
of_packet : (unit v d s f : ℕ) (payload : List ℕ) (p : PacketValue) → Spelled unit p (v ∷ d ∷ s ∷ f ∷ payload) → IsInRange unit v d s f payload
of_packet unit v d s f payload p (fits, same) =
    let first : v ≡ version_byte p = cc in
    let second : d ≡ p.destination = cc in
    let third : s ≡ p.source = cc in
    let fourth : f ≡ flag_byte p = cc in
    let rest : payload ≡ p.payload = cc in
    let size = ap length rest in
    let a = fits.reserved in
    let b = fits.destination in
    let c = fits.source in
    let n = fits.number in
    let t = fits.tag in
    let some = fits.some in
    let most = fits.most in
    let x = bit_most p.som in
    let y = bit_most p.eom in
    let z = bit_most p.owner in
    record {
      reserved = omega arith;
      version_is = omega arith;
      destination_is = omega arith;
      source_is = omega arith;
      flags_are = omega arith;
      some = omega arith;
      most = omega arith;
    }

same_or_not : (m n : ℕ) → (m ≡ n) ⊎ ¬ (m ≡ n)
same_or_not m n = elim (cases_order m n) [
  | inl same ↦ inl same
  | inr different ↦ inr (λ same. elim different [ inl less ↦ omega arith | inr more ↦ omega arith ])
]

range_or_not : (unit v d s f : ℕ) (payload : List ℕ) → IsInRange unit v d s f payload ⊎ ¬ IsInRange unit v d s f payload
range_or_not unit v d s f payload = elim (cases_lt v 256) [
  | inr no_byte ↦ inr (λ h. let x = h.reserved in omega arith)
  | inl a ↦ elim (same_or_not (v % 16) 1) [
    | inr other ↦ inr (λ h. other h.version_is)
    | inl b ↦ elim (cases_lt d 256) [
      | inr no_byte ↦ inr (λ h. let x = h.destination_is in omega arith)
      | inl c ↦ elim (cases_lt s 256) [
        | inr no_byte ↦ inr (λ h. let x = h.source_is in omega arith)
        | inl e ↦ elim (cases_lt f 256) [
          | inr no_byte ↦ inr (λ h. let x = h.flags_are in omega arith)
          | inl g ↦ elim (cases_lt 0 (length payload)) [
            | inr none ↦ inr (λ h. let x = h.some in omega arith)
            | inl i ↦ elim (cases_lt unit (length payload)) [
              | inl more ↦ inr (λ h. let x = h.most in omega arith)
              | inr fits ↦ inl (record {
                reserved = a;
                version_is = b;
                destination_is = c;
                source_is = e;
                flags_are = g;
                some = i;
                most = omega arith;
              })
            ]
          ]
        ]
      ]
    ]
  ]
]

-- the bytes are some packet's, or no packet's
pub spelled_or_not : (unit : ℕ) (bytes : List ℕ) → ((p : PacketValue) × Spelled unit p bytes) ⊎ ((p : PacketValue) → ¬ Spelled unit p bytes)
spelled_or_not unit [] = inr (λ p h. let e = ap length h.1 in omega arith)
spelled_or_not unit (v ∷ []) = inr (λ p h. let e = ap length h.1 in omega arith)
spelled_or_not unit (v ∷ d ∷ []) = inr (λ p h. let e = ap length h.1 in omega arith)
spelled_or_not unit (v ∷ d ∷ s ∷ []) = inr (λ p h. let e = ap length h.1 in omega arith)
spelled_or_not unit (v ∷ d ∷ s ∷ f ∷ payload) = elim (range_or_not unit v d s f payload) [
  | inl is ↦ inl (in_range unit v d s f payload is)
  | inr not ↦ inr (λ p h. not (of_packet unit v d s f payload p h))
]
