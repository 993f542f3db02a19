-- Records of a type without layout are told by their header.
use Rattle.std.{proofs.Common.{◌≡◌, ◌↔◌, ℕ, ◌+◌, ◌*◌, ◌/◌, ◌%◌, ◌<◌, ◌≤◌, List, [], ◌∷◌, ◌++◌, length, drop, Some, refl, sym, ap, subst, ◌∙◌, arith}, specs.Prelude.{slice_index}, specs.Int.{w16, w32, from_le_bytes}, proofs.lemmas.List.{append-nil}, proofs.lemmas.Option.{same_Some}}
use Rattle.pdr_record.{specs.Records.{Other, IsOtherType, record_of, IsOtherRecordOf}, specs.RecordLaws.{one_record}}

spelled : (b0 b1 b2 b3 version number b6 b7 b8 b9 handle : ℕ) (body bytes : List ℕ)
    → bytes ≡ b0 ∷ b1 ∷ b2 ∷ b3 ∷ version ∷ number ∷ b6 ∷ b7 ∷ b8 ∷ b9 ∷ body → ((i : ℕ) → slice_index bytes i < 256) → version ≡ 1 → IsOtherType number
    → length body ≡ from_le_bytes w16 (b8 ∷ b9 ∷ []) → handle ≡ from_le_bytes w32 (b0 ∷ b1 ∷ b2 ∷ b3 ∷ []) → IsOtherRecordOf handle bytes
spelled b0 b1 b2 b3 version number b6 b7 b8 b9 handle body bytes is small one other count handle_is =
    let at : (i : ℕ) → slice_index (b0 ∷ b1 ∷ b2 ∷ b3 ∷ version ∷ number ∷ b6 ∷ b7 ∷ b8 ∷ b9 ∷ body) i < 256 =
    λ i. subst (λ (bs : List ℕ). slice_index bs i < 256) is (small i) in
    let s0 : b0 < 256 = at 0 in
    let s1 : b1 < 256 = at 1 in
    let s2 : b2 < 256 = at 2 in
    let s3 : b3 < 256 = at 3 in
    let s5 : number < 256 = at 5 in
    let s6 : b6 < 256 = at 6 in
    let s7 : b7 < 256 = at 7 in
    let s8 : b8 < 256 = at 8 in
    let s9 : b9 < 256 = at 9 in
    let change : ℕ = b6 + 256 * b7 in
    let none : body ++ [] ≡ body = append-nil body in
    let size : length (body ++ []) ≡ length body = ap length none in
    let h0 : handle % 256 ≡ b0 = omega arith in
    let h1 : handle / 256 % 256 ≡ b1 = omega arith in
    let h2 : handle / 65536 % 256 ≡ b2 = omega arith in
    let h3 : handle / 16777216 % 256 ≡ b3 = omega arith in
    let c0 : change % 256 ≡ b6 = omega arith in
    let c1 : change / 256 % 256 ≡ b7 = omega arith in
    let l0 : length (body ++ []) % 256 ≡ b8 = omega arith in
    let l1 : length (body ++ []) / 256 % 256 ≡ b9 = omega arith in
    let own = record_of handle change (Other number body) in (
      own,
      (
        record { header = (omega arith, (omega arith, (s5, (omega arith, (omega arith, tt))))); body = record { fits = (tt, tt); layout = other } },
        is ∙ (λ i. sym h0 i ∷ sym h1 i ∷ sym h2 i ∷ sym h3 i ∷ one i ∷ number ∷ sym c0 i ∷ sym c1 i ∷ sym l0 i ∷ sym l1 i ∷ sym none i),
      ),
      other,
      refl,
    )

-- the header at the front of bytes
front : (bytes : List ℕ) → 10 ≤ length bytes
    → bytes ≡ slice_index bytes 0 ∷ slice_index bytes 1 ∷ slice_index bytes 2 ∷ slice_index bytes 3 ∷ slice_index bytes 4 ∷ slice_index bytes 5 ∷ slice_index bytes 6 ∷ slice_index bytes 7 ∷ slice_index bytes 8 ∷ slice_index bytes 9 ∷ drop 10 bytes
front (b0 ∷ b1 ∷ b2 ∷ b3 ∷ b4 ∷ b5 ∷ b6 ∷ b7 ∷ b8 ∷ b9 ∷ rest) long = refl
front _ long = absurd (omega arith)

one_handle : (m n : ℕ) (bytes : List ℕ) → IsOtherRecordOf m bytes → IsOtherRecordOf n bytes → m ≡ n
one_handle m n bytes p q = sym p.3 ∙ ap (λ r. r.handle) (one_record p.0 q.0 p.1.0 q.1.0 (sym p.1.1 ∙ q.1.1)) ∙ q.3

pub told : (own : ℕ) (bytes : List ℕ) → 10 ≤ length bytes → ((i : ℕ) → slice_index bytes i < 256) → slice_index bytes 4 ≡ 1 → IsOtherType (slice_index bytes 5)
    → length (drop 10 bytes) ≡ from_le_bytes w16 (slice_index bytes 8 ∷ slice_index bytes 9 ∷ [])
    → own ≡ from_le_bytes w32 (slice_index bytes 0 ∷ slice_index bytes 1 ∷ slice_index bytes 2 ∷ slice_index bytes 3 ∷ [])
    → (handle : ℕ) → (Some own ≡ Some handle) ↔ IsOtherRecordOf handle bytes
told own bytes long small one other count own_is handle =
    let it = spelled _ _ _ _ _ _ _ _ _ _ own (drop 10 bytes) bytes (front bytes long) small one other count own_is in
    (λ e. subst (λ (h : ℕ). IsOtherRecordOf h bytes) (same_Some own handle e) it, λ p. ap Some (one_handle own handle bytes it p))
