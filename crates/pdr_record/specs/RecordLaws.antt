-- The bytes of a record tell the record.
use Rattle.std.{proofs.Common.{◌≡◌, ℕ, List, [], ◌++◌, refl, sym, ap, ◌∙◌, arith}, proofs.lemmas.List.{append-nil}}
use Rattle.pdr_record.{specs.Fields.{Field, followed, bytes_of}, specs.FieldLaws.{one_fields, number}, specs.LayoutLaws.{one_terminus, one_numeric, one_state, one_association}, specs.Records.{BodyValue, Terminus, Numeric, State, Association, Other, type_of, body_fields, IsBody, IsOtherType, RecordValue, header_fields, record_bytes, IsRecord}}

-- bodies of one type that stand at the front of the same bytes; bytes that follow tell nothing of a type without layout
pub one_front : (a b : BodyValue) (r s : List ℕ) → type_of a ≡ type_of b → IsBody a → IsBody b
    → (IsOtherType (type_of a) → (r ≡ []) × (s ≡ [])) → followed (body_fields a) r ≡ followed (body_fields b) s
    → (a ≡ b) × (r ≡ s)
one_front (Terminus m) (Terminus n) r s k hm hn o e =
    let p = one_terminus m n r s hm.fits hn.fits e in (ap Terminus p.0, p.1)
one_front (Numeric m) (Numeric n) r s k hm hn o e =
    let p = one_numeric m n r s hm.fits hn.fits hm.layout hn.layout e in (ap Numeric p.0, p.1)
one_front (State m) (State n) r s k hm hn o e = let p = one_state m n r s hm.fits hn.fits e in (ap State p.0, p.1)
one_front (Association m) (Association n) r s k hm hn o e =
    let p = one_association m n r s hm.fits hn.fits e in (ap Association p.0, p.1)
one_front (Other i x) (Other j y) r s k hm hn o e =
    let none = o hm.layout in
    let bytes : x ≡ y =
    sym (append-nil x) ∙ ap (λ (t : List ℕ). x ++ t) (sym none.0) ∙ e ∙ ap (λ (t : List ℕ). y ++ t) none.1
    ∙ append-nil y in
    (λ t. Other (k t) (bytes t), none.0 ∙ sym none.1)
one_front (Terminus m) (Numeric n) r s k hm hn o e = absurd (omega arith)
one_front (Terminus m) (State n) r s k hm hn o e = absurd (omega arith)
one_front (Terminus m) (Association n) r s k hm hn o e = absurd (omega arith)
one_front (Numeric m) (Terminus n) r s k hm hn o e = absurd (omega arith)
one_front (Numeric m) (State n) r s k hm hn o e = absurd (omega arith)
one_front (Numeric m) (Association n) r s k hm hn o e = absurd (omega arith)
one_front (State m) (Terminus n) r s k hm hn o e = absurd (omega arith)
one_front (State m) (Numeric n) r s k hm hn o e = absurd (omega arith)
one_front (State m) (Association n) r s k hm hn o e = absurd (omega arith)
one_front (Association m) (Terminus n) r s k hm hn o e = absurd (omega arith)
one_front (Association m) (Numeric n) r s k hm hn o e = absurd (omega arith)
one_front (Association m) (State n) r s k hm hn o e = absurd (omega arith)
one_front (Terminus m) (Other j y) r s k hm hn o e = absurd (hn.layout.no_terminus (sym k))
one_front (Other i x) (Terminus n) r s k hm hn o e = absurd (hm.layout.no_terminus k)
one_front (Numeric m) (Other j y) r s k hm hn o e = absurd (hn.layout.no_numeric (sym k))
one_front (Other i x) (Numeric n) r s k hm hn o e = absurd (hm.layout.no_numeric k)
one_front (State m) (Other j y) r s k hm hn o e = absurd (hn.layout.no_state (sym k))
one_front (Other i x) (State n) r s k hm hn o e = absurd (hm.layout.no_state k)
one_front (Association m) (Other j y) r s k hm hn o e = absurd (hn.layout.no_association (sym k))
one_front (Other i x) (Association n) r s k hm hn o e = absurd (hm.layout.no_association k)

pub one_record : (m n : RecordValue) → IsRecord m → IsRecord n → record_bytes m ≡ record_bytes n → m ≡ n
one_record m n hm hn e =
    let head =
    one_fields (header_fields m) (header_fields n) (bytes_of (body_fields m.body))
    (bytes_of (body_fields n.body)) hm.header hn.header refl e in
    let same : type_of m.body ≡ type_of n.body = ap (λ (fs : List Field). number fs 2) head.0 in
    let body = one_front m.body n.body [] [] same hm.body hn.body (λ _. (refl, refl)) head.1 in
    λ i. record { handle = number (head.0 i) 0; change = number (head.0 i) 3; body = body.0 i }
