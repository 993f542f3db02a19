-- Bytes have one cause at most for which they are no record, and none where they are one.
use Rattle.std.{proofs.Common.{◌≡◌, ◌↔◌, ℕ, ◌^◌, ◌<◌, List, [], ◌∷◌, length, drop, Result, Ok, Err, refl, sym, ap, subst, ◌∙◌, arith}, specs.Prelude.{slice_index, IfOk, IfErr, IsOkAnd}}
use Rattle.byteorder.specs.Endian.{little_bytes, little_number}
use Rattle.mctp_transport.specs.Wire.{Spells}
use Rattle.pdr_record.{specs.declared.record.Record.{Record}, specs.declared.record_error.RecordError.{RecordError}, specs.Fields.{U8, U16, U32, followed, bytes_of}, specs.Records.{type_of, body_fields, RecordValue, record_bytes, IsRecord}, specs.RecordLaws.{one_front, one_record}, specs.RecordValues.{record_value}, specs.Faults.{HasHeader, IsBodyFault, IsFault}, proofs.BodyFaults.{no_body_of_other_code}}
use Rattle.pdr_record.specs.declared.record_error.RecordError.TheVariants as error

one_body_fault : (e f : RecordError) (number : ℕ) (bytes : List ℕ) → IsBodyFault e number bytes → IsBodyFault f number bytes → e ≡ f
one_body_fault error.Short f number bytes h g = absurd h
one_body_fault error.Version f number bytes h g = absurd h
one_body_fault error.Length f number bytes h g = absurd h
one_body_fault error.Ends error.Short number bytes h g = absurd g
one_body_fault error.Ends error.Version number bytes h g = absurd g
one_body_fault error.Ends error.Length number bytes h g = absurd g
one_body_fault error.LeftOver error.Short number bytes h g = absurd g
one_body_fault error.LeftOver error.Version number bytes h g = absurd g
one_body_fault error.LeftOver error.Length number bytes h g = absurd g
one_body_fault error.Unsupported error.Short number bytes h g = absurd g
one_body_fault error.Unsupported error.Version number bytes h g = absurd g
one_body_fault error.Unsupported error.Length number bytes h g = absurd g
one_body_fault error.Ends error.Ends number bytes h g = refl
one_body_fault error.LeftOver error.LeftOver number bytes h g = refl
one_body_fault error.Unsupported error.Unsupported number bytes h g = refl
one_body_fault error.Ends error.LeftOver number bytes h g = absurd (h.0 g.1.0 g.1.2)
one_body_fault error.LeftOver error.Ends number bytes h g = absurd (g.0 h.1.0 h.1.2)
one_body_fault error.Ends error.Unsupported number bytes h g = absurd (h.1 g)
one_body_fault error.Unsupported error.Ends number bytes h g = absurd (g.1 h)
one_body_fault error.LeftOver error.Unsupported number bytes h g = absurd (no_body_of_other_code number bytes h.1.0 h.1.2 g)
one_body_fault error.Unsupported error.LeftOver number bytes h g = absurd (no_body_of_other_code number bytes g.1.0 g.1.2 h)

one_fault : (e f : RecordError) (bytes : List ℕ) → IsFault e bytes → IsFault f bytes → e ≡ f
one_fault error.Short error.Short bytes h g = refl
one_fault error.Short error.Version bytes h g = absurd (omega (arith, h, g.0))
one_fault error.Short error.Length bytes h g = absurd (omega (arith, h, g.0))
one_fault error.Short error.Ends bytes h g = absurd (omega (arith, h, g.0.long))
one_fault error.Short error.LeftOver bytes h g = absurd (omega (arith, h, g.0.long))
one_fault error.Short error.Unsupported bytes h g = absurd (omega (arith, h, g.0.long))
one_fault error.Version error.Short bytes h g = absurd (omega (arith, g, h.0))
one_fault error.Version error.Version bytes h g = refl
one_fault error.Version error.Length bytes h g = absurd (h.1 g.1)
one_fault error.Version error.Ends bytes h g = absurd (h.1 g.0.version)
one_fault error.Version error.LeftOver bytes h g = absurd (h.1 g.0.version)
one_fault error.Version error.Unsupported bytes h g = absurd (h.1 g.0.version)
one_fault error.Length error.Short bytes h g = absurd (omega (arith, g, h.0))
one_fault error.Length error.Version bytes h g = absurd (g.1 h.1)
one_fault error.Length error.Length bytes h g = refl
one_fault error.Length error.Ends bytes h g = absurd (h.2 g.0.data_length)
one_fault error.Length error.LeftOver bytes h g = absurd (h.2 g.0.data_length)
one_fault error.Length error.Unsupported bytes h g = absurd (h.2 g.0.data_length)
one_fault error.Ends error.Short bytes h g = absurd (omega (arith, g, h.0.long))
one_fault error.Ends error.Version bytes h g = absurd (g.1 h.0.version)
one_fault error.Ends error.Length bytes h g = absurd (g.2 h.0.data_length)
one_fault error.Ends error.Ends bytes h g = refl
one_fault error.Ends error.LeftOver bytes h g = one_body_fault error.Ends error.LeftOver (slice_index bytes 5) (drop 10 bytes) h.1 g.1
one_fault error.Ends error.Unsupported bytes h g = one_body_fault error.Ends error.Unsupported (slice_index bytes 5) (drop 10 bytes) h.1 g.1
one_fault error.LeftOver error.Short bytes h g = absurd (omega (arith, g, h.0.long))
one_fault error.LeftOver error.Version bytes h g = absurd (g.1 h.0.version)
one_fault error.LeftOver error.Length bytes h g = absurd (g.2 h.0.data_length)
one_fault error.LeftOver error.Ends bytes h g = one_body_fault error.LeftOver error.Ends (slice_index bytes 5) (drop 10 bytes) h.1 g.1
one_fault error.LeftOver error.LeftOver bytes h g = refl
one_fault error.LeftOver error.Unsupported bytes h g = one_body_fault error.LeftOver error.Unsupported (slice_index bytes 5) (drop 10 bytes) h.1 g.1
one_fault error.Unsupported error.Short bytes h g = absurd (omega (arith, g, h.0.long))
one_fault error.Unsupported error.Version bytes h g = absurd (g.1 h.0.version)
one_fault error.Unsupported error.Length bytes h g = absurd (g.2 h.0.data_length)
one_fault error.Unsupported error.Ends bytes h g = one_body_fault error.Unsupported error.Ends (slice_index bytes 5) (drop 10 bytes) h.1 g.1
one_fault error.Unsupported error.LeftOver bytes h g = one_body_fault error.Unsupported error.LeftOver (slice_index bytes 5) (drop 10 bytes) h.1 g.1
one_fault error.Unsupported error.Unsupported bytes h g = refl

-- what the bytes of a record have at the places of the header
record AreParts (r : RecordValue) (bytes : List ℕ) : Type 0 where
  pub header : HasHeader bytes
  pub type_is : slice_index bytes 5 ≡ type_of r.body
  pub body : drop 10 bytes ≡ bytes_of (body_fields r.body)

parts : (r : RecordValue) (bytes : List ℕ) → Spells IsRecord record_bytes r bytes → AreParts r bytes
parts r bytes s =
    let count = length (bytes_of (body_fields r.body)) in
    let fits : count < 65536 = s.0.header.1.1.1.1.0 in
    let number : little_number 2 (little_bytes 2 count) ≡ count = omega arith in
    record {
      header = record {
        long = omega (arith, ap length s.1);
        version = ap (λ (bs : List ℕ). slice_index bs 4) s.1;
        data_length = omega (arith, ap length s.1, ap (λ (bs : List ℕ). little_number 2 (drop 8 bs)) s.1, number);
      };
      type_is = ap (λ (bs : List ℕ). slice_index bs 5) s.1;
      body = ap (drop 10) s.1;
    }

no_body_fault : (e : RecordError) (r : RecordValue) (number : ℕ) (bytes : List ℕ) → IsRecord r → number ≡ type_of r.body → bytes ≡ bytes_of (body_fields r.body) → IsBodyFault e number bytes → ⊥
no_body_fault error.Short r number bytes lawful k b h = h
no_body_fault error.Version r number bytes lawful k b h = h
no_body_fault error.Length r number bytes lawful k b h = h
no_body_fault error.Ends r number bytes lawful k b h = h.0 [] (record { body = r.body; type_is = sym k; lawful = lawful.body; front = b })
no_body_fault error.LeftOver r number bytes lawful k b h =
    let s = h.1.2 in
    let same = one_front r.body s.body [] h.1.0 (sym k ∙ sym s.type_is) lawful.body s.lawful (λ o. absurd (h.0 (rw k o))) (sym b ∙ s.front) in
    h.1.1 (sym same.1)
no_body_fault error.Unsupported r number bytes lawful k b h =
    no_body_of_other_code number bytes [] (record { body = r.body; type_is = sym k; lawful = lawful.body; front = b }) h

no_fault : (e : RecordError) (r : RecordValue) (bytes : List ℕ) → Spells IsRecord record_bytes r bytes → IsFault e bytes → ⊥
no_fault error.Short r bytes s h = let p = parts r bytes s in omega (arith, h, p.header.long)
no_fault error.Version r bytes s h = let p = parts r bytes s in h.1 p.header.version
no_fault error.Length r bytes s h = let p = parts r bytes s in h.2 p.header.data_length
no_fault error.Ends r bytes s h = let p = parts r bytes s in no_body_fault error.Ends r (slice_index bytes 5) (drop 10 bytes) s.0 p.type_is p.body h.1
no_fault error.LeftOver r bytes s h = let p = parts r bytes s in no_body_fault error.LeftOver r (slice_index bytes 5) (drop 10 bytes) s.0 p.type_is p.body h.1
no_fault error.Unsupported r bytes s h = let p = parts r bytes s in no_body_fault error.Unsupported r (slice_index bytes 5) (drop 10 bytes) s.0 p.type_is p.body h.1

-- ---- what a reader returns

body_fault : (e : RecordError) (bytes : List ℕ) → HasHeader bytes → IsBodyFault e (slice_index bytes 5) (drop 10 bytes) → IsFault e bytes
body_fault error.Short bytes h f = absurd f
body_fault error.Version bytes h f = absurd f
body_fault error.Length bytes h f = absurd f
body_fault error.Ends bytes h f = (h, f)
body_fault error.LeftOver bytes h f = (h, f)
body_fault error.Unsupported bytes h f = (h, f)

-- the faults of a body behind a header are those of a record
pub fault_behind : (e : RecordError) (handle version number change count : ℕ) (rest bytes : List ℕ)
    → bytes ≡ followed (U32 handle ∷ U8 version ∷ U8 number ∷ U16 change ∷ U16 count ∷ []) rest → version ≡ 1 → count < 2 ^ 16 → count ≡ length rest → IsBodyFault e number rest → IsFault e bytes
fault_behind e handle version number change count rest bytes is one fits len f =
    let again : little_number 2 (little_bytes 2 count) ≡ count = omega arith in
    let counted : little_number 2 (drop 8 bytes) ≡ count = ap (λ (bs : List ℕ). little_number 2 (drop 8 bs)) is ∙ again in
    let at : slice_index bytes 5 ≡ number = ap (λ (bs : List ℕ). slice_index bs 5) is in
    let behind : drop 10 bytes ≡ rest = ap (drop 10) is in
    let header : HasHeader bytes = record {
      long = omega (arith, ap length is);
      version = ap (λ (bs : List ℕ). slice_index bs 4) is ∙ one;
      data_length = omega (arith, ap length is, counted);
    } in
    body_fault e bytes header (rw (at, behind) f)

pub all_read : (result : Result Record RecordError) (bytes : List ℕ) → IfOk result (λ r. Spells IsRecord record_bytes (record_value r) bytes) → IfErr result (λ e. IsFault e bytes)
    → (m : RecordValue) → Spells IsRecord record_bytes m bytes → IsOkAnd result (λ r. record_value r ≡ m)
all_read (Ok r) bytes ok refused m s = one_record (record_value r) m ok.0 s.0 (sym ok.1 ∙ s.1)
all_read (Err e) bytes ok refused m s = absurd (no_fault e m bytes s refused)

abbrev failed : RecordError → Result Record RecordError
failed e = Err e

err_is : (e f : RecordError) → failed e ≡ failed f → e ≡ f
err_is e f h = cc

pub each_refused : (result : Result Record RecordError) (bytes : List ℕ) → IfOk result (λ r. Spells IsRecord record_bytes (record_value r) bytes) → IfErr result (λ e. IsFault e bytes)
    → (e : RecordError) → (result ≡ Err e) ↔ IsFault e bytes
each_refused (Ok r) bytes ok refused e = (λ h. absurd cc, λ h. absurd (no_fault e (record_value r) bytes ok h))
each_refused (Err f) bytes ok refused e = (λ h. subst (λ (g : RecordError). IsFault g bytes) (err_is f e h) refused, λ h. ap Err (one_fault f e bytes refused h))
