-- The common header of a record.
use Rattle.std.{proofs.Common.{◌≡◌, ℕ, ◌+◌, ◌^◌, ◌<◌, ◌≤◌, List, length, slice_get, Some, Vec, sym, subst, arith}, specs.Prelude.{All}, proofs.lemmas.Option.{slice_get-get_or}}
use Rattle.pdr_record.{specs.Fields.{bytes_of}, specs.Records.{RecordValue, IsRecord, record_bytes, body_fields}}
use Rattle.pdr_repository.{specs.Records.{Entry, IsLawful, IsRecordOf, entries, handle_in, data_length_in}, proofs.Places.{entry_there}}

-- the bytes begin with the common header, and the data length is the number of bytes after it
pub record HasHeader (handle : ℕ) (bytes : List ℕ) : Type 0 where
  pub whole : 10 ≤ length bytes
  pub short : length bytes < 2 ^ 17
  pub fits : handle < 2 ^ 32
  pub names : handle_in bytes ≡ handle
  pub says : 10 + data_length_in bytes ≡ length bytes

of_record : (r : RecordValue) → IsRecord r → HasHeader r.handle (record_bytes r)
of_record r is =
    let long : length (record_bytes r) ≡ 10 + length (bytes_of (body_fields r.body)) = omega arith in
    let handle = is.header.0 in
    let count = is.header.1.1.1.1.0 in
    record { whole = omega arith; short = omega arith; fits = handle; names = omega arith; says = omega arith }

pub record_header : (handle : ℕ) (bytes : List ℕ) → IsRecordOf handle bytes → HasHeader handle bytes
record_header handle bytes (r, spelled, named) =
    let P : List ℕ → Type 0 = λ bs. HasHeader handle bs in
    let Q : ℕ → Type 0 = λ h. HasHeader h (record_bytes r) in
    subst P (sym spelled.1) (subst Q named (of_record r spelled.0))

pub lawful_header : (records : List Entry) → IsLawful records → (i : ℕ) (e : Entry) → slice_get records i ≡ Some e → HasHeader e.handle e.bytes
lawful_header records lawful i e here = record_header e.handle e.bytes (lawful.spelled i e here)

-- records are short
pub lawful_short : {Z : Type 0} (records : List (ℕ × Vec ℕ Z)) → IsLawful (entries records) → All (λ r. length r.1.items < 2 ^ 32) records
lawful_short records lawful = λ k d within.
    let header = lawful_header (entries records) lawful k _ (entry_there records k _ (slice_get-get_or records k d within)) in
    omega (arith, header.short)
