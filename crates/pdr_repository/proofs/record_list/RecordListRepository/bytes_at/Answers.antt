use Rattle.std.{proofs.Common.{◌≡◌, List, ℕ, Some, length, slice_get, refl, sym, subst, arith}, proofs.lemmas.List.{length-map}, proofs.lemmas.Option.{slice_get_read}}
use Rattle.pdr_repository.{specs.Records.{bytes_by_place, entries, entry_of}, proofs.Places.{bytes_there, entry_there}}
use Rattle.pdr_repository.proofs.record_list.RecordListRepository.bytes_at.Goals as goal

pub returns-clause-bytes : goal.returns-clause-bytes
returns-clause-bytes c =
    let records = c.args.self.now.by_place.items in
    let x = c.index.result.now in
    let here = slice_get_read records (length records) c.args.place x refl (omega (arith, length-map records entry_of)) c.index.ensures in
    let P : List ℕ → Type 0 = λ bytes. slice_get (bytes_by_place (entries records)) c.args.place ≡ Some bytes in
    subst P (sym c.as_slice.ensures.value) (bytes_there (entries records) c.args.place (entry_of x) (entry_there records c.args.place x here))
