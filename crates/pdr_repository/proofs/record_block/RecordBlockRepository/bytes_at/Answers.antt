use Rattle.std.{proofs.Common.{◌≡◌, ◌-◌, List, ℕ, Some, length, take, drop, slice_get, refl, sym, subst, arith}, proofs.lemmas.List.{length-map}, proofs.lemmas.Option.{slice_get_read}}
use Rattle.pdr_repository.{specs.Records.{bytes_by_place}, specs.RecordBlocks.{entries_in, entry_in}, proofs.Places.{bytes_there}, proofs.Blocks.{held_there}}
use Rattle.pdr_repository.proofs.record_block.RecordBlockRepository.bytes_at.Goals as goal

pub returns-clause-bytes : goal.returns-clause-bytes
returns-clause-bytes c =
    let block = c.args.self.now.block.items in
    let spans = c.args.self.now.spans.items in
    let span = c.index-span.result.now in
    let here = slice_get_read spans (length spans) c.args.place span refl (omega (arith, length-map spans (entry_in block))) c.index-span.ensures in
    let P : List ℕ → Type 0 = λ bytes. slice_get (bytes_by_place (entries_in block spans)) c.args.place ≡ Some (take (span.end - span.start) (drop span.start bytes)) in
    subst P (sym c.as_slice.ensures.value) (bytes_there (entries_in block spans) c.args.place (entry_in block span) (held_there block spans c.args.place span here))
