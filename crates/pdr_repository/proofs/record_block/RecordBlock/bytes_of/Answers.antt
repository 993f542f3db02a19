use Rattle.std.{proofs.Common.{sym, ◌∙◌}, proofs.lemmas.Option.{same_Some, slice_get_within}}
use Rattle.pdr_repository.{specs.RecordBlocks.{entries_in}, proofs.Places.{bytes_there}}
use Rattle.pdr_repository.proofs.record_block.RecordBlock.bytes_of.Goals as goal

pub bytes_at-requires : goal.bytes_at-requires
bytes_at-requires c =
    let records = entries_in c.args.self.now.block.items c.args.self.now.spans.items in
    let (e, here, _) = c.in_ok-place.ensures records c.args.self.now.indexed in
    slice_get_within records c.in_ok-place.place e here

pub returns : goal.returns
returns c =
    let records = entries_in c.args.self.now.block.items c.args.self.now.spans.items in
    let (e, here, named) = c.in_ok-place.ensures records c.args.self.now.indexed in
    (c.in_ok-place.place, e, here, named, same_Some c.bytes_at.result.now e.bytes (sym c.bytes_at.ensures.bytes ∙ bytes_there records c.in_ok-place.place e here))
