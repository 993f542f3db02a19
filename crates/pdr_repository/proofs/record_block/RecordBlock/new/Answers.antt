use Rattle.std.proofs.Common.{◌≡◌, ◌+◌, ◌^◌, ◌<◌, List, ℕ, length, vec_capacity, sym, subst, arith}
use Rattle.pdr_repository.{specs.declared.record_block.Span.{Span}, proofs.Headers.{lawful_short}, proofs.Blocks.{IsFilledTo, filled_to_more, fits}}
use Rattle.pdr_repository.proofs.record_block.RecordBlock.new.Goals as goal

pub total_length-requires-clause-short : goal.total_length-requires-clause-short
total_length-requires-clause-short c = lawful_short c.args.records.now c.requires.lawful

pub append_reserved-requires : goal.append_reserved-requires
append_reserved-requires c =
    let room = fits c.args.records.now c.loop-record.record-index c.record-item.result c.loop-record.block.items c.as_slice.result.now c.loop-record.spans.items (vec_capacity c.loop-record.block) (vec_capacity c.loop-record.spans) c.loop-record-test.true c.record-item.is c.as_slice.ensures.value c.loop-record.invariant in
    omega (arith, c.loop-record.block.ok.0)

pub loop-record-preserved : goal.loop-record-preserved
loop-record-preserved c =
    let records = c.args.records.now in
    let i = c.loop-record.record-index in
    let x = c.record-item.result in
    let block = c.loop-record.block.items in
    let more = c.as_slice.result.now in
    let grown = c.append_reserved.new.block.items in
    let spans = c.loop-record.spans.items in
    let start = c.len-start.result in
    let end = c.len-end.result in
    let begins : start ≡ length block = omega (arith, c.loop-record.block.ok.0, c.len-start.ensures) in
    let ends : end ≡ length grown = omega (arith, c.append_reserved.new.block.ok.0, c.len-end.ensures) in
    let short : length more < 2 ^ 32 = rw c.as_slice.ensures.value (rw c.record-item.is (lawful_short records c.requires.lawful i x c.loop-record-test.true)) in
    let so_far = filled_to_more records i x block more grown spans start end (vec_capacity c.loop-record.block) (vec_capacity c.loop-record.spans) (vec_capacity c.append_reserved.new.block)
    c.loop-record-test.true c.record-item.is c.as_slice.ensures.value c.append_reserved.ensures.items begins ends short c.append_reserved.ensures.capacity c.loop-record.invariant in
    let Q : List Span → Type 0 = λ ss. IsFilledTo records (i + 1) grown ss (vec_capacity c.append_reserved.new.block) (vec_capacity c.loop-record.spans) in
    let R : ℕ → Type 0 = λ n. IsFilledTo records (i + 1) grown c.push_reserved.new.self.items (vec_capacity c.append_reserved.new.block) n in
    subst R (sym c.push_reserved.ensures.capacity) (subst Q (sym c.push_reserved.ensures.items) so_far)
