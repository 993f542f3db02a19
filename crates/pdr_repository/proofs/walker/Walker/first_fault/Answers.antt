use Rattle.std.{proofs.Common.{refl, arith}, proofs.lemmas.List.{length-map}}
use Rattle.pldm_message.specs.PdrValues.{part}
use Rattle.pdr_repository.{specs.Dues.{request_of}, specs.Faults.{Room}, specs.Walkers.{room_of}, specs.WalkerStates.{state_of}, proofs.Judging.{judged, same_room}}
use Rattle.pdr_repository.proofs.walker.Walker.first_fault.Goals as goal

pub returns : goal.returns
returns c =
    let w = c.args.self.now in
    let as_many = length-map w.collected.records.items (λ v. v.items) in
    let limits : Room = record { max_records = w.max_records; max_bytes = w.max_bytes; records = c.len.result; bytes = w.bytes } in
    judged limits (room_of (state_of w)) _ _ _ _ (request_of w.count c.args.due.now) (part c.args.given.now) _
    (same_room limits (room_of (state_of w)) refl refl (omega (arith, as_many, c.len.ensures)) w.counted)
    refl c.as_slice.ensures.value c.judge.ensures
