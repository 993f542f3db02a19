use Rattle.std.{proofs.Common.{◌∙◌, ap, ◌<◌, vec_len, vec_capacity, arith}, specs.Result.{is_ok}}
use Rattle.pdr_repository.{specs.Records.{handle_in}, proofs.Collected.{inserted, still_ascending, still_members}}
use Rattle.pdr_repository.proofs.walker.collected.Collected.push_reserved.Goals as goal

pub invariant_of-self-clause-ascending : goal.invariant_of-self-clause-ascending
invariant_of-self-clause-ascending c =
    let old = c.args.self.now in
    let handle = c.handle_of_record-handle.result in
    let at = c.place_for-at.result in
    let room : vec_len old.handles < vec_capacity old.handles = omega (arith, old.as_many, old.as_much_room, c.requires) in
    let is = inserted (is_ok c.insert.result) c.insert.new.self.items old.handles.items at handle c.insert.ensures.items (c.insert.ensures.succeeds room) in
    still_ascending c.insert.new.self.items old.handles.items handle at is old.ascending c.place_for-at.ensures

pub invariant_of-self-clause-members : goal.invariant_of-self-clause-members
invariant_of-self-clause-members c =
    let old = c.args.self.now in
    let handle = c.handle_of_record-handle.result in
    let at = c.place_for-at.result in
    let room : vec_len old.handles < vec_capacity old.handles = omega (arith, old.as_many, old.as_much_room, c.requires) in
    let is = inserted (is_ok c.insert.result) c.insert.new.self.items old.handles.items at handle c.insert.ensures.items (c.insert.ensures.succeeds room) in
    still_members old.records.items c.push_reserved.new.self.items c.args.bytes c.insert.new.self.items old.handles.items handle at c.push_reserved.ensures.items is (c.handle_of_record-handle.ensures ∙ ap handle_in c.as_slice.ensures.value) old.members
