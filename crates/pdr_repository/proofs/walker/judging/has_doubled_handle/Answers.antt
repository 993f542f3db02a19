use Rattle.std.proofs.Common.{refl, map}
use Rattle.pdr_repository.proofs.Handles.{doubled}
use Rattle.pdr_repository.proofs.walker.judging.has_doubled_handle.Goals as goal

pub returns-then-is_last : goal.returns-then-is_last
returns-then-is_last c = doubled (map (λ v. v.items) c.args.collected.now.records.items) _ _ _ _ (c.if-is_last.ensures.0 refl) c.has_handle.ensures c.handle_of.ensures
