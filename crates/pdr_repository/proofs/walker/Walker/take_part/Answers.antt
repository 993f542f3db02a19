use Rattle.std.proofs.Common.{Some, None, refl, inl, inr}
use Rattle.pldm_message.specs.PdrValues.{part}
use Rattle.pdr_repository.{specs.Walks.{first_part}, specs.Dues.{request_of}, proofs.Judging.{nothing_before}, proofs.Taking.{completes_for}, proofs.Wanting.{found_otherwise, as_asked, other_fault, lacks_at_last, lacks_before}}
use Rattle.pdr_repository.proofs.walker.Walker.take_part.Goals as goal

pub returns-in-Some-clause-takes : goal.returns-in-Some-clause-takes
returns-in-Some-clause-takes c = (Some c.in-Some.fault, c.in-Some.ensures, c.fail.ensures)

pub returns-in-Some-clause-wants : goal.returns-in-Some-clause-wants
returns-in-Some-clause-wants c = other_fault _ _ _ c.fail.ensures.0 (found_otherwise _ _ _ (request_of c.args.self.now.count c.args.due) (part c.args.given.now) _ c.in-Some.ensures)

pub complete-requires-clause-starts : goal.complete-requires-clause-starts
complete-requires-clause-starts c = λ five. nothing_before _ _ _ _ c.args.due (part c.args.given.now) _ c.requires.due c.args.self.now.fresh c.in-None.ensures (inr five)

pub go_on-requires-clause-starts : goal.go_on-requires-clause-starts
go_on-requires-clause-starts c = λ zero. nothing_before _ _ _ _ c.args.due (part c.args.given.now) _ c.requires.due c.args.self.now.fresh c.in-None.ensures (inl zero)

pub returns-then-is_last-clause-takes : goal.returns-then-is_last-clause-takes
returns-then-is_last-clause-takes c = (
  None,
  c.in-None.ensures,
  completes_for _ (first_part c.args.self.now.count 0) (request_of c.args.self.now.count c.args.due) (part c.args.given.now) _ _ refl (c.if-is_last.ensures.0 refl) c.complete.ensures.proceeds,
)

pub returns-then-is_last-clause-wants : goal.returns-then-is_last-clause-wants
returns-then-is_last-clause-wants c =
    lacks_at_last c.args.self.now (part c.args.given.now) _ (as_asked _ _ _ (request_of c.args.self.now.count c.args.due) (part c.args.given.now) c.in-None.ensures) (c.if-is_last.ensures.0 refl) c.complete.ensures.wants

pub returns-else-is_last-clause-takes : goal.returns-else-is_last-clause-takes
returns-else-is_last-clause-takes c = (None, c.in-None.ensures, c.go_on.ensures.proceeds)

pub returns-else-is_last-clause-wants : goal.returns-else-is_last-clause-wants
returns-else-is_last-clause-wants c = lacks_before c.args.self.now (part c.args.given.now) _ (as_asked _ _ _ (request_of c.args.self.now.count c.args.due) (part c.args.given.now) c.in-None.ensures) c.go_on.ensures.wants
