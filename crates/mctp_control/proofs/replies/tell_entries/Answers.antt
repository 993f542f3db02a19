use Rattle.std.{proofs.Common.{inl, inr, arith, drop}, proofs.lemmas.List.{take-map}}
use Rattle.mctp_control.{specs.EntryLists.{values_of}, specs.Replies.{IsMost}, proofs.EntryFitting.{rest_of, is_told}}
use Rattle.mctp_control.proofs.replies.tell_entries.Goals as goal

-- the count is the most that fit of the entries from the handle on
most_of : (c : goal.After-handle_after-next) → IsMost (values_of (drop c.args.handle c.args.table.now)) c.fitting-count.result
most_of c = rw rest_of at c.fitting-count.ensures.most

pub told-requires-clause-fit : goal.told-requires-clause-fit
told-requires-clause-fit c = rw rest_of (rw take-map at (most_of c).fit)

pub returns : goal.returns
returns c = (
  _,
  c.told.ensures,
  rw rest_of (is_told c.args.table.now c.args.handle c.fitting-count.result _
      (λ nonzero out. elim c.else-handle-ne0.either [ inl w ↦ omega (arith, w) | inr w ↦ omega (arith, w) ])
      (rw rest_of at c.fitting-count.ensures.most) c.handle_after-next.ensures),
)
