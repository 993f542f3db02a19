use Rattle.std.proofs.Common.{rules, ◌≡◌, ◌<◌, [], List, length, slice_index_or, subst, sym}
use Rattle.audited_captures.{specs.Refusals.{AreRefusals, None}, specs.declared.refusals.Refusal.{Refusal}, proofs.RefusalLaws.{next_refusal}}
use Rattle.audited_captures.proofs.refusals.refusals_of.Goals as goal

pub loop-i-init : goal.loop-i-init
loop-i-init c = subst (λ (rs : List Refusal). AreRefusals c.args.unit [] rs) (sym c.new-refusals.ensures.items) None

pub loop-i-preserved : goal.loop-i-preserved
loop-i-preserved c =
    let items = c.args.capture.now.entries.items in
    let i = c.loop-i.i in
    let item = c.entry-item.result in
    let within : i < length items = search rules in
    let is : item ≡ slice_index_or items i item = search rules in
    next_refusal c.args.unit items i item _ _ within is c.loop-i.invariant c.in_ok-add_refusal.ensures
