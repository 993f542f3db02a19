use Rattle.std.proofs.Common.{refl, sym}
use Rattle.net_tables.specs.Repositories.{records_of, HasNewHandle}
use Rattle.net_explained.proofs.Items.{of_item, not_of_item}
use Rattle.net_explained.proofs.causes.records.old_handle.Goals as goal

pub returns-then-found-eq0 : goal.returns-then-found-eq0
returns-then-found-eq0 c =
    let records = records_of c.args.plan.now c.args.node in
    let r = c.in_ok-found.found.now in (
      (refl, (r, sym c.in_ok-found.ensures, c.if-found-eq0.true)),
      not_of_item records c.args.index (HasNewHandle records c.args.index) r c.in_ok-found.ensures (λ new. new.0 c.if-found-eq0.true),
    )

pub returns-in-Some : goal.returns-in-Some
returns-in-Some c =
    let records = records_of c.args.plan.now c.args.node in
    let r = c.in_ok-found.found.now in
    let found = c.in-Some.ensures in
    let other = found.1 in (
      (refl, (found.0, (other.0, other.1, (r, sym c.in_ok-found.ensures, other.2)))),
      not_of_item records c.args.index (HasNewHandle records c.args.index) r c.in_ok-found.ensures (λ new. new.1 c.in-Some.earlier other.0 found.0 other.1 other.2),
    )

pub returns-in-None : goal.returns-in-None
returns-in-None c =
    let records = records_of c.args.plan.now c.args.node in
    let r = c.in_ok-found.found.now in
    of_item records c.args.index (HasNewHandle records c.args.index) r c.in_ok-found.ensures
    (c.if-found-eq0.false, λ i other less at same. c.in-None.ensures i less (other, at, same))
