use Rattle.std.proofs.Common.{refl}
use Rattle.mctp_routing.proofs.Fronts.{refuted, stands, lawful_more}
use Rattle.mctp_routing.proofs.row_faults.fault_at.Goals as goal

pub returns-then-is_empty : goal.returns-then-is_empty
returns-then-is_empty c =
    let row = c.index-rows-index.result in
    (c.requires.before, (row, stands c.args.rows.now c.args.index row c.requires.within c.index-rows-index.is, c.if-is_empty.ensures.0 refl))

pub returns-then-is_outside : goal.returns-then-is_outside
returns-then-is_outside c =
    let row = c.index-rows-index.result in
    (c.requires.before, (row, stands c.args.rows.now c.args.index row c.requires.within c.index-rows-index.is, (refuted c.if-is_empty.ensures, c.if-is_outside.ensures.0 refl)))

pub returns-in-Some : goal.returns-in-Some
returns-in-Some c =
    let row = c.index-rows-index.result in (
      c.requires.before,
      (
        row,
        stands c.args.rows.now c.args.index row c.requires.within c.index-rows-index.is,
        (refuted c.if-is_empty.ensures, refuted c.if-is_outside.ensures, c.in-Some.ensures),
      ),
    )

pub returns-in-None : goal.returns-in-None
returns-in-None c =
    let row = c.index-rows-index.result in
    lawful_more c.args.rows.now c.args.index row c.requires.within c.index-rows-index.is c.requires.before
    (refuted c.if-is_empty.ensures, refuted c.if-is_outside.ensures) c.in-None.ensures
