use Rattle.std.proofs.Common.{◌-◌, ◌<◌, length, refl, arith}
use Rattle.mctp_routing.{proofs.Fronts.{refuted}, proofs.Halving.{no_row, not_the_last, begins_low, row_routes}}
use Rattle.mctp_routing.proofs.range_table.next_in.Goals as goal

pub returns-then-begun-eq0 : goal.returns-then-begun-eq0
returns-then-begun-eq0 c = no_row c.args.rows.now c.args.eid.value _ c.begun_by-begun.ensures.past c.if-begun-eq0.true

pub returns-then-covers : goal.returns-then-covers
returns-then-covers c =
    let within : c.begun_by-begun.result - 1 < length c.args.rows.now = omega arith in
    row_routes c.args.rows.now c.args.eid.value _ c.index-rows-begun.result within c.index-rows-begun.is (c.if-covers.ensures.0 refl)

pub returns-else-covers : goal.returns-else-covers
returns-else-covers c =
    let rows = c.args.rows.now in
    let begun = c.begun_by-begun.result in
    let row = c.index-rows-begun.result in
    let within : begun - 1 < length rows = omega arith in
    let low : begun - 1 < begun = omega arith in
    not_the_last rows c.args.eid.value begun c.begun_by-begun.ensures.past (begun - 1) row (omega arith) within c.index-rows-begun.is c.requires
    (begins_low rows c.args.eid.value (begun - 1) begun row c.begun_by-begun.ensures.begun low c.index-rows-begun.is) (refuted c.if-covers.ensures)
