use Rattle.std.{proofs.Common.{◌≡◌, List, length, Some, true, refl, sym, subst}, specs.Prelude.{slice_get}, proofs.lemmas.Option.{slice_get_read}}
use Rattle.net_rules.{specs.declared.span.Span.{Span}, proofs.SpanLaws.{AreJoinedBefore, none_joined, turn_seen, row_added, all_joined}}
use Rattle.net_rules.proofs.spans.join.Goals as goal

pub loop-row-init : goal.loop-row-init
loop-row-init c =
    let P : List Span → Type 0 = λ spans. AreJoinedBefore c.args.rows.now 0 spans c.none-last.result true in
    subst P (sym c.new-spans.ensures.items) (none_joined c.args.rows.now c.none-last.result true c.none-last.ensures.first c.none-last.ensures.end)

pub loop-row-preserved : goal.loop-row-preserved
loop-row-preserved c =
    let rows = c.args.rows.now in
    let count = c.loop-row.row-index in
    let row = c.row-item.result in
    let here : slice_get rows count ≡ Some row = slice_get_read rows (length rows) count row refl c.loop-row-test.true c.row-item.is in
    row_added rows count c.loop-row.spans.items c.loop-row.last c.loop-row.apart c.loop-row.invariant row here c.of-next.result c.of-next.ensures.first c.of-next.ensures.covered
    c.add.new.spans.items c.in_ok-last.last c.stay_apart-apart.result c.in_ok-last.ensures c.stay_apart-apart.ensures

pub returns-then-next-last : goal.returns-then-next-last
returns-then-next-last c =
    let rows = c.args.rows.now in
    let count = c.loop-row.row-index in
    let row = c.row-item.result in
    let here : slice_get rows count ≡ Some row = slice_get_read rows (length rows) count row refl c.loop-row-test.true c.row-item.is in
    turn_seen rows count c.loop-row.spans.items c.loop-row.last c.loop-row.apart c.loop-row.invariant row here c.of-next.result c.of-next.ensures.first c.of-next.ensures.covered c.if-next-last.true

pub returns : goal.returns
returns c =
    all_joined c.args.rows.now c.loop-row.row-index c.loop-row.spans.items c.loop-row.last c.loop-row.apart c.loop-row-test.false c.loop-row.invariant _ refl c.in_ok-keep.ensures
