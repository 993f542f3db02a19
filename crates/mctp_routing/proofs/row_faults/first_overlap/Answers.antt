use Rattle.std.{proofs.Common.{refl, subst, sym}, proofs.lemmas.List.{take_all}, proofs.lemmas.List.Elements.{All-more, All-same}}
use Rattle.mctp_routing.{specs.Rows.{AreApart}, proofs.Fronts.{refuted, stands}}
use Rattle.mctp_routing.proofs.row_faults.first_overlap.Goals as goal

pub returns-then-not-is_apart_from : goal.returns-then-not-is_apart_from
returns-then-not-is_apart_from c =
    let other = c.index-rows-index.result in
    ((other, stands c.args.rows.now c.loop-index.index other c.loop-index-test.true c.index-rows-index.is, refuted c.if-not-is_apart_from.ensures), c.loop-index.invariant)

pub loop-index-preserved : goal.loop-index-preserved
loop-index-preserved c =
    let apart = c.if-not-is_apart_from.ensures.0 refl in
    All-more (AreApart c.args.row.now) _ _ c.index-rows-index.result c.loop-index-test.true c.loop-index.invariant (subst (AreApart c.args.row.now) c.index-rows-index.is apart)

pub returns : goal.returns
returns c = All-same (AreApart c.args.row.now) _ _ (sym (take_all c.loop-index.index c.args.rows.now c.loop-index-test.false)) c.loop-index.invariant
