use Rattle.std.proofs.Common.{refl, arith, [], ◌∷◌}
use Rattle.net_rules.specs.Locators.{IsEidLocator}
use Rattle.net_questions.proofs.Exists.{found_item, item_not_found, item_more}
use Rattle.net_questions.proofs.lints.locators.has_no_locator.Goals as goal

pub returns-then-locates : goal.returns-then-locates
returns-then-locates c =
    let there = found_item c.records_at-records.result.now _ c.records_at-records.ensures (λ k r. IsEidLocator r.bytes.items c.args.tid (c.args.eid.value ∷ []))
    c.loop-listed.listed-index c.listed-item.result (omega arith) c.listed-item.is (c.locates.ensures.0 c.if-locates.true) in
    (λ h. absurd (cc h), λ none. absurd (none (there.0 refl)))

pub loop-listed-preserved : goal.loop-listed-preserved
loop-listed-preserved c =
    item_more c.records_at-records.result.now _ c.records_at-records.ensures (λ k r. IsEidLocator r.bytes.items c.args.tid (c.args.eid.value ∷ []))
    c.loop-listed.listed-index c.listed-item.result (omega arith) c.listed-item.is (λ is. cc (c.locates.ensures.1 is, c.if-locates.false)) c.loop-listed.invariant

pub returns : goal.returns
returns c =
    let none = item_not_found c.records_at-records.result.now _ c.records_at-records.ensures (λ k r. IsEidLocator r.bytes.items c.args.tid (c.args.eid.value ∷ []))
    c.loop-listed.listed-index (omega arith) c.loop-listed.invariant in
    (λ _. λ has. absurd (cc (none.1 has)), λ _. refl)
