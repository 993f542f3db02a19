use Rattle.std.{proofs.Common.{◌≡◌, ◌<◌, length, refl, sym, ap, ◌∙◌, arith}, proofs.lemmas.List.{length-set}}
use Rattle.mctp_transport.specs.declared.address.Eid.{Eid}
use Rattle.net_sim.proofs.Counting.{hint_more, all_known}
use Rattle.net_sim.proofs.key_counts.KnownEids.of.Goals as goal

pub loop-index-preserved : goal.loop-index-preserved
loop-index-preserved c =
    let eids = c.args.eids.items in
    let hints = c.loop-index.hints.items in
    let index = c.loop-index.index in
    let eid = c.index.result.now in
    let within : (index < length eids) × (index < 64) = (omega (arith, c.loop-index-test.true, c.min-index-end.ensures, c.len.ensures), omega (arith, c.loop-index-test.true, c.min-index-end.ensures)) in
    let low : c.from.result < length hints = omega (arith, eid.in_range, c.from.ensures, c.loop-index.invariant.0) in
    (length-set hints c.from.result index ∙ c.loop-index.invariant.0, hint_more eids hints index c.from.result eid within.0 within.1 (ap (λ (e : Eid). e.value) (sym c.index.ensures) ∙ sym c.from.ensures) low c.loop-index.invariant.1)

pub returns : goal.returns
returns c = λ few.
    let whole : c.loop-index.index ≡ length c.args.eids.items = omega (arith, few, c.loop-index-test.false, c.loop-index.auto, c.min-index-end.ensures, c.len.ensures) in
    all_known (record { eids = c.args.eids; hints = c.loop-index.hints }) c.args.eids.items c.loop-index.index refl whole c.loop-index.invariant.1
