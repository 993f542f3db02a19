use Rattle.std.{proofs.Common.{◌≡◌, ℕ, arith, ap, Some, None, length, subst, ◌∙◌}, proofs.lemmas.Option.{slice_get-get_or}}
use Rattle.net_rules.proofs.ChainPlaces.{AreAllSoFar, one_so_far, first_left_circles, all_are_places}
use Rattle.net_rules.proofs.certifying.chains.all_places.Goals as goal

pub returns-in-None : goal.returns-in-None
returns-in-None c =
    let linked = c.requires.linked in
    let here = slice_get-get_or c.args.places.now c.loop-record.record None c.loop-record-test.true ∙ ap Some c.in-None.is in
    (linked.nexts, linked.apart, first_left_circles c.args.records.now linked c.args.places.now c.requires.given c.loop-record.record c.loop-record.all.items c.loop-record.invariant here)

pub loop-record-preserved : goal.loop-record-preserved
loop-record-preserved c =
    let here = slice_get-get_or c.args.places.now c.loop-record.record None c.loop-record-test.true ∙ ap Some c.in-Some.is in
    rw c.in_ok-push-in-Some.ensures.items (one_so_far c.args.places.now c.loop-record.record c.loop-record.all.items _ c.loop-record.invariant here)

pub returns : goal.returns
returns c =
    let P : ℕ → Type 0 = λ count. AreAllSoFar c.args.places.now count c.loop-record.all.items in
    let all : c.loop-record.record ≡ length c.args.places.now = omega arith in
    all_are_places c.args.records.now c.requires.linked c.args.places.now c.requires.given c.loop-record.all.items (subst P all c.loop-record.invariant)
