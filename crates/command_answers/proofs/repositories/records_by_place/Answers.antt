use Rattle.std.{proofs.Common.{◌≡◌, ◌∙◌, ◌<◌, Some, None, length, refl, ap, sym, subst, arith}, proofs.lemmas.Option.{slice_get_read, slice_get-get_or, same_Some}, specs.Option.{option_and_then}, specs.Prelude.{slice_get, slice_index_or}}
use Rattle.net_tables.specs.Repositories.{places_of}
use Rattle.command_answers.{specs.Ordering.{AreFirstAt}, proofs.Places.{one_record_more}}
use Rattle.command_answers.proofs.repositories.records_by_place.Goals as goal

pub loop-place-preserved : goal.loop-place-preserved
loop-place-preserved c =
    let listed = c.records_at-listed.result.now in
    let by_place = c.in_ok-by_place.by_place.items in
    let places = places_of c.args.certificate.now c.args.node in
    let place = c.loop-place.place in
    let x = c.index.result.now in
    let within : place < length by_place = omega arith in
    let there : slice_get by_place place ≡ Some x = slice_get_read by_place (length by_place) place x refl within c.index.ensures in
    let first : slice_index_or by_place place None ≡ x = same_Some _ _ (sym (slice_get-get_or by_place place None within) ∙ there) in
    let given : AreFirstAt places by_place = subst (λ ps. AreFirstAt ps by_place) c.places_at.ensures c.in_ok-by_place.ensures.1 in
    one_record_more listed places place _ _ _
    (c.record_in.ensures ∙ ap (option_and_then (slice_get listed)) (sym first ∙ given place within))
    c.loop-place.invariant c.in_ok-push_record.ensures
