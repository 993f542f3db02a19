use Rattle.std.{proofs.Common.{◌≡◌, Some, length, sym, ◌∙◌, ap, arith, rules, refl}, specs.Prelude.{slice_get}, proofs.lemmas.Option.{slice_get_read}}
use Rattle.net_rules.{proofs.Handles.{values, value_of_place}, proofs.Filed.{one_filed}}
use Rattle.net_rules.proofs.rules.chains.handles_in_order.Goals as goal

pub loop-j-preserved : goal.loop-j-preserved
loop-j-preserved c =
    let records = c.args.records.now in
    let places = c.args.places.now in
    let j = c.loop-j.j in
    let r = c.index-records-j.result in
    let p = c.in-Some.place.now in
    let here : slice_get records j ≡ Some r = slice_get_read records (length records) j r (search rules) (omega arith) c.index-records-j.is in
    let given : slice_get places j ≡ Some p = let look = c.in-Some.ensures.lookup in slice_get_read places (length places) j p refl look.3.0 look.1 in
    one_filed records (values places) j c.loop-j.handles.items c.loop-j.invariant r here c.from-place.result (value_of_place places j p given ∙ ap Some (sym c.from-place.ensures)) (search rules)
