-- Over a lawful list one part is lent.
use Rattle.std.{proofs.Common.{◌≡◌, ◌≤◌, ◌-◌, min, length, take, drop, slice_get, Some, None, refl, sym, ap, ◌∙◌, subst, arith}, proofs.lemmas.Option.{same_Some}}
use Rattle.pdr_repository.{specs.Records.{Entry}, specs.LentParts.{OneLentPart}}

pub one_lent_part : OneLentPart
one_lent_part records handle offset count None None lawful a b = refl
one_lent_part records handle offset count None (Some q) lawful none (place, e, here, named, from) = absurd (let past : length e.bytes ≤ offset = none place e here named in omega (arith, from.0))
one_lent_part records handle offset count (Some p) None lawful (place, e, here, named, from) none = absurd (let past : length e.bytes ≤ offset = none place e here named in omega (arith, from.0))
one_lent_part records handle offset count (Some p) (Some q) lawful (i, e, here, named, x) (j, f, there, same, y) =
    let at : i ≡ j = lawful.distinct i j e f here there (named ∙ sym same) in
    let is : e ≡ f = same_Some e f (sym here ∙ ap (slice_get records) at ∙ there) in
    let P : Entry → Type 0 = λ g. p ≡ take (min count (length g.bytes - offset)) (drop offset g.bytes) in
    ap Some (subst P is x.1 ∙ sym y.1)
