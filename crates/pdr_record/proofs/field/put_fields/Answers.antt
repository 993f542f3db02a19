use Rattle.std.{proofs.Common.{◌+◌, refl, [], ◌-◌, ap, drop, length, arith, sym, ◌∙◌, get_or, take}, proofs.lemmas.List.{length-take, length-drop}}
use Rattle.pdr_record.{specs.declared.field.Field.TheVariants.{U8}, specs.Fields.{bytes_of, followed}, specs.Written.{field_of, fields_of}, proofs.Writing.{room, one_more, one_written, length-parts}}
use Rattle.pdr_record.proofs.field.put_fields.Goals as goal

pub put_field-at-requires : goal.put_field-at-requires
put_field-at-requires c =
    let r = room field_of c.args.fields.now c.loop-field.field-index (U8 0) c.loop-field-test.true in
    omega (arith, r, length-take (length c.loop-field.out - c.loop-field.at) (drop c.loop-field.at c.loop-field.out), length-drop c.loop-field.at c.loop-field.out)

pub loop-field-preserved : goal.loop-field-preserved
loop-field-preserved c =
    let fields = c.args.fields.now in
    let i = c.loop-field.field-index in
    let before = fields_of (take i fields) in
    let here = field_of (get_or fields i (U8 0)) in
    let more = one_more field_of fields i (U8 0) c.loop-field-test.true in
    let r = room field_of fields i (U8 0) c.loop-field-test.true in
    let parts = length-parts before [] here in
    record {
      count = omega (arith, ap (λ fs. length (bytes_of fs)) more, parts, c.put_field-at.ensures.count);
      front = one_written before here c.loop-field.at _ c.put_field-at.result c.args.out.now c.loop-field.out c.put_field-at.new.out c.loop-field.invariant.count c.loop-field.invariant.front
          c.loop-field.auto.out (omega (arith, r)) refl c.put_field-at.ensures.count c.put_field-at.ensures.front ∙ ap (λ fs. followed fs (drop (c.loop-field.at + c.put_field-at.result) c.args.out.now)) (sym more);
    }
