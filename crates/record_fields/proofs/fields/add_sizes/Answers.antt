use Rattle.std.proofs.Common.{rules, ◌≡◌, ap, ◌∙◌, [], ◌∷◌, codes}
use Rattle.pdr_record.specs.Numbers.{size_code}
use Rattle.record_fields.{specs.Named.{number, sized}, proofs.Adding.{three}}
use Rattle.record_fields.proofs.fields.add_sizes.Goals as goal

pub returns : goal.returns
returns c =
    let coded : c.from.result ≡ size_code c.args.numeric.now.sensor_data_size = search rules in
    three c.add-3.result _ _ _ _ _ _ _ _ _ _ c.in_ok-add.ensures c.in_ok-add-2.ensures c.add-3.ensures
    (ap (λ f. f ∷ []) (c.number.ensures ∙ ap (λ n. number (codes "data-size") n) coded)) c.precision_fields.ensures
    (ap (λ f. f ∷ []) (c.sized.ensures ∙ ap (λ k. sized (codes "hysteresis") k c.args.numeric.now.hysteresis.now) c.code-code.ensures))
