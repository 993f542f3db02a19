use Rattle.std.{proofs.Common.{ap, ◌∙◌, option_map}, specs.Option.{option_or}}
use Rattle.bus_captures.{specs.OptionValues.{option_value}, proofs.OptionLaws.{map_or, one_more}}
use Rattle.bus_captures.proofs.options.told_by.Goals as goal

pub loop-option-preserved : goal.loop-option-preserved
loop-option-preserved c =
    let old = c.loop-option.told in
    let o = option_value c.in-Some.option in
    one_more c.args.order c.args.bytes.now c.loop-option.left.now c.in-Some.rest.now old _ o c.loop-option.invariant c.in-Some.ensures.0 c.in-Some.ensures.1
    (ap (option_map (λ v. v.now)) c.or.ensures ∙ map_or (λ v. v.now) old.name c.value_of.result ∙ ap (option_or (option_map (λ v. v.now) old.name)) c.value_of.ensures)
    (ap (option_map (λ v. v.now)) c.or-in-loop-option.ensures ∙ map_or (λ v. v.now) old.resolution c.value_of-in-loop-option.result
    ∙ ap (option_or (option_map (λ v. v.now) old.resolution)) c.value_of-in-loop-option.ensures)
    (ap (option_map (λ v. v.now)) c.or-in-loop-option-2.ensures ∙ map_or (λ v. v.now) old.shift c.value_of-in-loop-option-2.result
    ∙ ap (option_or (option_map (λ v. v.now) old.shift)) c.value_of-in-loop-option-2.ensures)
