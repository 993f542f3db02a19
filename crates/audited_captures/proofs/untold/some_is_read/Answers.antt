use Rattle.std.{proofs.Common.{◌∙◌, List, ap, map, sym}, specs.List.{list_any}}
use Rattle.audited_captures.{specs.Readings.{part_value}, specs.Untold.{is_read, readings_begun}, specs.declared.readings.Part.{Part}, proofs.UntoldLaws.{reads_here, reads_on}}
use Rattle.audited_captures.proofs.untold.some_is_read.Goals as goal

pub loop-i-preserved : goal.loop-i-preserved
loop-i-preserved c =
    let told = c.in_ok-is_read.ensures ∙ ap (λ (ps : List Part). list_any is_read (readings_begun (map part_value ps))) c.from_place.ensures in
    c.loop-i.invariant ∙ reads_on c.args.parts.now c.loop-i.i c.loop-i-test.true (sym told ∙ c.if-is_read.false)

pub returns-then-is_read : goal.returns-then-is_read
returns-then-is_read c =
    let told = c.in_ok-is_read.ensures ∙ ap (λ (ps : List Part). list_any is_read (readings_begun (map part_value ps))) c.from_place.ensures in
    sym (c.loop-i.invariant ∙ reads_here c.args.parts.now c.loop-i.i c.loop-i-test.true (sym told ∙ c.if-is_read.true))
