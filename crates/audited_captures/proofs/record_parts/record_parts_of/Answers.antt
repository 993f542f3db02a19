use Rattle.std.{proofs.Common.{◌++◌, [], List, subst, sym, ◌∙◌, ap, map}, specs.Prelude.{option_to_list}}
use Rattle.audited_captures.{specs.RecordParts.{record_part_value, AreRecordParts, Empty}, specs.declared.record_parts.RecordPart.{RecordPart}, proofs.PartLaws.{next_part}}
use Rattle.audited_captures.proofs.record_parts.record_parts_of.Goals as goal

pub loop-i-init : goal.loop-i-init
loop-i-init c = subst (λ (ps : List RecordPart). AreRecordParts c.args.eid.value [] (map record_part_value ps)) (sym c.new-parts.ensures.items) Empty

pub loop-i-preserved : goal.loop-i-preserved
loop-i-preserved c =
    next_part c.args.eid.value c.args.words.now c.loop-i.i c.index-words-i.result (map record_part_value c.loop-i.parts.items) _ c.loop-i-test.true c.index-words-i.is c.loop-i.invariant
    (c.in_ok-add.ensures ∙ ap (λ x. map record_part_value c.loop-i.parts.items ++ option_to_list x) c.record_part_of.ensures)
