use Rattle.std.{proofs.Common.{◌≡◌, ◌∙◌, ◌++◌, ℕ, ap, sym, subst, List, Result, length, map, rules}, proofs.lemmas.Option.{slice_get-get_or, slice_get-map}, proofs.lemmas.List.{length-map}, specs.Prelude.{slice_get, Some, option_map}}
use Rattle.mctp_control.{specs.RouteEntries.{entry_value}, specs.declared.route_entry.RouteEntry.{RouteEntry}}
use Rattle.pdr_repository.specs.Records.{entries}
use Rattle.pldm_message.{specs.declared.completion_code.CompletionCode.{CompletionCode}, specs.declared.tid.Tid.{Tid}}
use Rattle.audited_captures.{specs.Audits.{NodeFacts, AreRecorded, heard_of, lines_of_node, told_lines_of}, specs.Exchanges.{exchange_value}, specs.Lines.{LineValue, line_value}, specs.Asked.{unanswered}, specs.RecordLines.{AreRecordLines}, specs.RecordParts.{record_part_value}, specs.RecordSteps.{AreAllVerdicts}, specs.declared.record_readings.Verdict.{Verdict}, specs.Repositories.{repository_values}, specs.Tids.{planned_tid, tid_lines, tid_values}, specs.Untold.{untold_lines}, specs.declared.record_parts.RecordPart.{RecordPart}, specs.Words.{word_value}, proofs.AuditLaws.{of_node}}
use Rattle.plan_values.specs.NodeValues.{name_bytes}
use Rattle.audited_captures.proofs.audits.lines_of_node.Goals as goal

pub returns : goal.returns
returns c =
    let plan = c.args.plan.now in
    let rs = c.args.repositories.now in
    let n = c.args.index in
    let h = heard_of (map word_value c.args.words.now) (map exchange_value c.args.exchanges.now) in
    let node = c.index-node.result.now in
    let eid = node.eid.value in
    let name = name_bytes node.name in
    let at : slice_get plan.nodes.items n ≡ Some node = slice_get-get_or plan.nodes.items n node c.requires.within ∙ ap Some (sym c.index-node.ensures) in
    let records = c.index-repositories-index.result in
    let there : slice_get rs n ≡ Some records = slice_get-get_or rs n records c.requires.stored ∙ ap Some (sym c.index-repositories-index.is) in
    let stored : slice_get (repository_values rs) n ≡ Some (entries records.items) =
    slice_get-map (λ records. entries records.items) rs n ∙ ap (option_map (λ records. entries records.items)) there in
    let f : NodeFacts = record {
      planned = map entry_value c.in_ok-planned.planned.items;
      records = entries records.items;
      parts = map record_part_value c.in_ok-parts.parts.items;
      verdicts = c.in_ok-verdicts.verdicts.items;
      recorded = map line_value c.in_ok-recorded.recorded.items;
      tids = tid_values c.in_ok-tids.tids.items;
    } in
    let judged : AreAllVerdicts f.records f.parts f.verdicts =
    subst (λ (ps : List RecordPart). AreAllVerdicts f.records (map record_part_value ps) f.verdicts) c.deref-2.ensures.value
    (subst (λ rs. AreAllVerdicts (entries rs) (map record_part_value c.deref-2.result.now) f.verdicts) c.deref.ensures.value c.in_ok-verdicts.ensures) in
    let recorded_so : AreRecordLines f.records f.parts f.verdicts f.recorded =
    subst (λ (vs : List Verdict). AreRecordLines f.records f.parts vs f.recorded) c.deref-5.ensures.value
    (subst (λ (ps : List RecordPart). AreRecordLines f.records (map record_part_value ps) c.deref-5.result.now f.recorded) c.deref-4.ensures.value
    (subst (λ rs. AreRecordLines (entries rs) (map record_part_value c.deref-4.result.now) c.deref-5.result.now f.recorded) c.deref-3.ensures.value c.in_ok-recorded.ensures)) in
    let recorded : AreRecorded f = record { judged = judged; told = recorded_so } in
    let told : map line_value c.in_ok-told.told.items ≡ told_lines_of node f =
    c.in_ok-told.ensures ∙ ap (λ (ts : List (Result Tid CompletionCode)). tid_lines name (planned_tid node) (tid_values ts) ++ f.recorded) c.deref-6.ensures.value in
    let quiet : c.in_ok-unanswered.unanswered ≡ unanswered eid h.words h.exchanges f.parts f.tids =
    c.in_ok-unanswered.ensures ∙ ap (λ (ps : List RecordPart). unanswered eid h.words h.exchanges (map record_part_value ps) (tid_values c.deref-8.result.now)) c.deref-7.ensures.value
    ∙ ap (λ (ts : List (Result Tid CompletionCode)). unanswered eid h.words h.exchanges f.parts (tid_values ts)) c.deref-8.ensures.value in
    let lines : map line_value c.in_ok-lines_beside.field-0.items ≡ lines_of_node node f.planned h.exchanges (unanswered eid h.words h.exchanges f.parts f.tids) (told_lines_of node f) =
    c.in_ok-lines_beside.ensures
    ∙ ap (λ (es : List RouteEntry). lines_of_node node (map entry_value es) h.exchanges c.in_ok-unanswered.unanswered (map line_value c.in_ok-told.told.items)) c.deref-9.ensures.value
    ∙ ap (λ (count : ℕ). lines_of_node node f.planned h.exchanges count (map line_value c.in_ok-told.told.items)) quiet
    ∙ ap (λ (ls : List LineValue). lines_of_node node f.planned h.exchanges (unanswered eid h.words h.exchanges f.parts f.tids) ls) told in
    let wants : map line_value c.in_ok-untold_lines.field-0.items ≡ untold_lines node h.exchanges (length f.records) f.verdicts =
    c.in_ok-untold_lines.ensures ∙ ap (λ (vs : List Verdict). untold_lines node h.exchanges c.len.result vs) c.deref-10.ensures.value
    ∙ ap (λ n. untold_lines node h.exchanges n f.verdicts) (search (rules, length-map)) in
    of_node plan (repository_values rs) h n node f (map line_value c.in_ok-lines_beside.field-0.items) (map line_value c.in_ok-untold_lines.field-0.items) at
    c.in_ok-planned.ensures.listed stored c.in_ok-parts.ensures recorded c.in_ok-tids.ensures lines wants
