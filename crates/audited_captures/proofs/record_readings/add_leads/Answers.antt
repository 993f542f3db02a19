use Rattle.std.{proofs.Common.{rules, ◌<◌, ◌≤◌, ℕ, List, length, slice_index, take, subst, sym}, proofs.lemmas.List.{take_more, take_all}}
use Rattle.pdr_repository.specs.Records.{entries}
use Rattle.audited_captures.{specs.RecordParts.{record_part_value}, specs.RecordSteps.{AddsLeads}, proofs.RecordLaws.{adds_more}}
use Rattle.audited_captures.proofs.record_readings.add_leads.Goals as goal

pub loop-start-preserved : goal.loop-start-preserved
loop-start-preserved c =
    let records = entries c.args.records.now in
    let place = c.args.place in
    let x = record_part_value c.args.part.now in
    let starts = c.args.starts.now in
    let i = c.loop-start.start-index in
    let within : i < length starts = search rules in
    let new = c.add_from.new.leads.items in
    subst (λ (ss : List ℕ). AddsLeads records place ss x c.args.leads.now.items new) (sym (take_more starts i 0 within))
    (adds_more records place x (slice_index starts i) (take i starts) c.args.leads.now.items c.loop-start.leads.items new c.loop-start.invariant c.in_ok-add_from.ensures)

pub returns : goal.returns
returns c =
    let starts = c.args.starts.now in
    let i = c.loop-start.start-index in
    let past : length starts ≤ i = search rules in
    subst (λ (ss : List ℕ). AddsLeads (entries c.args.records.now) c.args.place ss (record_part_value c.args.part.now) c.args.leads.now.items c.loop-start.leads.items) (take_all i starts past) c.loop-start.invariant
