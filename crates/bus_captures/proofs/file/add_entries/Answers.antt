use Rattle.std.{proofs.Common.{◌≡◌, ◌++◌, ◌∷◌, [], map, ap, ◌∙◌, subst, sym}, proofs.lemmas.List.{map-append}}
use Rattle.bus_captures.{specs.Files.{AreRead}, specs.Values.{entry_value}, specs.Records.{record_value}, proofs.RecordLaws.{one_more}}
use Rattle.bus_captures.proofs.file.add_entries.Goals as goal

pub loop-left-preserved : goal.loop-left-preserved
loop-left-preserved c =
    let old = c.loop-left.entries.items in
    let found = c.in-Some.ensures in
    let e = entry_value c.in_ok-entry_of.field-0 in
    let added : map entry_value c.push.new.self.items ≡ map entry_value old ++ e ∷ [] =
    ap (map entry_value) c.in_ok-push.ensures.items ∙ map-append entry_value old _ in
    subst (λ es. AreRead c.args.order c.args.unit c.args.link c.args.bytes.now es c.in-Some.rest.now) (sym added)
    (one_more c.args.order c.args.unit c.args.link c.args.bytes.now (map entry_value old) c.loop-left.left.now c.in-Some.rest.now
    (record_value c.in-Some.record) e c.loop-left.invariant found.0 found.1 c.in_ok-entry_of.ensures)
