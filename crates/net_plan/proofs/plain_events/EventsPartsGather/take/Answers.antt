use Rattle.std.proofs.Common.{map, codes, refl, rules}
use Rattle.net_plan.{specs.EventParts.{IsEventBy}, specs.EventText.{IsFormat}, specs.JsonWords.{IsShortListOf}, specs.NameIndexes.{noted}, specs.PlainEvents.{events_slots}, proofs.Gathered.{list_there, next_taken, there_taken}}
use Rattle.plan_values.specs.EventValues.{event_entry}
use Rattle.net_plan.proofs.plain_events.EventsPartsGather.take.Goals as goal

pub returns-in_ok-next_format-in-format-clause-more : goal.returns-in_ok-next_format-in-format-clause-more
returns-in_ok-next_format-in-format-clause-more c =
    next_taken IsFormat (codes "format") (events_slots c.args.self.now) c.args.self.now.format c.set_once.new.slot c.in_ok-next_format-in-format.field-0 c.set_once.result c.args.key.now c.args.depth c.args.reader.now c.next_format.new.reader c.in-format.is (λ o h. h) refl c.in_ok-next_format-in-format.ensures c.set_once.ensures

pub returns-in_ok-next_list-in-events-clause-more : goal.returns-in_ok-next_list-in-events-clause-more
returns-in_ok-next_list-in-events-clause-more c =
    there_taken (λ d v. IsShortListOf 100000 (IsEventBy (noted c.args.self.now.nodes.now)) d (map event_entry v.items)) (codes "events") (events_slots c.args.self.now) c.args.self.now.events c.set_once-in-events.new.slot c.in_ok-next_list-in-events.field-0 c.set_once-in-events.result c.args.key.now c.args.depth c.args.reader.now c.next_list.new.reader c.in-events.is (λ o h. h) refl (list_there (IsEventBy (noted c.args.self.now.nodes.now)) event_entry 100000 c.args.depth c.args.reader.now c.next_list.new.reader c.in_ok-next_list-in-events.field-0.items c.in_ok-next_list-in-events.ensures.read (search rules)) c.set_once-in-events.ensures
