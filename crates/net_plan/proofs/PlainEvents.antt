-- What is gathered of a list of events, as a value.
use Rattle.std.{proofs.Common.{◌≡◌, ◌≢◌, ◌∷◌, ℕ, List, [], map, Vec, Global, true, Option, Some, None, codes, sym, refl, true≢false}, specs.List.{list_all}}
use Rattle.json.specs.Json.{object, Members}
use Rattle.serde_json.specs.Data.{Data}
use Rattle.net_plan.{specs.EventParts.{IsEventBy}, specs.EventReading.{has_switches, has_walks}, specs.EventText.{IsFormat, IsEventOf}, specs.Gathered.{IsPlain, AreParts}, specs.JsonWords.{AreItems, IsShortListOf}, specs.Keys.{events_keys}, specs.PlainEvents.{events_slots, AreEventsBy, is_event_in}, specs.NameIndexes.{noted, IsIndexOf}, specs.Trees.{data_of}, specs.declared.event_format.Format.{Format}, specs.declared.event_format.Format.TheVariants.{One, Three}, specs.declared.plain_events.EventsParts.{EventsParts}, proofs.Gathered.{object_plain, all_keys, here}, proofs.Telling.{both}}
use Rattle.plan_values.{specs.EventValues.{EventEntry, switch, walk, ask, collected, event_entry}, specs.PlanValues.{node_names}, specs.declared.event.Event.{Event}}
use Rattle.serde_json.specs.Data as whole

-- ---- the format

later : (f : Format) → has_switches f ≡ true → f ≢ One
later One e = absurd (true≢false (sym e))
later f e = λ h. cc

third : (f : Format) → has_walks f ≡ true → f ≡ Three
third Three e = refl
third f e = absurd (true≢false (sym e))

module _ (f : Format) (names : List (List ℕ)) where
  in_format : (d : Data) (e : EventEntry) → IsEventOf Three names d e → is_event_in f e ≡ true → IsEventOf f names d e
  in_format d (switch node) h has = record { later = later f has; keys = h.keys; does = h.does; at_node = h.at_node }
  in_format d (walk node eid tag count) h has = record { third = third f has; keys = h.keys; does = h.does; at_node = h.at_node; asked = h.asked; tagged = h.tagged; counted = h.counted }
  in_format d (ask walker) h has = record { third = third f has; keys = h.keys; does = h.does; number = h.number }
  in_format d (collected walker) h has = record { third = third f has; keys = h.keys; does = h.does; number = h.number }
  in_format d e h has = h

  all_in_format : (find : List ℕ → Option ℕ) → IsIndexOf find names → (ds : whole.Items) (es : List EventEntry) → AreItems (IsEventBy find) ds es → list_all (is_event_in f) es ≡ true → AreItems (IsEventOf f names) ds es
  all_in_format find places whole.no_items [] h has = tt
  all_in_format find places (whole.item d ds) (e ∷ es) h has =
      let p = both (is_event_in f e) (list_all (is_event_in f) es) has in
      (in_format d e (h.0 names places) p.0, all_in_format find places ds es h.1 p.1)
  all_in_format find places ds es h has = absurd h

pub events_of : (p : EventsParts) (f : Format) (v : Vec Event Global) → p.format ≡ Some f → p.events ≡ Some v → list_all (is_event_in f) (map event_entry v.items) ≡ true → (ms : Members) → AreParts (events_slots p) ms
    → AreEventsBy (noted p.nodes.now) (data_of (object ms)) (map event_entry v.items) × IsPlain (object ms)
events_of p f v is_format is_events has ms h =
    let find = noted p.nodes.now in
    let es = map event_entry v.items in
    let formatted = here (codes "format") IsFormat p.format ms h.read.0 f is_format in
    let listed = here (codes "events") (λ d v. IsShortListOf 100000 (IsEventBy find) d (map event_entry v.items)) p.events ms h.read.1.0 v is_events in
    let short = listed.2.2 in (
      λ plan places. record {
        keys = all_keys events_keys ms h.plain (rw (formatted.1, listed.1) refl);
        format = f;
        numbered = formatted.2;
        events = (listed.2.0, listed.2.1, ((short.0.0, short.0.1, all_in_format f (node_names plan.nodes) find places short.0.0 es short.0.2 has), short.1));
      },
      object_plain events_keys ms h.plain,
    )
