use Rattle.std.{proofs.Common.{◌≡◌, List, map, Ok, ap, ◌∙◌}, proofs.lemmas.Result.{err_from_is_err_and}}
use Rattle.net_plan.{specs.EventReading.{events_format}, specs.Grammar.{grammar}, specs.Tables.{events_in}, specs.Trees.{view}, proofs.EventLaw.{wrong_value, unknown_events, known_events}}
use Rattle.plan_values.{specs.EventValues.{EventEntry, event_entry}, specs.PlanValues.{node_value, node_names}}
use Rattle.net_plan.proofs.event_text.read_events_among.Goals as goal

pub returns-in_err-check_shape-clause-read : goal.returns-in_err-check_shape-clause-read
returns-in_err-check_shape-clause-read c =
    let nodes = node_names (map node_value c.args.nodes.now) in
    let d = view c.args.value.now in
    let is : grammar c.events_shape.result.now ≡ events_in (events_format d) = c.events_shape.ensures ∙ ap events_in c.events_format.ensures in
    let told = err_from_is_err_and c.from_residual.result c.from_residual.ensures.1 in
    rw (told.1, told.2) (λ known. wrong_value nodes d (grammar c.events_shape.result.now) is c.in_err-check_shape.field-0.0 (c.in_err-check_shape.ensures known))

pub returns-in_err-check_known-clause-read : goal.returns-in_err-check_known-clause-read
returns-in_err-check_known-clause-read c =
    let nodes = node_names (map node_value c.args.nodes.now) in
    let d = view c.args.value.now in
    let is : grammar c.events_shape.result.now ≡ events_in (events_format d) = c.events_shape.ensures ∙ ap events_in c.events_format.ensures in
    let es : List EventEntry = map event_entry c.as_slice.result.now in
    let same = ap (map event_entry) c.as_slice.ensures.value ∙ c.in_ok-events.ensures.made in
    let told = err_from_is_err_and c.from_residual-in_err-check_known.result c.from_residual-in_err-check_known.ensures.1 in
    rw (told.1, told.2) (λ known. unknown_events nodes d (grammar c.events_shape.result.now) is _ c.in_err-check_known.field-0.0 es c.in_ok-check_shape.ensures same c.in_err-check_known.ensures)

pub returns-clause-read : goal.returns-clause-read
returns-clause-read c =
    let nodes = node_names (map node_value c.args.nodes.now) in
    let d = view c.args.value.now in
    let is : grammar c.events_shape.result.now ≡ events_in (events_format d) = c.events_shape.ensures ∙ ap events_in c.events_format.ensures in
    let es : List EventEntry = map event_entry c.as_slice.result.now in
    let same = ap (map event_entry) c.as_slice.ensures.value ∙ c.in_ok-events.ensures.made in
    known_events nodes d (grammar c.events_shape.result.now) is _ _ es c.in_ok-check_shape.ensures same c.in_ok-check_known.ensures ∙ ap (λ es. Ok (map event_entry es)) c.as_slice.ensures.value
