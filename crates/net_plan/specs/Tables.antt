-- What may stand where in a plan, in a certificate, and in a list of events.
use Rattle.std.specs.Prelude.{ℕ, codes, List, [], ◌∷◌, Some, None}
use Rattle.net_plan.{specs.Grammar.{Grammar, plain, one_of, a_list, an_optional, an_object, a_choice, Fields, no_fields, field, keys_of}, specs.declared.event_format.Format.{Format}, specs.declared.plan_format.PlanFormat.{PlanFormat}, specs.declared.plan_format.PlanFormat.TheVariants.{One, Two}, specs.declared.shape.Named.TheVariants.{Buses, Nodes}, specs.Limits.{most_events}}
use Rattle.net_plan.specs.declared.event_format.Format.TheVariants as format
use Rattle.net_plan.specs.declared.shape.Rule.TheVariants as rule
use Rattle.net_plan.specs.declared.shape.Word.TheVariants as word

abbrev pub a_number : ℕ → ℕ → Grammar
a_number least most = plain (word.Number least most)

abbrev pub a_byte : Grammar
a_byte = a_number 0 255

-- a number of 32 bits
abbrev pub a_word : Grammar
a_word = a_number 0 4294967295

-- a name that is given there
abbrev pub a_name : Grammar
a_name = plain word.Name

-- the name of one of the plan's buses
abbrev pub a_bus_name : Grammar
a_bus_name = plain (word.Named Buses)

-- the name of one of the plan's nodes
abbrev pub a_node_name : Grammar
a_node_name = plain (word.Named Nodes)

-- `true` or `false`
abbrev pub a_truth : Grammar
a_truth = plain word.Truth

-- the kind of a node
abbrev pub a_kind : Grammar
a_kind = plain word.Kind

abbrev pub a_hex : Grammar
a_hex = plain word.Hex

abbrev pub an_address : Grammar
an_address = plain word.Address

-- an object of which no more is asked than its keys and what stands at them
abbrev pub object_of : Fields → Grammar
object_of fs = an_object rule.None fs

-- ---- plans

abbrev pub a_bus : Grammar
a_bus =
    object_of (field (codes "name") a_name (field (codes "binding") a_byte (field (codes "media") a_byte no_fields)))

abbrev pub a_port : Grammar
a_port = object_of (field (codes "bus") a_bus_name (field (codes "address") an_address no_fields))

abbrev pub a_row : Grammar
a_row =
    object_of
    (field (codes "first") a_byte
    (field (codes "size") a_byte
    (field (codes "port") (a_number 0 31)
    (field (codes "next") a_node_name no_fields))))

abbrev pub a_pool : Grammar
a_pool = object_of (field (codes "first") a_byte (field (codes "size") a_byte no_fields))

abbrev pub a_record : Grammar
a_record =
    object_of (field (codes "handle") a_word (field (codes "next") a_word (field (codes "bytes") a_hex no_fields)))

abbrev pub a_terminus : Grammar
a_terminus =
    object_of (field (codes "tid") (a_number 0 254) (field (codes "records") (a_list (Some 4096) a_record) no_fields))

abbrev pub a_node : Grammar
a_node =
    object_of
    (field (codes "name") a_name
    (field (codes "kind") a_kind
    (field (codes "eid") a_byte
    (field (codes "owner") (an_optional a_node_name)
    (field (codes "pool") (an_optional a_pool)
    (field (codes "ports") (a_list (Some 32) a_port)
    (field (codes "rows") (a_list (Some 256) a_row)
    (field (codes "terminus") (an_optional a_terminus) no_fields))))))))

-- the buses and the nodes
abbrev pub plan_lists : Fields
plan_lists =
    field (codes "buses") (a_list (Some 64) a_bus) (field (codes "nodes") (a_list (Some 64) a_node) no_fields)

-- a plan of a format
abbrev pub a_plan : PlanFormat → Grammar
a_plan One = object_of (field (codes "format") (a_number 1 1) plan_lists)
a_plan Two =
    object_of (field (codes "format") (a_number 2 2) (field (codes "unit") (a_number 64 1024) plan_lists))

-- ---- certificates

-- the level of a node
abbrev pub a_level : Grammar
a_level = object_of (field (codes "level") (a_number 1 63) (field (codes "node") a_node_name no_fields))

-- the places of a node's records
abbrev pub a_node_places : Grammar
a_node_places =
    object_of (field (codes "node") a_node_name (field (codes "places") (a_list None (a_number 0 4095)) no_fields))

-- endpoint IDs of one rank
abbrev pub a_range : Grammar
a_range =
    an_object rule.EndsInTime
    (field (codes "first") a_byte
    (field (codes "rank") (a_number 1 255)
    (field (codes "size") (a_number 1 255) no_fields)))

-- the ranks of a node
abbrev pub a_node_ranks : Grammar
a_node_ranks =
    object_of (field (codes "node") a_node_name (field (codes "ranges") (a_list None a_range) no_fields))

abbrev pub a_certificate : Grammar
a_certificate =
    object_of
    (field (codes "format") (a_number 1 1)
    (field (codes "levels") (a_list None a_level)
    (field (codes "places") (a_list None a_node_places)
    (field (codes "ranks") (a_list None a_node_ranks) no_fields))))

-- ---- events

-- an event that does this, and has these keys
abbrev pub event_that : List ℕ → Fields → Grammar
event_that word fs = object_of (field (codes "do") (one_of (word ∷ [])) fs)

abbrev pub a_put : Grammar
a_put = event_that (codes "put") (field (codes "node") a_node_name (field (codes "bytes") a_hex no_fields))

abbrev pub a_move : Grammar
a_move = event_that (codes "move") (field (codes "flight") a_word (field (codes "keep") a_truth no_fields))

abbrev pub a_lose : Grammar
a_lose = event_that (codes "lose") (field (codes "flight") a_word no_fields)

abbrev pub an_expire : Grammar
an_expire =
    event_that (codes "expire")
    (field (codes "node") a_node_name
    (field (codes "source") a_byte
    (field (codes "tag") (a_number 0 7)
    (field (codes "owner") (a_number 0 1) no_fields))))

abbrev pub an_answer : Grammar
an_answer = event_that (codes "answer") (field (codes "node") a_node_name no_fields)

abbrev pub a_switch : Grammar
a_switch = event_that (codes "switch") (field (codes "node") a_node_name no_fields)

-- the endpoint ID can be assigned, and a part of a record has 8 to 4079 bytes
abbrev pub a_walk : Grammar
a_walk =
    event_that (codes "walk")
    (field (codes "node") a_node_name
    (field (codes "eid") (a_number 8 254)
    (field (codes "tag") (a_number 0 7)
    (field (codes "count") (a_number 8 4079) no_fields))))

abbrev pub an_ask : Grammar
an_ask = event_that (codes "ask") (field (codes "walker") a_word no_fields)

abbrev pub a_collected : Grammar
a_collected = event_that (codes "collected") (field (codes "walker") a_word no_fields)

-- what format 3 alone has
abbrev pub walk_events : Fields
walk_events =
    field (codes "walk") a_walk (field (codes "ask") an_ask (field (codes "collected") a_collected no_fields))

-- what a format has beyond the first
abbrev pub later_events : Format → Fields
later_events format.One = no_fields
later_events format.Two = field (codes "switch") a_switch no_fields
later_events format.Three = field (codes "switch") a_switch walk_events

-- what an event of a list of this format does, and its keys
abbrev pub event_choices : Format → Fields
event_choices f =
    field (codes "put") a_put
    (field (codes "move") a_move
    (field (codes "lose") a_lose
    (field (codes "expire") an_expire
    (field (codes "answer") an_answer (later_events f)))))

abbrev pub an_event : Format → Grammar
an_event f = a_choice (codes "do") (one_of (keys_of (event_choices f))) (event_choices f)

-- a list of events of a format
abbrev pub events_in : Format → Grammar
events_in f =
    object_of
    (field (codes "format") (a_number 1 3) (field (codes "events") (a_list (Some most_events) (an_event f)) no_fields))
