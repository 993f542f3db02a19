-- What a message tells: the pieces that it is made of, and what they name of a plan.
use Rattle.std.{specs.Prelude.{◌≡◌, ℕ, ◌+◌, ◌-◌, ◌*◌, ◌==◌, List, [], ◌∷◌, ◌++◌, codes, length, if◌then◌else◌, Option, Some, None, option_map, option_and_then, slice_get}, specs.Fmt.{decimal}, specs.List.{flat_map}}
use Rattle.net_tables.{specs.Ownership.{owner_of, pool_of}, specs.Repositories.{records_of, terminus_of}, specs.Routing.{ports_of, rows_of}, specs.Rows.{bus_of}, specs.Names.{address_on, node_name}}
use Rattle.plan_values.{specs.declared.nodes.Pool.{Pool}, specs.declared.nodes.Row.{Row}, specs.declared.plan.Plan.{Plan}, specs.declared.terminus.PlannedRecord.{PlannedRecord}}
use Rattle.pdr_record.specs.Codes.{code_of}
use Rattle.plan_texts.{specs.Lines.{number_or_dash}, specs.LineParts.{address_text, bus_text, name_or_none, span_text}}
use Rattle.explanation_texts.{specs.declared.pieces.Entry.{Entry}, specs.declared.pieces.Piece.{Piece}}
use Rattle.explanation_texts.specs.declared.pieces.Piece.TheVariants as piece

-- a row or a record of a node
abbrev pub entry_at : ℕ → ℕ → Entry
entry_at n i = record { node = n; index = Some i }

-- ---- what is looked up in a plan

-- the row, if there is one
abbrev pub row_of : Plan → Entry → Option Row
row_of plan at = option_and_then (slice_get (rows_of plan at.node)) at.index

-- the bus on which a row sends
abbrev pub bus_of_row : Plan → Entry → Option ℕ
bus_of_row plan at = option_and_then (λ row. bus_of plan at.node row.port) (row_of plan at)

-- the record, if there is one
abbrev pub record_of : Plan → Entry → Option PlannedRecord
record_of plan at = option_and_then (slice_get (records_of plan at.node)) at.index

-- its handle
abbrev pub handle_of : Plan → Entry → Option ℕ
handle_of plan at = option_map (λ r. r.handle) (record_of plan at)

-- the terminus ID of a node
abbrev pub tid_of : Plan → ℕ → Option ℕ
tid_of plan n = option_map (λ terminus. terminus.tid) (terminus_of plan n)

-- the data length in a record's header: bytes 8 and 9, the lower one first
abbrev pub data_length : List ℕ → Option ℕ
data_length bytes =
    option_and_then (λ low. option_map (λ high. low + 256 * high) (slice_get bytes 9)) (slice_get bytes 8)

-- ---- texts

-- what a row covers, or a dash where there is no such row
abbrev pub row_span : Option Row → List ℕ
row_span (Some row) = span_text row.first.value row.size
row_span None = codes "-"

-- what a pool has, null where a node has none
abbrev pub pool_span : Option Pool → List ℕ
pool_span (Some pool) = span_text pool.first.value pool.size
pool_span None = codes "null"

-- the name of an owner, null where there is none
abbrev pub owner_name : Plan → Option ℕ → List ℕ
owner_name plan (Some owner) = node_name plan owner
owner_name plan None = codes "null"

-- how many ports there are, and their numbers
abbrev pub ports_text : ℕ → List ℕ
ports_text count = if count == 0 then codes "no port" else if count == 1 then codes "1 port (port 0)"
    else decimal count ++ (codes " ports (0 to " ++ (decimal (count - 1) ++ codes ")"))

-- the address of the next node on the bus, in hex, or a dash
abbrev pub address_to : Plan → Option ℕ → Option Row → List ℕ
address_to plan bus (Some row) = address_text (address_on plan row.next bus)
address_to plan bus None = codes "-"

-- ---- pieces

-- the text of a piece
abbrev pub piece_text : Plan → Piece → List ℕ
piece_text plan (piece.Words words) = words.now
piece_text plan (piece.Number number) = decimal number
piece_text plan (piece.Given number) = number_or_dash number
piece_text plan (piece.Code why) = code_of why
piece_text plan (piece.Name node) = node_name plan node
piece_text plan (piece.OwnerName node) = owner_name plan (owner_of plan node)
piece_text plan (piece.BusName bus) = bus_text plan (Some bus)
piece_text plan (piece.PortCount node) = ports_text (length (ports_of plan node))
piece_text plan (piece.Tid node) = number_or_dash (tid_of plan node)
piece_text plan (piece.PoolSpan node) = pool_span (pool_of plan node)
piece_text plan (piece.PoolFirst node) = number_or_dash (option_map (λ pool. pool.first.value) (pool_of plan node))
piece_text plan (piece.PoolSize node) = number_or_dash (option_map (λ pool. pool.size) (pool_of plan node))
piece_text plan (piece.At at) = number_or_dash at.index ++ (codes " of " ++ node_name plan at.node)
piece_text plan (piece.RowSpan at) = row_span (row_of plan at)
piece_text plan (piece.RowFirst at) = number_or_dash (option_map (λ row. row.first.value) (row_of plan at))
piece_text plan (piece.RowSize at) = number_or_dash (option_map (λ row. row.size) (row_of plan at))
piece_text plan (piece.RowPort at) = number_or_dash (option_map (λ row. row.port) (row_of plan at))
piece_text plan (piece.RowNext at) = name_or_none plan (option_map (λ row. row.next) (row_of plan at))
piece_text plan (piece.RowBus at) = bus_text plan (bus_of_row plan at)
piece_text plan (piece.RowAddress at) = address_to plan (bus_of_row plan at) (row_of plan at)
piece_text plan (piece.Handle at) = number_or_dash (handle_of plan at)
piece_text plan (piece.NextHandle at) = number_or_dash (option_map (λ r. r.next) (record_of plan at))
piece_text plan (piece.DataLength at) =
    number_or_dash (option_and_then (λ r. data_length r.bytes.items) (record_of plan at))
piece_text plan (piece.Length at) = number_or_dash (option_map (λ r. length r.bytes.items) (record_of plan at))
piece_text plan (piece.BytesBehind at) =
    number_or_dash (option_map (λ r. length r.bytes.items - 10) (record_of plan at))

-- the text of a message
abbrev pub rendered : Plan → List Piece → List ℕ
rendered plan pieces = flat_map (piece_text plan) pieces

-- a piece, if it names something
abbrev pub subject_of : Piece → List Piece
subject_of (piece.Words words) = []
subject_of p = p ∷ []

-- what a message names, in its order: all but the words
abbrev pub subjects : List Piece → List Piece
subjects pieces = flat_map subject_of pieces

-- The text names these things of the plan in this order, with words between them, which are free.
abbrev pub Tells : Plan → List Piece → List ℕ → Type 0
Tells plan named text = (pieces : List Piece) × (subjects pieces ≡ named) × (text ≡ rendered plan pieces)
