-- The C source of a node's tables.
use Rattle.std.{specs.Prelude.{◌≡◌, ℕ, ◌+◌, ◌%◌, ◌==◌, ◌&&◌, ◌||◌, Bool, List, [], ◌∷◌, ◌++◌, codes, if◌then◌else◌, length, nat_le, Option, Some, None, option_map, unwrap_or}, specs.Fmt.{decimal}, specs.List.{flat_map}}
use Rattle.plan_values.{specs.declared.nodes.Pool.{Pool}, specs.declared.plan.Plan.{Plan}}
use Rattle.net_tables.{specs.Ownership.{pool_of}, specs.Routing.{eid_of}, specs.Names.{node_name}}
use Rattle.pdr_repository.specs.Records.{Entry, entries}
use Rattle.hex.specs.Hex.{encode_lower}
use Rattle.plan_exports.{specs.PlannedRows.{RowFacts, ArePlannedRows}, specs.declared.c_sources.CTerminus.{CTerminus}, specs.Words.{hex_list}}

-- ---- names

-- an ASCII letter
abbrev pub is_letter : ℕ → Bool
is_letter b = (nat_le 65 b && nat_le b 90) || (nat_le 97 b && nat_le b 122)

-- an ASCII letter or digit stays, and each other byte becomes `_`
abbrev pub cleaned : ℕ → ℕ
cleaned b = if is_letter b || (nat_le 48 b && nat_le b 57) then b else 95

-- what stands before a name that begins with no letter
abbrev pub identifier_front : List ℕ → List ℕ
identifier_front [] = codes "node_"
identifier_front (b ∷ bytes) = if is_letter b then [] else codes "node_"

-- the name as it begins a C identifier
abbrev pub identifier : List ℕ → List ℕ
identifier name = identifier_front name ++ flat_map (λ b. cleaned b ∷ []) name

-- ---- what stands in the source

-- the types that the sources of all nodes have in common, once in whatever takes in several
abbrev pub types_text : List ℕ
types_text = codes "#ifndef MCTPPLAN_TYPES\n#define MCTPPLAN_TYPES\n#include <stddef.h>\n#include <stdint.h>\n\n"
    ++ (codes "/* A row: its first endpoint ID, its size, its port, the next node's endpoint ID and address. */\n"
    ++ (codes "struct mctpplan_row {\n    uint8_t first, size, port, next_eid, address_length, address[8];\n};\n\n"
    ++ (codes "/* Where a record stands in the repository. */\nstruct mctpplan_record {\n    uint32_t handle;\n"
    ++ codes "    uint32_t offset;\n    uint32_t length;\n};\n#endif\n")))

-- the node's name, then these types
abbrev pub head_of_types : (name types : List ℕ) → List ℕ
head_of_types name types = codes "/* The node " ++ (name
    ++ (codes " of a planned MCTP network.\n   Made by mctpplan export c. */\n" ++ types))

abbrev pub head_text : List ℕ → List ℕ
head_text name = head_of_types name types_text

-- the transmission unit of the plan
abbrev pub unit_text : List ℕ → ℕ → List ℕ
unit_text id unit =
    codes "\n/* The transmission unit of the plan: the most payload bytes of a packet. */\nconst uint16_t "
    ++ (id ++ (codes "_unit = " ++ (decimal unit ++ codes ";\n")))

abbrev pub eid_text : List ℕ → ℕ → List ℕ
eid_text id eid =
    codes "\n/* The endpoint ID. */\nconst uint8_t " ++ (id ++ (codes "_eid = " ++ (decimal eid ++ codes ";\n")))

-- the first endpoint ID of a pool and its size, 0 where there is none
abbrev pub pool_first : Option Pool → ℕ
pool_first pool = unwrap_or (option_map (λ pool. pool.first.value) pool) 0

abbrev pub pool_size : Option Pool → ℕ
pool_size pool = unwrap_or (option_map (λ pool. pool.size) pool) 0

abbrev pub pool_text : List ℕ → (first size : ℕ) → List ℕ
pool_text id first size =
    codes "\n/* The EID pool: its first endpoint ID and its size, 0 where there is none. */\nconst uint8_t "
    ++ (id ++ (codes "_pool_first = " ++ (decimal first ++ (codes ";\nconst uint8_t " ++ (id ++ (codes "_pool_size = "
    ++ (decimal size ++ codes ";\n")))))))

-- the bytes of an address between braces; 0 where there are none
abbrev pub address_list : List ℕ → List ℕ
address_list [] = codes "0"
address_list (b ∷ bytes) = codes "0x" ++ hex_list (codes ", 0x") (b ∷ bytes)

-- what stands before an address: a row's first endpoint ID, its size and its port, the next node's endpoint ID, and how
-- many bytes its address has
abbrev pub numbers_text : (first size port eid count : ℕ) → List ℕ
numbers_text first size port eid count = codes "    {" ++ (decimal first ++ (codes ", " ++ (decimal size ++ (codes ", "
    ++ (decimal port ++ (codes ", " ++ (decimal eid ++ (codes ", " ++ (decimal count ++ codes ", {")))))))))

-- in a comment the next node's name, then these numbers and the address
abbrev pub row_of_words : (numbers address name : List ℕ) → List ℕ
row_of_words numbers address name =
    codes "    /* to " ++ (name ++ (codes " */\n" ++ (numbers ++ (address ++ codes "}},\n"))))

abbrev pub row_line : Plan → RowFacts → List ℕ
row_line plan row = row_of_words (numbers_text row.first row.size row.port row.eid (length row.address))
    (address_list row.address) (node_name plan row.next)

-- the lines of the rows; where there are none, one that counts for nothing, since an array of C has an item
abbrev pub row_lines : Plan → List RowFacts → List ℕ
row_lines plan [] = codes "    {0, 0, 0, 0, 0, {0}}, /* no row */\n"
row_lines plan (row ∷ rows) = flat_map (row_line plan) (row ∷ rows)

abbrev pub rows_of_lines : List ℕ → ℕ → List ℕ → List ℕ
rows_of_lines id count lines =
    codes "\n/* The routing table, lower endpoint IDs first. */\nconst size_t " ++ (id ++ (codes "_row_count = "
    ++ (decimal count ++ (codes ";\nconst struct mctpplan_row " ++ (id ++ (codes "_rows[] = {\n"
    ++ (lines ++ codes "};\n")))))))

-- how many rows there are, and each
abbrev pub rows_text : Plan → List ℕ → List RowFacts → List ℕ
rows_text plan id rows = rows_of_lines id (length rows) (row_lines plan rows)

-- ---- the repository

abbrev pub tid_text : List ℕ → ℕ → List ℕ
tid_text id tid =
    codes "\n/* The terminus ID, 0 where it has none yet. */\nconst uint8_t " ++ (id ++ (codes "_tid = "
    ++ (decimal tid ++ codes ";\n")))

-- the byte at an index: the first of a line, where sixteen are, or one behind another
abbrev pub byte_text : ℕ → ℕ → List ℕ
byte_text i byte = (if i % 16 == 0 then codes "\n    " else codes " ")
    ++ (codes "0x" ++ (encode_lower (byte ∷ []) ++ codes ","))

-- bytes, of which the first has this index
abbrev pub bytes_from : ℕ → List ℕ → List ℕ
bytes_from i [] = []
bytes_from i (byte ∷ bytes) = byte_text i byte ++ bytes_from (i + 1) bytes

-- the bytes of a record, in lines of sixteen
abbrev pub bytes_text : Entry → List ℕ
bytes_text entry = bytes_from 0 entry.bytes

abbrev pub repository_text : List ℕ → List Entry → List ℕ
repository_text id records =
    codes "\n/* The records of the repository, one after another. */\nconst uint8_t " ++ (id
    ++ (codes "_repository[] = {"
    ++ (flat_map bytes_text records ++ codes "\n};\n")))

abbrev pub record_line : (handle offset size : ℕ) → List ℕ
record_line handle offset size =
    codes "    {" ++ (decimal handle ++ (codes ", " ++ (decimal offset ++ (codes ", "
    ++ (decimal size ++ codes "},\n")))))

-- the lines of records, of which the first begins at an offset
abbrev pub record_lines : ℕ → List Entry → List ℕ
record_lines offset [] = []
record_lines offset (entry ∷ entries) =
    record_line entry.handle offset (length entry.bytes) ++ record_lines (offset + length entry.bytes) entries

abbrev pub records_of_lines : List ℕ → ℕ → List ℕ → List ℕ
records_of_lines id count lines =
    codes "\n/* The records, in the order of their next handles. */\nconst size_t " ++ (id
    ++ (codes "_record_count = " ++ (decimal count ++ (codes ";\nconst struct mctpplan_record "
    ++ (id ++ (codes "_records[] = {\n"
    ++ (lines ++ codes "};\n")))))))

-- how many records there are, and where each stands
abbrev pub records_text : List ℕ → List Entry → List ℕ
records_text id records = records_of_lines id (length records) (record_lines 0 records)

-- a terminus: its ID and its records by place
pub record TerminusFacts : Type 0 where
  pub tid : ℕ
  pub records : List Entry

abbrev pub terminus_facts : CTerminus → TerminusFacts
terminus_facts terminus = record { tid = terminus.tid; records = entries terminus.records.now }

abbrev pub terminus_text : List ℕ → Option TerminusFacts → List ℕ
terminus_text id None = []
terminus_text id (Some terminus) = tid_text id terminus.tid ++ (repository_text id terminus.records
    ++ records_text id terminus.records)

-- the whole source, each name of which begins so
abbrev pub named_text : Plan → ℕ → List ℕ → List RowFacts → Option TerminusFacts → List ℕ
named_text plan n id rows terminus =
    head_text (node_name plan n)
    ++ (unit_text id plan.unit
    ++ (eid_text id (unwrap_or (eid_of plan n) 0)
    ++ (pool_text id (pool_first (pool_of plan n)) (pool_size (pool_of plan n))
    ++ (rows_text plan id rows ++ terminus_text id terminus))))

abbrev pub c_text : Plan → ℕ → List RowFacts → Option TerminusFacts → List ℕ
c_text plan n rows terminus = named_text plan n (identifier (node_name plan n)) rows terminus

-- The text is the source of n, with all of its rows, and with this terminus.
pub record IsCSource (plan : Plan) (n : ℕ) (terminus : Option TerminusFacts) (text : List ℕ) : Type 0 where
  pub rows : List RowFacts
  pub planned : ArePlannedRows plan n rows
  pub text_is : text ≡ c_text plan n rows terminus
