-- The lines of edits that were tried.
use Rattle.std.{specs.Prelude.{ℕ, List, [], ◌++◌, length, codes, Option, Some, None, unwrap_or}, specs.Fmt.{decimal}, specs.List.{flat_map}}
use Rattle.hex.specs.Hex.{encode_lower}
use Rattle.net_explained.{specs.declared.edit.Change.{Change}, specs.declared.edit.Edit.{Edit}, specs.declared.trial.Tried.{Tried}}
use Rattle.plan_values.{specs.NodeValues.{name_bytes}, specs.declared.nodes.Pool.{Pool}, specs.declared.nodes.Row.{Row}, specs.declared.plan.Plan.{Plan}}
use Rattle.net_rules.specs.declared.certify_error.CertifyError.{CertifyError}
use Rattle.net_tables.{specs.Names.{kind_word, node_name}, specs.Routing.{rows_of}}
use Rattle.plan_texts.specs.Lines.{obstacle_text}
use Rattle.net_explained.specs.declared.edit.Change.TheVariants as change

-- ---- values, as the text of a plan has them

abbrev pub quoted : List ℕ → List ℕ
quoted text = codes "\"" ++ (text ++ codes "\"")

abbrev pub owner_value : Plan → Option ℕ → List ℕ
owner_value plan (Some owner) = quoted (node_name plan owner)
owner_value plan None = codes "null"

abbrev pub pool_value : Option Pool → List ℕ
pool_value (Some pool) =
    codes "{ \"first\": " ++ (decimal pool.first.value ++ (codes ", \"size\": " ++ (decimal pool.size ++ codes " }")))
pool_value None = codes "null"

abbrev pub row_value : Plan → Row → List ℕ
row_value plan row = codes "{ \"first\": " ++ (decimal row.first.value ++ (codes ", \"size\": " ++ (decimal row.size
    ++ (codes ", \"port\": " ++ (decimal row.port
    ++ (codes ", \"next\": \"" ++ (node_name plan row.next ++ codes "\" }")))))))

-- ---- edits

-- where in the object of node n the change is, as the rest of a JSON pointer
abbrev pub place_text : Plan → ℕ → Change → List ℕ
place_text plan n (change.Name name) = codes "name"
place_text plan n (change.Kind kind) = codes "kind"
place_text plan n (change.Eid eid) = codes "eid"
place_text plan n (change.Owner owner) = codes "owner"
place_text plan n (change.Pool pool) = codes "pool"
place_text plan n change.NoTerminus = codes "terminus"
place_text plan n (change.Row i row) = codes "rows/" ++ decimal i
place_text plan n (change.LessRow i) = codes "rows/" ++ decimal i
place_text plan n (change.MoreRow row) = codes "rows/" ++ decimal (length (rows_of plan n))
place_text plan n (change.Handle i handle) = codes "terminus/records/" ++ (decimal i ++ codes "/handle")
place_text plan n (change.Next i next) = codes "terminus/records/" ++ (decimal i ++ codes "/next")
place_text plan n (change.Bytes i bytes) = codes "terminus/records/" ++ (decimal i ++ codes "/bytes")

-- what is to stand there
abbrev pub value_text : Plan → Change → List ℕ
value_text plan (change.Name name) = quoted (name_bytes name)
value_text plan (change.Kind kind) = quoted (kind_word kind)
value_text plan (change.Eid eid) = decimal eid.value
value_text plan (change.Owner owner) = owner_value plan owner
value_text plan (change.Pool pool) = pool_value pool
value_text plan change.NoTerminus = codes "null"
value_text plan (change.Row i row) = row_value plan row
value_text plan (change.MoreRow row) = row_value plan row
value_text plan (change.LessRow i) = []
value_text plan (change.Handle i handle) = decimal handle
value_text plan (change.Next i next) = decimal next
value_text plan (change.Bytes i bytes) = quoted (encode_lower bytes.items)

-- what is done to a value, and the word before what is to stand there
abbrev pub verb_of : Change → List ℕ
verb_of (change.LessRow i) = codes "remove"
verb_of (change.MoreRow row) = codes "insert"
verb_of _ = codes "set"

abbrev pub word_of : Change → List ℕ
word_of (change.LessRow i) = codes ""
word_of (change.MoreRow row) = codes " as "
word_of _ = codes " to "

-- the JSON pointer, the name of the node, and what is to stand there
abbrev pub edit_text : Plan → Edit → List ℕ
edit_text plan edit = codes "Edit: " ++ (verb_of edit.change ++ (codes " /nodes/" ++ (decimal edit.node ++ (codes "/"
    ++ (place_text plan edit.node edit.change ++ (codes " of " ++ (node_name plan edit.node
    ++ (word_of edit.change ++ (value_text plan edit.change ++ codes "\n")))))))))

-- that a certificate fits the plan after an edit, or the line of what rules all of them out
abbrev pub left_text : Plan → Option CertifyError → List ℕ
left_text plan None = codes "then: yes\n"
left_text plan (Some next) = codes "then: " ++ unwrap_or (obstacle_text plan next) []

-- an edit, and what is so then
abbrev pub tried_text : Plan → Tried → List ℕ
tried_text plan tried = edit_text plan tried.edit ++ left_text plan tried.left

abbrev pub edits_text : Plan → List Tried → List ℕ
edits_text plan edits = flat_map (tried_text plan) edits
