-- Edits that were tried, as operations of a JSON patch.
use Rattle.std.specs.Prelude.{ℕ, List, [], ◌∷◌, ◌++◌, codes, length}
use Rattle.serde_json.specs.Data.{Data, string}
use Rattle.net_plan.specs.Finding.{Step, key}
use Rattle.net_explained.{specs.declared.edit.Change.{Change}, specs.declared.trial.Tried.{Tried}}
use Rattle.plan_values.specs.declared.plan.Plan.{Plan}
use Rattle.net_tables.specs.Routing.{rows_of}
use Rattle.fault_texts.specs.Places.{part_pointer, record_pointer, row_pointer}
use Rattle.json_commands.{specs.Places.{json_pointer}, specs.Values.{Has}}
use Rattle.net_explained.specs.declared.edit.Change.TheVariants as change

-- what is done to a value (RFC 6902)
abbrev pub op_of : Change → List ℕ
op_of (change.LessRow i) = codes "remove"
op_of (change.MoreRow row) = codes "add"
op_of _ = codes "replace"

-- what a record says at a key
abbrev pub part_of_record : ℕ → ℕ → List ℕ → List Step
part_of_record n j k = record_pointer n j ++ key k ∷ []

-- where it is done
abbrev pub edit_pointer : Plan → ℕ → Change → List Step
edit_pointer plan n (change.Name name) = part_pointer n (codes "name")
edit_pointer plan n (change.Kind kind) = part_pointer n (codes "kind")
edit_pointer plan n (change.Eid eid) = part_pointer n (codes "eid")
edit_pointer plan n (change.Owner owner) = part_pointer n (codes "owner")
edit_pointer plan n (change.Pool pool) = part_pointer n (codes "pool")
edit_pointer plan n (change.Row i row) = row_pointer n i
edit_pointer plan n (change.MoreRow row) = row_pointer n (length (rows_of plan n))
edit_pointer plan n (change.LessRow i) = row_pointer n i
edit_pointer plan n change.NoTerminus = part_pointer n (codes "terminus")
edit_pointer plan n (change.Handle j handle) = part_of_record n j (codes "handle")
edit_pointer plan n (change.Next j next) = part_of_record n j (codes "next")
edit_pointer plan n (change.Bytes j bytes) = part_of_record n j (codes "bytes")

-- the value is the operation of an edit of the plan, at its pointer
abbrev pub IsEditTold : Plan → Tried → Data → Type 0
IsEditTold plan tried d = Has (codes "op") (string (op_of tried.edit.change)) d
    × Has (codes "path") (string (json_pointer (edit_pointer plan tried.edit.node tried.edit.change))) d
