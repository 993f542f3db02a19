-- What an edit makes of a plan.
use Rattle.std.{specs.Prelude.{◌≡◌, ℕ, List, [], ◌∷◌, ◌++◌, Option, Some, None, option_map, slice_get, slice_set}, specs.List.{remove}}
use Rattle.plan_values.{specs.NodeValues.{NodeValue, RecordValue, TerminusValue, name_bytes, pool_value, row_value}, specs.PlanValues.{PlanValue}}
use Rattle.net_explained.{specs.declared.edit.Change.{Change}, specs.declared.edit.Edit.{Edit}}
use Rattle.net_explained.specs.declared.edit.Change.TheVariants as change

-- the record with just this changed
abbrev pub changed_record : Change → RecordValue → RecordValue
changed_record (change.Handle i handle) r = record r { handle = handle }
changed_record (change.Next i next) r = record r { next = next }
changed_record (change.Bytes i bytes) r = record r { bytes = bytes.items }
changed_record _ r = r

-- the list with this item at the index, if there is one
abbrev pub with_item : {A : Type 0} → List A → ℕ → Option A → List A
with_item items i (Some item) = slice_set items i item
with_item items i None = items

-- the terminus with its record at the index changed so
abbrev pub with_record : ℕ → (RecordValue → RecordValue) → TerminusValue → TerminusValue
with_record i f t = record t { records = with_item t.records i (option_map f (slice_get t.records i)) }

-- the node with just this changed
abbrev pub changed : Change → NodeValue → NodeValue
changed (change.Name name) v = record v { name = name_bytes name }
changed (change.Kind kind) v = record v { kind = kind }
changed (change.Eid eid) v = record v { eid = eid.value }
changed (change.Owner owner) v = record v { owner = owner }
changed (change.Pool pool) v = record v { pool = option_map pool_value pool }
changed (change.Row i row) v = record v { rows = slice_set v.rows i (row_value row) }
changed (change.MoreRow row) v = record v { rows = v.rows ++ row_value row ∷ [] }
changed (change.LessRow i) v = record v { rows = remove v.rows i }
changed change.NoTerminus v = record v { terminus = None }
changed (change.Handle i handle) v =
    record v { terminus = option_map (with_record i (changed_record (change.Handle i handle))) v.terminus }
changed (change.Next i next) v =
    record v { terminus = option_map (with_record i (changed_record (change.Next i next))) v.terminus }
changed (change.Bytes i bytes) v =
    record v { terminus = option_map (with_record i (changed_record (change.Bytes i bytes))) v.terminus }

-- The plan before has the node, and the plan after is the same with just the edit's change of that node.
pub record IsEdited (before : PlanValue) (edit : Edit) (after : PlanValue) : Type 0 where
  pub node : NodeValue
  pub there : slice_get before.nodes edit.node ≡ Some node
  pub after_it : after ≡ record before { nodes = slice_set before.nodes edit.node (changed edit.change node) }
