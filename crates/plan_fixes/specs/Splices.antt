-- What of a plan's text an edit changes.
use Rattle.std.specs.Prelude.{◌≡◌, ◌≤◌, ◌-◌, ℕ, List, [], ◌∷◌, ◌++◌, length, take, drop, codes}
use Rattle.json.specs.Json.{Json}
use Rattle.fault_texts.specs.Places.{part_pointer, row_pointer, record_pointer}
use Rattle.net_explained.{specs.declared.edit.Change.{Change}, specs.declared.edit.Edit.{Edit}}
use Rattle.net_plan.{specs.Finding.{Step}, specs.Finding.Step.{key}, specs.Texts.{IsTree}}
use Rattle.net_pointers.specs.Offsets.{LeadsTo}
use Rattle.net_explained.specs.declared.edit.Change.TheVariants as change

-- what a change of node n is made in: the value that becomes another, or the list of the rows
abbrev pub changed_pointer : ℕ → Change → List Step
changed_pointer n (change.Name name) = part_pointer n (codes "name")
changed_pointer n (change.Kind kind) = part_pointer n (codes "kind")
changed_pointer n (change.Eid eid) = part_pointer n (codes "eid")
changed_pointer n (change.Owner owner) = part_pointer n (codes "owner")
changed_pointer n (change.Pool pool) = part_pointer n (codes "pool")
changed_pointer n change.NoTerminus = part_pointer n (codes "terminus")
changed_pointer n (change.Row i row) = row_pointer n i
changed_pointer n (change.LessRow i) = part_pointer n (codes "rows")
changed_pointer n (change.MoreRow row) = part_pointer n (codes "rows")
changed_pointer n (change.Handle i handle) = record_pointer n i ++ key (codes "handle") ∷ []
changed_pointer n (change.Next i next) = record_pointer n i ++ key (codes "next") ∷ []
changed_pointer n (change.Bytes i bytes) = record_pointer n i ++ key (codes "bytes") ∷ []

-- The value to which the pointer leads in the text begins at the one offset, and what stands from there up to the other
-- is JSON as a whole.
pub record IsSpan (text : List ℕ) (pointer : List Step) (from to : ℕ) : Type 0 where
  pub leads : LeadsTo text pointer from
  pub ascend : from ≤ to
  pub within : to ≤ length text
  pub tree : Json
  pub whole : IsTree (take (to - from) (drop from text)) tree

-- The text after the edit is that before it but for the value in which the change is made.
pub record IsSpliced (before : List ℕ) (edit : Edit) (after : List ℕ) : Type 0 where
  pub from : ℕ
  pub to : ℕ
  pub middle : List ℕ
  pub span : IsSpan before (changed_pointer edit.node edit.change) from to
  pub written : after ≡ take from before ++ (middle ++ drop to before)
