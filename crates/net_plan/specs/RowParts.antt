-- What is gathered of a row, a key after another.
use Rattle.std.specs.Prelude.{ℕ, codes, List, [], ◌∷◌}
use Rattle.serde_json.specs.Data.{Data}
use Rattle.net_plan.{specs.Gathered.{Slot, slot}, specs.JsonWords.{HasKeys, At, IsString, IsNumberWithin}, specs.Keys.{row_keys}, specs.PlanText.{IsByte}, specs.declared.row_parts.NamedRow.{NamedRow}, specs.declared.row_parts.RowParts.{RowParts}}

abbrev pub row_slots : RowParts → List Slot
row_slots p =
    slot (codes "first") IsByte p.first ∷ slot (codes "size") IsByte p.size
    ∷ slot (codes "port") (IsNumberWithin 0 31) p.port
    ∷ slot (codes "next") (λ d name. IsString d name.now) p.next ∷ []

-- a row whose next node is still a text, which may be no name
pub record NamedRowValue : Type 0 where
  pub first : ℕ
  pub size : ℕ
  pub port : ℕ
  pub next : List ℕ

abbrev pub named_row : NamedRow → NamedRowValue
named_row r = record { first = r.first; size = r.size; port = r.port; next = r.next.now }

pub record IsNamedRowOf (d : Data) (r : NamedRowValue) : Type 0 where
  pub keys : HasKeys row_keys d
  pub first : At (codes "first") IsByte d r.first
  pub size : At (codes "size") IsByte d r.size
  pub port : At (codes "port") (IsNumberWithin 0 31) d r.port
  pub next : At (codes "next") IsString d r.next
