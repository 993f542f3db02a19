-- What is named where a fault, a loop or a bad chain is explained.
use Rattle.std.{specs.Prelude.{◌≡◌, ℕ, ◌+◌, ◌-◌, ◌&&◌, ◌==◌, nat_le, nat_lt, Bool, length, take, List, [], ◌∷◌, Option, Some, None, option_and_then, option_map, position}, specs.List.{flat_map}}
use Rattle.net_rules.{specs.Faults.{site_of}, specs.Circles.{IsLoopFrom}, specs.RecordChains.{IsFollowedBy}, specs.declared.certify_error.CertifyError.{CertifyError}, specs.declared.certifying.chains.ChainFault.{ChainFault}, specs.declared.certifying.chains.ChainFault.TheVariants.{Missing, Doubled, Circle}, specs.declared.fault.Fault.{Fault}}
use Rattle.net_tables.{specs.Repositories.{records_of}, specs.Routing.{rows_of}}
use Rattle.net_explained.{specs.declared.cause.Cause.{Cause}, specs.Causes.{IsCauseAt}}
use Rattle.plan_values.{specs.declared.nodes.Row.{Row}, specs.declared.plan.Plan.{Plan}}
use Rattle.explanation_texts.{specs.CauseSubjects.{cause_subjects}, specs.Pieces.{Tells, entry_at, record_of}, specs.declared.pieces.Entry.{Entry}, specs.declared.pieces.Piece.{Piece}, specs.declared.pieces.Piece.TheVariants.{Given, Name, OwnerName, At, RowPort, RowBus, RowAddress, RowNext, Handle, NextHandle}}
use Rattle.net_rules.specs.declared.certify_error.CertifyError.TheVariants as error

-- ---- faults

-- a cause, if there is one
abbrev pub told_subjects : Plan → Fault → Option Cause → List Piece
told_subjects plan fault (Some cause) = cause_subjects plan fault cause
told_subjects plan fault None = []

-- that is named of the cause for which the plan breaks the fault's rule at the fault's place
abbrev pub IsNamedOfFault : Plan → Fault → List Piece → Type 0
IsNamedOfFault plan fault named =
    (cause : Option Cause) × IsCauseAt plan (site_of fault) cause × (named ≡ told_subjects plan fault cause)

-- ---- loops

-- the nodes of a loop, each once: its list ends with the first node again
abbrev pub around : List ℕ → List ℕ
around nodes = take (length nodes - 1) nodes

-- the row covers e
abbrev pub covers_eid : ℕ → Row → Bool
covers_eid e row = nat_le row.first.value e && nat_lt e (row.first.value + row.size)

-- the first of a node's rows that covers e, if one does
abbrev pub row_for : Plan → ℕ → ℕ → Entry
row_for plan e n = record { node = n; index = position (covers_eid e) (rows_of plan n) }

-- how a node sends by a row
abbrev pub way_subjects : Entry → List Piece
way_subjects at = At at ∷ RowPort at ∷ RowBus at ∷ RowAddress at ∷ RowNext at ∷ []

-- a node, and its owner
abbrev pub owner_subjects : ℕ → List Piece
owner_subjects n = Name n ∷ OwnerName n ∷ []

-- ---- chains

-- the first record of a node with this next handle, if one has it
abbrev pub record_before : Plan → ℕ → Option ℕ → Option ℕ
record_before plan n next = option_and_then (λ next. position (λ r. r.next == next) (records_of plan n)) next

-- the next handle of a record
abbrev pub next_handle : Plan → Entry → Option ℕ
next_handle plan at = option_map (λ r. r.next) (record_of plan at)

-- a record whose next handle no record has
abbrev pub missing_subjects : ℕ → ℕ → List Piece
missing_subjects n j = At (entry_at n j) ∷ NextHandle (entry_at n j) ∷ []

-- a record whose next handle an earlier one has too
abbrev pub doubled_subjects : Plan → ℕ → ℕ → List Piece
doubled_subjects plan n j = Given (record_before plan n (next_handle plan (entry_at n j)))
    ∷ At (entry_at n j) ∷ NextHandle (entry_at n j) ∷ []

-- a record on a circle, with its handle and its next handle
abbrev pub record_subjects : Entry → List Piece
record_subjects at = At at ∷ Handle at ∷ NextHandle at ∷ []

-- that is named of the circle of the record: the records round which the next handles lead from it back to it
abbrev pub IsNamedOfCircle : Plan → ℕ → ℕ → List Piece → Type 0
IsNamedOfCircle plan n j named = (circle : List ℕ)
    × IsLoopFrom (IsFollowedBy (records_of plan n)) j circle
    × (named ≡ flat_map (λ k. record_subjects (entry_at n k)) (around circle))

-- that is named where a bad chain is told
abbrev pub IsNamedOfChain : Plan → ℕ → ChainFault → ℕ → List Piece → Type 0
IsNamedOfChain plan n Missing j named = named ≡ missing_subjects n j
IsNamedOfChain plan n Doubled j named = named ≡ doubled_subjects plan n j
IsNamedOfChain plan n Circle j named = IsNamedOfCircle plan n j named

-- ---- all of them

-- that is named of what rules certificates of the plan out
abbrev pub IsNamedOf : Plan → CertifyError → List Piece → Type 0
IsNamedOf plan (error.Fault fault) named = IsNamedOfFault plan fault named
IsNamedOf plan (error.OwnerLoop nodes) named = named ≡ flat_map owner_subjects (around nodes.items)
IsNamedOf plan (error.Loop eid nodes) named =
    named ≡ flat_map (λ n. way_subjects (row_for plan eid.value n)) (around nodes.items)
IsNamedOf plan (error.BadChain node kind entry) named = IsNamedOfChain plan node kind entry named
IsNamedOf plan error.OutOfMemory named = ⊥

-- the text explains what rules certificates of the plan out
abbrev pub IsObstacleTold : Plan → CertifyError → List ℕ → Type 0
IsObstacleTold plan obstacle text = (named : List Piece) × IsNamedOf plan obstacle named × Tells plan named text
