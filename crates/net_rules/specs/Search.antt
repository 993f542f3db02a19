-- What the searches for a fault answer.
use Rattle.std.specs.Prelude.{ℕ, ◌<◌, List, [], ◌∷◌, Option, Some, None}
use Rattle.net_rules.{specs.declared.fault.Fault.{Fault}, specs.declared.spot.Spot.{Spot}, specs.Rules.{Accepts}, specs.Faults.{site_of, order_of_number, LessByFirstDifference, IsFirstFault}}
use Rattle.plan_values.{specs.declared.plan.Plan.{Plan}, specs.declared.nodes.Row.{Row}, specs.declared.certificate.Certificate.{Certificate}}
use Rattle.net_tables.specs.Routing.{OfItem, Covers, eid_number}

-- the first item of the list of which the fact fails, if any
abbrev pub IsFirstItem : {A : Type 0} → List A → (ℕ → A → Type 0) → Option ℕ → Type 0
IsFirstItem items P None = (k : ℕ) → OfItem items k (P k)
IsFirstItem items P (Some i) = ¬ OfItem items i (P i) × ((k : ℕ) → k < i → OfItem items k (P k))

-- the row's first EID of which the fact fails, if any
abbrev pub IsFirstEid : Row → (ℕ → Type 0) → Option ℕ → Type 0
IsFirstEid row P None = (e : ℕ) → Covers row e → P e
IsFirstEid row P (Some e) = ¬ (Covers row e → P e) × ((d : ℕ) → d < e → Covers row d → P d)

-- an entry and an EID come before others
abbrev pub SpotComesBefore : Option ℕ → Option ℕ → Option ℕ → Option ℕ → Type 0
SpotComesBefore entry eid entry' eid' =
    LessByFirstDifference (order_of_number entry ∷ order_of_number eid ∷ [])
    (order_of_number entry' ∷ order_of_number eid' ∷ [])

-- the first entry and EID at which a demand isn't met, if any
abbrev pub IsFirstSpot : (Option ℕ → Option ℕ → Type 0) → Option Spot → Type 0
IsFirstSpot D None = (entry eid : Option ℕ) → D entry eid
IsFirstSpot D (Some spot) =
    ¬ D spot.entry (eid_number spot.eid)
    × ((entry eid : Option ℕ) → SpotComesBefore entry eid spot.entry (eid_number spot.eid) → D entry eid)

-- the first fault of all, if any
abbrev pub IsFirstOfAll : Plan → Certificate → Option Fault → Type 0
IsFirstOfAll plan cert None = Accepts plan cert
IsFirstOfAll plan cert (Some fault) = IsFirstFault plan cert (site_of fault)
