-- Steps from the rows of one plan to those of another.
use Rattle.std.specs.Prelude.{◌≡◌, ◌≢◌, ◌⊎◌, ◌↔◌, ℕ, ◌<◌, ◌≤◌, List, [], ◌∷◌, slice_get, length, map, AllPairs, Contains, Some, option_map, ⊤}
use Rattle.plan_values.{specs.declared.plan.Plan.{Plan}, specs.declared.nodes.Row.{Row}, specs.declared.certificate.Certificate.{Certificate}, specs.CertificateValues.{certificate_value}, specs.NodeValues.{RowValue, row_value, but_rows}, specs.PlanValues.{plan_value}, specs.ShortText.{HasFewPlaces}, specs.WellFormed.{IsWellFormed}, specs.declared.nodes.Node.{Node}}
use Rattle.net_tables.specs.Routing.{Covers, NamesFor, rows_of, node_at}
use Rattle.net_rules.{specs.MoveObstacles.{DifferInRowsAlone, HasNoMoveCertificate, IsExactForMove, NamesMoveObstacle}, specs.MoveRules.{AcceptsMove}, specs.Rules.{Accepts}}
use Rattle.net_rollout.{specs.declared.change.Part.{Part}, specs.declared.change.Change.{Change}, specs.declared.change.Step.{Step}, specs.declared.change.LastStep.{LastStep}, specs.declared.change.Rollout.{Rollout}}
use Rattle.net_rollout.specs.declared.change.Change.TheVariants as change
use Rattle.net_rollout.specs.declared.change.Rollout.TheVariants as way

-- the part is of node n, and e is one of its EIDs
abbrev pub IsOfPart : Part → ℕ → ℕ → Type 0
IsOfPart part n e = (part.node ≡ n) × (part.first.value ≤ e) × (e ≤ part.last.value)

-- one of the parts is of node n and has e
abbrev pub IsTaken : List Part → ℕ → ℕ → Type 0
IsTaken parts n e = (i : ℕ) × (part : Part) × (slice_get parts i ≡ Some part) × IsOfPart part n e

-- the rows of a node as plain numbers
abbrev pub row_values : Plan → ℕ → List RowValue
row_values plan n = map row_value (rows_of plan n)

-- a row covers e and leads through the port to m
abbrev pub SendsBy : List Row → ℕ → ℕ → ℕ → Type 0
SendsBy rows e port m =
    (r : ℕ) × (row : Row) × (slice_get rows r ≡ Some row) × Covers row e × (row.port ≡ port) × (row.next ≡ m)

-- the new rows send each EID of the part to the node that the part tells, if any
abbrev pub IsPartTold : Plan → Part → Type 0
IsPartTold new part = (e m : ℕ) → part.first.value ≤ e → e ≤ part.last.value
    → NamesFor (rows_of new part.node) e m ↔ (part.next ≡ Some m)

-- so of all parts
abbrev pub AreTold : Plan → List Part → Type 0
AreTold new parts = (i : ℕ) (part : Part) → slice_get parts i ≡ Some part → IsPartTold new part

-- The rows of these nodes become those that they have in the new plan, and nothing else changes. Just these nodes
-- change, and they ascend.
pub record IsSwitched (before new : Plan) (nodes : List ℕ) (after : Plan) : Type 0 where
  pub rows_alone : DifferInRowsAlone before after
  pub named : (n : ℕ) → Contains nodes n ↔ (row_values after n ≢ row_values before n)
  pub taken : (n : ℕ) → Contains nodes n → row_values after n ≡ row_values new n
  pub ascend : AllPairs (λ n m. n < m) nodes

-- For just the EIDs of the parts the nodes send as the new plan's rows do, and for the others as before. Nothing else
-- changes. The new rows send each EID of a part to the node that the part tells, if any.
pub record TakesParts (before new : Plan) (parts : List Part) (after : Plan) : Type 0 where
  pub rows_alone : DifferInRowsAlone before after
  pub taken : (n e port m : ℕ) → IsTaken parts n e
      → SendsBy (rows_of after n) e port m ↔ SendsBy (rows_of new n) e port m
  pub kept : (n e port m : ℕ) → ¬ IsTaken parts n e
      → SendsBy (rows_of after n) e port m ↔ SendsBy (rows_of before n) e port m
  pub told : AreTold new parts

abbrev pub ChangesAs : Plan → Plan → Change → Plan → Type 0
ChangesAs before new (change.Nodes nodes) after = IsSwitched before new nodes.items after
ChangesAs before new (change.Parts parts) after = TakesParts before new parts.items after

-- The certificate is accepted for the move, it is the exact one, and its text reads back.
pub record IsCertified (before after : Plan) (cert : Certificate) : Type 0 where
  pub accepted : AcceptsMove before after cert
  pub exact : IsExactForMove before after cert
  pub well_formed : IsWellFormed (plan_value before) (certificate_value cert)
  pub few : HasFewPlaces (certificate_value cert)

-- the step from the plan before is a lawful move, and changes what it tells
abbrev pub IsStep : Plan → Plan → Step → Type 0
IsStep before new step =
    IsCertified before step.after step.certificate × ChangesAs before new step.change step.after

-- and so is the last one, to the new plan itself
abbrev pub IsLastStep : Plan → Plan → LastStep → Type 0
IsLastStep before new last = IsCertified before new last.certificate × IsSwitched before new last.nodes.items new

-- each step is one from the plan to which the step before it leads, and the first from this plan
abbrev pub AreSteps : Plan → Plan → List Step → Type 0
AreSteps before new [] = ⊤
AreSteps before new (step ∷ steps) = IsStep before new step × AreSteps step.after new steps

-- the plan to which steps lead from this one
abbrev pub last_plan : Plan → List Step → Plan
last_plan before [] = before
last_plan before (step ∷ steps) = last_plan step.after steps

-- some certificate of the plan is accepted
abbrev pub HasCertificate : Plan → Type 0
HasCertificate plan = (cert : Certificate) × Accepts plan cert

-- the plans differ in rows alone, and each has a certificate by itself
pub record AreFit (before after : Plan) : Type 0 where
  pub rows_alone : DifferInRowsAlone before after
  pub certified_before : HasCertificate before
  pub certified_after : HasCertificate after

-- one of the plans has no certificate, or they differ in more than rows
abbrev pub IsUnfit : Plan → Plan → Type 0
IsUnfit before after = ¬ DifferInRowsAlone before after ⊎ (¬ HasCertificate before ⊎ ¬ HasCertificate after)

-- What is answered holds of the plans.
abbrev pub IsRollout : Plan → Plan → Rollout → Type 0
IsRollout before after (way.AnyOrder cert) = IsCertified before after cert
IsRollout before after (way.Steps steps last) = HasNoMoveCertificate before after × AreSteps before after steps.items
    × IsLastStep (last_plan before steps.items) after last
IsRollout before after (way.Stuck steps o) = HasNoMoveCertificate before after × AreSteps before after steps.items
    × NamesMoveObstacle (last_plan before steps.items) after o
    × HasNoMoveCertificate (last_plan before steps.items) after × AreFit before after
IsRollout before after (way.Unfit o) =
    HasNoMoveCertificate before after × NamesMoveObstacle before after o × IsUnfit before after

-- ---- parts of the work

-- just the nodes whose rows differ, which ascend
pub record AreChanged (before after : Plan) (nodes : List ℕ) : Type 0 where
  pub named : (n : ℕ) → Contains nodes n ↔ (row_values after n ≢ row_values before n)
  pub ascend : AllPairs (λ n m. n < m) nodes

-- the row covers e, which is from `from` to below `to`, and leads through the port to m
abbrev pub IsPieceOf : Row → ℕ → ℕ → ℕ → ℕ → ℕ → Type 0
IsPieceOf row from to e port m = Covers row e × (from ≤ e) × (e < to) × (row.port ≡ port) × (row.next ≡ m)

-- rows send as the new ones for these EIDs, and as those before for the others
abbrev pub SendAs : (ℕ → Type 0) → List Row → List Row → List Row → Type 0
SendAs Taken before new rows = (e port m : ℕ) → (Taken e → SendsBy rows e port m ↔ SendsBy new e port m)
    × (¬ Taken e → SendsBy rows e port m ↔ SendsBy before e port m)

-- the rows of node n after the change: of whole nodes those before or the new ones, of parts rows that send as both
abbrev pub GoesAs : Plan → Plan → Change → ℕ → List Row → Type 0
GoesAs before new (change.Nodes nodes) n rows = (rows ≡ rows_of before n) ⊎ (rows ≡ rows_of new n)
GoesAs before new (change.Parts parts) n rows = SendAs (IsTaken parts.items n) (rows_of before n) (rows_of new n) rows

abbrev pub IsTold : Plan → Change → Type 0
IsTold new (change.Nodes nodes) = ⊤
IsTold new (change.Parts parts) = AreTold new parts.items

-- The plan that the change leads to.
pub record GoAs (before new : Plan) (change : Change) (after : Plan) : Type 0 where
  pub rows_alone : DifferInRowsAlone before after
  pub rows : (n : ℕ) → GoesAs before new change n (rows_of after n)
  pub told : IsTold new change

-- the node before, but for its rows, which are as the change leaves them
abbrev pub IsNodeAfter : Plan → Plan → Change → ℕ → Node → Type 0
IsNodeAfter before new change n node = (option_map but_rows (node_at before n) ≡ Some (but_rows node))
    × GoesAs before new change n node.rows.items

-- so many nodes, which are so
pub record AreNodesAfter (before new : Plan) (change : Change) (count : ℕ) (nodes : List Node) : Type 0 where
  pub long : length nodes ≡ count
  pub each : (n : ℕ) (node : Node) → slice_get nodes n ≡ Some node → IsNodeAfter before new change n node
