-- What is red in the drawing of a plan.
use Rattle.std.specs.Prelude.{◌≢◌, ℕ, List, [], ◌∷◌, Option, Some, None}
use Rattle.mctp_transport.specs.declared.address.Eid.{Eid}
use Rattle.net_rules.{specs.Certificates.{NamesObstacle, HasNoCertificate}, specs.declared.certify_error.CertifyError.{CertifyError}, specs.Rules.{Accepts}}
use Rattle.plan_values.{specs.declared.certificate.Certificate.{Certificate}, specs.declared.plan.Plan.{Plan}}
use Rattle.plan_texts.specs.declared.drawings.red.Hop.{Hop}
use Rattle.net_rules.specs.declared.certify_error.CertifyError.TheVariants as error

-- what comes first, in the order of the rules, of what rules certificates of the plan out; nothing where it has one
abbrev pub IsFirstObstacle : Plan → Option CertifyError → Type 0
IsFirstObstacle plan (Some obstacle) =
    (obstacle ≢ error.OutOfMemory) × NamesObstacle plan obstacle × HasNoCertificate plan
IsFirstObstacle plan None = (cert : Certificate) × Accepts plan cert

-- the nodes of the loop that rules certificates out, if it is a loop that does
abbrev pub loop_nodes : Option CertifyError → List ℕ
loop_nodes (Some (error.OwnerLoop nodes)) = nodes.items
loop_nodes (Some (error.Loop eid nodes)) = nodes.items
loop_nodes _ = []

-- the nodes of a loop of owners, to each of which the arrow from its owner is red
abbrev pub owner_loop_nodes : Option CertifyError → List ℕ
owner_loop_nodes (Some (error.OwnerLoop nodes)) = nodes.items
owner_loop_nodes _ = []

-- the hop of what is for an endpoint ID from each of the nodes to the one behind it
abbrev pub hops_along : Eid → List ℕ → List Hop
hops_along eid [] = []
hops_along eid (n ∷ []) = []
hops_along eid (n ∷ m ∷ nodes) = (record { eid = eid; from = n; to = m }) ∷ hops_along eid (m ∷ nodes)

-- the hops of a loop of rows
abbrev pub loop_hops : Option CertifyError → List Hop
loop_hops (Some (error.Loop eid nodes)) = hops_along eid nodes.items
loop_hops _ = []
