-- What is named of a certificate that breaks a rule.
use Rattle.std.specs.Prelude.{ℕ, ◌==◌, List, [], ◌∷◌, length, if◌then◌else◌, Option, Some, None, option_map}
use Rattle.net_rules.{specs.declared.fault.Fault.{Fault}, specs.declared.rule.Rule.{Rule}, specs.declared.rule.Rule.TheVariants.{C07, C10, C14, C16}}
use Rattle.net_tables.{specs.Routing.{eid_number}, specs.Ownership.{owner_of, given_level, level}, specs.Ranks.{rank}, specs.Repositories.{places_of, records_of}}
use Rattle.plan_values.{specs.declared.certificate.Certificate.{Certificate}, specs.declared.plan.Plan.{Plan}}
use Rattle.explanation_texts.{specs.CauseSubjects.{entry_of}, specs.Pieces.{row_of}, specs.declared.pieces.Entry.{Entry}, specs.declared.pieces.Piece.{Piece}, specs.declared.pieces.Piece.TheVariants.{Number, Given, Name, OwnerName, At, RowNext}}

-- the level of a node's owner, if it has one
abbrev pub owner_level : Plan → Certificate → ℕ → Option ℕ
owner_level plan cert n = option_map (λ owner. level plan cert owner) (owner_of plan n)

-- the rank of a node for an endpoint ID, where both are there
abbrev pub rank_at : Certificate → Option ℕ → Option ℕ → Option ℕ
rank_at cert (Some n) (Some e) = Some (rank cert n e)
rank_at cert (Some n) None = None
rank_at cert None e = None

-- the node to which a row leads
abbrev pub next_of : Plan → Entry → Option ℕ
next_of plan at = option_map (λ row. row.next) (row_of plan at)

-- a node without an owner and the level that it is given; or a node, how many records it has, and how many places
abbrev pub unowned_subjects : Plan → Certificate → ℕ → Option ℕ → List Piece
unowned_subjects plan cert n (Some owner) =
    Name n ∷ Number (length (records_of plan n)) ∷ Number (length (places_of cert n)) ∷ []
unowned_subjects plan cert n None = if given_level cert n == 0
    then Name n ∷ Number (length (records_of plan n)) ∷ Number (length (places_of cert n)) ∷ []
    else Name n ∷ Number (given_level cert n) ∷ []

-- what is given without need: a rank for the endpoint ID, or a level or places
abbrev pub useless_subjects : Plan → Certificate → ℕ → Option ℕ → List Piece
useless_subjects plan cert n (Some e) = Name n ∷ Number e ∷ []
useless_subjects plan cert n None = unowned_subjects plan cert n (owner_of plan n)

-- where a row leads an endpoint ID, and the ranks here and there
abbrev pub rank_subjects : Plan → Certificate → Entry → Option ℕ → List Piece
rank_subjects plan cert at eid = At at ∷ Given eid ∷ RowNext at
    ∷ Name at.node ∷ Given (rank_at cert (Some at.node) eid)
    ∷ RowNext at ∷ Given (rank_at cert (next_of plan at) eid) ∷ []

-- what is named of a certificate that breaks the rule of a fault
abbrev pub subjects_by_rule : Plan → Certificate → Fault → Rule → List Piece
subjects_by_rule plan cert f C07 =
    Name f.node ∷ Number (level plan cert f.node) ∷ OwnerName f.node ∷ Given (owner_level plan cert f.node) ∷ []
subjects_by_rule plan cert f C10 = rank_subjects plan cert (entry_of f) (eid_number f.eid)
subjects_by_rule plan cert f C14 = Name f.node ∷ Given f.entry ∷ []
subjects_by_rule plan cert f C16 = useless_subjects plan cert f.node (eid_number f.eid)
subjects_by_rule plan cert f _ = []

abbrev pub certificate_subjects : Plan → Certificate → Fault → List Piece
certificate_subjects plan cert f = subjects_by_rule plan cert f f.rule
