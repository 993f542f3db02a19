-- Levels that fall, and loops of owners.
use Rattle.std.{proofs.Common.{◌≡◌, ℕ, zero, suc, ◌<◌, List, [], ◌∷◌, length, map, Option, Some, None, true, sym, ◌∙◌, ap, refl, arith, subst, vec_len, get_or, Result, Ok, Err, IfOk}, specs.declared.alloc.AllocError.{AllocError}, specs.Prelude.{slice_get, option_map, option_and_then, All}, specs.List.{list_all}, proofs.lemmas.Option.{same_Some, none-some, slice_get-map, slice_get-get_or, slice_get_within}, proofs.lemmas.List.{length-map}}
use Rattle.plan_values.{specs.declared.plan.Plan.{Plan}, specs.declared.nodes.Node.{Node}, specs.declared.certificate.Certificate.{Certificate}, specs.NodeValues.{node_value}, specs.Placed.{is_node_placed}}
use Rattle.net_tables.{specs.Ownership.{owner_of, IsOwnedBy, level}, proofs.Elements.{element}}
use Rattle.net_rules.{specs.Owners.{IsBelowItsOwner}, specs.OwnerLoops.{IsLevel, IsOwnerLoop, IsFirstOwnerLoop, AreLevels}, specs.Circles.{MovesBy, next_in, HasNoCircle, AreMovesToEnds, IsWalked}, specs.declared.certifying.walks.Walked.{Walked}, proofs.Circling.{no_circle_down, one_less, loop_circles}, proofs.SameMoves.{IsWalked-same}, proofs.Lines.{end_is_near}}

-- at most one node owns each
pub one_owner : (plan : Plan) (n p q : ℕ) → IsOwnedBy plan n p → IsOwnedBy plan n q → p ≡ q
one_owner plan n p q one other = same_Some p q (sym one ∙ other)

-- where owners' levels are lower, no node stands above itself
pub falling_no_circle : (plan : Plan) (cert : Certificate) → ((n : ℕ) → IsBelowItsOwner plan cert n) → HasNoCircle (IsOwnedBy plan)
unfolding IsBelowItsOwner
falling_no_circle plan cert below n = no_circle_down (IsOwnedBy plan) (λ k. level plan cert k) (λ k owner owned. below k owner owned) n

-- where an owner loop is, no levels fall along all owners
pub loop_breaks_levels : (plan : Plan) (nodes : List ℕ) → IsOwnerLoop plan nodes → (cert : Certificate) → ¬ ((n : ℕ) → IsBelowItsOwner plan cert n)
loop_breaks_levels plan nodes loop cert below =
    let first = element nodes 0 (omega (arith, loop.two)) in
    falling_no_circle plan cert below first.0 (loop_circles (IsOwnedBy plan) nodes first.0 loop first.1)

pub first_loop_breaks_levels : (plan : Plan) (nodes : List ℕ) → IsFirstOwnerLoop plan nodes → (cert : Certificate) → ¬ ((n : ℕ) → IsBelowItsOwner plan cert n)
first_loop_breaks_levels plan nodes first cert = loop_breaks_levels plan nodes first.2.loop cert

-- the exact numbers of owners fall
pub exact_levels_fall : (plan : Plan) (cert : Certificate) → ((n : ℕ) → IsLevel plan n (level plan cert n)) → (n : ℕ) → IsBelowItsOwner plan cert n
unfolding IsBelowItsOwner
exact_levels_fall plan cert exact n owner owned =
    omega (arith, one_less (IsOwnedBy plan) (one_owner plan) n owner (level plan cert n) (level plan cert owner) owned (exact n) (exact owner))

-- the owners as they are collected are those of the plan
owner_there : (o : Option Node) → option_and_then (λ next. next) (option_map (λ (node : Node). node.owner) o) ≡ option_and_then (λ (node : Node). node.owner) o
owner_there None = refl
owner_there (Some node) = refl

pub owners_move : (plan : Plan) (n : ℕ) → next_in (map (λ (node : Node). node.owner) plan.nodes.items) n ≡ owner_of plan n
owners_move plan n =
    ap (λ o. option_and_then (λ next. next) o) (slice_get-map (λ (node : Node). node.owner) plan.nodes.items n) ∙ owner_there (slice_get plan.nodes.items n)

pub walked_owners : (plan : Plan) (owners : List (Option ℕ)) → owners ≡ map (λ (node : Node). node.owner) plan.nodes.items → (r : Result Walked AllocError)
    → IfOk r (λ walked. IsWalked (MovesBy owners) (length owners) walked) → IfOk r (λ walked. IsWalked (IsOwnedBy plan) (length plan.nodes.items) walked)
walked_owners plan owners are (Err error) h = tt
walked_owners plan owners are (Ok walked) h =
    let P : List (Option ℕ) → Type 0 = λ table. IsWalked (MovesBy table) (length table) walked in
    let Q : ℕ → Type 0 = λ count. IsWalked (IsOwnedBy plan) count walked in
    let table = map (λ (node : Node). node.owner) plan.nodes.items in
    subst Q (length-map plan.nodes.items (λ (node : Node). node.owner))
    (IsWalked-same (MovesBy table) (IsOwnedBy plan) (λ n m move. sym (owners_move plan n) ∙ move) (λ n m owned. owners_move plan n ∙ owned) (length table) walked (subst P are h))

-- Owners are nodes of the plan.
placed_owner : (buses count : ℕ) (nodes : List Node) (n owner : ℕ) → list_all (is_node_placed buses count) (map node_value nodes) ≡ true → option_and_then (λ (node : Node). node.owner) (slice_get nodes n) ≡ Some owner → owner < count
placed_owner buses count [] n owner all owned = absurd (none-some owner owned)
placed_owner buses count (node ∷ nodes) zero owner all owned = grind (arith, owned, all)
placed_owner buses count (node ∷ nodes) (suc n) owner all owned = placed_owner buses count nodes n owner (grind (arith, all)) owned

pub owner_within : (plan : Plan) (n owner : ℕ) → IsOwnedBy plan n owner → owner < length plan.nodes.items
owner_within plan n owner owned =
    let h = placed_owner (vec_len plan.buses) (length (map node_value plan.nodes.items)) plan.nodes.items n owner plan.placed owned in
    omega (arith, h, length-map plan.nodes.items node_value)

pub level_small : (plan : Plan) (n count : ℕ) → n < length plan.nodes.items → IsLevel plan n count → count < 64
level_small plan n count lt ends =
    omega (arith, end_is_near (IsOwnedBy plan) (length plan.nodes.items) (owner_within plan) (one_owner plan) n count lt ends, plan.few_nodes)

pub counts_small : (plan : Plan) (counts : List ℕ) → AreMovesToEnds (IsOwnedBy plan) (length plan.nodes.items) counts → All (λ count. count < 64) counts
counts_small plan counts ends = λ k d lt.
    level_small plan k (get_or counts k d) (omega (arith, lt, ends.0)) (ends.1 k (get_or counts k d) (slice_get-get_or counts k d lt))

pub are_levels : (plan : Plan) (counts levels : List ℕ) → levels ≡ counts → HasNoCircle (IsOwnedBy plan) → AreMovesToEnds (IsOwnedBy plan) (length plan.nodes.items) counts → AreLevels plan levels
are_levels plan counts levels same none ends =
    let exact : AreLevels plan counts = record {
      no_loop = none;
      long = ends.0;
      exact = ends.1;
      few = λ n count is. omega (arith, level_small plan n count (omega (arith, slice_get_within counts n count is, ends.0)) (ends.1 n count is));
    } in
    let P : List ℕ → Type 0 = λ list. AreLevels plan list in
    subst P (sym same) exact
