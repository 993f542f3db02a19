-- How many termini a plan has.
use Rattle.std.{proofs.Common.{◌≡◌, ℕ, suc, ◌+◌, cond, List, [], ◌∷◌, length, Option, Some, None, refl, ◌∙◌, ap, arith}, specs.Prelude.{slice_get, option_map, is_some, count_by}, specs.List.{cons_option, filter_map, range_with_len}, proofs.lemmas.List.Recursion.{is_count_by}}
use Rattle.plan_values.{specs.declared.nodes.Node.{Node}, specs.declared.plan.Plan.{Plan}, specs.declared.certificate.Certificate.{Certificate}, specs.declared.terminus.PlannedTerminus.{PlannedTerminus}}
use Rattle.net_tables.specs.Repositories.{terminus_of, records_by_place}
use Rattle.net_runs.specs.Termini.{TerminusState, terminus_at_start}
use Rattle.net_sim.specs.Dealing.{planned_termini}

length_cons : {A : Type 0} (o : Option A) (xs : List A) → length (cons_option o xs) ≡ cond (is_some o) (1 + length xs) (length xs)
length_cons None xs = refl
length_cons (Some x) xs = let one : suc (length xs) ≡ 1 + length xs = omega arith in one

is_some-map : {A B : Type 0} (g : A → B) (o : Option A) → is_some (option_map g o) ≡ is_some o
is_some-map g None = refl
is_some-map g (Some x) = refl

abbrev tally : List Node → ℕ
tally [] = 0
tally (node ∷ nodes) = cond (is_some node.terminus) (1 + tally nodes) (tally nodes)

count_from : (f : ℕ → Option TerminusState) (nodes : List Node) (base : ℕ)
    → ((i : ℕ) (node : Node) → slice_get nodes i ≡ Some node → is_some (f (base + i)) ≡ is_some node.terminus)
    → length (filter_map f (range_with_len base (length nodes))) ≡ tally nodes
count_from f [] base told = refl
count_from f (node ∷ nodes) base told =
    let rest = filter_map f (range_with_len (base + 1) (length nodes)) in
    let here : is_some (f base) ≡ is_some node.terminus = (let plain : base ≡ base + 0 = omega arith in ap (λ n. is_some (f n)) plain ∙ told 0 node refl) in
    let further : (k : ℕ) → base + 1 + k ≡ base + suc k = λ k. omega arith in
    let later = count_from f nodes (base + 1) (λ k other is. ap (λ n. is_some (f n)) (further k) ∙ told (suc k) other is) in
    length_cons (f base) rest ∙ (ap (λ b. cond b (1 + length rest) (length rest)) here ∙ ap (λ n. cond (is_some node.terminus) (1 + n) n) later)

pub planned_count : (plan : Plan) (cert : Certificate) → length (planned_termini plan cert) ≡ count_by (λ (node : Node). is_some node.terminus) plan.nodes.items
planned_count plan cert =
    count_from (terminus_at_start plan cert) plan.nodes.items 0 told
    ∙ is_count_by tally (λ (node : Node). is_some node.terminus) refl (λ node nodes. refl) plan.nodes.items
  where
    told : (i : ℕ) (node : Node) → slice_get plan.nodes.items i ≡ Some node → is_some (terminus_at_start plan cert (0 + i)) ≡ is_some node.terminus
    told i node is =
        let plain : 0 + i ≡ i = omega arith in
        let there : terminus_of plan i ≡ node.terminus = rw is refl in
        ap (λ n. is_some (terminus_at_start plan cert n)) plain
        ∙ (is_some-map (λ (t : PlannedTerminus). record { tid = t.tid; records = records_by_place plan cert i; waiting = [] }) (terminus_of plan i) ∙ ap is_some there)
