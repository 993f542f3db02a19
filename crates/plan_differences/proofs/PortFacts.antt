-- The facts of one port more.
use Rattle.std.{proofs.Common.{◌≡◌, ◌<◌, ◌+◌, ℕ, suc, List, [], ◌∷◌, ◌++◌, length, map, take, get_or, ap, sym, ◌∙◌, arith}, proofs.Math.Seq.{take-suc}, proofs.lemmas.List.{length-take, map-append}}
use Rattle.plan_values.{specs.declared.nodes.Port.{Port}, specs.declared.plan.Plan.{Plan}}
use Rattle.plan_differences.{specs.declared.fact.Fact.{Fact}, specs.Facts.{fact_value, port_fact, port_facts}}

port_more : (plan : Plan) (name : List ℕ) (index : ℕ) (ports : List Port) (p : Port)
    → port_facts plan name index (ports ++ p ∷ []) ≡ port_facts plan name index ports ++ port_fact plan name (index + length ports) p ∷ []
port_more plan name index [] p =
    let at : index ≡ index + 0 = omega arith in
    ap (λ n. port_fact plan name n p ∷ []) at
port_more plan name index (one ∷ ports) p =
    let at : suc index + length ports ≡ index + suc (length ports) = omega arith in
    ap (λ rest. port_fact plan name index one ∷ rest) (port_more plan name (suc index) ports p ∙ ap (λ n. port_facts plan name (suc index) ports ++ port_fact plan name n p ∷ []) at)

pub one_port_more : (plan : Plan) (name : List ℕ) (ports : List Port) (k : ℕ) (p : Port) → k < length ports → p ≡ get_or ports k p
    → port_facts plan name 0 (take k ports) ++ port_fact plan name k p ∷ [] ≡ port_facts plan name 0 (take (k + 1) ports)
one_port_more plan name ports k p within is =
    let at : k + 1 ≡ suc k = omega arith in
    let one : take (k + 1) ports ≡ take k ports ++ (p ∷ []) = ap (λ n. take n ports) at ∙ (take-suc ports k p within ∙ ap (λ s. take k ports ++ (s ∷ [])) (sym is)) in
    let long : k ≡ 0 + length (take k ports) = omega (arith, length-take k ports) in
    ap (λ n. port_facts plan name 0 (take k ports) ++ port_fact plan name n p ∷ []) long ∙ (sym (port_more plan name 0 (take k ports) p) ∙ ap (port_facts plan name 0) (sym one))

pub pushed_port : (plan : Plan) (name : List ℕ) (ports : List Port) (k : ℕ) (p : Port) (facts now : List Fact) (f : Fact) → k < length ports → p ≡ get_or ports k p
    → now ≡ facts ++ f ∷ [] → fact_value f ≡ port_fact plan name k p → map fact_value facts ≡ port_facts plan name 0 (take k ports)
    → map fact_value now ≡ port_facts plan name 0 (take (k + 1) ports)
pushed_port plan name ports k p facts now f within is pushed told before =
    ap (map fact_value) pushed ∙ (map-append fact_value facts (f ∷ []) ∙ (ap (λ vs. vs ++ (fact_value f ∷ [])) before
    ∙ (ap (λ v. port_facts plan name 0 (take k ports) ++ (v ∷ [])) told ∙ one_port_more plan name ports k p within is)))
