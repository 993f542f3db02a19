-- Bad chains, listed node by node.
use Rattle.std.{proofs.Common.{◌≡◌, ℕ, ◌+◌, ◌≤◌, List, [], ◌∷◌, ◌++◌, length, Some, None, refl, ap, subst, arith, inl, inr}, proofs.lemmas.Bool.{cases_lt}}
use Rattle.plan_values.specs.declared.plan.Plan.{Plan}
use Rattle.net_tables.{specs.Repositories.{records_of}, proofs.Elements.{push_left, push_last}}
use Rattle.net_rules.{specs.Faults.{LessByFirstDifference}, specs.RecordChains.{IsBadChain}, specs.declared.certifying.chains.ChainFault.{ChainFault}, specs.declared.certifying.chains.ChainFault.TheVariants.{Missing, Doubled, Circle}, proofs.Beyond.{no_records}}
use Rattle.net_faults.{specs.declared.plan_fault.PlanFault.{PlanFault}, specs.declared.plan_fault.PlanFault.TheVariants.{Obstacle}, specs.Chains.{IsChainFault}, specs.PlanFaults.{key_of, IsChainTold, AreBadChains, AreBadChainsBefore}, proofs.ListLaws.{less_trans_one, ascend_more, each_more}}
use Rattle.net_rules.specs.declared.certify_error.CertifyError.TheVariants as error

pub no_chains : (plan : Plan) → AreBadChainsBefore plan 0 []
no_chains plan = record {
  sound = λ i f is. absurd (cc is);
  before = λ i f is. absurd (cc is);
  all = λ m kind entry lt. absurd (omega (arith, lt));
  in_order = λ i j f g lt is. absurd (cc is);
}

module _ (plan : Plan) (n : ℕ) (found : List PlanFault) (are : AreBadChainsBefore plan n found) where
  pub chain_skipped : IsChainFault (records_of plan n) None → AreBadChainsBefore plan (n + 1) found
  chain_skipped none = record {
    sound = are.sound;
    before = λ i f is. less_trans_one (key_of f) n (are.before i f is);
    all = λ m kind entry lt bad. elim (cases_lt m n) [
      | inl less ↦ are.all m kind entry less bad
      | inr here ↦ (let same : m ≡ n = omega (arith, here, lt) in absurd (none kind entry (subst (λ k. IsBadChain (records_of plan k) kind entry) same bad)))
    ];
    in_order = are.in_order;
  }

  pub chain_pushed : (kind : ChainFault) (entry : ℕ) → IsBadChain (records_of plan n) kind entry → AreBadChainsBefore plan (n + 1) (found ++ Obstacle (error.BadChain n kind entry) 0 ∷ [])
  chain_pushed kind entry bad = record {
    sound = each_more (IsChainTold plan) found new are.sound (bad, refl);
    before = each_more (λ f. LessByFirstDifference (key_of f) ((n + 1) ∷ [])) found new (λ i f at. less_trans_one (key_of f) n (are.before i f at)) (inl (omega arith));
    all = λ m kind' entry' lt bad'. elim (cases_lt m n) [
      | inl less ↦ (let there = are.all m kind' entry' less bad' in (there.0, there.1, push_left found new there.0 there.1 there.2, there.3))
      | inr here ↦ (let same : n ≡ m = omega (arith, here, lt) in (length found, new, push_last found new, ap (λ k. k ∷ []) same))
    ];
    in_order = ascend_more found new are.in_order are.before;
  }
    where
      new : PlanFault
      new = Obstacle (error.BadChain n kind entry) 0

-- where there are no records nothing is wrong with them
unwronged : (kind : ChainFault) (entry : ℕ) → ¬ IsBadChain [] kind entry
unwronged Missing entry bad = bad.0 (λ r is. absurd (cc is))
unwronged Doubled entry bad = bad.1.0 (λ r is. absurd (cc is))
unwronged Circle entry bad = (let there = bad.2.0.1.1 in cc there.2)

pub all_chains : (plan : Plan) (n : ℕ) (found : List PlanFault) → length plan.nodes.items ≤ n → AreBadChainsBefore plan n found → AreBadChains plan found
all_chains plan n found enough are = record {
  sound = are.sound;
  all = λ m kind entry bad. elim (cases_lt m n) [
    | inl within ↦ are.all m kind entry within bad
    | inr past ↦ absurd (unwronged kind entry (subst (λ rs. IsBadChain rs kind entry) (no_records plan m (omega (arith, past, enough))) bad))
  ];
  in_order = are.in_order;
}
