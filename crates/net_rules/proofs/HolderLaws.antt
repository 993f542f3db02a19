-- The first holders of endpoint IDs in their order: what is found among them, and one of them more.
use Rattle.std.{proofs.Common.{◌≡◌, ◌≢◌, ◌⊎◌, ℕ, ◌+◌, ◌-◌, ◌<◌, ◌≤◌, List, length, get_or, option_map, Option, Some, None, refl, sym, ◌∙◌, ap, subst, arith, inl, inr}, specs.Prelude.{slice_get}, specs.List.{insert}, proofs.lemmas.Bool.{cases_lt, cases_eq}, proofs.lemmas.List.Edits.{length-insert, get_or-insert_below, get_or-insert_at, get_or-insert_above}, proofs.lemmas.Option.{same_Some, slice_get_within, slice_get-get_or, get_or_from_slice_get}}
use Rattle.plan_values.specs.declared.plan.Plan.{Plan}
use Rattle.net_rules.{specs.declared.holders.Holder.{Holder}, specs.Following.{EndedBy}, specs.Holders.{IsFirstHolder, HoldersAscend, AreFirstHolders}}
use Rattle.net_tables.{specs.Routing.{Holds}, proofs.Elements.{element, holder_within}}

-- ---- a list with an element more
module _ {X : Type 0} (xs : List X) (at : ℕ) (x : X) (within : at ≤ length xs) where
  in_insert : (i : ℕ) (y : X) → slice_get (insert xs at x) i ≡ Some y
      → ((i < at) × (slice_get xs i ≡ Some y)) ⊎ (((i ≡ at) × (x ≡ y)) ⊎ ((at < i) × (slice_get xs (i - 1) ≡ Some y)))
  in_insert i y is =
      let there = get_or_from_slice_get (insert xs at x) i y y is in
      let inside = slice_get_within (insert xs at x) i y is in
      let long = length-insert xs at x within in
      elim (cases_lt i at) [
        | inl before ↦ (
            let lt : i < length xs = omega arith in
            inl (before, slice_get-get_or xs i y lt ∙ ap Some (sym (get_or-insert_below xs at x y i before within) ∙ there)))
        | inr after ↦ elim (cases_lt at i) [
          | inl behind ↦ (
              let one : i ≡ (i - 1) + 1 = omega arith in
              let lt : i - 1 < length xs = omega arith in
              let moved : get_or (insert xs at x) i y ≡ get_or xs (i - 1) y = ap (λ k. get_or (insert xs at x) k y) one ∙ get_or-insert_above xs at x y (i - 1) (omega arith) within in
              inr (inr (behind, slice_get-get_or xs (i - 1) y lt ∙ ap Some (sym moved ∙ there))))
          | inr not_behind ↦ (
              let same : i ≡ at = omega arith in
              inr (inl (same, sym (get_or-insert_at xs at x y within) ∙ (ap (λ k. get_or (insert xs at x) k y) (sym same) ∙ there))))
        ]
      ]

  insert_below : (i : ℕ) (y : X) → i < at → slice_get xs i ≡ Some y → slice_get (insert xs at x) i ≡ Some y
  insert_below i y before is =
      let long = length-insert xs at x within in
      slice_get-get_or (insert xs at x) i y (omega arith) ∙ ap Some (get_or-insert_below xs at x y i before within ∙ get_or_from_slice_get xs i y y is)

  insert_there : slice_get (insert xs at x) at ≡ Some x
  insert_there =
      let long = length-insert xs at x within in
      slice_get-get_or (insert xs at x) at x (omega arith) ∙ ap Some (get_or-insert_at xs at x x within)

  insert_above : (i : ℕ) (y : X) → at ≤ i → slice_get xs i ≡ Some y → slice_get (insert xs at x) (i + 1) ≡ Some y
  insert_above i y after is =
      let long = length-insert xs at x within in
      let lt = slice_get_within xs i y is in
      slice_get-get_or (insert xs at x) (i + 1) y (omega arith) ∙ ap Some (get_or-insert_above xs at x y i after within ∙ get_or_from_slice_get xs i y y is)

-- ---- what is found among the holders

-- a holder with the EID is there
held_there : (o : Option Holder) (e : ℕ) → option_map (λ (h : Holder). h.eid.value) o ≡ Some e → (h : Holder) × (o ≡ Some h) × (h.eid.value ≡ e)
held_there None e is = absurd (cc)
held_there (Some h) e is = (h, refl, same_Some h.eid.value e is)

abbrev pub StandsAt : List Holder → ℕ → ℕ → Type 0
StandsAt holders at e = option_map (λ (h : Holder). h.eid.value) (slice_get holders at) ≡ Some e

pub stands_within : (holders : List Holder) (at e : ℕ) → StandsAt holders at e → at < length holders
stands_within holders at e stands = let there = held_there (slice_get holders at) e stands in slice_get_within holders at there.0 there.1

-- and where none stands, whoever stands there has another
no_other : (holders : List Holder) (at e : ℕ) → ¬ StandsAt holders at e → (h : Holder) → slice_get holders at ≡ Some h → h.eid.value ≢ e
no_other holders at e not h is same = not (ap (option_map (λ (x : Holder). x.eid.value)) is ∙ ap Some same)

module _ (holders : List Holder) (ascend : HoldersAscend holders) (e at : ℕ) (by : EndedBy (λ (h : Holder). h.eid.value + 1) holders e at) where
  index_of : (k : ℕ) (h : Holder) → slice_get holders k ≡ Some h → h.eid.value ≡ e → k ≡ at
  index_of k h is same = elim (cases_lt k at) [
    | inl before ↦ (let low = by.ended k before h is in absurd (omega arith))
    | inr le ↦ elim (cases_lt at k) [
      | inl after ↦ (
          let inside = slice_get_within holders k h is in
          let y = element holders at (omega arith) in
          let apart = ascend at k y.0 h after y.1 is in
          let high = by.left at (omega arith) y.0 y.1 in
          absurd (omega arith))
      | inr last ↦ omega arith
    ]
  ]

  stands_there : (k : ℕ) (h : Holder) → slice_get holders k ≡ Some h → h.eid.value ≡ e → slice_get holders at ≡ Some h
  stands_there k h is same = ap (λ i. slice_get holders i) (sym (index_of k h is same)) ∙ is

module _ (plan : Plan) (holders : List Holder) (are : AreFirstHolders plan (length plan.nodes.items) holders) (e at : ℕ) (by : EndedBy (λ (h : Holder). h.eid.value + 1) holders e at) where
  pub first_there : StandsAt holders at e → (h : Holder) → slice_get holders at ≡ Some h → IsFirstHolder plan e (Some h.node)
  first_there stands h is =
      let there = held_there (slice_get holders at) e stands in
      let one : there.0 ≡ h = same_Some there.0 h (sym there.1 ∙ is) in
      let P : ℕ → Type 0 = λ d. IsFirstHolder plan d (Some h.node) in
      subst P (ap (λ (x : Holder). x.eid.value) (sym one) ∙ there.2) (are.first at h is)

  pub first_none : ¬ StandsAt holders at e → IsFirstHolder plan e None
  first_none not n holds =
      let (k, h, is, same) = are.all n e (holder_within plan n e holds) holds in
      no_other holders at e not h (stands_there holders are.ascend e at by k h is same) same

-- ---- and with one node more
module _ (plan : Plan) (n : ℕ) (holders : List Holder) (are : AreFirstHolders plan n holders) (e at : ℕ) (by : EndedBy (λ (h : Holder). h.eid.value + 1) holders e at)
    (here : Holds plan n e) where
  its_eid : (m d : ℕ) → n ≤ m → m < n + 1 → Holds plan m d → e ≡ d
  its_eid m d after last holds = let one : m ≡ n = omega arith in same_Some e d (sym here ∙ subst (λ k. Holds plan k d) one holds)

  pub had : StandsAt holders at e → AreFirstHolders plan (n + 1) holders
  had stands =
      let there = held_there (slice_get holders at) e stands in
      record {
        ascend = are.ascend;
        first = are.first;
        all = λ m d lt holds. elim (cases_lt m n) [
          | inl less ↦ are.all m d less holds
          | inr last ↦ (at, there.0, there.1, there.2 ∙ its_eid m d last lt holds)
        ];
      }

  module _ (not : ¬ StandsAt holders at e) (one : Holder) (eid : one.eid.value ≡ e) (node : one.node ≡ n) where
    other : (h : Holder) → slice_get holders at ≡ Some h → h.eid.value ≢ e
    other = no_other holders at e not

    is_first : IsFirstHolder plan one.eid.value (Some one.node)
    is_first =
        let none : (m : ℕ) → m < n → ¬ Holds plan m e = λ m less holds.
        let (k, h, is, same) = are.all m e less holds in other h (stands_there holders are.ascend e at by k h is same) same in
        let P : ℕ → Type 0 = λ d. IsFirstHolder plan d (Some one.node) in
        let Q : ℕ → Type 0 = λ k. IsFirstHolder plan e (Some k) in
        subst P (sym eid) (subst Q (sym node) (here, none))

    low : (i : ℕ) (x : Holder) → i < at → slice_get holders i ≡ Some x → x.eid.value + 1 ≤ one.eid.value
    low i x before is = let ended = by.ended i before x is in omega arith

    high : (i : ℕ) (x : Holder) → at ≤ i → slice_get holders i ≡ Some x → one.eid.value + 1 ≤ x.eid.value
    high i x after is = elim (cases_eq x.eid.value e) [
      | inl same ↦ absurd (other x (stands_there holders are.ascend e at by i x is same) same)
      | inr differs ↦ (let left = by.left i after x is in omega arith)
    ]

    rise : HoldersAscend (insert holders at one)
    rise i j x y less is is' = elim (in_insert holders at one by.within i x is) [
      | inl (before, was) ↦ elim (in_insert holders at one by.within j y is') [
        | inl (_, was') ↦ are.ascend i j x y less was was'
        | inr rest ↦ elim rest [
          | inl (_, same) ↦ (let P : Holder → Type 0 = λ h. x.eid.value + 1 ≤ h.eid.value in subst P same (low i x before was))
          | inr (after, was') ↦ are.ascend i (j - 1) x y (omega arith) was was'
        ]
      ]
      | inr rest ↦ elim rest [
        | inl (there, same) ↦ elim (in_insert holders at one by.within j y is') [
          | inl (before, _) ↦ absurd (omega arith)
          | inr rest' ↦ elim rest' [
            | inl (there', _) ↦ absurd (omega arith)
            | inr (after, was') ↦ (let P : Holder → Type 0 = λ h. h.eid.value + 1 ≤ y.eid.value in subst P same (high (j - 1) y (omega arith) was'))
          ]
        ]
        | inr (behind, was) ↦ elim (in_insert holders at one by.within j y is') [
          | inl (before, _) ↦ absurd (omega arith)
          | inr rest' ↦ elim rest' [
            | inl (there', _) ↦ absurd (omega arith)
            | inr (after, was') ↦ are.ascend (i - 1) (j - 1) x y (omega arith) was was'
          ]
        ]
      ]
    ]

    pub added : AreFirstHolders plan (n + 1) (insert holders at one)
    added = record {
      ascend = rise;
      first = λ k h is. elim (in_insert holders at one by.within k h is) [
        | inl (_, was) ↦ are.first k h was
        | inr rest ↦ elim rest [
          | inl (_, same) ↦ (let P : Holder → Type 0 = λ x. IsFirstHolder plan x.eid.value (Some x.node) in subst P same is_first)
          | inr (_, was) ↦ are.first (k - 1) h was
        ]
      ];
      all = λ m d lt holds. elim (cases_lt m n) [
        | inl less ↦ (
            let (k, h, is, same) = are.all m d less holds in
            elim (cases_lt k at) [
              | inl before ↦ (k, h, insert_below holders at one by.within k h before is, same)
              | inr after ↦ (k + 1, h, insert_above holders at one by.within k h after is, same)
            ])
        | inr last ↦ (at, one, insert_there holders at one by.within, eid ∙ its_eid m d last lt holds)
      ];
    }
