-- Ways between nodes of two plans whose hops differ.
use Rattle.std.{proofs.Common.{◌≡◌, ◌≢◌, ◌⊎◌, inl, inr, ◌<◌, ◌≤◌, ℕ, ◌+◌, List, [], ◌++◌, length, Option, Some, None, subst, sym, ◌∙◌, refl, arith}, specs.Prelude.{MatchOption}, proofs.lemmas.Bool.{cases_lt}, proofs.lemmas.List.Elements.{All-append, All-cons, All-nil, Contains-append_left, Contains-append_right}}
use Rattle.plan_values.specs.declared.plan.Plan.{Plan}
use Rattle.net_rules.specs.Names.{name_of}
use Rattle.command_answers.specs.Naming.{IsFirstNamed}
use Rattle.plan_differences.{specs.declared.ways.OtherWay.{OtherWay}, specs.WayDifferences.{AreOtherWays, AreWaysBefore, AreWaysFrom, AreWaysOf, IsGone, IsHops, IsNoOther, IsOneNode, IsOtherBetween, IsOtherWay, found_way}, proofs.Items.{contains_head}}

-- ---- one way

-- a way with the hops, where they differ
pub between_so : (before after : Plan) (a b m n : ℕ) (h k : Option ℕ) (found : Option OtherWay) → IsOneNode before after a m → IsOneNode before after b n → IsHops before a b h → IsHops after m n k
    → MatchOption found (h ≡ k) (λ way. (h ≢ k) × (way ≡ record { from = a; to = b; before = h; after = k })) → MatchOption found (IsNoOther before after a b) (IsOtherBetween before after a b)
between_so before after a b m n h k None one other old_hops new_hops same = inr (inr (record {
  from = m;
  to = n;
  one = one;
  other = other;
  hops = h;
  old_hops = old_hops;
  new_hops = subst (IsHops after m n) (sym same) new_hops;
}))
between_so before after a b m n h k (Some way) one other old_hops new_hops made = subst (IsOtherBetween before after a b) (sym made.1) (
  record {
    from = m;
    to = n;
    one = one;
    other = other;
    old_hops = old_hops;
    new_hops = new_hops;
    differ = made.0;
  },
  refl,
  refl,
)

-- the node of the new plan with the name of one of the old plan's
pub node_found : (before after : Plan) (n : ℕ) (word : List ℕ) (found : Option ℕ) → Some word ≡ name_of before n
    → MatchOption found ((k : ℕ) → name_of after k ≢ Some word) (IsFirstNamed after word) → MatchOption found (IsGone before after n) (IsOneNode before after n)
node_found before after n word None here none = λ m h. none m (h.2.named ∙ (sym h.1 ∙ sym here))
node_found before after n word (Some m) here first = (word, sym here, first)

pub node_missing : (before after : Plan) (n m : ℕ) → None ≡ name_of before n → ¬ IsOneNode before after n m
node_missing before after n m missing h = cc (missing, h.1)

-- ---- all ways

-- what is settled of two sets of pairs
ways_join : (before after : Plan) (Is Are All_ : ℕ → ℕ → Type 0) (xs ys : List OtherWay) → AreWaysOf before after Is xs → AreWaysOf before after Are ys
    → ((a b : ℕ) → All_ a b → Is a b ⊎ Are a b) → AreWaysOf before after All_ (xs ++ ys)
ways_join before after Is Are All_ xs ys one other split = record {
  each = All-append (IsOtherWay before after) xs ys one.each other.each;
  all = λ a b is. elim (split a b is) [
    | inl h ↦ elim (one.all a b h) [
      | inl told ↦ inl (told.0, Contains-append_left xs ys told.0 told.1, told.2, told.3)
      | inr none ↦ inr none
    ]
    | inr h ↦ elim (other.all a b h) [
      | inl told ↦ inl (told.0, Contains-append_right xs ys told.0 told.1, told.2, told.3)
      | inr none ↦ inr none
    ]
  ];
}

-- what is found of one pair
one_found : (before after : Plan) (a b : ℕ) (found : Option OtherWay) → MatchOption found (IsNoOther before after a b) (IsOtherBetween before after a b)
    → AreWaysOf before after (λ m n. (m ≡ a) × (n ≡ b)) (found_way found)
one_found before after a b None none = record {
  each = All-nil (IsOtherWay before after);
  all = λ m n at. inr (subst (λ x. IsNoOther before after x n) (sym at.0) (subst (IsNoOther before after a) (sym at.1) none));
}
one_found before after a b (Some way) is = record {
  each = All-cons (IsOtherWay before after) way [] is.0 (All-nil (IsOtherWay before after));
  all = λ m n at. inl (way, contains_head way [], is.1 ∙ sym at.0, is.2 ∙ sym at.1);
}

at_last : (k n : ℕ) → n < k + 1 → (n < k) ⊎ (n ≡ k)
at_last k n lt = elim (cases_lt n k) [
  | inl less ↦ inl less
  | inr ge ↦ inr (omega (arith, lt, ge))
]

pub none_yet : (before after : Plan) (from : ℕ) → AreWaysFrom before after from 0 []
none_yet before after from = record {
  each = All-nil (IsOtherWay before after);
  all = λ a b is. absurd (omega (arith, is.1));
}

pub ways_on : (before after : Plan) (from k : ℕ) (ways : List OtherWay) (found : Option OtherWay) → AreWaysFrom before after from k ways
    → MatchOption found (IsNoOther before after from k) (IsOtherBetween before after from k) → AreWaysFrom before after from (k + 1) (ways ++ found_way found)
ways_on before after from k ways found are is =
    ways_join before after (λ a b. (a ≡ from) × (b < k)) (λ a b. (a ≡ from) × (b ≡ k)) (λ a b. (a ≡ from) × (b < k + 1)) ways (found_way found) are (one_found before after from k found is)
    (λ a b h. elim (at_last k b h.1) [
      | inl less ↦ inl (h.0, less)
      | inr at ↦ inr (h.0, at)
    ])

pub none_before : (before after : Plan) → AreWaysBefore before after 0 []
none_before before after = record {
  each = All-nil (IsOtherWay before after);
  all = λ a b is. absurd (omega (arith, is.0));
}

pub from_more : (before after : Plan) (k : ℕ) (ways more : List OtherWay) → AreWaysBefore before after k ways → AreWaysFrom before after k (length before.nodes.items) more
    → AreWaysBefore before after (k + 1) (ways ++ more)
from_more before after k ways more are from =
    ways_join before after (λ a b. (a < k) × (b < n)) (λ a b. (a ≡ k) × (b < n)) (λ a b. (a < k + 1) × (b < n)) ways more are from
    (λ a b h. elim (at_last k a h.0) [
      | inl less ↦ inl (less, h.1)
      | inr at ↦ inr (at, h.1)
    ])
  where
    n : ℕ
    n = length before.nodes.items

pub all_ways : (before after : Plan) (k : ℕ) (ways : List OtherWay) → length before.nodes.items ≤ k → AreWaysBefore before after k ways → AreOtherWays before after ways
all_ways before after k ways all are = record {
  each = are.each;
  all = λ a b is. are.all a b (omega (arith, is.0, all), is.1);
}
