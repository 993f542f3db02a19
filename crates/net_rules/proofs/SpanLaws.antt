-- Rows joined to spans, one after the other, and what is looked up in spans.
use Rattle.std.{proofs.Common.{◌≡◌, ◌⊎◌, ℕ, ◌+◌, ◌<◌, ◌≤◌, List, [], ◌∷◌, ◌++◌, length, get_or, Bool, Some, None, refl, sym, ◌∙◌, ap, subst, arith, inl, inr}, specs.Prelude.{◌↔◌, IsTrue, slice_get}, proofs.lemmas.Bool.{cases_lt}, specs.List.Sorted.{IsPermutation, IsNonDecreasingBy}, proofs.lemmas.List.Sorted.{IsPermutation-sym, Contains-permutation}, proofs.lemmas.Option.{same_Some, none-some, slice_get_within, slice_get-get_or, get_or_from_slice_get}}
use Rattle.plan_values.specs.declared.nodes.Row.{Row}
use Rattle.net_tables.{specs.Routing.{Covers, OfItem}, specs.Rows.{AreApart}, proofs.Elements.{element, push_left, push_last, in_push}}
use Rattle.net_rules.{specs.declared.span.Span.{Span}, specs.declared.spans.Joined.{Joined}, specs.Following.{EndedBy}, specs.Stretches.{IsStretch}, specs.Spans.{IsCovered, IsInSpan, IsInSpans, SpansFollow, HasTurn, IsJoined, IsKept, IsAdded}, proofs.PairsMoved.{pairs_moved}, proofs.CoveredLaws.{IsCoveredBefore, one_row_more, all_rows}}

abbrev pub EndBy : List Span → ℕ → Type 0
EndBy spans n = (k : ℕ) → OfItem spans k (λ span. span.end ≤ n)

-- ---- a span more

pub kept_none : (spans : List Span) (last : Span) → SpansFollow spans → EndBy spans last.first → last.end ≤ last.first → IsKept spans last spans
kept_none spans last follow below empty = record {
  follow = follow;
  below = λ k span is. (let low = below k span is in omega (arith, low, last.ordered));
  more = λ e. (
    λ h. inl h,
    λ h. elim h [
      | inl before ↦ before
      | inr (low, high) ↦ absurd (omega arith)
    ],
  );
}

pub kept_one : (spans : List Span) (last : Span) → SpansFollow spans → EndBy spans last.first → IsKept spans last (spans ++ last ∷ [])
kept_one spans last follow below = record {
  follow = λ i j one other lt is is'. elim (in_push spans last i one is) [
    | inl early ↦ elim (in_push spans last j other is') [
      | inl early' ↦ follow i j one other lt early early'
      | inr (at, same) ↦ (
          let P : Span → Type 0 = λ s. one.end ≤ s.first in
          subst P same (below i one early))
    ]
    | inr (at, same) ↦ (
        let within = slice_get_within (spans ++ last ∷ []) j other is' in
        elim (in_push spans last j other is') [
          | inl early' ↦ (let inside = slice_get_within spans j other early' in absurd (omega arith))
          | inr (at', same') ↦ absurd (omega arith)
        ])
  ];
  below = λ k span is. elim (in_push spans last k span is) [
    | inl early ↦ (let low = below k span early in omega (arith, low, last.ordered))
    | inr (at, same) ↦ (
        let P : Span → Type 0 = λ s. s.end ≤ last.end in
        let le : last.end ≤ last.end = omega arith in
        subst P same le)
  ];
  more = λ e. (
    λ (k, span, is, has). elim (in_push spans last k span is) [
      | inl early ↦ inl (k, span, early, has)
      | inr (at, same) ↦ (
          let P : Span → Type 0 = λ s. IsInSpan s e in
          inr (subst P (sym same) has))
    ],
    λ h. elim h [
      | inl (k, span, is, has) ↦ (k, span, push_left spans last k span is, has)
      | inr has ↦ (length spans, last, push_last spans last, has)
    ],
  );
}

-- the last span is kept, and the new one is the last
pub added_new : (before : List Span) (last next : Span) (after : List Span) → IsKept before last after → last.end < next.first → IsAdded before last next after next
added_new before last next after kept past = record {
  follow = kept.follow;
  below = λ k span is. (let low = kept.below k span is in omega arith);
  more = λ e. (
    λ h. elim h [
      | inl in_some ↦ inl ((kept.more e).0 in_some)
      | inr has ↦ inr has
    ],
    λ h. elim h [
      | inl early ↦ inl ((kept.more e).1 early)
      | inr has ↦ inr has
    ],
  );
  begins = inr refl;
}

-- or the last span is lengthened
pub added_joined : (before : List Span) (last next new : Span) → SpansFollow before → EndBy before last.first → new.first ≡ last.first
    → ((e : ℕ) → IsInSpan new e ↔ (IsInSpan last e ⊎ IsInSpan next e)) → IsAdded before last next before new
added_joined before last next new follow below same either = record {
  follow = follow;
  below = λ k span is. (let low = below k span is in omega arith);
  more = λ e. (
    λ h. elim h [
      | inl in_some ↦ inl (inl in_some)
      | inr has ↦ elim ((either e).0 has) [
        | inl old ↦ inl (inr old)
        | inr new' ↦ inr new'
      ]
    ],
    λ h. elim h [
      | inl early ↦ elim early [
        | inl in_some ↦ inl in_some
        | inr old ↦ inr ((either e).1 (inl old))
      ]
      | inr new' ↦ inr ((either e).1 (inr new'))
    ],
  );
  begins = inl same;
}

-- ---- rows joined so far

-- The spans and the open one are what so many of the rows cover; the open one begins with a row, the others before it.
pub record AreJoinedBefore (rows : List Row) (count : ℕ) (spans : List Span) (last' : Span) (apart : Bool) : Type 0 where
  pub follow : SpansFollow spans
  pub below : EndBy spans last'.first
  pub cover : (e : ℕ) → (IsInSpans spans e ⊎ IsInSpan last' e) ↔ IsCoveredBefore rows count e
  pub pairs : IsTrue apart → (i j : ℕ) (one other : Row) → i < j → j < count → slice_get rows i ≡ Some one → slice_get rows j ≡ Some other
      → AreApart one other
  pub begun : (last'.first ≡ 0) ⊎ ((j : ℕ) × (row : Row) × (j < count) × (slice_get rows j ≡ Some row) × (row.first.value ≡ last'.first))

pub none_joined : (rows : List Row) (last' : Span) (apart : Bool) → last'.first ≡ 0 → last'.end ≡ 0 → AreJoinedBefore rows 0 [] last' apart
none_joined rows last' apart first end = record {
  follow = λ i j one other lt is is'. absurd (none-some one is);
  below = λ k span is. absurd (none-some span is);
  cover = λ e. (
    λ h. elim h [
      | inl (k, span, is, has) ↦ absurd (none-some span is)
      | inr (low, high) ↦ absurd (omega arith)
    ],
    λ (r, row, less, is, covers). absurd (omega arith),
  );
  pairs = λ _ i j one other lt less is is'. absurd (omega arith);
  begun = inl first;
}

module _ (rows : List Row) (count : ℕ) (spans : List Span) (last' : Span) (apart : Bool) (joined : AreJoinedBefore rows count spans last' apart)
    (row : Row) (here : slice_get rows count ≡ Some row) (next : Span) (first : next.first ≡ row.first.value) (covered : (e : ℕ) → IsInSpan next e ↔ Covers row e) where
  -- the row begins before an earlier one
  pub turn_seen : next.first < last'.first → HasTurn rows
  turn_seen less = elim joined.begun [
    | inl none ↦ absurd (omega arith)
    | inr (j, other, lt, is, same) ↦ (j, count, other, row, lt, is, here, omega arith)
  ]

  -- what earlier rows cover ends before the row begins
  row_apart : last'.end ≤ next.first → (i : ℕ) (one : Row) → i < count → slice_get rows i ≡ Some one → AreApart one row
  unfolding AreApart
  row_apart past i one lt is = λ e covers covers'.
      let low = ((covered e).1 covers').0 in
      elim ((joined.cover e).1 (i, one, lt, is, covers)) [
        | inl (k, span, at, has) ↦ (let end = joined.below k span at in absurd (omega (arith, last'.ordered)))
        | inr (low', high) ↦ absurd (omega arith)
      ]

  all_apart : IsTrue apart → last'.end ≤ next.first → (i j : ℕ) (one other : Row) → i < j → j < count + 1 → slice_get rows i ≡ Some one → slice_get rows j ≡ Some other → AreApart one other
  all_apart seen past i j one other lt less is is' = elim (cases_lt j count) [
    | inl before ↦ joined.pairs seen i j one other lt before is is'
    | inr after ↦ (
        let last : j ≡ count = omega arith in
        let P : ℕ → Type 0 = λ k. slice_get rows k ≡ Some other in
        let A : Row → Type 0 = λ x. AreApart one x in
        subst A (same_Some row other (sym here ∙ subst P last is')) (row_apart past i one (omega arith) is))
  ]

  -- one row more
  pub row_added : (after : List Span) (new : Span) (apart' : Bool) → IsAdded spans last' next after new → (IsTrue apart' → IsTrue apart × (last'.end ≤ next.first))
      → AreJoinedBefore rows (count + 1) after new apart'
  row_added after new apart' added seen = record {
    follow = added.follow;
    below = added.below;
    cover = λ e.
        let more = one_row_more rows count row here e in
        let span = added.more e in (
          λ h. elim (span.0 h) [
            | inl before ↦ more.0 (inl ((joined.cover e).0 before))
            | inr has ↦ more.0 (inr ((covered e).0 has))
          ],
          λ h. elim (more.1 h) [
            | inl before ↦ span.1 (inl ((joined.cover e).1 before))
            | inr covers ↦ span.1 (inr ((covered e).1 covers))
          ],
        );
    pairs = λ t. (let both = seen t in all_apart both.0 both.1);
    begun = elim added.begins [
      | inl same ↦ elim joined.begun [
        | inl none ↦ inl (same ∙ none)
        | inr (j, other, lt, is, begins) ↦ inr (j, other, omega arith, is, begins ∙ sym same)
      ]
      | inr same ↦ inr (count, row, omega arith, here, sym first ∙ sym same)
    ];
  }

-- all of them
pub all_joined : (rows : List Row) (count : ℕ) (spans : List Span) (last' : Span) (apart : Bool) → length rows ≤ count → AreJoinedBefore rows count spans last' apart
    → (joined : Joined) → joined.apart ≡ apart → IsKept spans last' joined.spans.items → IsJoined rows joined
all_joined rows count spans last' apart all before joined same kept = record {
  follow = kept.follow;
  cover = λ e.
      let whole = all_rows rows count e all in (
        λ h. whole.0 ((before.cover e).0 ((kept.more e).0 h)),
        λ h. (kept.more e).1 ((before.cover e).1 (whole.1 h)),
      );
  apart = λ seen i j one other lt is is'.
      let within = slice_get_within rows j other is' in
      let P : Bool → Type 0 = λ b. IsTrue b in
      before.pairs (subst P same seen) i j one other lt (omega arith) is is';
}

-- ---- what is looked up

module _ (spans : List Span) (follow : SpansFollow spans) (d count : ℕ) (by : EndedBy (λ (s : Span). s.end) spans d count) where
  -- what lies in a span from d on lies in the next one, or beyond its first
  in_next : (e : ℕ) (span : Span) → slice_get spans count ≡ Some span → d ≤ e → IsInSpans spans e → span.first ≤ e
  in_next e span here le (k, other, is, has) = elim (cases_lt k count) [
    | inl before ↦ (let low = by.ended k before other is in absurd (omega arith))
    | inr after ↦ elim (cases_lt count k) [
      | inl past ↦ (let apart = follow count k span other past here is in omega (arith, span.ordered))
      | inr le' ↦ (
          let same : k ≡ count = omega arith in
          let P : ℕ → Type 0 = λ i. slice_get spans i ≡ Some other in
          let Q : Span → Type 0 = λ s. s.first ≤ e in
          let low : other.first ≤ e = has.0 in
          subst Q (same_Some other span (sym (subst P same is) ∙ here)) low)
    ]
  ]

  in_none : (e : ℕ) → slice_get spans count ≡ None → d ≤ e → IsInSpans spans e → ⊥
  in_none e none le (k, other, is, has) = elim (cases_lt k count) [
    | inl before ↦ (let low = by.ended k before other is in omega arith)
    | inr after ↦ (
        let inside = slice_get_within spans k other is in
        let y = element spans count (omega arith) in
        none-some y.0 (sym none ∙ y.1))
  ]

  -- of the span at d, if d lies in one
  pub has_by_first : (span : Span) → slice_get spans count ≡ Some span → (span.first ≤ d) ↔ IsInSpans spans d
  has_by_first span here = (
    λ low. (let high = by.left count (omega arith) span here in (count, span, here, (low, high))),
    λ h. in_next d span here (omega arith) h,
  )

  pub has_not : slice_get spans count ≡ None → IsInSpans spans d → ⊥
  has_not none h = in_none d none (omega arith) h

  pub stretch_within : (span : Span) → slice_get spans count ≡ Some span → span.first ≤ d → IsStretch (IsInSpans spans) d span.end
  stretch_within span here low =
      let high = by.left count (omega arith) span here in (
        high,
        λ e from before. (
          λ _. (count, span, here, (low, high)),
          λ _. (count, span, here, (omega arith, before)),
        ),
      )

  pub stretch_before : (span : Span) → slice_get spans count ≡ Some span → d < span.first → IsStretch (IsInSpans spans) d span.first
  stretch_before span here past = (
    past,
    λ e from before. (
      λ h. absurd (let low = in_next e span here from h in omega arith),
      λ h. absurd (let low = in_next d span here (omega arith) h in omega arith),
    ),
  )

  pub stretch_after : slice_get spans count ≡ None → d < 256 → IsStretch (IsInSpans spans) d 256
  stretch_after none small = (
    small,
    λ e from before. (λ h. absurd (in_none e none from h), λ h. absurd (in_none d none (omega arith) h)),
  )

-- ---- of rows in another order

-- rows in the order of their first endpoint IDs never begin before an earlier one
pub no_turn : (rows : List Row) → IsNonDecreasingBy (λ (row : Row). row.first.value) rows → HasTurn rows → ⊥
no_turn rows rise (i, j, one, other, lt, is, is', less) =
    let within = slice_get_within rows j other is' in
    let up = rise i j one (omega arith) within in
    let P : Row → Type 0 = λ x. x.first.value ≤ (get_or rows j one).first.value in
    let Q : Row → Type 0 = λ x. one.first.value ≤ x.first.value in
    let low : one.first.value ≤ other.first.value = subst Q (get_or_from_slice_get rows j other one is') (subst P (get_or_from_slice_get rows i one one is) up) in
    omega arith

covered_along : (rows others : List Row) → IsPermutation rows others → (e : ℕ) → IsCovered rows e → IsCovered others e
covered_along rows others same e (r, row, is, covers) =
    let there = Contains-permutation rows others row same (r, slice_get_within rows r row is, get_or_from_slice_get rows r row row is) in
    (there.0, row, slice_get-get_or others there.0 row there.1 ∙ ap Some there.2, covers)

pub joined_moved : (rows others : List Row) (joined : Joined) → IsPermutation rows others → IsJoined others joined → IsJoined rows joined
joined_moved rows others joined same is =
    let back = IsPermutation-sym rows others same in
    record {
      follow = is.follow;
      cover = λ e. (
        λ h. covered_along others rows back e ((is.cover e).0 h),
        λ h. (is.cover e).1 (covered_along rows others same e h),
      );
      apart = λ seen. pairs_moved others rows back (is.apart seen);
    }

-- the same stretch of what is the same
pub stretch_of : (P Q : ℕ → Type 0) → ((e : ℕ) → P e ↔ Q e) → (at end : ℕ) → IsStretch P at end → IsStretch Q at end
stretch_of P Q same at end h = (
  h.0,
  λ e from before.
      let one = h.1 e from before in (
        λ q. (same at).0 (one.0 ((same e).1 q)),
        λ q. (same e).0 (one.1 ((same at).1 q)),
      ),
)
