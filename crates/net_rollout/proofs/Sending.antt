-- Rows that are made of pieces of others.
use Rattle.std.{proofs.Common.{◌≡◌, ◌⊎◌, ◌↔◌, inl, inr, ◌<◌, ◌≤◌, ℕ, ◌+◌, List, [], ◌∷◌, ◌++◌, length, Some, None, Option, Bool, true, false, ap, sym, subst, ◌∙◌, arith}, specs.Prelude.{slice_get}, proofs.lemmas.Bool.{cases_lt, false≢true}, proofs.lemmas.Option.{slice_get_within, same_Some}}
use Rattle.plan_values.specs.declared.nodes.Row.{Row}
use Rattle.net_tables.specs.Routing.{Covers, NamesFor}
use Rattle.net_rollout.{specs.Steps.{IsPieceOf, SendsBy, SendAs}, proofs.Items.{item_pushed}}
use Rattle.mctp_transport.proofs.FirstIndexes.{get_front, get_last, same_element}

-- so one of the first k rows does
abbrev pub SentBefore : List Row → ℕ → ℕ → ℕ → ℕ → ℕ → ℕ → Type 0
SentBefore rows k from to e port m = (r : ℕ) × (r < k) × (row : Row) × (slice_get rows r ≡ Some row) × IsPieceOf row from to e port m

-- what the pieces of the first k rows add
abbrev pub ArePieces : List Row → List Row → List Row → ℕ → ℕ → ℕ → Type 0
ArePieces old made rows k from to = (e port m : ℕ) → SendsBy made e port m ↔ (SendsBy old e port m ⊎ SentBefore rows k from to e port m)

pub no_pieces : (old rows : List Row) (from to : ℕ) → ArePieces old old rows 0 from to
no_pieces old rows from to e port m = (λ h. inl h, back)
  where
    back : (SendsBy old e port m ⊎ SentBefore rows 0 from to e port m) → SendsBy old e port m
    back (inl h) = h
    back (inr h) = absurd (omega (arith, h.1))

-- no piece of a row is left
pub none_added : (made : List Row) (row : Row) (from to : ℕ) → ((e : ℕ) → Covers row e → from ≤ e → ¬ (e < to))
    → (e port m : ℕ) → SendsBy made e port m ↔ (SendsBy made e port m ⊎ IsPieceOf row from to e port m)
none_added made row from to none e port m = (λ h. inl h, back)
  where
    back : (SendsBy made e port m ⊎ IsPieceOf row from to e port m) → SendsBy made e port m
    back (inl h) = h
    back (inr h) = absurd (none e h.0 h.1 h.2)

-- a piece of a row is added
pub one_added : (made : List Row) (row piece : Row) (from to : ℕ) → (piece.port ≡ row.port) → (piece.next ≡ row.next)
    → ((e : ℕ) → Covers piece e ↔ (Covers row e × (from ≤ e) × (e < to)))
    → (e port m : ℕ) → SendsBy (made ++ piece ∷ []) e port m ↔ (SendsBy made e port m ⊎ IsPieceOf row from to e port m)
one_added made row piece from to port_same next_same covers e port m = (there, back)
  where
    of_piece : (x : Row) → piece ≡ x → Covers x e → x.port ≡ port → x.next ≡ m → SendsBy made e port m ⊎ IsPieceOf row from to e port m
    of_piece x same c p n =
        let c' : Covers piece e = subst (λ y. Covers y e) (sym same) c in
        let parts = (covers e).0 c' in
        let p' : piece.port ≡ port = subst (λ y. y.port ≡ port) (sym same) p in
        let n' : piece.next ≡ m = subst (λ y. y.next ≡ m) (sym same) n in
        inr (parts.0, parts.1, parts.2, sym port_same ∙ p', sym next_same ∙ n')

    there : SendsBy (made ++ piece ∷ []) e port m → SendsBy made e port m ⊎ IsPieceOf row from to e port m
    there h = elim (item_pushed made piece h.0 h.1 h.2) [
      | inl is ↦ inl (h.0, h.1, is, h.3, h.4, h.5)
      | inr is ↦ of_piece h.1 is.1 h.3 h.4 h.5
    ]

    back : (SendsBy made e port m ⊎ IsPieceOf row from to e port m) → SendsBy (made ++ piece ∷ []) e port m
    back (inl h) = (h.0, h.1, get_front made (piece ∷ []) h.0 h.1 h.2, h.3, h.4, h.5)
    back (inr h) = (length made, piece, get_last made piece, (covers e).1 (h.0, h.1, h.2), port_same ∙ h.3, next_same ∙ h.4)

-- one row more
pub one_row_more : (old made more rows : List Row) (k : ℕ) (row : Row) (from to : ℕ) → slice_get rows k ≡ Some row
    → ((e port m : ℕ) → SendsBy more e port m ↔ (SendsBy made e port m ⊎ IsPieceOf row from to e port m))
    → ArePieces old made rows k from to → ArePieces old more rows (k + 1) from to
one_row_more old made more rows k row from to here added before e port m = (there, back)
  where
    later : (SendsBy old e port m ⊎ SentBefore rows k from to e port m) → SendsBy old e port m ⊎ SentBefore rows (k + 1) from to e port m
    later (inl h) = inl h
    later (inr h) = inr (h.0, omega (arith, h.1), h.2, h.3, h.4)

    there_of : (SendsBy made e port m ⊎ IsPieceOf row from to e port m) → SendsBy old e port m ⊎ SentBefore rows (k + 1) from to e port m
    there_of (inl h) = later ((before e port m).0 h)
    there_of (inr h) = inr (k, omega arith, row, here, h)

    there : SendsBy more e port m → SendsBy old e port m ⊎ SentBefore rows (k + 1) from to e port m
    there h = there_of ((added e port m).0 h)

    of_row : (r : ℕ) (one : Row) → slice_get rows r ≡ Some one → r ≡ k → IsPieceOf one from to e port m → IsPieceOf row from to e port m
    of_row r one is at h =
        let same : one ≡ row = same_element rows k one row (subst (λ x. slice_get rows x ≡ Some one) at is) here in
        subst (λ x. IsPieceOf x from to e port m) same h

    back : (SendsBy old e port m ⊎ SentBefore rows (k + 1) from to e port m) → SendsBy more e port m
    back (inl h) = (added e port m).1 (inl ((before e port m).1 (inl h)))
    back (inr h) = elim (cases_lt h.0 k) [
      | inl lt ↦ (added e port m).1 (inl ((before e port m).1 (inr (h.0, lt, h.2, h.3, h.4))))
      | inr ge ↦ (added e port m).1 (inr (of_row h.0 h.2 h.3 (omega (arith, h.1, ge)) h.4))
    ]

-- the pieces of all rows
pub all_pieces : (old made rows : List Row) (k from to : ℕ) → length rows ≤ k → ArePieces old made rows k from to
    → (e port m : ℕ) → SendsBy made e port m ↔ (SendsBy old e port m ⊎ (SendsBy rows e port m × (from ≤ e) × (e < to)))
all_pieces old made rows k from to all before e port m = (λ h. more ((before e port m).0 h), λ h. (before e port m).1 (less h))
  where
    more : (SendsBy old e port m ⊎ SentBefore rows k from to e port m) → SendsBy old e port m ⊎ (SendsBy rows e port m × (from ≤ e) × (e < to))
    more (inl h) = inl h
    more (inr h) = inr ((h.0, h.2, h.3, h.4.0, h.4.3, h.4.4), h.4.1, h.4.2)

    less : (SendsBy old e port m ⊎ (SendsBy rows e port m × (from ≤ e) × (e < to))) → SendsBy old e port m ⊎ SentBefore rows k from to e port m
    less (inl h) = inl h
    less (inr h) = inr (h.0.0, omega (arith, slice_get_within rows h.0.0 h.0.1 h.0.2, all), h.0.1, h.0.2, (h.0.3, h.1, h.2, h.0.4, h.0.5))

-- rows that are made of three runs of pieces: those before, the new ones from first to last, and those before again
pub three_runs : (first last start behind : ℕ) (rows new low both made : List Row) → start ≡ first → behind ≡ last + 1
    → ((e port m : ℕ) → SendsBy low e port m ↔ (SendsBy [] e port m ⊎ (SendsBy rows e port m × (0 ≤ e) × (e < start))))
    → ((e port m : ℕ) → SendsBy both e port m ↔ (SendsBy low e port m ⊎ (SendsBy new e port m × (start ≤ e) × (e < behind))))
    → ((e port m : ℕ) → SendsBy made e port m ↔ (SendsBy both e port m ⊎ (SendsBy rows e port m × (behind ≤ e) × (e < 256))))
    → SendAs (λ e. (first ≤ e) × (e ≤ last)) rows new made
three_runs first last start behind rows new low both made at_first at_last one two three e port m = (taken, kept)
  where
    none : SendsBy [] e port m → ⊥
    none h = cc h.2

    of_low : SendsBy low e port m → SendsBy rows e port m × (e < start)
    of_low h = elim ((one e port m).0 h) [
      | inl x ↦ absurd (none x)
      | inr x ↦ (x.0, x.2)
    ]

    of_both : SendsBy both e port m → (SendsBy rows e port m × (e < start)) ⊎ (SendsBy new e port m × (start ≤ e) × (e < behind))
    of_both h = elim ((two e port m).0 h) [
      | inl x ↦ inl (of_low x)
      | inr x ↦ inr x
    ]

    taken : (first ≤ e) × (e ≤ last) → SendsBy made e port m ↔ SendsBy new e port m
    taken within = (there, λ h. (three e port m).1 (inl ((two e port m).1 (inr (h, omega (arith, within.0, at_first), omega (arith, within.1, at_last))))))
      where
        there : SendsBy made e port m → SendsBy new e port m
        there h = elim ((three e port m).0 h) [
          | inl x ↦ elim (of_both x) [
            | inl y ↦ absurd (omega (arith, y.1, within.0, at_first))
            | inr y ↦ y.0
          ]
          | inr x ↦ absurd (omega (arith, x.1, within.1, at_last))
        ]

    kept : ¬ ((first ≤ e) × (e ≤ last)) → SendsBy made e port m ↔ SendsBy rows e port m
    kept without = (there, back)
      where
        there : SendsBy made e port m → SendsBy rows e port m
        there h = elim ((three e port m).0 h) [
          | inl x ↦ elim (of_both x) [
            | inl y ↦ y.0
            | inr y ↦ absurd (without (omega (arith, y.1, at_first), omega (arith, y.2, at_last)))
          ]
          | inr x ↦ x.0
        ]

        few : SendsBy rows e port m → e ≤ 255
        few h = h.3.2

        back : SendsBy rows e port m → SendsBy made e port m
        back h = elim (cases_lt e first) [
          | inl lt ↦ (three e port m).1 (inl ((two e port m).1 (inl ((one e port m).1 (inr (h, omega arith, omega (arith, lt, at_first)))))))
          | inr ge ↦ elim (cases_lt last e) [
            | inl lt ↦ (three e port m).1 (inr (h, omega (arith, lt, at_last), omega (arith, few h)))
            | inr le ↦ absurd (without (omega (arith, ge), omega (arith, le)))
          ]
        ]

-- the first k rows send e to no other node than the next one, and to it, if the flag says so
pub record IsSentBefore (rows : List Row) (k e : ℕ) (next : Option ℕ) (is_sent : Bool) : Type 0 where
  pub same : (r : ℕ) (row : Row) → r < k → slice_get rows r ≡ Some row → Covers row e → next ≡ Some row.next
  pub some : is_sent ≡ true → (r : ℕ) × (row : Row) × (slice_get rows r ≡ Some row) × Covers row e
  pub none : is_sent ≡ false → (r : ℕ) (row : Row) → r < k → slice_get rows r ≡ Some row → ¬ Covers row e

pub none_yet : (rows : List Row) (e : ℕ) (next : Option ℕ) → IsSentBefore rows 0 e next false
none_yet rows e next = record {
  same = λ r row lt is covers. absurd (omega (arith, lt));
  some = λ is. absurd (false≢true is);
  none = λ is r row lt there covers. omega (arith, lt);
}

-- one row more, which sends e to the next node
pub one_sends : (rows : List Row) (k e : ℕ) (next : Option ℕ) (flag : Bool) (row : Row) → slice_get rows k ≡ Some row → Covers row e → next ≡ Some row.next
    → IsSentBefore rows k e next flag → IsSentBefore rows (k + 1) e next true
one_sends rows k e next flag row here covers is before = record {
  same = same;
  some = λ _. (k, row, here, covers);
  none = λ is r one lt there covers. false≢true (sym is);
}
  where
    same : (r : ℕ) (one : Row) → r < k + 1 → slice_get rows r ≡ Some one → Covers one e → next ≡ Some one.next
    same r one lt there c = elim (cases_lt r k) [
      | inl less ↦ before.same r one less there c
      | inr ge ↦ (
          let at : r ≡ k = omega (arith, lt, ge) in
          let equal : one ≡ row = same_element rows k one row (subst (λ x. slice_get rows x ≡ Some one) at there) here in
          is ∙ ap (λ x. Some x.next) (sym equal))
    ]

-- one row more, which doesn't cover e
pub one_passes : (rows : List Row) (k e : ℕ) (next : Option ℕ) (flag : Bool) (row : Row) → slice_get rows k ≡ Some row → ¬ Covers row e
    → IsSentBefore rows k e next flag → IsSentBefore rows (k + 1) e next flag
one_passes rows k e next flag row here passes before = record {
  same = λ r one lt there c. elim (cases_lt r k) [
    | inl less ↦ before.same r one less there c
    | inr ge ↦ absurd (not_it r one lt ge there c)
  ];
  some = before.some;
  none = λ is r one lt there c. elim (cases_lt r k) [
    | inl less ↦ before.none is r one less there c
    | inr ge ↦ not_it r one lt ge there c
  ];
}
  where
    not_it : (r : ℕ) (one : Row) → r < k + 1 → k ≤ r → slice_get rows r ≡ Some one → ¬ Covers one e
    not_it r one lt ge there c =
        let at : r ≡ k = omega (arith, lt, ge) in
        let equal : one ≡ row = same_element rows k one row (subst (λ x. slice_get rows x ≡ Some one) at there) here in
        passes (subst (λ x. Covers x e) equal c)

pub sent_to_it : (rows : List Row) (k e : ℕ) (next : Option ℕ) (flag : Bool) → length rows ≤ k → flag ≡ true → IsSentBefore rows k e next flag
    → (m : ℕ) → NamesFor rows e m ↔ (next ≡ Some m)
sent_to_it rows k e next flag all is sent m = (there, back)
  where
    there : NamesFor rows e m → next ≡ Some m
    there h = sent.same h.0 h.1 (omega (arith, slice_get_within rows h.0 h.1 h.2, all)) h.2 h.3 ∙ ap Some h.4

    back : next ≡ Some m → NamesFor rows e m
    back some =
        let found = sent.some is in
        let lt : found.0 < k = omega (arith, slice_get_within rows found.0 found.1 found.2, all) in
        let to = sent.same found.0 found.1 lt found.2 found.3 in
        (found.0, found.1, found.2, found.3, same_Some found.1.next m (sym to ∙ some))

not_some : {A : Type 0} (o : Option A) (x : A) → o ≡ None → o ≡ Some x → ⊥
not_some o x none some = cc (none, some)

pub sent_nowhere : (rows : List Row) (k e : ℕ) (next : Option ℕ) (flag : Bool) → length rows ≤ k → flag ≡ false → next ≡ None → IsSentBefore rows k e next flag
    → (m : ℕ) → NamesFor rows e m ↔ (next ≡ Some m)
sent_nowhere rows k e next flag all is nowhere sent m = (there, λ some. absurd (not_some next m nowhere some))
  where
    there : NamesFor rows e m → next ≡ Some m
    there h = absurd (sent.none is h.0 h.1 (omega (arith, slice_get_within rows h.0 h.1 h.2, all)) h.2 h.3)
