-- Lines and columns, a byte after the other.
use Rattle.std.{proofs.Common.{◌≡◌, ℕ, ◌+◌, ◌<◌, List, [], ◌∷◌, ◌++◌, Bool, true, false, cond, ◌||◌, if◌then◌else◌, take, length, get_or, count_by, refl, sym, ap, ◌∙◌, arith}, specs.List.{list_any}, proofs.lemmas.List.Folds.{list_any-append}, proofs.lemmas.List.Sums.{count_by_more_yes, count_by_more_no, sum_by_push}, proofs.lemmas.List.{take_more}}
use Rattle.net_pointers.{specs.Positions.{is_line_feed, begins_character, last_line}, specs.Spots.{IsAt}, specs.declared.position.Position.{Position}}

or_end : (a b : Bool) → b ≡ true → (a || b) ≡ true
or_end true b e = refl
or_end false b e = e

or_start : (a b : Bool) → b ≡ false → (a || b) ≡ a
or_start true b e = refl
or_start false b e = e

one_any : (b : ℕ) (t : Bool) → is_line_feed b ≡ t → list_any is_line_feed (b ∷ []) ≡ t
one_any b true e = rw e refl
one_any b false e = rw e refl

any_feed : (b : ℕ) (xs : List ℕ) → is_line_feed b ≡ true → list_any is_line_feed (xs ++ b ∷ []) ≡ true
any_feed b xs e = list_any-append is_line_feed xs (b ∷ []) ∙ or_end (list_any is_line_feed xs) _ (one_any b true e)

any_other : (b : ℕ) (xs : List ℕ) → is_line_feed b ≡ false → list_any is_line_feed (xs ++ b ∷ []) ≡ list_any is_line_feed xs
any_other b xs e = list_any-append is_line_feed xs (b ∷ []) ∙ or_start (list_any is_line_feed xs) _ (one_any b false e)

-- the last line after a line feed
pub after_feed : (b : ℕ) (xs : List ℕ) → is_line_feed b ≡ true → last_line (xs ++ b ∷ []) ≡ []
after_feed b [] e = rw e refl
after_feed b (x ∷ xs) e = rw (any_feed b (x ∷ xs) e) (after_feed b xs e)

apart : {A B : Type 0} (f : A → B) (t : Bool) (a b : A) → (if t then f a else f b) ≡ f (if t then a else b)
apart f true a b = refl
apart f false a b = refl

-- and after another byte
pub after_other : (b : ℕ) (xs : List ℕ) → is_line_feed b ≡ false → last_line (xs ++ b ∷ []) ≡ last_line xs ++ b ∷ []
after_other b [] e = rw e refl
after_other b (x ∷ xs) e = rw (any_other b (x ∷ xs) e) (rw (after_other b xs e) (apart (λ ys. ys ++ b ∷ []) (list_any is_line_feed (x ∷ xs)) (last_line xs) (x ∷ xs)))

-- so many of a list with one more item
count_end : (p : ℕ → Bool) (b : ℕ) (xs : List ℕ) → count_by p (xs ++ b ∷ []) ≡ count_by p xs + cond (p b) 1 0
count_end p b xs = sum_by_push (λ x. cond (p x) 1 0) xs b

-- Where the byte after one stands.
pub record Moves (b : ℕ) (p q : Position) : Type 0 where
  pub feed : is_line_feed b ≡ true → (q.line ≡ p.line + 1) × (q.column ≡ 1)
  pub begun : is_line_feed b ≡ false → begins_character b ≡ true → (q.line ≡ p.line) × (q.column ≡ p.column + 1)
  pub within : is_line_feed b ≡ false → begins_character b ≡ false → (q.line ≡ p.line) × (q.column ≡ p.column)

decide : {P : Type 0} (b : Bool) → (b ≡ true → P) → (b ≡ false → P) → P
decide true f g = f refl
decide false f g = g refl

pub moved : (text : List ℕ) (i : ℕ) (p q : Position) → i < length text → IsAt text i p → Moves (get_or text i 0) p q → IsAt text (i + 1) q
moved text i p q below at m =
    decide (is_line_feed b)
    (λ feed. (
      (m.feed feed).0 ∙ ap (λ n. n + 1) at.0 ∙ ap (λ n. n + 1) (sym (count_by_more_yes is_line_feed text i 0 below feed)),
      (m.feed feed).1 ∙ ap (λ xs. count_by begins_character xs + 1) (sym (ap last_line (take_more text i 0 below) ∙ after_feed b before feed)),
    ))
    (λ other. decide (begins_character b)
    (λ begun. (
      (m.begun other begun).0 ∙ same_line other,
      (m.begun other begun).1 ∙ ap (λ n. n + 1) at.1 ∙ columns other (count_by begins_character (last_line before) + 1) (one_more begun),
    ))
    (λ within. (
      (m.within other within).0 ∙ same_line other,
      (m.within other within).1 ∙ at.1 ∙ columns other (count_by begins_character (last_line before)) (none_more within),
    )))
  where
    b : ℕ
    b = get_or text i 0

    before : List ℕ
    before = take i text

    same_line : is_line_feed b ≡ false → p.line ≡ count_by is_line_feed (take (i + 1) text) + 1
    same_line other = at.0 ∙ ap (λ n. n + 1) (sym (count_by_more_no is_line_feed text i 0 below other))

    one_more : begins_character b ≡ true → count_by begins_character (last_line before ++ b ∷ []) ≡ count_by begins_character (last_line before) + 1
    one_more e =
        let all = count_end begins_character b (last_line before) in
        let one : cond {A = ℕ} (begins_character b) 1 0 ≡ cond {A = ℕ} true 1 0 = ap (λ t. cond {A = ℕ} t 1 0) e in
        omega (arith, all, one)

    none_more : begins_character b ≡ false → count_by begins_character (last_line before ++ b ∷ []) ≡ count_by begins_character (last_line before)
    none_more e =
        let all = count_end begins_character b (last_line before) in
        let none : cond {A = ℕ} (begins_character b) 1 0 ≡ cond {A = ℕ} false 1 0 = ap (λ t. cond {A = ℕ} t 1 0) e in
        omega (arith, all, none)

    columns : is_line_feed b ≡ false → (n : ℕ) → count_by begins_character (last_line before ++ b ∷ []) ≡ n → n + 1 ≡ count_by begins_character (last_line (take (i + 1) text)) + 1
    columns other n e = ap (λ m. m + 1) (sym (ap (count_by begins_character) (ap last_line (take_more text i 0 below) ∙ after_other b before other) ∙ e))
