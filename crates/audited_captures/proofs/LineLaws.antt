-- Lines that tell of a comparison.
use Rattle.std.{proofs.Common.{◌≡◌, ℕ, suc, ◌||◌, Bool, true, false, List, [], ◌∷◌, ◌++◌, length, refl, ap, sym, ◌∙◌, inl, inr, arith, ◌⊎◌}, specs.Prelude.{if◌then◌else◌}, specs.List.{filter}, proofs.lemmas.Bool.{cases_Bool}, proofs.lemmas.List.Sums.{length-filter, count_by-le-length}}
use Rattle.audited_captures.{specs.Counting.{difference_count, has_compared}, specs.Identities.{told_lines}, specs.Lines.{LineValue, note, silence, differences_or, differs, compares, is_comparison, is_difference}, specs.declared.lines.Finding.{Finding}, specs.declared.lines.Finding.TheVariants.{Silent, AsPlanned, Differs}, proofs.Booleans.{either, or_right}, proofs.MatchLaws.{AllDiffer, count_append, none_of, zero_left, zero_right}, specs.RecordLines.{AddsDifferences, IsRemarked}}

-- ---- lines that compare

pub compares_append : (a b : List LineValue) → has_compared (a ++ b) ≡ (has_compared a || has_compared b)
compares_append [] b = refl
compares_append (l ∷ ls) b = by (compares l) (compares_append ls b)
  where
    by : (c : Bool) → has_compared (ls ++ b) ≡ (has_compared ls || has_compared b) → (c || has_compared (ls ++ b)) ≡ ((c || has_compared ls) || has_compared b)
    by true is = refl
    by false is = is

pub compares_left : (a b : List LineValue) → has_compared a ≡ true → has_compared (a ++ b) ≡ true
compares_left a b is = compares_append a b ∙ ap (λ c. c || has_compared b) is

pub compares_right : (a b : List LineValue) → has_compared b ≡ true → has_compared (a ++ b) ≡ true
compares_right a b is = compares_append a b ∙ or_right (has_compared a) (has_compared b) is

pub compares_either : (a b : List LineValue) → has_compared (a ++ b) ≡ true → (has_compared a ≡ true) ⊎ (has_compared b ≡ true)
compares_either a b is = either (has_compared a) (has_compared b) (sym (compares_append a b) ∙ is)

pub none_compared : has_compared [] ≡ true → ⊥
none_compared is = cc

-- what differs was compared
differs_compares : (l : LineValue) → differs l ≡ true → compares l ≡ true
differs_compares l is = by l.finding is
  where
    by : (f : Finding) → is_difference f ≡ true → is_comparison f ≡ true
    by Silent is = absurd (cc)
    by AsPlanned is = refl
    by Differs is = refl

few : (ls : List LineValue) → difference_count ls ≡ suc (length ls) → ⊥
few ls is = omega (arith, is, length-filter differs ls, count_by-le-length differs ls)

first_differs : (l : LineValue) (ls : List LineValue) → AllDiffer (l ∷ ls) → differs l ≡ true
first_differs l ls all = elim (cases_Bool (differs l)) [
  | inl is ↦ is
  | inr same ↦ absurd (few ls (sym (ap (λ (b : Bool). length (if b then l ∷ filter differs ls else filter differs ls)) same) ∙ all))
]

-- lines that all differ, and there are some
some_compared : (l : LineValue) (ls : List LineValue) → AllDiffer (l ∷ ls) → has_compared (l ∷ ls) ≡ true
some_compared l ls all = ap (λ c. c || has_compared ls) (differs_compares l (first_differs l ls all))

pub or_compared : (otherwise : LineValue) (ls : List LineValue) → compares otherwise ≡ true → AllDiffer ls → has_compared (differences_or otherwise ls) ≡ true
or_compared otherwise [] is all = ap (λ c. c || false) is
or_compared otherwise (l ∷ ls) is all = some_compared l ls all

pub told_some : (told : Bool) (otherwise : LineValue) (ls : List LineValue) → has_compared (told_lines told otherwise ls) ≡ true → told ≡ true
told_some true otherwise ls is = refl
told_some false otherwise ls is = absurd (none_compared is)

pub told_compared : (told : Bool) (text : List ℕ) (ls : List LineValue) → told ≡ true → AllDiffer ls → has_compared (told_lines told (note text) ls) ≡ true
told_compared true text ls is all = or_compared (note text) ls refl all
told_compared false text ls is all = absurd (cc)

-- lines that compare nothing unless some differs
abbrev pub Quiet : List LineValue → Type 0
Quiet ls = difference_count ls ≡ 0 → has_compared ls ≡ true → ⊥

pub quiet_both : (a b : List LineValue) → Quiet a → Quiet b → Quiet (a ++ b)
quiet_both a b quiet_a quiet_b zero is = elim (compares_either a b is) [
  | inl here ↦ quiet_a (zero_left a b zero) here
  | inr there ↦ quiet_b (zero_right a b zero) there
]

pub all_quiet : (ls : List LineValue) → AllDiffer ls → Quiet ls
all_quiet ls all zero is = none_compared (sym (ap has_compared (none_of ls all zero)) ∙ is)

-- ---- lines of records

remark_same : (all lines : List LineValue) → IsRemarked all lines → (difference_count lines ≡ difference_count all) × (has_compared all ≡ true → has_compared lines ≡ true)
remark_same all lines (inl same) = (ap difference_count same, λ is. ap has_compared same ∙ is)
remark_same all lines (inr (text, is)) = (
  omega (arith, ap difference_count is, count_append all (silence text ∷ []), silent_zero text),
  λ compared. ap has_compared is ∙ compares_left all (silence text ∷ []) compared,
)
  where
    silent_zero : (text : List ℕ) → difference_count (silence text ∷ []) ≡ 0
    silent_zero text = refl

or_count : (otherwise : LineValue) (ls : List LineValue) → differs otherwise ≡ false → difference_count (differences_or otherwise ls) ≡ difference_count ls
or_count otherwise [] is = ap (λ (b : Bool). length (if b then otherwise ∷ [] else [])) is
or_count otherwise (l ∷ ls) is = refl

-- so many differences, or a line that says that there are none, and behind that a remark
pub recorded : (count : ℕ) (text : List ℕ) (lines all told : List LineValue) → AddsDifferences [] lines count → all ≡ differences_or (note text) lines → IsRemarked all told
    → (difference_count told ≡ count) × (has_compared told ≡ true)
recorded count text lines all told (long, counted) is remarked =
    let (same, keeps) = remark_same all told remarked in
    let whole : AllDiffer lines = omega (arith, long, counted) in (
      same ∙ ap difference_count is ∙ or_count (note text) lines refl ∙ omega (arith, counted),
      keeps (ap has_compared is ∙ or_compared (note text) lines refl whole),
    )
