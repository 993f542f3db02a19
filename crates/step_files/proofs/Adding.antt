-- Files, written one after the other.
use Rattle.std.{proofs.Common.{◌≡◌, ◌+◌, ◌<◌, ℕ, suc, List, [], ◌∷◌, ◌++◌, Option, Some, None, length, take, get_or, map, ap, sym, ◌∙◌, subst, arith}, proofs.Math.Seq.{take-suc}, proofs.lemmas.List.{append-nil, append_assoc, length-map, map-append, take-map}}
use Rattle.step_files.{specs.declared.texts.TextFile.{TextFile}, specs.StepFiles.{FileValue, file_value}, specs.Writes.{AddsFiles, FilesAccount, WritesAll, WritesFirst, WritesNone}}

-- files, and then others
adds_more : (first then last : Option (List FileValue)) (xs ys : List FileValue) → AddsFiles first then xs → AddsFiles then last ys → AddsFiles first last (xs ++ ys)
adds_more None then last xs ys one two = tt
adds_more (Some ps) None last xs ys one two = absurd one
adds_more (Some ps) (Some qs) None xs ys one two = absurd two
adds_more (Some ps) (Some qs) (Some rs) xs ys one two = two ∙ (ap (λ zs. zs ++ ys) one ∙ append_assoc ps xs ys)

-- nothing more
adds_none : (first then last : Option (List FileValue)) (xs : List FileValue) → AddsFiles first then xs → AddsFiles then last [] → AddsFiles first last xs
adds_none first then last xs one two = subst (AddsFiles first last) (append-nil xs) (adds_more first then last xs [] one two)

-- one file more
pub wrote_more : (a b c : FilesAccount) (texts : List TextFile) (k : ℕ) (text : TextFile) → k < length texts → text ≡ get_or texts k text
    → WritesAll (record { before = a; after = b }) (map file_value (take k texts)) → WritesAll (record { before = b; after = c }) (file_value text ∷ [])
    → WritesAll (record { before = a; after = c }) (map file_value (take (k + 1) texts))
wrote_more a b c texts k text within is all one =
    let next : k + 1 ≡ suc k = omega arith in
    let taken : take (k + 1) texts ≡ take k texts ++ (text ∷ []) = ap (λ n. take n texts) next ∙ (take-suc texts k text within ∙ ap (λ t. take k texts ++ (t ∷ [])) (sym is)) in
    let whole : map file_value (take (k + 1) texts) ≡ map file_value (take k texts) ++ (file_value text ∷ []) = ap (map file_value) taken ∙ map-append file_value (take k texts) (text ∷ []) in
    (subst (AddsFiles a.files c.files) (sym whole) (adds_more a.files b.files c.files (map file_value (take k texts)) (file_value text ∷ []) all.0 one.0), one.1 ∙ all.1)

-- a file that could not be written
pub breaks_at : (a b c : FilesAccount) (texts : List TextFile) (k : ℕ) → k < length texts
    → WritesAll (record { before = a; after = b }) (map file_value (take k texts)) → WritesNone (record { before = b; after = c })
    → WritesFirst (record { before = a; after = c }) (map file_value texts)
breaks_at a b c texts k within all none = record {
  count = k;
  fewer = subst (λ n. k < n) (sym (length-map texts file_value)) within;
  first = subst (AddsFiles a.files c.files) (sym (take-map file_value k texts)) (adds_none a.files b.files c.files (map file_value (take k texts)) all.0 none.0);
  fails = none.1 ∙ ap (λ n. n + 1) all.1;
}
