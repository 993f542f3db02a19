-- Writing fields one after the other.
use Rattle.std.{proofs.Common.{◌≡◌, ℕ, suc, ◌+◌, ◌-◌, ◌<◌, ◌≤◌, List, [], ◌∷◌, ◌++◌, length, take, drop, get_or, map, sym, ap, ◌∙◌, arith, length-append}, proofs.lemmas.List.{append-nil, take_at, drop_at, drop-drop, length-drop, map-append, take_more, take-append-drop, take_all}, proofs.Math.Seq.{drop-length, drop-cons}}
use borrow.Rule.Slice.PartMut.{put_mid, mid_of, post_of}
use Rattle.pdr_record.{specs.Fields.{Field, field_bytes, followed, bytes_of}, specs.FieldLaws.{followed-bytes, followed-append}}

-- how many bytes the fields have, one of them taken by itself
pub length-parts : (fs gs : List Field) (f : Field) → length (bytes_of (fs ++ f ∷ gs)) ≡ length (bytes_of fs) + length (field_bytes f) + length (bytes_of gs)
length-parts fs gs f =
    let e : bytes_of (fs ++ f ∷ gs) ≡ bytes_of fs ++ (field_bytes f ++ bytes_of gs) = followed-append fs (f ∷ gs) [] ∙ followed-bytes fs (field_bytes f ++ bytes_of gs) in
    omega (arith, ap length e, length-append (bytes_of fs) (field_bytes f ++ bytes_of gs), length-append (field_bytes f) (bytes_of gs))

module _ {X : Type 0} (field : X → Field) where
  -- the fields up to a place, and the one at it
  pub one_more : (xs : List X) (i : ℕ) (d : X) → i < length xs → map field (take (i + 1) xs) ≡ map field (take i xs) ++ field (get_or xs i d) ∷ []
  one_more xs i d h = ap (map field) (take_more xs i d h) ∙ map-append field (take i xs) (get_or xs i d ∷ [])

  pub room : (xs : List X) (i : ℕ) (d : X) → i < length xs
      → length (bytes_of (map field (take i xs))) + length (field_bytes (field (get_or xs i d))) ≤ length (bytes_of (map field xs))
  room xs i d h =
      let split : xs ≡ take i xs ++ (get_or xs i d ∷ drop (suc i) xs) = sym (take-append-drop i xs) ∙ ap (λ (ys : List X). take i xs ++ ys) (drop-cons xs i d h) in
      let e : map field xs ≡ map field (take i xs) ++ (field (get_or xs i d) ∷ map field (drop (suc i) xs)) = ap (map field) split ∙ map-append field (take i xs) (get_or xs i d ∷ drop (suc i) xs) in
      omega (arith, ap (λ (fs : List Field). length (bytes_of fs)) e, length-parts (map field (take i xs)) (map field (drop (suc i) xs)) (field (get_or xs i d)))

-- what is written after the fields so far
pub one_written : (fs : List Field) (f : Field) (at k n : ℕ) (old out new : List ℕ) → at ≡ length (bytes_of fs) → out ≡ followed fs (drop at old) → length out ≡ length old → at ≤ length old
    → k ≡ length out - at → n ≡ length (field_bytes f) → new ≡ field_bytes f ++ drop n (mid_of at k out) → put_mid at k out new ≡ followed (fs ++ f ∷ []) (drop (at + n) old)
one_written fs f at k n old out new is_at is_out same within is_k is_n is_new =
    let whole : out ≡ bytes_of fs ++ drop at old = is_out ∙ followed-bytes fs (drop at old) in
    let front : take at out ≡ bytes_of fs = ap (take at) whole ∙ take_at (bytes_of fs) (drop at old) at (sym is_at) in
    let rest : drop at out ≡ drop at old = ap (drop at) whole ∙ drop_at (bytes_of fs) (drop at old) at (sym is_at) in
    let all : k ≡ length (drop at out) = omega (arith, length-drop at out) in
    let middle : mid_of at k out ≡ drop at old = ap (λ (m : ℕ). take m (drop at out)) all ∙ take_all (length (drop at out)) (drop at out) (omega arith) ∙ rest in
    let nothing : post_of at k out ≡ [] = ap (λ (m : ℕ). drop m (drop at out)) all ∙ drop-length (drop at out) in
    let written : new ≡ field_bytes f ++ drop (at + n) old = is_new ∙ ap (λ (bs : List ℕ). field_bytes f ++ drop n bs) middle ∙ ap (λ (bs : List ℕ). field_bytes f ++ bs) (drop-drop n at old) in
    let goal : followed (fs ++ f ∷ []) (drop (at + n) old) ≡ bytes_of fs ++ (field_bytes f ++ drop (at + n) old) =
    followed-append fs (f ∷ []) (drop (at + n) old) ∙ followed-bytes fs (field_bytes f ++ drop (at + n) old) in
    ap (λ (bs : List ℕ). bs ++ (new ++ post_of at k out)) front
    ∙ ap (λ (bs : List ℕ). bytes_of fs ++ (new ++ bs)) nothing
    ∙ ap (λ (bs : List ℕ). bytes_of fs ++ bs) (append-nil new ∙ written)
    ∙ sym goal
