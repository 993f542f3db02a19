-- What stands twice, as it is told: keys by index, and where the lines say that both stand.
use Rattle.std.{proofs.Common.{◌≡◌, ◌≤◌, ◌<◌, ◌+◌, ◌++◌, ℕ, zero, suc, List, [], ◌∷◌, length, get_or, append-nil, Option, Some, None, Result, Ok, Err, Bor, refl, sym, ◌∙◌, ap, subst, arith}, specs.Prelude.{IfOk}}
use Rattle.json.{specs.Json.{Json}, specs.Value.{members_view}}
use Rattle.net_plan.{specs.Trees.{Tree}, specs.Finding.{Step}}
use Rattle.net_pointers.{specs.Doubles.{HasDoubledKey, part_at}, specs.Offsets.{LeadsTo, LeadsToKey}, specs.declared.doubled.DoubledKey.{DoubledKey}, specs.declared.ranges.Overlap.{Overlap}}
use Rattle.reading_texts.{specs.ReadingLines.{Begins, place_text, pointer_text}, specs.TroubleLines.{keys_in, two_lines, IsDoubledKeyTold, IsOverlapTold, IsValueTold, key_at, object_text, path_text, range_pointer}}

-- ---- by index

pub key_there : (ms : List (Bor (List ℕ) × Tree)) (i : ℕ) (m : Bor (List ℕ) × Tree) → i < length ms → m ≡ get_or ms i m → m.0.now ≡ key_at i (members_view ms)
key_there [] i m within is = absurd (omega arith)
key_there (n ∷ ms) zero m within is = ap (λ (x : Bor (List ℕ) × Tree). x.0.now) is
key_there (n ∷ ms) (suc i) m within is = key_there ms i m (omega arith) is

pub no_key : (ms : List (Bor (List ℕ) × Tree)) (i : ℕ) → length ms ≤ i → [] ≡ key_at i (members_view ms)
no_key [] i past = refl
no_key (n ∷ ms) zero past = absurd (omega arith)
no_key (n ∷ ms) (suc i) past = no_key ms i (omega arith)

-- ---- a path that has ended

no_path : (ps : List ℕ) → path_text ps None ≡ []
no_path [] = refl
no_path (p ∷ ps) = refl

pub path_done : (text whole : List ℕ) (ps : List ℕ) (o : Option Json) → o ≡ None → text ++ path_text ps o ≡ whole → text ≡ whole
path_done text whole ps o none is =
    sym (append-nil text) ∙ (ap (λ z. text ++ z) (sym (no_path ps)) ∙ (ap (λ (z : Option Json). text ++ path_text ps z) (sym none) ∙ is))

-- ---- the lines of a key

pub key_told : {A E : Type 0} (bytes : A → List ℕ) (text : List ℕ) (j : Json) (k : DoubledKey) (whole one other : List ℕ) (at again : ℕ) (r : Result A E)
    → whole ≡ object_text k.path.items j → Begins whole one → Begins whole other → LeadsToKey text k.path.items k.members.first at → LeadsToKey text k.path.items k.members.second again
    → IfOk r (λ t. bytes t ≡ two_lines text (Some at) (Some again) one other) → IfOk r (λ t. IsDoubledKeyTold text j k (bytes t))
key_told bytes text j k whole one other at again (Ok t) the_object first second leads leads_again is =
    (at, again, leads, leads_again, (one, other, subst (λ w. Begins w one) the_object first, subst (λ w. Begins w other) the_object second, is))
key_told bytes text j k whole one other at again (Err e) the_object first second leads leads_again is = tt

-- a doubled key is that of two members of the object
pub members_there : (j : Json) (k : DoubledKey) → HasDoubledKey j k → (k.members.first < length (keys_in (part_at k.path.items j))) × (k.members.second < length (keys_in (part_at k.path.items j)))
members_there j k (ms, at, is) =
    let same = ap (λ o. length (keys_in o)) at in
    (omega (arith, is.ascends, is.within, same), omega (arith, is.within, same))

-- ---- two ranges

pub overlap_told : {A E : Type 0} (bytes : A → List ℕ) (text : List ℕ) (o : Overlap) (here there : List Step) (one other : List ℕ) (at again : ℕ) (r : Result A E)
    → here ≡ range_pointer o.entry o.range → there ≡ range_pointer o.entry (o.range + 1) → LeadsTo text here at → LeadsTo text there again
    → Begins (pointer_text here) one → Begins (pointer_text there) other
    → IfOk r (λ t. bytes t ≡ two_lines text (Some at) (Some again) one other) → IfOk r (λ t. IsOverlapTold text o (bytes t))
overlap_told bytes text o here there one other at again (Ok t) is_one is_other leads leads_again first second is = (
  at,
  again,
  subst (λ p. LeadsTo text p at) is_one leads,
  subst (λ p. LeadsTo text p again) is_other leads_again,
  (one, other, subst (λ p. Begins (pointer_text p) one) is_one first, subst (λ p. Begins (pointer_text p) other) is_other second, is),
)
overlap_told bytes text o here there one other at again (Err e) is_one is_other leads leads_again first second is = tt

-- ---- a value

pub value_told : {A E : Type 0} (bytes : A → List ℕ) (text : List ℕ) (pointer steps : List Step) (place : List ℕ) (offset : ℕ) (r : Result A E)
    → steps ≡ pointer → LeadsTo text steps offset → place ≡ place_text text offset steps
    → IfOk r (λ t. Begins place (bytes t)) → IfOk r (λ t. IsValueTold text pointer (bytes t))
value_told bytes text pointer steps place offset (Ok t) same leads is begins =
    (offset, subst (λ p. LeadsTo text p offset) same leads, subst (λ p. Begins p (bytes t)) (is ∙ ap (place_text text offset) same) begins)
value_told bytes text pointer steps place offset (Err e) same leads is begins = tt

-- ---- places

-- lines that begin with a place
pub begins_there : {A E : Type 0} (bytes : A → List ℕ) (place position words : List ℕ) (r : Result A E) → position ≡ place
    → IfOk r (λ t. bytes t ≡ position ++ words) → IfOk r (λ t. Begins place (bytes t))
begins_there bytes place position words (Ok t) same is = (words, is ∙ ap (λ p. p ++ words) same)
begins_there bytes place position words (Err e) same is = tt
