-- Which lines say wishes.
use Rattle.std.{proofs.Common.{◌≡◌, ◌≢◌, ℕ, zero, suc, ◌≤◌, ◌+◌, ◌<◌, List, [], ◌∷◌, ◌++◌, length, get_or, map, take, refl, sym, ap, ◌∙◌, subst, arith, Option, Some, None, IfSome, IfNone, inl, inr, Bor}, specs.Prelude.{slice_get, option_map}, proofs.lemmas.Bool.{cases_lt}, proofs.lemmas.List.{append_cancel_left, take_more}, proofs.lemmas.Option.{same_Some, slice_get-map, slice_get-get_or, slice_get_past, slice_get_within, get_or_from_slice_get}}
use Rattle.plan_values.specs.declared.plan.Plan.{Plan}
use Rattle.net_reached.{specs.declared.wish.Wish.{Wish}, specs.declared.wish.Wish.TheVariants.{Nothing, Reaches, ReachesAll, Avoids}, specs.Reading.{IsNamed, IsRemark, SaysBehind, SaysOf, Says, SaysNothing, SayEach, from_of}}

-- ---- names behind a front

pub named_behind : (plan : Plan) (text front name : List ℕ) (found : Option ℕ) → text ≡ front ++ name → IfSome found (λ n. IsNamed plan n name)
    → IfSome found (λ n. (other : List ℕ) × IsNamed plan n other × (text ≡ front ++ other))
named_behind plan text front name None is named = tt
named_behind plan text front name (Some n) is named = (name, named, is)

pub none_behind : (plan : Plan) (text front name : List ℕ) (found : Option ℕ) → text ≡ front ++ name → IfNone found ((n : ℕ) → ¬ IsNamed plan n name)
    → IfNone found ((n : ℕ) (other : List ℕ) → IsNamed plan n other → text ≢ front ++ other)
none_behind plan text front name (Some n) is none = tt
none_behind plan text front name None is none = λ n other named same.
    none n (subst (λ k. IsNamed plan n k) (append_cancel_left front other name (sym same ∙ is)) named)

-- ---- wishes behind a name

says_of : (plan : Plan) (line : List ℕ) (from : ℕ) (wish : Wish) → from_of wish ≡ Some from → Says plan line wish → SaysOf plan line from wish
says_of plan line from (Nothing text) of said = absurd (cc of)
says_of plan line from (Reaches a b) of said = subst (λ k. SaysOf plan line k (Reaches a b)) (same_Some a from of) said
says_of plan line from (ReachesAll a) of said = subst (λ k. SaysOf plan line k (ReachesAll a)) (same_Some a from of) said
says_of plan line from (Avoids a b) of said = subst (λ k. SaysOf plan line k (Avoids a b)) (same_Some a from of) said

pub not_said_of : (plan : Plan) (line name rest : List ℕ) (from : ℕ) (found : Option Wish) → IsNamed plan from name → line ≡ name ++ rest
    → IfNone found ((wish : Wish) → ¬ SaysBehind plan rest wish) → IfNone found ((wish : Wish) → from_of wish ≡ Some from → ¬ Says plan line wish)
not_said_of plan line name rest from (Some wish) named is none = tt
not_said_of plan line name rest from None named is none = λ wish of said.
    let (other, left, named', is', behind) = says_of plan line from wish of said in
    let same : other ≡ name = same_Some other name (sym named' ∙ named) in
    let left_same : left ≡ rest = append_cancel_left name left rest (subst (λ k. k ++ left ≡ name ++ rest) same (sym is' ∙ is)) in
    none wish (subst (λ k. SaysBehind plan k wish) left_same behind)

-- ---- wishes of a line

named_within : (plan : Plan) (n : ℕ) (name : List ℕ) → IsNamed plan n name → n < length plan.nodes.items
named_within plan n name named = elim (cases_lt n (length plan.nodes.items)) [ inl lt ↦ lt | inr past ↦ absurd (none past named) ]
  where
    none : length plan.nodes.items ≤ n → IsNamed plan n name → ⊥
    none past = rw (slice_get_past plan.nodes.items n past) (λ is. cc)

pub says_nothing : (plan : Plan) (line : List ℕ) (count : ℕ) → ¬ IsRemark line → length plan.nodes.items ≤ count
    → ((m : ℕ) → m < count → (wish : Wish) → from_of wish ≡ Some m → ¬ Says plan line wish) → SaysNothing plan line
says_nothing plan line count none end below (Nothing text) said = none said.1
says_nothing plan line count none end below (Reaches a b) said = let lt = named_within plan a said.0 said.2 in below a (omega (arith, lt, end)) (Reaches a b) refl said
says_nothing plan line count none end below (ReachesAll a) said = let lt = named_within plan a said.0 said.2 in below a (omega (arith, lt, end)) (ReachesAll a) refl said
says_nothing plan line count none end below (Avoids a b) said = let lt = named_within plan a said.0 said.2 in below a (omega (arith, lt, end)) (Avoids a b) refl said

-- ---- wishes of a text

pub say_more : (plan : Plan) (lines : List (List ℕ)) (wishes : List Wish) (line : List ℕ) (wish : Wish) → SayEach plan lines wishes → Says plan line wish
    → SayEach plan (lines ++ line ∷ []) (wishes ++ wish ∷ [])
say_more plan [] [] line wish each said = (said, tt)
say_more plan [] (w ∷ ws) line wish each said = absurd each
say_more plan (l ∷ ls) [] line wish each said = absurd each
say_more plan (l ∷ ls) (w ∷ ws) line wish each said = (each.0, say_more plan ls ws line wish each.1 said)

pub line_at : (found : List (Bor (List ℕ))) (lines : List (List ℕ)) (k : ℕ) (d : Bor (List ℕ)) → map (λ x. x.now) found ≡ lines → k < length found
    → slice_get lines k ≡ Some (get_or found k d).now
line_at found lines k d same within =
    sym (ap (λ ls. slice_get ls k) same) ∙ (slice_get-map (λ x. x.now) found k ∙ ap (λ o. option_map (λ x. x.now) o) (slice_get-get_or found k d within))

pub said_before : (plan : Plan) (lines : List (List ℕ)) (k j : ℕ) (wishes : List Wish) (line : List ℕ) → SayEach plan (take k lines) wishes → j < k
    → slice_get lines j ≡ Some line → (wish : Wish) × Says plan line wish
said_before plan [] k j wishes line each less is = absurd (cc is)
said_before plan (l ∷ ls) zero j wishes line each less is = absurd (omega (arith, less))
said_before plan (l ∷ ls) (suc k) j [] line each less is = absurd each
said_before plan (l ∷ ls) (suc k) zero (w ∷ ws) line each less is = (w, subst (λ x. Says plan x w) (same_Some l line is) each.0)
said_before plan (l ∷ ls) (suc k) (suc j) (w ∷ ws) line each less is = said_before plan ls k j ws line each.1 (omega (arith, less)) is

pub take_one_more : (plan : Plan) (lines : List (List ℕ)) (k : ℕ) (wishes new : List Wish) (line : List ℕ) (wish : Wish) → SayEach plan (take k lines) wishes
    → slice_get lines k ≡ Some line → Says plan line wish → new ≡ wishes ++ wish ∷ [] → SayEach plan (take (k + 1) lines) new
take_one_more plan lines k wishes new line wish each is said added =
    let within = slice_get_within lines k line is in
    let longer : take (k + 1) lines ≡ take k lines ++ line ∷ [] =
    take_more lines k line within ∙ ap (λ x. take k lines ++ x ∷ []) (get_or_from_slice_get lines k line line is) in
    subst (λ ws. SayEach plan (take (k + 1) lines) ws) (sym added) (subst (λ ls. SayEach plan ls (wishes ++ wish ∷ [])) (sym longer) (say_more plan (take k lines) wishes line wish each said))
