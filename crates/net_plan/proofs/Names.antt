-- Names in a list, and their indices.
use Rattle.std.{proofs.Common.{◌≡◌, ℕ, suc, ◌+◌, ◌<◌, ◌||◌, drop, drop-cons, unwrap_or, List, [], ◌∷◌, ◌++◌, length, map, take, get_or, Bool, true, false, cond, if◌then◌else◌, Option, Some, None, option_map, is_some, not, refl, sym, ap, ◌∙◌, arith, add-one, true≢false}, proofs.lemmas.List.{take_more, map-append, length-map, length-take-le}, specs.Option.{option_or}, specs.Str.{bytes_eq}, proofs.lemmas.Slice.Eq.{bytes_eq-Decides}}
use Rattle.net_plan.{specs.Json.{is_among}, specs.Names.{index_of, index_among, are_new}}

later : (o : Option ℕ) (b : Bool) (n : ℕ) → option_map suc (option_or o (cond b (Some n) None)) ≡ option_or (option_map suc o) (cond b (Some (suc n)) None)
later None true n = refl
later None false n = refl
later (Some p) b n = refl

pushed : (here : Bool) (all first : Option ℕ) (b : Bool) (n : ℕ) → all ≡ option_or first (cond b (Some n) None)
    → cond here (Some 0) (option_map suc all) ≡ option_or (cond here (Some 0) (option_map suc first)) (cond b (Some (suc n)) None)
pushed true all first b n e = refl
pushed false all first b n e = ap (option_map suc) e ∙ later first b n

-- one more name has its index, if it had none
pub index_of-push : (ns : List (List ℕ)) (n q : List ℕ) → index_of (ns ++ n ∷ []) q ≡ option_or (index_of ns q) (if bytes_eq q n then Some (length ns) else None)
index_of-push [] n q = refl
index_of-push (m ∷ ns) n q = pushed (bytes_eq q m) _ _ (bytes_eq q n) (length ns) (index_of-push ns n q)

pub index_of-take : {T : Type 0} (f : T → List ℕ) (items : List T) (i : ℕ) (x : T) (q : List ℕ) → i < length items → x ≡ get_or items i x
    → index_of (map f (take (i + 1) items)) q ≡ option_or (index_of (map f (take i items)) q) (if bytes_eq q (f x) then Some i else None)
index_of-take f items i x q within is =
    let few : length (map f (take i items)) ≡ i = length-map (take i items) f ∙ length-take-le i items (omega arith) in
    let more : map f (take (i + 1) items) ≡ map f (take i items) ++ f x ∷ [] = ap (map f) (take_more items i x within ∙ ap (λ y. take i items ++ y ∷ []) (sym is)) ∙ map-append f (take i items) (x ∷ []) in
    ap (λ ns. index_of ns q) more ∙ index_of-push (map f (take i items)) (f x) q ∙ ap (λ n. option_or (index_of (map f (take i items)) q) (if bytes_eq q (f x) then Some n else None)) few

swapped : (b : Bool) (a c : List ℕ) → bytes_eq a c ≡ b → bytes_eq c a ≡ b
swapped true a c e = (bytes_eq-Decides c a).1 (sym ((bytes_eq-Decides a c).0 e))
swapped false a c e = by (bytes_eq c a) refl
  where
    by : (d : Bool) → bytes_eq c a ≡ d → d ≡ false
    by false h = refl
    by true h = absurd (true≢false (sym ((bytes_eq-Decides a c).1 (sym ((bytes_eq-Decides c a).0 h))) ∙ e))

-- a name that has no index is given one
pub noted_now : (find after : List ℕ → Option ℕ) (name : List ℕ) (index : ℕ) (q : List ℕ) → is_some (find name) ≡ false → after q ≡ cond (bytes_eq name q) (Some index) (find q)
    → after q ≡ option_or (find q) (if bytes_eq q name then Some index else None)
noted_now find after name index q none e = e ∙ by (bytes_eq name q) (find q) refl refl
  where
    by : (b : Bool) (o : Option ℕ) → bytes_eq name q ≡ b → find q ≡ o → cond b (Some index) o ≡ option_or o (if bytes_eq q name then Some index else None)
    by true None d h = rw (swapped true name q d) refl
    by true (Some p) d h = absurd (true≢false (sym (ap is_some h) ∙ ap (λ s. is_some (find s)) (sym ((bytes_eq-Decides name q).0 d)) ∙ none))
    by false None d h = rw (swapped false name q d) refl
    by false (Some p) d h = refl

-- a name that has an index is given it back
pub noted_again : (find between after : List ℕ → Option ℕ) (name : List ℕ) (index before : ℕ) (q : List ℕ) → Some before ≡ find name → between q ≡ cond (bytes_eq name q) (Some index) (find q)
    → after q ≡ cond (bytes_eq name q) (Some before) (between q) → after q ≡ option_or (find q) (if bytes_eq q name then Some index else None)
noted_again find between after name index before q had e again = again ∙ ap (cond (bytes_eq name q) (Some before)) e ∙ by (bytes_eq name q) (find q) refl refl
  where
    by : (b : Bool) (o : Option ℕ) → bytes_eq name q ≡ b → find q ≡ o → cond b (Some before) (cond b (Some index) o) ≡ option_or o (if bytes_eq q name then Some index else None)
    by true o d h = rw (sym (had ∙ ap find ((bytes_eq-Decides name q).0 d) ∙ h)) refl
    by false None d h = rw (swapped false name q d) refl
    by false (Some p) d h = refl

-- the index that was noted, or the length of the list
pub index_among-of : (ns : List (List ℕ)) (q : List ℕ) → unwrap_or (index_of ns q) (length ns) ≡ index_among ns q
index_among-of [] q = refl
index_among-of (n ∷ ns) q = by (bytes_eq q n) (index_of ns q) (index_among-of ns q)
  where
    by : (b : Bool) (o : Option ℕ) → unwrap_or o (length ns) ≡ index_among ns q → unwrap_or (cond b (Some 0) (option_map suc o)) (suc (length ns)) ≡ cond b 0 (suc (index_among ns q))
    by true o e = refl
    by false None e = ap suc e
    by false (Some p) e = ap suc e

-- a name has an index where it stands in the list
pub index_of-among : (ns : List (List ℕ)) (q : List ℕ) → is_some (index_of ns q) ≡ is_among ns q
index_of-among [] q = refl
index_of-among (n ∷ ns) q = by (bytes_eq q n) (index_of ns q) (index_of-among ns q)
  where
    by : (b : Bool) (o : Option ℕ) → is_some o ≡ is_among ns q → is_some (cond b (Some 0) (option_map suc o)) ≡ (b || is_among ns q)
    by true o e = refl
    by false None e = e
    by false (Some p) e = e

pub was_there : (new there : Bool) → new ≡ not there → new ≡ false → there ≡ true
was_there new true is old = refl
was_there new false is old = absurd (true≢false (sym is ∙ old))

pub was_new : (new there : Bool) → new ≡ not there → new ≡ true → there ≡ false
was_new new false is fresh = refl
was_new new true is fresh = absurd (true≢false (sym fresh ∙ is))

-- one more name is not new
pub not_new : (seen : List (List ℕ)) (n : List ℕ) (ns : List (List ℕ)) → is_among seen n ≡ true → are_new seen (n ∷ ns) ≡ false
not_new seen n ns e = rw e refl

-- one more name is new
pub one_new : (seen : List (List ℕ)) (n : List ℕ) (ns : List (List ℕ)) → is_among seen n ≡ false → are_new seen (n ∷ ns) ≡ are_new (seen ++ n ∷ []) ns
one_new seen n ns e = rw e refl

pub names_take : {T : Type 0} (f : T → List ℕ) (items : List T) (i : ℕ) (x : T) → i < length items → x ≡ get_or items i x → map f (take (i + 1) items) ≡ map f (take i items) ++ f x ∷ []
names_take f items i x within is = ap (map f) (take_more items i x within ∙ ap (λ y. take i items ++ y ∷ []) (sym is)) ∙ map-append f (take i items) (x ∷ [])

pub names_drop : {T : Type 0} (f : T → List ℕ) (items : List T) (i : ℕ) (x : T) → i < length items → x ≡ get_or items i x → map f (drop i items) ≡ f x ∷ map f (drop (i + 1) items)
names_drop f items i x within is = ap (map f) (drop-cons items i x within ∙ ap (λ y. y ∷ drop (suc i) items) (sym is)) ∙ ap (λ j. f x ∷ map f (drop j items)) (sym (add-one i))

-- a name that has an index has one within the list
pub index_within : (ns : List (List ℕ)) (q : List ℕ) (n : ℕ) → index_of ns q ≡ Some n → n < length ns
index_within [] q n e = cc
index_within (m ∷ ns) q n e = by (bytes_eq q m) (index_of ns q) refl e (index_within ns q)
  where
    by : (b : Bool) (o : Option ℕ) → index_of ns q ≡ o → cond b (Some 0) (option_map suc o) ≡ Some n → ((k : ℕ) → index_of ns q ≡ Some k → k < length ns) → n < suc (length ns)
    by true o is e below = let zero : 0 ≡ n = cc in omega arith
    by false None is e below = cc
    by false (Some k) is e below =
        let within : k < length ns = below k is in
        let next : suc k ≡ n = cc in
        omega arith
