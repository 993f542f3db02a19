-- Spots, one token after the other.
use Rattle.std.{proofs.Common.{◌≡◌, ◌≢◌, ◌⊎◌, inl, inr, ◌<◌, ◌≤◌, ℕ, List, [], ◌∷◌, ◌++◌, length, drop, Some, sym, ap, ◌∙◌, subst, arith}, specs.Prelude.{slice_get, IsSomeAnd}, proofs.lemmas.Option.{slice_get-get_or}, proofs.lemmas.List.{get_or_push, length-append}, proofs.Math.ListN.{get_or-append}}
use Rattle.json.{specs.Lex.{tokens}, specs.Token.{Token}}
use Rattle.net_pointers.{specs.Spots.{StandsAt}, specs.declared.spots.Spot.{Spot}}

-- each of the first tokens has its spot
abbrev pub HaveSpots : List ℕ → List Spot → Type 0
HaveSpots text spots = (k : ℕ) (u : Token) (us : List Token) → k < length spots → drop k (tokens text) ≡ u ∷ us → u ≢ Token.bad
    → IsSomeAnd (slice_get spots k) (StandsAt text (u ∷ us))

pub none_yet : (text : List ℕ) → HaveSpots text []
none_yet text k u us below left sound = absurd (omega (arith, below))

pub spot_pushed : (text : List ℕ) (spots : List Spot) (spot : Spot) → HaveSpots text spots
    → ((u : Token) (us : List Token) → drop (length spots) (tokens text) ≡ u ∷ us → u ≢ Token.bad → StandsAt text (u ∷ us) spot)
    → HaveSpots text (spots ++ spot ∷ [])
spot_pushed text spots spot have this k u us below left sound =
    by (nat_cases k (length spots))
  where
    nat_cases : (m n : ℕ) → (m < n) ⊎ (n ≤ m)
    nat_cases m n = grind arith

    by : (k < length spots) ⊎ (length spots ≤ k) → IsSomeAnd (slice_get (spots ++ spot ∷ []) k) (StandsAt text (u ∷ us))
    by (inl less) =
        let old = have k u us less left sound in
        let was = slice_get-get_or spots k spot less in
        let is = slice_get-get_or (spots ++ spot ∷ []) k spot below in
        subst (λ o. IsSomeAnd o (StandsAt text (u ∷ us))) (was ∙ ap Some (sym (get_or-append spots (spot ∷ []) spot k less)) ∙ sym is) old
    by (inr past) =
        let long = length-append spots (spot ∷ []) in
        let here : length spots ≡ k = omega (arith, long, below, past) in
        let is = slice_get-get_or (spots ++ spot ∷ []) k spot below in
        subst (λ o. IsSomeAnd o (StandsAt text (u ∷ us))) (ap Some (sym (get_or_push spots spot spot k here)) ∙ sym is)
        (this u us (ap (λ n. drop n (tokens text)) here ∙ left) sound)
