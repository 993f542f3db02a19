-- The fields that have a name, one after another.
use Rattle.std.{proofs.Common.{◌≡◌, ℕ, zero, suc, ◌+◌, ◌<◌, ◌≤◌, List, [], ◌∷◌, ◌++◌, length, drop, Some, None, refl, sym, subst, inl, inr, arith, add-one, append_assoc, append-nil}, specs.Prelude.{slice_get}, proofs.Math.Seq.{drop-cons, drop-nil}, proofs.lemmas.Option.{slice_get_within, get_or_from_slice_get}}
use Rattle.toml.specs.Data.{Data}
use Rattle.plan_values.specs.declared.plan.Plan.{Plan}
use Rattle.record_fields.specs.Named.{Named}
use Rattle.board_kept.specs.Fields.{AreNamed, AddsIfNamed, IsSaidAt, AreSaid, value_at}

drop_here : (fields : List Named) (i : ℕ) (field : Named) → slice_get fields i ≡ Some field → drop i fields ≡ field ∷ drop (i + 1) fields
drop_here fields i field at =
    subst (λ k. drop i fields ≡ field ∷ drop k fields) (sym (add-one i))
    (subst (λ x. drop i fields ≡ x ∷ drop (suc i) fields) (get_or_from_slice_get fields i field field at)
    (drop-cons fields i field (slice_get_within fields i field at)))

drop_beyond : (fields : List Named) (i : ℕ) → length fields ≤ i → drop i fields ≡ []
drop_beyond [] i past = drop-nil i
drop_beyond (field ∷ fields) zero past = absurd (omega (arith, past))
drop_beyond (field ∷ fields) (suc i) past = drop_beyond fields i (omega (arith, past))

at_within : (fields : List Named) (i : ℕ) → i < length fields → (field : Named) × (slice_get fields i ≡ Some field)
at_within [] i within = absurd (omega (arith, within))
at_within (field ∷ fields) zero within = (field, refl)
at_within (field ∷ fields) (suc i) within = at_within fields i (omega (arith, within))

named_by : (name : List ℕ) (fields own new : List Named) (i : ℕ) (field : Named) → drop i fields ≡ field ∷ drop (i + 1) fields
    → ((rest : List Named) → AreNamed name (drop i fields) rest → AreNamed name fields (own ++ rest)) → AddsIfNamed name field own new
    → (rest : List Named) → AreNamed name (drop (i + 1) fields) rest → AreNamed name fields (new ++ rest)
named_by name fields own new i field here before (inl (lacks, same)) rest are =
    subst (λ n. AreNamed name fields (n ++ rest)) (sym same) (before rest (subst (λ ds. AreNamed name ds rest) (sym here) (inl (lacks, are))))
named_by name fields own new i field here before (inr (has, same)) rest are =
    let whole : AreNamed name (drop i fields) (field ∷ rest) =
    subst (λ ds. AreNamed name ds (field ∷ rest)) (sym here) (inr (has, rest, refl, are)) in
    subst (λ n. AreNamed name fields (n ++ rest)) (sym same)
    (subst (λ n. AreNamed name fields n) (sym (append_assoc own (field ∷ []) rest)) (before (field ∷ rest) whole))

-- one field more
pub named_more : (name : List ℕ) (fields own new : List Named) (i : ℕ) → i < length fields
    → ((rest : List Named) → AreNamed name (drop i fields) rest → AreNamed name fields (own ++ rest))
    → ((field : Named) → slice_get fields i ≡ Some field → AddsIfNamed name field own new)
    → (rest : List Named) → AreNamed name (drop (i + 1) fields) rest → AreNamed name fields (new ++ rest)
named_more name fields own new i within before adds =
    let found : (field : Named) × (slice_get fields i ≡ Some field) = at_within fields i within in
    named_by name fields own new i found.0 (drop_here fields i found.0 found.1) before (adds found.0 found.1)

-- behind the last
pub named_all : (name : List ℕ) (fields own : List Named) (i : ℕ) → length fields ≤ i
    → ((rest : List Named) → AreNamed name (drop i fields) rest → AreNamed name fields (own ++ rest)) → AreNamed name fields own
named_all name fields own i past before =
    subst (λ n. AreNamed name fields n) (append-nil own)
    (before [] (subst (λ ds. AreNamed name ds []) (sym (drop_beyond fields i past)) refl))

-- what is so of the first fields is so of all
pub said_whole : (plan : Plan) (name : List ℕ) (own : List Named) (d : Data) (end : ℕ) → length own ≤ end
    → ((i : ℕ) → i < end → IsSaidAt plan name own d i) → value_at (length own) d ≡ None → AreSaid plan name own d
said_whole plan name own d end past before none = record {
  each = λ i field at. before i (omega (arith, past, slice_get_within own i field at)) field at;
  no_more = none;
}
