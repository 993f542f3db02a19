-- A search for a handle, and what is found.
use Rattle.std.{proofs.Common.{◌≡◌, ℕ, Bool, true, false, ◌==◌, List, not, eqb, refl, ◌∙◌, sym, subst, inl, inr}, specs.Prelude.{Any, IsTrue, ◌↔◌, MatchOption, Option, Some}, specs.List.{list_any}, proofs.lemmas.List.Folds.{Any-from_list_any, list_any-from_Any}, proofs.lemmas.Bool.Decides.{Decides-eqb, eqb_tells}}
use Rattle.pdr_repository.{specs.Records.{handle_in}, specs.Crc.{IsCrc}, proofs.Crcs.{one_crc}}

any_handle : (handle : ℕ) (records : List (List ℕ)) → list_any (λ bytes. handle_in bytes == handle) records ≡ true → Any (λ bytes. handle_in bytes ≡ handle) records
any_handle handle records h =
    let found = Any-from_list_any (λ bytes. handle_in bytes == handle) records h in
    (found.0, found.1, found.2, found.3, (Decides-eqb (handle_in found.1) handle).0 found.4)

handle_any : (handle : ℕ) (records : List (List ℕ)) → Any (λ bytes. handle_in bytes ≡ handle) records → list_any (λ bytes. handle_in bytes == handle) records ≡ true
handle_any handle records (k, x, within, is, h) = list_any-from_Any (λ bytes. handle_in bytes == handle) records (k, x, within, is, (Decides-eqb (handle_in x) handle).1 h)

wrong_where_other : (k computed : ℕ) (whole : List ℕ) → IsCrc whole computed → IsTrue (not (eqb k computed)) ↔ ¬ IsCrc whole k
wrong_where_other k computed whole right =
    elim (eqb_tells k computed) [
      | inl same ↦ (rw same.0 (λ h. absurd (cc)), λ wrong. absurd (wrong (let P : ℕ → Type 0 = λ n. IsCrc whole n in subst P (sym same.1) right)))
      | inr other ↦ (λ _. λ h. other.1 (one_crc whole k computed h right), λ _. rw other.0 refl)
    ]

pub wrong_crc : (crc : Option ℕ) (k computed : ℕ) (whole : List ℕ) → crc ≡ Some k → IsCrc whole computed → IsTrue (not (eqb k computed)) ↔ MatchOption crc ⊥ (λ c. ¬ IsCrc whole c)
wrong_crc crc k computed whole is right =
    let decides = wrong_where_other k computed whole right in
    let P : Option ℕ → Type 0 = λ o. MatchOption o ⊥ (λ c. ¬ IsCrc whole c) in
    (λ h. subst P (sym is) (decides.0 h), λ h. decides.1 (subst P is h))

pub doubled : (records : List (List ℕ)) (result : Bool) (handle target : ℕ) (last : Type 0) → last → result ≡ list_any (λ bytes. handle_in bytes == handle) records → handle ≡ target
    → IsTrue result ↔ (last × Any (λ bytes. handle_in bytes ≡ target) records)
doubled records result handle target last is found same =
    let P : ℕ → Type 0 = λ h. Any (λ bytes. handle_in bytes ≡ h) records in
    (λ h. (is, subst P same (any_handle handle records (sym found ∙ h))), λ h. found ∙ handle_any handle records (subst P (sym same) h.1))

-- a test that answered no
pub passed : {cause : Type 0} → (IsTrue false ↔ cause) → ¬ cause
passed tells = λ h. let e : false ≡ true = tells.1 h in cc
