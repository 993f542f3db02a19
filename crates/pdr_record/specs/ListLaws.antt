-- Lists that are spelled are read again.
use Rattle.std.{proofs.Common.{◌≡◌, ℕ, suc, ◌+◌, ◌*◌, false, ltb, List, [], ◌∷◌, ◌++◌, length, take, drop, Some, refl, ap, ◌∙◌, arith, length-append}, proofs.lemmas.Bool.{le-ltb}, proofs.lemmas.List.{take_at, drop_at}}
use Rattle.byteorder.specs.Endian.{little_bytes, little_number}
use Rattle.pdr_record.{specs.Fields.{followed, Fit}, specs.Layouts.{EntityValue, StateSetValue, entities_fields, state_sets_fields}, specs.ListsAt.{entities_of, state_sets_of, after_state_sets}}

-- what is spelled is read again
pub state_sets_again : (ss : List StateSetValue) (rest : List ℕ) → Fit (state_sets_fields ss)
    → state_sets_of (length ss) (followed (state_sets_fields ss) rest) ≡ ss
state_sets_again [] rest fits = refl
state_sets_again (s ∷ ss) rest fits =
    let later = state_sets_again ss rest fits.1.1.1 in
    let more = followed (state_sets_fields ss) rest in
    let id : little_number 2 (little_bytes 2 s.state_set_id) ≡ s.state_set_id = let h = fits.0 in omega arith in
    let front : take (length s.possible_states) (s.possible_states ++ more) ≡ s.possible_states =
    take_at s.possible_states more (length s.possible_states) refl in
    let behind : drop (length s.possible_states) (s.possible_states ++ more) ≡ more =
    drop_at s.possible_states more (length s.possible_states) refl in
    let others : state_sets_of (length ss) (drop (length s.possible_states) (s.possible_states ++ more)) ≡ ss =
    ap (state_sets_of (length ss)) behind ∙ later in
    λ i. record { state_set_id = id i; possible_states = front i } ∷ others i

-- what follows the state sets that are spelled
pub after_again : (ss : List StateSetValue) (rest : List ℕ)
    → after_state_sets (length ss) (followed (state_sets_fields ss) rest) ≡ Some rest
after_again [] rest = refl
after_again (s ∷ ss) rest =
    let size = length s.possible_states in
    let more = followed (state_sets_fields ss) rest in
    let long : ltb (suc (suc (suc (length (s.possible_states ++ more))))) (3 + size) ≡ false =
    le-ltb _ _ (omega (arith, length-append s.possible_states more)) in
    let behind : drop size (s.possible_states ++ more) ≡ more = drop_at s.possible_states more size refl in
    rw (long) (ap (after_state_sets (length ss)) behind ∙ after_again ss rest)

-- how many bytes entities have
pub entities_length : (es : List EntityValue) (rest : List ℕ)
    → length (followed (entities_fields es) rest) ≡ 6 * length es + length rest
entities_length [] rest = omega arith
entities_length (e ∷ es) rest = let more = entities_length es rest in omega (arith, more)

pub entities_again : (es : List EntityValue) (rest : List ℕ) → Fit (entities_fields es)
    → entities_of (length es) (followed (entities_fields es) rest) ≡ es
entities_again [] rest fits = refl
entities_again (e ∷ es) rest fits =
    let a : little_number 2 (little_bytes 2 e.entity_type) ≡ e.entity_type = let h = fits.0 in omega arith in
    let b : little_number 2 (little_bytes 2 e.instance_number) ≡ e.instance_number = let h = fits.1.0 in omega arith in
    let c : little_number 2 (little_bytes 2 e.container_id) ≡ e.container_id = let h = fits.1.1.0 in omega arith in
    let later = entities_again es rest fits.1.1.1 in
    λ i. record { entity_type = a i; instance_number = b i; container_id = c i } ∷ later i
