-- Where no body stands at the front of bytes.
use Rattle.std.{proofs.Common.{◌≡◌, ℕ, ◌+◌, ◌*◌, ◌<◌, ◌≤◌, ◌⊎◌, inl, inr, List, length, drop, Some, None, ap, ◌∙◌, arith, length-append}, specs.Prelude.{slice_index}}
use Rattle.pdr_record.{specs.Fields.{followed}, specs.Layouts.{width_of, NumericValue, IsNumeric}, specs.ListsAt.{after_state_sets}, specs.Records.{BodyValue, Terminus, Numeric, State, Association, Other, type_of, body_fields, IsBody}, specs.NumericCodes.{HasOtherDataSize, HasOtherFormat}, specs.Endings.{EndsEarly, Head, Middle, Tail, IsNumericFault, IsFrontFault}, specs.declared.record_error.RecordError.{RecordError}, specs.Faults.{StartsWithBody, HasOtherCode}, specs.ListLaws.{after_again, entities_length}, specs.LayoutLaws.{IsNumericFront, numeric_front}}
use Rattle.pdr_record.specs.declared.record_error.RecordError.TheVariants as error

-- ---- terminus locators

no_terminus : (b : BodyValue) (bytes rest : List ℕ) → type_of b ≡ 1 → IsBody b → bytes ≡ followed (body_fields b) rest → length bytes < 8 + slice_index bytes 7 → ⊥
no_terminus (Terminus t) bytes rest k h e short =
    let size : slice_index bytes 7 ≡ length t.locator_value = ap (λ (bs : List ℕ). slice_index bs 7) e in
    omega (arith, ap length e, length-append t.locator_value rest)
no_terminus (Numeric n) bytes rest k h e short = omega arith
no_terminus (State s) bytes rest k h e short = omega arith
no_terminus (Association a) bytes rest k h e short = omega arith
no_terminus (Other number own) bytes rest k h e short = h.layout.no_terminus k

pub terminus_ends : (bytes : List ℕ) → length bytes < 8 + slice_index bytes 7 → ((rest : List ℕ) → ¬ StartsWithBody 1 bytes rest) × ¬ HasOtherCode 1 bytes
terminus_ends bytes short = (λ rest s. no_terminus s.body bytes rest s.type_is s.lawful s.front short, λ c. let one_is_two = c.0 in omega arith)

-- ---- numeric sensors

no_end : (n : NumericValue) (bytes rest : List ℕ) → IsNumeric n → IsNumericFront n bytes rest → EndsEarly bytes → ⊥
no_end n bytes rest h f (Head short) = omega (arith, f.long)
no_end n bytes rest h f (Middle known short) =
    let at : length bytes ≤ 45 + 3 * width_of n.data_size = rw (f.size) at short in
    omega (arith, f.long)
no_end n bytes rest h f (Tail known long within short) =
    let at : length bytes < 47 + 3 * width_of n.data_size + 9 * width_of n.range_format = rw (f.size, f.place) at short in
    omega (arith, f.long)

no_other : (n : NumericValue) (bytes rest : List ℕ) → IsNumeric n → IsNumericFront n bytes rest → HasOtherDataSize bytes ⊎ HasOtherFormat bytes → ⊥
no_other n bytes rest h f (inl c) = omega (arith, f.size, h.data_size, c.1)
no_other n bytes rest h f (inr c) =
    let at : 6 < n.range_format = rw (f.size, f.place) at c.2 in
    omega (arith, h.range_format)

no_numeric : (b : BodyValue) (bytes rest : List ℕ) → type_of b ≡ 2 → IsBody b → bytes ≡ followed (body_fields b) rest → EndsEarly bytes ⊎ (HasOtherDataSize bytes ⊎ HasOtherFormat bytes) → ⊥
no_numeric (Numeric n) bytes rest k h e (inl ends) = no_end n bytes rest h.layout (numeric_front n bytes rest h.layout e) ends
no_numeric (Numeric n) bytes rest k h e (inr code) = no_other n bytes rest h.layout (numeric_front n bytes rest h.layout e) code
no_numeric (Terminus t) bytes rest k h e f = omega arith
no_numeric (State s) bytes rest k h e f = omega arith
no_numeric (Association a) bytes rest k h e f = omega arith
no_numeric (Other number own) bytes rest k h e f = h.layout.no_numeric k

-- bytes that end early have no unknown code
ends_known : (bytes : List ℕ) → EndsEarly bytes → HasOtherDataSize bytes ⊎ HasOtherFormat bytes → ⊥
ends_known bytes (Head short) (inl c) = omega (arith, c.0)
ends_known bytes (Middle known short) (inl c) = omega (arith, c.1)
ends_known bytes (Tail known long within short) (inl c) = omega (arith, c.1)
ends_known bytes (Head short) (inr c) = let far = c.1 in omega arith
ends_known bytes (Middle known short) (inr c) = omega (arith, c.1)
ends_known bytes (Tail known long within short) (inr c) = omega (arith, c.2)

pub numeric_ends : (bytes : List ℕ) → EndsEarly bytes → ((rest : List ℕ) → ¬ StartsWithBody 2 bytes rest) × ¬ HasOtherCode 2 bytes
numeric_ends bytes ends = (λ rest s. no_numeric s.body bytes rest s.type_is s.lawful s.front (inl ends), λ c. ends_known bytes ends c.1)

-- the faults of a numeric sensor are those of a body
pub numeric_fault : (e : RecordError) (number : ℕ) (bytes : List ℕ) → number ≡ 2 → IsNumericFault e bytes → IsFrontFault e number bytes
numeric_fault error.Short number bytes k f = f
numeric_fault error.Version number bytes k f = f
numeric_fault error.Length number bytes k f = f
numeric_fault error.Ends number bytes k f = rw k (numeric_ends bytes f)
numeric_fault error.LeftOver number bytes k f = f
numeric_fault error.Unsupported number bytes k f = (k, f)

pub no_body_of_other_code : (number : ℕ) (bytes rest : List ℕ) → StartsWithBody number bytes rest → HasOtherCode number bytes → ⊥
no_body_of_other_code number bytes rest s c = no_numeric s.body bytes rest (s.type_is ∙ c.0) s.lawful s.front (inr c.1)

-- ---- state sensors

no_state : (b : BodyValue) (bytes rest : List ℕ) → type_of b ≡ 4 → IsBody b → bytes ≡ followed (body_fields b) rest → (length bytes < 13) ⊎ (after_state_sets (slice_index bytes 12) (drop 13 bytes) ≡ None) → ⊥
no_state (State s) bytes rest k h e (inl short) = omega (arith, ap length e)
no_state (State s) bytes rest k h e (inr none) =
    let found : after_state_sets (slice_index bytes 12) (drop 13 bytes) ≡ Some rest = ap (λ (bs : List ℕ). after_state_sets (slice_index bs 12) (drop 13 bs)) e ∙ after_again s.state_sets rest in
    cc
no_state (Terminus t) bytes rest k h e f = omega arith
no_state (Numeric n) bytes rest k h e f = omega arith
no_state (Association a) bytes rest k h e f = omega arith
no_state (Other number own) bytes rest k h e f = h.layout.no_state k

pub state_ends : (bytes : List ℕ) → (length bytes < 13) ⊎ (after_state_sets (slice_index bytes 12) (drop 13 bytes) ≡ None) → ((rest : List ℕ) → ¬ StartsWithBody 4 bytes rest) × ¬ HasOtherCode 4 bytes
state_ends bytes f = (λ rest s. no_state s.body bytes rest s.type_is s.lawful s.front f, λ c. let four_is_two = c.0 in omega arith)

-- ---- entity associations

no_association : (b : BodyValue) (bytes rest : List ℕ) → type_of b ≡ 15 → IsBody b → bytes ≡ followed (body_fields b) rest → length bytes < 10 + 6 * slice_index bytes 9 → ⊥
no_association (Association a) bytes rest k h e short =
    let count : slice_index bytes 9 ≡ length a.contained_entities = ap (λ (bs : List ℕ). slice_index bs 9) e in
    omega (arith, ap length e, entities_length a.contained_entities rest)
no_association (Terminus t) bytes rest k h e short = omega arith
no_association (Numeric n) bytes rest k h e short = omega arith
no_association (State s) bytes rest k h e short = omega arith
no_association (Other number own) bytes rest k h e short = h.layout.no_association k

pub association_ends : (bytes : List ℕ) → length bytes < 10 + 6 * slice_index bytes 9 → ((rest : List ℕ) → ¬ StartsWithBody 15 bytes rest) × ¬ HasOtherCode 15 bytes
association_ends bytes short = (λ rest s. no_association s.body bytes rest s.type_is s.lawful s.front short, λ c. let fifteen_is_two = c.0 in omega arith)
