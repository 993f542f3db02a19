-- What records of sensors refer to.
use Rattle.std.{proofs.Common.{◌≡◌, ℕ, List, [], ◌∷◌, Option, Some, None, IfSome, sym, ◌∙◌, ap, arith}, specs.Prelude.{option_map, IsSomeAnd, Contains}, proofs.lemmas.Option.{same_Some}}
use Rattle.pdr_record.{specs.declared.sensor.Sensor.{Sensor}, specs.Layouts.{SensorValue, EntityValue}, specs.Records.{BodyValue}, specs.Values.{sensor_value}}
use Rattle.net_questions.{specs.RecordIndexes.{handle_of}, specs.Sensors.{HasBody, IsSensor, IsLocatorOf, sensor_of}}

pub sensor_found : (bytes : List ℕ) (v : BodyValue) (r : Option Sensor) → HasBody bytes v → option_map sensor_value r ≡ sensor_of v
    → IfSome r (λ s. IsSensor bytes (sensor_value s))
sensor_found bytes v None has is = tt
sensor_found bytes v (Some s) has is = (v, has, sym is)

pub sensor_alone : (bytes : List ℕ) (v : BodyValue) (r : Option Sensor) → ((b : BodyValue) → HasBody bytes b → v ≡ b) → option_map sensor_value r ≡ sensor_of v
    → (s : SensorValue) → IsSensor bytes s → IsSomeAnd r (λ found. sensor_value found ≡ s)
sensor_alone bytes v None only is s (b, has, at) =
    let same : v ≡ b = only b has in
    let none : None ≡ Some s = is ∙ (ap sensor_of same ∙ at) in
    absurd (cc none)
sensor_alone bytes v (Some found) only is s (b, has, at) =
    let same : v ≡ b = only b has in
    same_Some (sensor_value found) s (is ∙ (ap sensor_of same ∙ at))

-- the terminus handle of a locator's body
pub handle_found : (bytes : List ℕ) (v : BodyValue) (r : Option ℕ) → HasBody bytes v → r ≡ handle_of v → IfSome r (IsLocatorOf bytes)
handle_found bytes v None has is = tt
handle_found bytes (BodyValue.Terminus t) (Some h) has is = (t, has, same_Some t.terminus_handle h (sym is))
handle_found bytes (BodyValue.Numeric n) (Some h) has is = absurd (cc is)
handle_found bytes (BodyValue.State s) (Some h) has is = absurd (cc is)
handle_found bytes (BodyValue.Association a) (Some h) has is = absurd (cc is)
handle_found bytes (BodyValue.Other number other) (Some h) has is = absurd (cc is)

pub handle_alone : (bytes : List ℕ) (v : BodyValue) (r : Option ℕ) → ((b : BodyValue) → HasBody bytes b → v ≡ b) → r ≡ handle_of v
    → (h : ℕ) → IsLocatorOf bytes h → IsSomeAnd r (λ found. found ≡ h)
handle_alone bytes v None only is h (t, has, at) =
    let none : None ≡ Some t.terminus_handle = is ∙ ap handle_of (only (BodyValue.Terminus t) has) in
    absurd (cc none)
handle_alone bytes v (Some found) only is h (t, has, at) =
    same_Some found t.terminus_handle (is ∙ ap handle_of (only (BodyValue.Terminus t) has)) ∙ at

-- ---- searches in what is left of a list

pub here : (x e : EntityValue) (xs : List EntityValue) → x ≡ e → Contains (x ∷ xs) e
here x e xs same = (0, omega arith, same)

pub nowhere : (e : EntityValue) → ¬ Contains [] e
nowhere e (k, less, is) = omega (arith, less)
