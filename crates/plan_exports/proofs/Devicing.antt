-- The devices of buses, one after another, and the links that were looked at.
use Rattle.std.{proofs.Common.{◌≡◌, ℕ, ◌+◌, ◌<◌, ◌≤◌, Bool, true, false, List, [], ◌∷◌, ◌++◌, length, get_or, take, Some, refl, sym, ap, ◌∙◌, subst, inl, inr, arith}, specs.Prelude.{◌≢◌, All, MatchBool, slice_get}, proofs.lemmas.List.{take_more, take_all, length_push}, proofs.lemmas.List.Elements.{All-push}, proofs.lemmas.Option.{slice_get-get_or}}
use Rattle.plan_values.specs.declared.plan.Plan.{Plan}
use Rattle.net_tables.proofs.Elements.{in_push}
use Rattle.plan_exports.{specs.Devices.{IsDeviceOf, IsLinked}, specs.declared.links.Link.{Link}}

abbrev pub IsOther : List ℕ → Link → Type 0
IsOther name link = link.bus.now ≢ name

pub others_more : (links : List Link) (name : List ℕ) (i : ℕ) (link : Link) → i < length links → link ≡ get_or links i link → All (IsOther name) (take i links)
    → IsOther name link → All (IsOther name) (take (i + 1) links)
others_more links name i link lt here before other =
    let cut : take (i + 1) links ≡ take i links ++ link ∷ [] = take_more links i link lt ∙ ap (λ x. take i links ++ x ∷ []) (sym here) in
    subst (All (IsOther name)) (sym cut) (All-push (IsOther name) (take i links) link before other)

pub others_all : (links : List Link) (name : List ℕ) (i : ℕ) → length links ≤ i → All (IsOther name) (take i links) → All (IsOther name) links
others_all links name i ge before = subst (All (IsOther name)) (take_all i links ge) before

pub is_linked : (links : List Link) (name : List ℕ) (i : ℕ) (link : Link) → i < length links → link ≡ get_or links i link → All (IsOther name) (take i links)
    → link.bus.now ≡ name → IsLinked links name link.device.now
is_linked links name i link lt here before named = record {
  place = i;
  link = link;
  there = slice_get-get_or links i link lt ∙ ap Some (sym here);
  named = named;
  first = before;
  device_is = refl;
}

pub yes_of : (A B : Type 0) (b : Bool) → MatchBool b A B → b ≡ true → A
yes_of A B true a e = a
yes_of A B false a e = absurd (cc)

pub no_of : (A B : Type 0) (b : Bool) → MatchBool b A B → b ≡ false → B
no_of A B false a e = a
no_of A B true a e = absurd (cc)

-- so many buses have their devices
abbrev pub HaveDevices : Plan → List Link → ℕ → List (List ℕ) → Type 0
HaveDevices plan links count devices =
    (length devices ≡ count) × ((bus : ℕ) (device : List ℕ) → slice_get devices bus ≡ Some device → IsDeviceOf plan links bus device)

pub more_devices : (plan : Plan) (links : List Link) (count : ℕ) (devices : List (List ℕ)) (device : List ℕ) → HaveDevices plan links count devices
    → IsDeviceOf plan links count device → HaveDevices plan links (count + 1) (devices ++ device ∷ [])
more_devices plan links count devices device before is = (
  omega (arith, length_push devices device, before.0),
  λ bus other there. elim (in_push devices device bus other there) [
    | inl old ↦ before.1 bus other old
    | inr (at, equal) ↦ (
        let place : count ≡ bus = omega (arith, at, before.0) in
        subst (IsDeviceOf plan links bus) equal (subst (λ (k : ℕ). IsDeviceOf plan links k device) place is))
  ],
)
