-- Two nodes share a bus exactly where one of the ports of the one is on a bus of the other.
use Rattle.std.{proofs.Common.{◌≡◌, ℕ, Bool, true, ◌||◌, List, [], ◌∷◌, IsTrue, refl, sym, ◌∙◌, subst, inl, inr, ◌⊎◌}, specs.Prelude.{◌==◌, ◌↔◌}, specs.List.{list_any}, proofs.lemmas.Bool.{false≢true, or_left, or_right}, proofs.lemmas.Bool.Decides.{Decides-or, Decides-eqb}}
use Rattle.plan_values.{specs.declared.plan.Plan.{Plan}, specs.declared.nodes.Port.{Port}}
use Rattle.net_tables.specs.Routing.{ports_of}
use Rattle.net_rules.specs.Owners.{ShareBus}

-- one of the ports is on the bus
abbrev on_bus : List Port → ℕ → Bool
on_bus ports bus = list_any (λ port. port.bus == bus) ports

-- one of the ports is on a bus of the others
abbrev meets : List Port → List Port → Bool
meets ports others = list_any (λ port. on_bus others port.bus) ports

either : (x y : Bool) → (x || y) ≡ true → (x ≡ true) ⊎ (y ≡ true)
either x y h = (Decides-or {P = x ≡ true} {Q = y ≡ true} x y (λ a. a, λ a. a) (λ b. b, λ b. b)).0 h

common_bus : (ports others : List Port) → meets ports others ≡ true → (bus : ℕ) × (on_bus ports bus ≡ true) × (on_bus others bus ≡ true)
common_bus [] others h = absurd (false≢true h)
common_bus (port ∷ ports) others h = elim (either (on_bus others port.bus) (meets ports others) h) [
  | inl here ↦ (port.bus, or_left (port.bus == port.bus) (on_bus ports port.bus) ((Decides-eqb port.bus port.bus).1 refl), here)
  | inr later ↦
      (let found : (bus : ℕ) × (on_bus ports bus ≡ true) × (on_bus others bus ≡ true) = common_bus ports others later in
      (found.0, or_right (port.bus == found.0) (on_bus ports found.0) found.1, found.2))
]

meets_there : (ports others : List Port) (bus : ℕ) → on_bus ports bus ≡ true → on_bus others bus ≡ true → meets ports others ≡ true
meets_there [] others bus mine theirs = absurd (false≢true mine)
meets_there (port ∷ ports) others bus mine theirs = elim (either (port.bus == bus) (on_bus ports bus) mine) [
  | inl here ↦
      (let P : ℕ → Type 0 = λ k. on_bus others k ≡ true in
      or_left (on_bus others port.bus) (meets ports others) (subst P (sym ((Decides-eqb port.bus bus).0 here)) theirs))
  | inr later ↦ or_right (on_bus others port.bus) (meets ports others) (meets_there ports others bus later theirs)
]

pub shared_bus : (plan : Plan) (n m : ℕ) (ports : List Port) (answer : Bool) → ports ≡ ports_of plan n
    → answer ≡ list_any (λ port. list_any (λ other. other.bus == port.bus) (ports_of plan m)) ports → IsTrue answer ↔ ShareBus plan n m
unfolding ShareBus
shared_bus plan n m ports answer same told =
    let P : List Port → Type 0 = λ ps. answer ≡ meets ps (ports_of plan m) in
    let is : answer ≡ meets (ports_of plan n) (ports_of plan m) = subst P same told in (
      λ h. common_bus (ports_of plan n) (ports_of plan m) (sym is ∙ h),
      λ (bus, mine, theirs). is ∙ meets_there (ports_of plan n) (ports_of plan m) bus mine theirs,
    )
