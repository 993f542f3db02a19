-- Which case of a reply applies.
use Rattle.std.{proofs.Common.{◌≡◌, ◌⊎◌, ℕ, ◌≤◌, Option, Some, None, inl, inr, arith}, proofs.Math.Decide.{dec_le}}
use Rattle.mctp_transport.{specs.PacketValues.{IsAssignable}, specs.declared.device_kind.DeviceKind.{DeviceKind}}
use Rattle.mctp_control.{specs.Refusals.{IsUnknown}, specs.Devices.{EidHeld, PoolHeld, MayGiveEid, MayGivePool}, specs.Replies.{Supports}}
use Rattle.mctp_transport.specs.declared.device_kind.DeviceKind.TheVariants as kind

-- both, either, the opposite of what is decided
pub dec_both : {P Q : Type 0} → Dec P → Dec Q → Dec (P × Q)
dec_both (yes p) (yes q) = yes (p, q)
dec_both (yes p) (no q) = no (λ h. q h.1)
dec_both (no p) q = no (λ h. p h.0)

pub dec_either : {P Q : Type 0} → Dec P → Dec Q → Dec (P ⊎ Q)
dec_either (yes p) q = yes (inl p)
dec_either (no p) (yes q) = yes (inr q)
dec_either (no p) (no q) = no (λ h. elim h [ inl a ↦ p a | inr b ↦ q b ])

pub dec_not : {P : Type 0} → Dec P → Dec (¬ P)
dec_not (yes p) = no (λ h. h p)
dec_not (no p) = yes p

pub dec_then : {P Q : Type 0} → Dec P → Dec Q → Dec (P → Q)
dec_then (yes p) (yes q) = yes (λ _. q)
dec_then (yes p) (no q) = no (λ h. q (h p))
dec_then (no p) q = yes (λ h. absurd (p h))

-- two numbers are equal or not
pub dec_same : (m n : ℕ) → Dec (m ≡ n)
dec_same m n = by (dec_le m n) (dec_le n m)
  where
    by : Dec (m ≤ n) → Dec (n ≤ m) → Dec (m ≡ n)
    by (yes a) (yes b) = yes (omega arith)
    by (yes a) (no b) = no (λ e. b (omega arith))
    by (no a) b = no (λ e. a (omega arith))

pub dec_assignable : (eid : ℕ) → Dec (IsAssignable eid)
dec_assignable eid = dec_both (dec_le 8 eid) (dec_le eid 254)

pub dec_unknown : (number : ℕ) → Dec (IsUnknown number)
dec_unknown number = by (dec_same number 1) (dec_same number 2) (dec_same number 8) (dec_same number 10)
  where
    by : Dec (number ≡ 1) → Dec (number ≡ 2) → Dec (number ≡ 8) → Dec (number ≡ 10) → Dec (IsUnknown number)
    by (no a) (no b) (no c) (no d) = yes (a, b, c, d)
    by (yes a) b c d = no (λ h. h.0 a)
    by (no a) (yes b) c d = no (λ h. h.1 b)
    by (no a) (no b) (yes c) d = no (λ h. h.2 c)
    by (no a) (no b) (no c) (yes d) = no (λ h. h.3 d)

pub dec_supports : (k : DeviceKind) (number : ℕ) → Dec (Supports k number)
dec_supports kind.Endpoint number = dec_either (dec_same number 1) (dec_same number 2)
dec_supports kind.Bridge number = dec_not (dec_unknown number)

-- the bus gave what is held
dec_gave : (giver : Option ℕ) (bus : ℕ) → Dec (giver ≡ Some bus)
dec_gave None bus = no (λ e. cc)
dec_gave (Some b) bus = by (dec_same b bus)
  where
    by : Dec (b ≡ bus) → Dec (Some b ≡ Some bus)
    by (yes e) = yes (λ i. Some (e i))
    by (no n) = no (λ e. n (cc))

pub dec_may_eid : (held : Option EidHeld) (bus : ℕ) → Dec (MayGiveEid held bus)
dec_may_eid None bus = yes tt
dec_may_eid (Some h) bus = dec_gave h.giver bus

pub dec_may_pool : (held : Option PoolHeld) (bus : ℕ) → Dec (MayGivePool held bus)
dec_may_pool None bus = yes tt
dec_may_pool (Some h) bus = dec_gave h.giver bus

-- a command that a device supports is one of the four
pub supported_is_known : (k : DeviceKind) (number : ℕ) → Supports k number → ¬ IsUnknown number
supported_is_known kind.Endpoint number s u = elim s [ inl a ↦ u.0 a | inr b ↦ u.1 b ]
supported_is_known kind.Bridge number s u = s u
