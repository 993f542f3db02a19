-- One refused entry more.
use Rattle.std.{proofs.Common.{◌≡◌, ℕ, ◌<◌, ◌+◌, List, [], ◌∷◌, ◌++◌, length, arith, sym, subst, get_or, inl, inr, map, take}, proofs.lemmas.List.{length-map, length-take}}
use Rattle.bus_captures.{specs.Values.{EntryValue, entry_value}, specs.declared.capture.Entry.{Entry}}
use Rattle.audited_captures.{specs.RefusalSteps.{AddsRefusal}, specs.Refusals.{AreRefusals}, specs.declared.refusals.Refusal.{Refusal}, proofs.WordLaws.{mapped_more}}
use Rattle.audited_captures.specs.Refusals as refusals

added : (unit : ℕ) (entries : List EntryValue) (old new : List Refusal) (e : EntryValue) → AreRefusals unit entries old → AddsRefusal unit (length entries + 1) e old new
    → AreRefusals unit (entries ++ e ∷ []) new
added unit entries old new e are (inl (none, same)) = subst (λ rs. AreRefusals unit (entries ++ e ∷ []) rs) (sym same) (refusals.Other entries old e are none)
added unit entries old new e are (inr (why, is, same)) = subst (λ rs. AreRefusals unit (entries ++ e ∷ []) rs) (sym same) (refusals.More entries old e why are is)

-- the next entry of a list
pub next_refusal : (unit : ℕ) (items : List Entry) (i : ℕ) (item : Entry) (old new : List Refusal) → i < length items → item ≡ get_or items i item
    → AreRefusals unit (map entry_value (take i items)) old → AddsRefusal unit (i + 1) (entry_value item) old new → AreRefusals unit (map entry_value (take (i + 1) items)) new
next_refusal unit items i item old new within is are adds =
    let many : length (map entry_value (take i items)) ≡ i = omega (arith, within, length-map (take i items) entry_value, length-take i items) in
    subst (λ es. AreRefusals unit es new) (sym (mapped_more entry_value items i item within is))
    (added unit (map entry_value (take i items)) old new (entry_value item) are (subst (λ n. AddsRefusal unit (n + 1) (entry_value item) old new) (sym many) adds))
