-- The request that is due within a record, and what its answer is.
use Rattle.std.{proofs.Common.{◌≡◌, ◌≢◌, ℕ, suc, ◌+◌, ◌-◌, ◌<◌, ◌≤◌, min, nat_eq, cond, List, length, take, drop, slice_get, Some, None, Ok, refl, sym, ap, ◌∙◌, subst, arith, inl, inr, ◌⊎◌, zero-add, add-one}, proofs.lemmas.Option.{same_Some, slice_get_cases}, proofs.lemmas.Bool.Decides.{eqb_tells}, proofs.lemmas.List.{get_or-take, length-take, length-drop, take_all}}
use Rattle.pdr_repository.{specs.Records.{Entry, IsLawful, Means, change_in, handle_at}, specs.Parts.{PartAnswer, AnswersPart, AnswersFrom, IsPartOf, HasChange, IsWithin, offset_of}, specs.Walks.{first_part, follows}}
use Rattle.pldm_message.specs.Pdrs.{PartRequest, Part}

-- a handle means one record at most
pub means_place : (records : List Entry) → IsLawful records → (h p q : ℕ) (e f : Entry) → Means records h p e → Means records h q f → p ≡ q
means_place records lawful h p q e f a b = elim (eqb_tells h 0) [
  | inl is ↦ a.first is.1 ∙ sym (b.first is.1)
  | inr other ↦ lawful.distinct p q e f a.stands b.stands (a.named other.1 ∙ sym (b.named other.1))
]

pub means_entry : (records : List Entry) → IsLawful records → (h p q : ℕ) (e f : Entry) → Means records h p e → Means records h q f → e ≡ f
means_entry records lawful h p q e f a b = same_Some e f (sym a.stands ∙ ap (slice_get records) (means_place records lawful h p q e f a b) ∙ b.stands)

-- the request is one for a first part, or for a next part at an offset
abbrev pub IsAt : Entry → ℕ → PartRequest → Type 0
IsAt e offset r = ((offset ≡ 0) × (r.operation ≡ 1)) ⊎ ((0 < offset) × (r.operation ≡ 0) × (r.transfer ≡ offset) × (r.change ≡ change_in e.bytes))

-- the request that is due where the record at a place has been read up to an offset
pub record IsDue (place : ℕ) (e : Entry) (count offset : ℕ) (r : PartRequest) : Type 0 where
  pub counted : r.count ≡ count
  pub at_first : r.handle ≡ 0 → place ≡ 0
  pub named : r.handle ≢ 0 → e.handle ≡ r.handle
  pub operation : IsAt e offset r

-- the request for the first part of a record is due there
pub first_due : (place : ℕ) (e : Entry) (count handle : ℕ) → (handle ≡ 0 → place ≡ 0) → (handle ≢ 0 → e.handle ≡ handle) → IsDue place e count 0 (first_part count handle)
first_due place e count handle first named = record { counted = refl; at_first = first; named = named; operation = inl (refl, refl) }

pub due_means : (records : List Entry) (place : ℕ) (e : Entry) (count offset : ℕ) (r : PartRequest) → slice_get records place ≡ Some e → IsDue place e count offset r → Means records r.handle place e
due_means records place e count offset r here due = record { stands = here; first = due.at_first; named = due.named }

known : (e : Entry) (offset : ℕ) (r : PartRequest) → IsAt e offset r → r.operation ≤ 1
known e offset r (inl (o, op)) = omega arith
known e offset r (inr (o, op, t, c)) = omega arith

same_change : (e : Entry) (offset : ℕ) (r : PartRequest) → IsAt e offset r → HasChange r e.bytes
same_change e offset r (inl (o, op)) = λ h. absurd (omega arith)
same_change e offset r (inr (o, op, t, c)) = λ h. c

is_within : (e : Entry) (offset : ℕ) (r : PartRequest) → offset < length e.bytes → IsAt e offset r → IsWithin r e.bytes
is_within e offset r within (inl (o, op)) = λ h. absurd (omega arith)
is_within e offset r within (inr (o, op, t, c)) = λ h. (omega arith, omega arith)

pub at_offset : (e : Entry) (offset : ℕ) (r : PartRequest) → IsAt e offset r → offset_of r ≡ offset
at_offset e offset r (inl (o, op)) = rw (op, o) refl
at_offset e offset r (inr (o, op, t, c)) = rw op t

-- the part that answers the request
pub record DueAnswer (next : ℕ) (e : Entry) (r : PartRequest) (a : PartAnswer) : Type 0 where
  pub part : Part
  pub is : a ≡ Ok part
  pub of_record : IsPartOf next e.bytes r part

from_record : (next : ℕ) (e : Entry) (r : PartRequest) (a : PartAnswer) → HasChange r e.bytes → IsWithin r e.bytes → AnswersFrom next e.bytes r a → DueAnswer next e r a
from_record next e r a change within (inl (other, _)) = absurd (other change)
from_record next e r a change within (inr (_, inl (outside, _))) = absurd (outside within)
from_record next e r a change within (inr (_, inr (_, (p, is, part)))) = record { part = p; is = is; of_record = part }

-- what is due is never refused, and what is given is a part of that record
pub due_answer : (records : List Entry) (place : ℕ) (e : Entry) (count offset : ℕ) (r : PartRequest) (a : PartAnswer)
    → IsLawful records → 8 ≤ count → slice_get records place ≡ Some e → offset < length e.bytes → IsDue place e count offset r → AnswersPart records r a → DueAnswer (handle_at records (place + 1)) e r a
due_answer records place e count offset r a lawful least here within due (inl (unknown, _)) = absurd (omega (arith, unknown, known e offset r due.operation))
due_answer records place e count offset r a lawful least here within due (inr (_, inl (none, _))) = absurd (omega (arith, none, due.counted))
due_answer records place e count offset r a lawful least here within due (inr (_, inr (_, inl (unmeant, _)))) = absurd (unmeant (place, e, due_means records place e count offset r here due))
due_answer records place e count offset r a lawful least here within due (inr (_, inr (_, inr (_, (q, f, other, from))))) =
    let means = due_means records place e count offset r here due in
    let P : ℕ → Type 0 = λ i. AnswersFrom (handle_at records (i + 1)) f.bytes r a in
    let Q : Entry → Type 0 = λ g. AnswersFrom (handle_at records (place + 1)) g.bytes r a in
    from_record (handle_at records (place + 1)) e r a (same_change e offset r due.operation) (is_within e offset r within due.operation)
    (subst Q (means_entry records lawful r.handle q place f e other means) (subst P (means_place records lawful r.handle q place f e other means) from))

-- what follows by the flag
follows_start : (r : PartRequest) (p : Part) → p.flag ≡ 0 → follows r (Ok p) ≡ Some (record { handle = r.handle; transfer = p.transfer; operation = 0; count = r.count; change = change_in p.bytes })
follows_start r p is = rw is refl

follows_middle : (r : PartRequest) (p : Part) → p.flag ≡ 1 → follows r (Ok p) ≡ Some (record { handle = r.handle; transfer = p.transfer; operation = 0; count = r.count; change = r.change })
follows_middle r p is = rw is refl

follows_end : (r : PartRequest) (p : Part) → (p.flag ≡ 4) ⊎ (p.flag ≡ 5) → follows r (Ok p) ≡ cond (nat_eq p.next 0) None (Some (first_part r.count p.next))
follows_end r p (inl is) = rw is refl
follows_end r p (inr is) = rw is refl

-- the flag of a part, by where it begins
abbrev pub FlagBy : ℕ → PartRequest → Part → ℕ → ℕ → Type 0
FlagBy offset r p first next = ((offset ≡ 0) × (r.operation ≡ 1) × (p.flag ≡ first)) ⊎ ((0 < offset) × (r.operation ≡ 0) × (p.flag ≡ next))

-- the record goes on
pub record More (place : ℕ) (e : Entry) (count offset : ℕ) (r : PartRequest) (p : Part) : Type 0 where
  pub after : PartRequest
  pub asked : follows r (Ok p) ≡ Some after
  pub due : IsDue place e count (offset + count) after
  pub flag : FlagBy offset r p 0 1
  pub transfer : 0 < p.transfer
  pub long : length p.bytes ≡ count
  pub bytes : p.bytes ≡ take count (drop offset e.bytes)

-- the record is complete
pub record Complete (e : Entry) (count offset : ℕ) (r : PartRequest) (p : Part) : Type 0 where
  pub asked : follows r (Ok p) ≡ cond (nat_eq p.next 0) None (Some (first_part count p.next))
  pub flag : FlagBy offset r p 5 4
  pub some : 0 < length p.bytes
  pub most : length p.bytes ≤ count
  pub bytes : p.bytes ≡ drop offset e.bytes

part_length : (e : Entry) (count offset : ℕ) → length (take count (drop offset e.bytes)) ≡ min count (length e.bytes - offset)
part_length e count offset = length-take count (drop offset e.bytes) ∙ ap (min count) (length-drop offset e.bytes)

part_bytes : (next : ℕ) (e : Entry) (count offset : ℕ) (r : PartRequest) (p : Part) → count ≤ 4079 → r.count ≡ count → IsAt e offset r → IsPartOf next e.bytes r p → p.bytes ≡ take count (drop offset e.bytes)
part_bytes next e count offset r p most counted at part =
    let same : min r.count 4079 ≡ count = omega arith in
    part.taken ∙ rw (same, at_offset e offset r at) refl

change_taken : (count : ℕ) (bytes : List ℕ) → 8 ≤ count → change_in (take count bytes) ≡ change_in bytes
change_taken count bytes least =
    let six : 6 < count = omega arith in
    let seven : 7 < count = omega arith in
    rw (get_or-take count bytes 6 0, get_or-take count bytes 7 0) refl

pub goes_on : (next place : ℕ) (e : Entry) (count offset : ℕ) (r : PartRequest) (p : Part)
    → 8 ≤ count → count ≤ 4079 → offset + count < length e.bytes → IsDue place e count offset r → IsPartOf next e.bytes r p → More place e count offset r p
goes_on next place e count offset r p least most within due part =
    let bytes = part_bytes next e count offset r p most due.counted due.operation part in
    let long : length p.bytes ≡ count = ap length bytes ∙ part_length e count offset ∙ (omega arith) in
    let at = at_offset e offset r due.operation in
    let flags = part.more (omega (arith, long, at)) in
    let transfer : p.transfer ≡ offset + count = omega (arith, flags.1, long, at) in
    elim due.operation [
      | inl (o, op) ↦
          let flag : p.flag ≡ 0 = flags.0 ∙ rw op refl in
          let whole : p.bytes ≡ take (offset + count) e.bytes = bytes ∙ rw (o, zero-add) refl in
          record {
            after = record { handle = r.handle; transfer = p.transfer; operation = 0; count = r.count; change = change_in p.bytes };
            asked = follows_start r p flag;
            due = record { counted = due.counted; at_first = due.at_first; named = due.named; operation = inr (omega arith, refl, transfer, ap change_in whole ∙ change_taken (offset + count) e.bytes (omega arith)) };
            flag = inl (o, op, flag);
            transfer = omega arith;
            long = long;
            bytes = bytes;
          }
      | inr (o, op, t, c) ↦
          let flag : p.flag ≡ 1 = flags.0 ∙ rw op refl in
          record {
            after = record { handle = r.handle; transfer = p.transfer; operation = 0; count = r.count; change = r.change };
            asked = follows_middle r p flag;
            due = record { counted = due.counted; at_first = due.at_first; named = due.named; operation = inr (omega arith, refl, transfer, c) };
            flag = inr (o, op, flag);
            transfer = omega arith;
            long = long;
            bytes = bytes;
          }
    ]

pub completes : (next place : ℕ) (e : Entry) (count offset : ℕ) (r : PartRequest) (p : Part)
    → count ≤ 4079 → offset < length e.bytes → length e.bytes ≤ offset + count → IsDue place e count offset r → IsPartOf next e.bytes r p → Complete e count offset r p
completes next place e count offset r p most within short due part =
    let bytes = part_bytes next e count offset r p most due.counted due.operation part in
    let long : length p.bytes ≡ length e.bytes - offset = ap length bytes ∙ part_length e count offset ∙ (omega arith) in
    let at = at_offset e offset r due.operation in
    let flags = part.last (omega (arith, long, at)) in
    let rest : p.bytes ≡ drop offset e.bytes = bytes ∙ take_all count (drop offset e.bytes) (omega (arith, length-drop offset e.bytes)) in
    elim due.operation [
      | inl (o, op) ↦
          let flag : p.flag ≡ 5 = flags.0 ∙ rw op refl in
          record { asked = follows_end r p (inr flag) ∙ rw due.counted refl; flag = inl (o, op, flag); some = omega arith; most = omega arith; bytes = rest }
      | inr (o, op, t, c) ↦
          let flag : p.flag ≡ 4 = flags.0 ∙ rw op refl in
          record { asked = follows_end r p (inl flag) ∙ rw due.counted refl; flag = inr (o, op, flag); some = omega arith; most = omega arith; bytes = rest }
    ]

-- the next record, or none
abbrev pub NextIs : List Entry → ℕ → ℕ → Type 0
NextIs records place next = ((f : Entry) × (slice_get records (suc place) ≡ Some f) × (next ≡ f.handle)) ⊎ ((length records ≤ suc place) × (next ≡ 0))

pub next_is : (records : List Entry) (place next : ℕ) → next ≡ handle_at records (place + 1) → NextIs records place next
next_is records place next named = elim (slice_get_cases records (suc place)).1 [
  | inl (f, _, here, _) ↦ inl (f, here, named ∙ rw (add-one, here) refl)
  | inr (past, none) ↦ inr (past, named ∙ rw (add-one, none) refl)
]

pub asks_next : (count handle : ℕ) → handle ≢ 0 → cond (nat_eq handle 0) None (Some (first_part count handle)) ≡ Some (first_part count handle)
asks_next count handle some = elim (eqb_tells handle 0) [
  | inl is ↦ absurd (some is.1)
  | inr other ↦ rw other.0 refl
]
