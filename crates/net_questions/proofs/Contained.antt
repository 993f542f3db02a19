-- The set of the entities that a node's associations contain, as far as its records were looked at.
use Rattle.std.{proofs.Common.{◌≡◌, ◌≢◌, ◌↔◌, ◌⊎◌, ℕ, zero, suc, ◌+◌, ◌<◌, ◌≤◌, List, [], ◌∷◌, length, Some, Bool, IsTrue, true, false, refl, sym, ◌∙◌, ap, subst, arith, inl, inr, Result, Ok, Err, OnOk}, specs.Prelude.{slice_get, cond, Contains}, specs.Ordering.{nat_cmp, ordering_then, is_eq}, specs.Cmp.{nat_cmp_is}, specs.declared.cmp.Ordering.{Ordering}, specs.declared.cmp.Ordering.TheVariants.{Less, Equal, Greater}, specs.BTreeMap.{is_at}, specs.BTreeSet.{BTreeSet, contains}, proofs.lemmas.Map.Lookups.{exact_unsigned}, proofs.lemmas.Bool.{cases_lt, true≢false}, proofs.lemmas.Option.{same_Some, slice_get_within}}
use Rattle.pdr_record.{specs.Layouts.{AssociationValue, EntityValue}, specs.Records.{BodyValue}}
use Rattle.plan_values.{specs.declared.plan.Plan.{Plan}, specs.declared.terminus.PlannedRecord.{PlannedRecord}}
use Rattle.net_tables.specs.Repositories.{records_of}
use Rattle.net_questions.{specs.Sensors.{Associates, HasAssociationOf, HasBody}, specs.RecordIndexes.{AreContained, AssociatesIn, HasEntity, NotesEntities, entity_key, by_entity}, proofs.Referring.{here, nowhere}, proofs.Within.{record_within}}

-- keys that the order does not tell apart are the same
same_key : (p q : ℕ × ℕ × ℕ) → by_entity p q ≡ Equal → p ≡ q
same_key p q equal = by (nat_cmp p.0 q.0) (nat_cmp p.1 q.1) refl refl equal
  where
    by : (o u : Ordering) → nat_cmp p.0 q.0 ≡ o → nat_cmp p.1 q.1 ≡ u → ordering_then (ordering_then o u) (nat_cmp p.2 q.2) ≡ Equal → p ≡ q
    by Less u first second h = absurd (cc)
    by Equal Less first second h = absurd (cc)
    by Equal Equal first second h =
        let left : p.0 ≡ q.0 = exact_unsigned p.0 q.0 first in
        let middle : p.1 ≡ q.1 = exact_unsigned p.1 q.1 second in
        let right : p.2 ≡ q.2 = exact_unsigned p.2 q.2 h in
        ap (λ (k : ℕ). (k, p.1, p.2)) left ∙ (ap (λ (k : ℕ). (q.0, k, p.2)) middle ∙ ap (λ (k : ℕ). (q.0, q.1, k)) right)
    by Equal Greater first second h = absurd (cc)
    by Greater u first second h = absurd (cc)

same_number : (n : ℕ) → nat_cmp n n ≡ Equal
same_number n = sym (nat_cmp_is n n Equal refl)

-- and the same keys are not told apart
key_itself : (k : ℕ × ℕ × ℕ) → by_entity k k ≡ Equal
key_itself k =
    ap (λ o. ordering_then (ordering_then o (nat_cmp k.1 k.1)) (nat_cmp k.2 k.2)) (same_number k.0)
    ∙ (ap (λ o. ordering_then o (nat_cmp k.2 k.2)) (same_number k.1) ∙ same_number k.2)

abbrev entity_of : ℕ × ℕ × ℕ → EntityValue
entity_of k = record { entity_type = k.0; instance_number = k.1; container_id = k.2 }

-- the set with one entity more
pub noted : (old new : BTreeSet (ℕ × ℕ × ℕ)) (x : EntityValue)
    → ((q : ℕ × ℕ × ℕ) → contains by_entity new q ≡ cond (is_at (by_entity (entity_key x)) q) true (contains by_entity old q))
    → NotesEntities old (λ e. x ≡ e) new
noted old new x updates e = by (by_entity (entity_key x) (entity_key e)) refl (updates (entity_key e))
  where
    Told : Bool → Type 0
    Told b = contains by_entity new (entity_key e) ≡ cond b true (contains by_entity old (entity_key e))

    other : (o : Ordering) → by_entity (entity_key x) (entity_key e) ≡ o → is_eq o ≡ false → Told (is_eq o) → HasEntity new e ↔ (HasEntity old e ⊎ (x ≡ e))
    other o is apart told =
        let unlike : x ≢ e = λ same.
        let equal : Equal ≡ o = sym (key_itself (entity_key x)) ∙ (ap (λ z. by_entity (entity_key x) (entity_key z)) same ∙ is) in
        absurd (cc) in
        let kept : contains by_entity new (entity_key e) ≡ contains by_entity old (entity_key e) = subst Told apart told in (
          λ h. inl (sym kept ∙ h),
          λ h. elim h [ inl had ↦ kept ∙ had | inr same ↦ absurd (unlike same) ],
        )

    by : (o : Ordering) → by_entity (entity_key x) (entity_key e) ≡ o → Told (is_eq o) → HasEntity new e ↔ (HasEntity old e ⊎ (x ≡ e))
    by Less is told = other Less is refl told
    by Equal is told = (λ h. inr (ap entity_of (same_key (entity_key x) (entity_key e) is)), λ h. told)
    by Greater is told = other Greater is refl told

-- of a body
pub in_association : (v : BodyValue) (t : AssociationValue) → v ≡ BodyValue.Association t → (e : EntityValue) → Contains t.contained_entities e ↔ AssociatesIn v e
in_association v t is e = (
  λ at. (t, is, at),
  λ (a, at, has).
      let same : a ≡ t = cc (is, at) in
      subst (λ (b : AssociationValue). Contains b.contained_entities e) same has,
)

pub of_bytes : (bytes : List ℕ) (v : BodyValue) → HasBody bytes v → ((b : BodyValue) → HasBody bytes b → v ≡ b) → (e : EntityValue) → AssociatesIn v e ↔ Associates bytes e
of_bytes bytes v has only e = (
  λ (a, is, at). (a, subst (HasBody bytes) is has, at),
  λ (a, body, at). (a, only (BodyValue.Association a) body, at),
)

-- of the entities of a list some are noted, and these are left
abbrev pub IsOnTheWay : BTreeSet (ℕ × ℕ × ℕ) → List EntityValue → BTreeSet (ℕ × ℕ × ℕ) → List EntityValue → Type 0
IsOnTheWay old all set left = (e : EntityValue) → (HasEntity set e ⊎ Contains left e) ↔ (HasEntity old e ⊎ Contains all e)

further : (x e : EntityValue) (xs : List EntityValue) → Contains xs e → Contains (x ∷ xs) e
further x e xs (k, less, is) = (suc k, omega (arith, less), is)

first_or_later : (x e : EntityValue) (xs : List EntityValue) → Contains (x ∷ xs) e → (x ≡ e) ⊎ Contains xs e
first_or_later x e xs (zero, less, is) = inl is
first_or_later x e xs (suc k, less, is) = inr (k, omega (arith, less), is)

-- nothing more is noted
pub noted_none : (set : BTreeSet (ℕ × ℕ × ℕ)) (Is : EntityValue → Type 0) → ((e : EntityValue) → ¬ Is e) → NotesEntities set Is set
noted_none set Is none e = (λ h. inl h, λ h. elim h [ inl had ↦ had | inr is ↦ absurd (none e is) ])

-- the same of what is so of the same entities
noted_same : (old new : BTreeSet (ℕ × ℕ × ℕ)) (Is Was : EntityValue → Type 0) → ((e : EntityValue) → Is e ↔ Was e) → NotesEntities old Is new → NotesEntities old Was new
noted_same old new Is Was same notes e = (
  λ h. elim ((notes e).0 h) [ inl had ↦ inl had | inr is ↦ inr ((same e).0 is) ],
  λ h. (notes e).1 (elim h [ inl had ↦ inl had | inr was ↦ inr ((same e).1 was) ]),
)

-- so where the call's result is handed on
pub noted_on : {T E : Type 0} (old new : BTreeSet (ℕ × ℕ × ℕ)) (Is Was : EntityValue → Type 0) → ((e : EntityValue) → Is e ↔ Was e) → (r : Result T E)
    → OnOk r (NotesEntities old Is new) → OnOk r (NotesEntities old Was new)
noted_on old new Is Was same (Ok t) notes = noted_same old new Is Was same notes
noted_on old new Is Was same (Err e) notes = notes

-- what is left of a list, and what was noted of it
pub list_begun : (old : BTreeSet (ℕ × ℕ × ℕ)) (all left : List EntityValue) → left ≡ all → IsOnTheWay old all old left
list_begun old all left is e = (
  λ h. elim h [ inl had ↦ inl had | inr at ↦ inr (subst (λ zs. Contains zs e) is at) ],
  λ h. elim h [ inl had ↦ inl had | inr at ↦ inr (subst (λ zs. Contains zs e) (sym is) at) ],
)

pub list_on : (old set next : BTreeSet (ℕ × ℕ × ℕ)) (all xs ys : List EntityValue) (x : EntityValue) → IsOnTheWay old all set xs → xs ≡ x ∷ ys → NotesEntities set (λ e. x ≡ e) next
    → IsOnTheWay old all next ys
list_on old set next all xs ys x before is notes e = (
  λ h. elim h [
    | inl has ↦ elim ((notes e).0 has) [ inl had ↦ (before e).0 (inl had) | inr same ↦ (before e).0 (inr (subst (λ zs. Contains zs e) (sym is) (here x e ys same))) ]
    | inr at ↦ (before e).0 (inr (subst (λ zs. Contains zs e) (sym is) (further x e ys at)))
  ],
  λ h. elim ((before e).1 h) [
    | inl had ↦ inl ((notes e).1 (inl had))
    | inr at ↦ elim (first_or_later x e ys (subst (λ zs. Contains zs e) is at)) [ inl same ↦ inl ((notes e).1 (inr same)) | inr later ↦ inr later ]
  ],
)

pub list_ended : (old set : BTreeSet (ℕ × ℕ × ℕ)) (all left : List EntityValue) → IsOnTheWay old all set left → left ≡ [] → NotesEntities old (Contains all) set
list_ended old set all left way none e = (
  λ has. (way e).0 (inl has),
  λ h. elim ((way e).1 h) [ inl has ↦ has | inr at ↦ absurd (nowhere e (subst (λ zs. Contains zs e) none at)) ],
)

-- ---- the records that were looked at

module _ (plan : Plan) (n : ℕ) where
  abbrev Has : ℕ → EntityValue → Type 0
  Has j e = (r : PlannedRecord) × (slice_get (records_of plan n) j ≡ Some r) × Associates r.bytes.items e

  -- the set has just what the first so many records contain
  abbrev pub AreContainedBelow : ℕ → BTreeSet (ℕ × ℕ × ℕ) → Type 0
  AreContainedBelow count set = (e : EntityValue) → HasEntity set e ↔ ((j : ℕ) × (j < count) × Has j e)

  pub contained_of_none : (set : BTreeSet (ℕ × ℕ × ℕ)) → ((k : ℕ × ℕ × ℕ) → contains by_entity set k ≡ false) → AreContainedBelow 0 set
  contained_of_none set none e = (λ h. absurd (true≢false (sym h ∙ none (entity_key e))), λ (j, less, has). absurd (omega (arith, less)))

  -- one record more
  pub contained_more : (count : ℕ) (set next : BTreeSet (ℕ × ℕ × ℕ)) (x : PlannedRecord) (bytes : List ℕ) → AreContainedBelow count set
      → slice_get (records_of plan n) count ≡ Some x → bytes ≡ x.bytes.items → NotesEntities set (Associates bytes) next → AreContainedBelow (count + 1) next
  contained_more count set next x bytes below there same notes e = (
    λ h. elim ((notes e).0 h) [
      | inl had ↦ (let (j, less, has) = (below e).0 had in (j, omega (arith, less), has))
      | inr is ↦ (count, omega arith, (x, there, subst (λ (b : List ℕ). Associates b e) same is))
    ],
    λ (j, less, (r, at, is)). (notes e).1 (elim (cases_lt j count) [
      | inl before ↦ inl ((below e).1 (j, before, (r, at, is)))
      | inr from ↦
          let last : j ≡ count = omega (arith, less, from) in
          let P : ℕ → Type 0 = λ k. slice_get (records_of plan n) k ≡ Some r in
          let one : r ≡ x = same_Some r x (sym (subst P last at) ∙ there) in
          inr (subst (λ (b : List ℕ). Associates b e) (sym same) (subst (λ (z : PlannedRecord). Associates z.bytes.items e) one is))
    ]),
  )

  pub contained_of_all : (count : ℕ) (set : BTreeSet (ℕ × ℕ × ℕ)) → length (records_of plan n) ≤ count → AreContainedBelow count set → AreContained plan n set
  contained_of_all count set long below e = (
    λ h. (let (j, less, (r, at, is)) = (below e).0 h in (j, r, at, is)),
    λ (j, r, at, is). (below e).1 (j, omega (arith, long, slice_get_within (records_of plan n) j r at), (r, at, is)),
  )

  -- beyond the nodes
  pub none_associated : (e : EntityValue) → length plan.nodes.items ≤ n → IsTrue false ↔ HasAssociationOf plan n e
  none_associated e past = (λ h. absurd (cc h), λ (j, r, there, at). absurd (omega (arith, past, record_within plan n j r there)))
