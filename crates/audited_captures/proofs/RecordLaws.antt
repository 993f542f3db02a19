-- What was told of records, judged exchange by exchange.
use Rattle.std.{proofs.Common.{◌≡◌, ◌⊎◌, ◌↔◌, ℕ, suc, zero, ◌+◌, ◌<◌, ◌==◌, ◌&&◌, Bool, true, false, List, [], ◌∷◌, ◌++◌, length, refl, ap, sym, ◌∙◌, subst, inl, inr, take, drop, get_or, arith, Ok, Err, Result, cond, map, add-one}, specs.Prelude.{Option, Some, None, MatchOption, IfOk, OnOk, slice_get, option_map, if◌then◌else◌}, specs.List.{flat_map, position, position_or_len}, proofs.lemmas.Option.{same_Some, slice_get-get_or, slice_get-map}, proofs.lemmas.Bool.{cases_lt, eqb-true, eq-eqb, lt-ltb}, proofs.lemmas.List.{take_more, length-take, length-append, get_or-take, get_or_append_left}, proofs.Math.Seq.{get_or-append_seam, drop-cons}, proofs.Math.Dec.{ltb}}
use Rattle.pldm_message.specs.Pdrs.{PartRequest, Part}
use Rattle.pdr_repository.{specs.Parts.{PartAnswer}, specs.Records.{Entry, handle_at}}
use Rattle.audited_captures.{specs.RecordParts.{RecordPartValue}, specs.RecordPlans.{IsPartFrom, IsAnswerFrom, IsToldFrom, IsPartFault, IsAnswerFault, IsFaultFrom}, specs.RecordReadings.{place_of, IsRefused, IsToldAt, IsPartAt, Begins, First, Next}, specs.AsPlanned.{IsAmong}, specs.RecordSteps.{start_if, starts_of, better, IsLeadFrom, IsLead, AreLeads, AddsLeads, IsFaultAt, IsVerdict, IsVerdictAt, IsVerdictOver, AreVerdicts}, specs.declared.record_readings.Lead.{Lead}, specs.declared.record_readings.Verdict.{Verdict}, specs.declared.record_faults.RecordFault.{RecordFault}}
use Rattle.audited_captures.specs.declared.record_faults.RecordFault.TheVariants as fault
use Rattle.audited_captures.specs.declared.record_readings.Verdict.TheVariants as verdict

-- ---- lists

module _ {A : Type 0} (x : A) where
  pub among_left : (xs ys : List A) → IsAmong x xs → IsAmong x (xs ++ ys)
  among_left [] ys among = absurd among
  among_left (z ∷ xs) ys (inl same) = inl same
  among_left (z ∷ xs) ys (inr among) = inr (among_left xs ys among)

  pub among_right : (xs ys : List A) → IsAmong x ys → IsAmong x (xs ++ ys)
  among_right [] ys among = among
  among_right (z ∷ xs) ys among = inr (among_right xs ys among)

  pub among_either : (xs ys : List A) → IsAmong x (xs ++ ys) → IsAmong x xs ⊎ IsAmong x ys
  among_either [] ys among = inr among
  among_either (z ∷ xs) ys (inl same) = inl (inl same)
  among_either (z ∷ xs) ys (inr among) = elim (among_either xs ys among) [ inl here ↦ inl (inr here) | inr there ↦ inr there ]

  pub is_only : (y : A) → IsAmong x (y ∷ []) → y ≡ x
  is_only y (inl same) = same
  is_only y (inr none) = absurd none

pub among_of : {A : Type 0} (items : List A) (i : ℕ) (item : A) → i < length items → item ≡ get_or items i item → IsAmong item items
among_of [] i item within is = absurd (omega (arith, within))
among_of (x ∷ xs) zero item within is = inl (sym is)
among_of (x ∷ xs) (suc i) item within is = inr (among_of xs i item (omega (arith, within)) is)

pub among_here : {A : Type 0} (items : List A) (i : ℕ) (d : A) → i < length items → IsAmong (get_or items i d) items
among_here [] i d within = absurd (omega (arith, within))
among_here (x ∷ xs) zero d within = inl refl
among_here (x ∷ xs) (suc i) d within = inr (among_here xs i d (omega (arith, within)))

pub one_more : {A : Type 0} (items : List A) (i : ℕ) (item : A) → i < length items → item ≡ get_or items i item → take (i + 1) items ≡ take i items ++ item ∷ []
one_more items i item within is = take_more items i item within ∙ ap (λ x. take i items ++ x ∷ []) (sym is)

pub item_at : {A B : Type 0} (f : A → B) (items : List A) (i : ℕ) (item : A) → i < length items → item ≡ get_or items i item → slice_get (map f items) i ≡ Some (f item)
item_at f items i item within is = slice_get-map f items i ∙ ap (option_map f) (slice_get-get_or items i item within ∙ ap Some (sym is))

pub left_of : {A B : Type 0} (f : A → B) (items : List A) (i : ℕ) (item : A) → i < length items → item ≡ get_or items i item
    → map f (drop i items) ≡ f item ∷ map f (drop (i + 1) items)
left_of f items i item within is =
    ap (map f) (drop-cons items i item within ∙ ap (λ x. x ∷ drop (suc i) items) (sym is)) ∙ ap (λ k. f item ∷ map f (drop k items)) (sym (add-one i))

pub place_here : (p : Entry → Bool) (xs : List Entry) (i : ℕ) → position_or_len p xs ≡ i → i < length xs → position p xs ≡ Some i
place_here p xs i is within =
    subst (λ k. cond (ltb k (length xs)) (Some k) None ≡ Some i) (sym is) (ap (λ b. cond b (Some i) None) (lt-ltb i (length xs) within))

push_before : {A : Type 0} (xs : List A) (y : A) (i : ℕ) → i < length xs → slice_get (xs ++ y ∷ []) i ≡ slice_get xs i
push_before xs y i within =
    slice_get-get_or (xs ++ y ∷ []) i y (omega (arith, within, length-append xs (y ∷ []))) ∙ ap Some (get_or_append_left xs (y ∷ []) y i within)
    ∙ sym (slice_get-get_or xs i y within)

push_at : {A : Type 0} (xs : List A) (y : A) → slice_get (xs ++ y ∷ []) (length xs) ≡ Some y
push_at xs y = slice_get-get_or (xs ++ y ∷ []) (length xs) y (omega (arith, length-append xs (y ∷ []))) ∙ ap Some (get_or-append_seam xs y [] y)

pub ok_also : {A E : Type 0} (P Q : A → Type 0) (r : Result A E) → ((a : A) → P a → Q a) → IfOk r P → IfOk r Q
ok_also P Q (Ok a) so is = so a is
ok_also P Q (Err e) so is = is

pub on_also : {A E : Type 0} (P Q : Type 0) (r : Result A E) → (P → Q) → OnOk r P → OnOk r Q
on_also P Q (Ok a) so is = so is
on_also P Q (Err e) so is = is

-- ---- an answer that is wrong isn't as planned

byte_same : (found rest : List ℕ) (k : ℕ) → found ≡ take (length found) rest → k < length found → slice_get found k ≡ slice_get rest k
byte_same found rest k is within =
    let long : k < length rest = omega (arith, within, ap length is, length-take (length found) rest) in
    slice_get-get_or found k 0 within ∙ ap (λ (l : List ℕ). Some (get_or l k 0)) is ∙ ap Some (get_or-take (length found) rest k 0 within)
    ∙ sym (slice_get-get_or rest k 0 long)

part_not : (next : ℕ) (bytes : List ℕ) (r : PartRequest) (offset : ℕ) (p : Part) (f : RecordFault) → IsPartFault next bytes r offset p f → IsPartFrom next bytes r offset p → ⊥
part_not next bytes r offset p fault.Unreadable is told = absurd is
part_not next bytes r offset p (fault.Failed code) is told = absurd is
part_not next bytes r offset p (fault.Size found asked) (long, most, inl none) told = told.some (sym long ∙ none)
part_not next bytes r offset p (fault.Size found asked) (long, most, inr more) told = absurd (omega (arith, long, most, more, told.few))
part_not next bytes r offset p (fault.Byte byte) (k, same, unlike) told = unlike.here (byte_same p.bytes (drop offset bytes) k told.taken unlike.within)
part_not next bytes r offset p (fault.Next found planned) (is, wanted, other) told = other (is ∙ told.follows ∙ sym wanted)
part_not next bytes r offset p (fault.Flag found planned) (is, wanted, other) told = other (is ∙ told.flag ∙ sym wanted)
part_not next bytes r offset p (fault.Check found planned) (is, wanted, other) told = other (told.check found is)

answer_not : (next : ℕ) (bytes : List ℕ) (r : PartRequest) (offset : ℕ) (t : Option PartAnswer) (f : RecordFault) → IsAnswerFault next bytes r offset t f → IsAnswerFrom next bytes r offset t → ⊥
answer_not next bytes r offset None f is told = absurd told
answer_not next bytes r offset (Some (Ok p)) f is told = part_not next bytes r offset p f is told
answer_not next bytes r offset (Some (Err code)) f (same, not_so) told = not_so told

pub fault_not : (records : List Entry) (place offset : ℕ) (x : RecordPartValue) (f : RecordFault) → IsFaultAt records place offset x f → IsToldAt records place offset x → ⊥
fault_not records place offset x f (e, at, is) (d, there, told) =
    let same : d ≡ e = same_Some d e (sym there ∙ at) in
    answer_not (handle_at records (place + 1)) e.bytes x.asked offset x.told f is
    (subst (λ (b : Entry). IsToldFrom (handle_at records (place + 1)) b.bytes offset x) same told)

pub told_of_part : (records : List Entry) (place offset : ℕ) (x : RecordPartValue) (p : Part) (goes_on : Bool) → IsPartAt records place offset x p goes_on → IsToldAt records place offset x
told_of_part records place offset x p goes_on part =
    (part.entry, part.stands, subst (λ (t : Option PartAnswer). IsAnswerFrom (handle_at records (place + 1)) part.entry.bytes x.asked offset t) (sym part.told) part.is)

pub match_at : (records : List Entry) (place next offset : ℕ) (bytes : List ℕ) (x : RecordPartValue) (e : Entry) (found : Option RecordFault) → slice_get records place ≡ Some e
    → next ≡ handle_at records (place + 1) → bytes ≡ e.bytes → MatchOption found (IsToldFrom next bytes offset x) (λ f. IsFaultFrom next bytes offset x f)
    → MatchOption found (IsToldAt records place offset x) (λ f. IsFaultAt records place offset x f)
match_at records place next offset bytes x e None at is same told =
    (e, at, subst (λ n. IsToldFrom n e.bytes offset x) is (subst (λ (b : List ℕ). IsToldFrom next b offset x) same told))
match_at records place next offset bytes x e (Some f) at is same wrong =
    (e, at, subst (λ n. IsFaultFrom n e.bytes offset x f) is (subst (λ (b : List ℕ). IsFaultFrom next b offset x f) same wrong))

pub refused_if : (records : List Entry) (place offset : ℕ) (x : RecordPartValue) → IsToldAt records place offset x → ((p : Part) (left : Bool) → ¬ IsPartAt records place offset x p left) → IsRefused x
refused_if records place offset x (e, at, told) no_part = by x.told refl told
  where
    by : (t : Option PartAnswer) → x.told ≡ t → IsAnswerFrom (handle_at records (place + 1)) e.bytes x.asked offset t → IsRefused x
    by None is told = absurd told
    by (Some (Ok p)) is told = absurd (no_part p _ (record { entry = e; stands = at; told = is; is = told; left = refl }))
    by (Some (Err code)) is told = (code, is)

-- ---- one offset more

module _ (records : List Entry) (place : ℕ) (x : RecordPartValue) where
  last_over : (starts : List ℕ) (o : ℕ) (w : Verdict) → ((k : ℕ) → IsAmong k starts → ¬ IsToldAt records place k x) → IsVerdictAt records place o x w
      → IsVerdictOver records place (λ k. IsAmong k (starts ++ o ∷ [])) x w
  last_over starts o verdict.Unknown none at = absurd at
  last_over starts o (verdict.Extra handle) none at = absurd at
  last_over starts o verdict.Refused none at = (o, among_right o starts (o ∷ []) (inl refl), at)
  last_over starts o (verdict.Reads there is_end) none at = (o, among_right o starts (o ∷ []) (inl refl), at)
  last_over starts o (verdict.Differs there f) none at = (
    (o, among_right o starts (o ∷ []) (inl refl), at),
    λ k among told. elim (among_either k starts (o ∷ []) among) [
      | inl before ↦ none k before told
      | inr last ↦ fault_not records place o x f at.1 (subst (λ j. IsToldAt records place j x) (sym (is_only k o last)) told)
    ],
  )

  pub over_more : (starts : List ℕ) (o : ℕ) (v w : Verdict) → IsVerdictOver records place (λ k. IsAmong k starts) x v → IsVerdictAt records place o x w
      → IsVerdictOver records place (λ k. IsAmong k (starts ++ o ∷ [])) x (better v w)
  over_more starts o verdict.Unknown w over at = last_over starts o w (λ k among told. over k among) at
  over_more starts o verdict.Refused w (k, among, is) at = (k, among_left k starts (o ∷ []) among, is)
  over_more starts o (verdict.Reads there is_end) w (k, among, is) at = (k, among_left k starts (o ∷ []) among, is)
  over_more starts o (verdict.Extra handle) w over at = absurd over
  over_more starts o (verdict.Differs there f) w over at = last_over starts o w over.1 at

  pub over_so : (S T : ℕ → Type 0) (v : Verdict) → ((o : ℕ) → S o ↔ T o) → IsVerdictOver records place S x v → IsVerdictOver records place T x v
  over_so S T verdict.Unknown so over = λ o is. over o ((so o).1 is)
  over_so S T verdict.Refused so (o, is, at) = (o, (so o).0 is, at)
  over_so S T (verdict.Reads there is_end) so (o, is, at) = (o, (so o).0 is, at)
  over_so S T (verdict.Extra handle) so over = absurd over
  over_so S T (verdict.Differs there f) so ((o, is, at), none) = ((o, (so o).0 is, at), λ k begins. none k ((so k).1 begins))

-- ---- where a request begins

pub begins_place : (records : List Entry) (parts : List RecordPartValue) {i place o : ℕ} (x : RecordPartValue) → Begins records parts i place o → slice_get parts i ≡ Some x
    → place_of records x.asked.handle ≡ Some place
begins_place records parts x (First i place y at first is) here = subst (λ (z : RecordPartValue). place_of records z.asked.handle ≡ Some place) (same_Some y x (sym at ∙ here)) is
begins_place records parts x (Next i j place offset y z p at next is before there begins part handed) here =
    subst (λ (z : RecordPartValue). place_of records z.asked.handle ≡ Some place) (same_Some y x (sym at ∙ here)) is

start_is : (place handle o : ℕ) (lead : Lead) → IsAmong o (start_if place handle lead) → (lead.place ≡ place) × (lead.handle ≡ handle) × (lead.offset ≡ o)
start_is place handle o lead among = by (lead.place == place) (lead.handle == handle) refl refl among
  where
    by : (a b : Bool) → (lead.place == place) ≡ a → (lead.handle == handle) ≡ b → IsAmong o (if a && b then lead.offset ∷ [] else []) → (lead.place ≡ place) × (lead.handle ≡ handle) × (lead.offset ≡ o)
    by true true is_a is_b among = (eqb-true lead.place place is_a, eqb-true lead.handle handle is_b, is_only o lead.offset among)
    by true false is_a is_b among = absurd among
    by false b is_a is_b among = absurd among

start_of : (place handle : ℕ) (lead : Lead) → lead.place ≡ place → lead.handle ≡ handle → start_if place handle lead ≡ lead.offset ∷ []
start_of place handle lead is_a is_b =
    ap (λ a. if a && (lead.handle == handle) then lead.offset ∷ [] else []) (eq-eqb lead.place place is_a)
    ∙ ap (λ b. if b then lead.offset ∷ [] else []) (eq-eqb lead.handle handle is_b)

flat_is : (place handle o : ℕ) (leads : List Lead) → IsAmong o (flat_map (start_if place handle) leads) → (lead : Lead) × IsAmong lead leads × IsAmong o (start_if place handle lead)
flat_is place handle o [] among = absurd among
flat_is place handle o (l ∷ ls) among = elim (among_either o (start_if place handle l) (flat_map (start_if place handle) ls) among) [
  | inl here ↦ (l, inl refl, here)
  | inr there ↦ (let found = flat_is place handle o ls there in (found.0, inr found.1, found.2))
]

flat_of : (place handle o : ℕ) (leads : List Lead) (lead : Lead) → IsAmong lead leads → IsAmong o (start_if place handle lead) → IsAmong o (flat_map (start_if place handle) leads)
flat_of place handle o [] lead among is = absurd among
flat_of place handle o (l ∷ ls) lead (inl same) is =
    among_left o (start_if place handle l) (flat_map (start_if place handle) ls) (subst (λ (k : Lead). IsAmong o (start_if place handle k)) (sym same) is)
flat_of place handle o (l ∷ ls) lead (inr among) is = among_right o (start_if place handle l) (flat_map (start_if place handle) ls) (flat_of place handle o ls lead among is)

module _ (records : List Entry) (parts : List RecordPartValue) (i : ℕ) (x : RecordPartValue) (at : slice_get parts i ≡ Some x) (leads : List Lead) (are : AreLeads records parts i leads) where
  start_begins : (place o : ℕ) → place_of records x.asked.handle ≡ Some place → IsAmong o (starts_of place x.asked leads) → Begins records parts i place o
  start_begins place o is among = by (x.asked.operation == 1) (x.asked.operation == 0) refl refl among
    where
      by : (a b : Bool) → (x.asked.operation == 1) ≡ a → (x.asked.operation == 0) ≡ b
          → IsAmong o (if a then 0 ∷ [] else if b then flat_map (start_if place x.asked.transfer) leads else []) → Begins records parts i place o
      by true b is_a is_b among = subst (λ k. Begins records parts i place k) (is_only o 0 among) (First i place x at (eqb-true x.asked.operation 1 is_a) is)
      by false true is_a is_b among =
          let found = flat_is place x.asked.transfer o leads among in
          let lead = found.0 in
          let here = start_is place x.asked.transfer o lead found.2 in
          let was = (are lead).0 found.1 in
          let begun : Begins records parts was.index place was.offset = subst (λ k. Begins records parts was.index k was.offset) here.0 was.begins in
          let part : IsPartAt records place was.offset was.exchange was.hands.part true = subst (λ k. IsPartAt records k was.offset was.exchange was.hands.part true) here.0 was.hands.is in
          subst (λ k. Begins records parts i place k) (sym was.hands.leads ∙ here.2)
          (Next i was.index place was.offset x was.exchange was.hands.part at (eqb-true x.asked.operation 0 is_b) is was.before was.at begun part (sym was.hands.handed ∙ here.1))
      by false false is_a is_b among = absurd among

  begins_start : {place o : ℕ} → Begins records parts i place o → IsAmong o (starts_of place x.asked leads)
  begins_start (First k place y there first is) =
      let same : y ≡ x = same_Some y x (sym there ∙ at) in
      let one : x.asked.operation ≡ 1 = ap (λ (z : RecordPartValue). z.asked.operation) (sym same) ∙ first in
      subst (λ b. IsAmong 0 (if b then 0 ∷ [] else if x.asked.operation == 0 then flat_map (start_if place x.asked.transfer) leads else [])) (sym (eq-eqb x.asked.operation 1 one)) (inl refl)
  begins_start (Next k j place offset y z p there next is before earlier begins part handed) =
      let same : y ≡ x = same_Some y x (sym there ∙ at) in
      let none : x.asked.operation ≡ 0 = ap (λ (z : RecordPartValue). z.asked.operation) (sym same) ∙ next in
      let lead : Lead = record { place = place; handle = p.transfer; offset = offset + length p.bytes } in
      let among : IsAmong lead leads = (are lead).1 (record { index = j; offset = offset; exchange = z; before = before; at = earlier; begins = begins; hands = record { part = p; is = part; handed = refl; leads = refl } }) in
      let asked : p.transfer ≡ x.asked.transfer = handed ∙ ap (λ (z : RecordPartValue). z.asked.transfer) same in
      let here : IsAmong (offset + length p.bytes) (start_if place x.asked.transfer lead) =
      subst (λ (l : List ℕ). IsAmong (offset + length p.bytes) l) (sym (start_of place x.asked.transfer lead refl asked)) (inl refl) in
      let all = flat_of place x.asked.transfer (offset + length p.bytes) leads lead among here in
      subst (λ n. IsAmong (offset + length p.bytes) (if n == 1 then 0 ∷ [] else if n == 0 then flat_map (start_if place x.asked.transfer) leads else [])) (sym none) all

  pub starts_are : (place : ℕ) → place_of records x.asked.handle ≡ Some place → (o : ℕ) → IsAmong o (starts_of place x.asked leads) ↔ Begins records parts i place o
  starts_are place is o = (start_begins place o is, begins_start)

  -- ---- what was handed out by one exchange more

  earlier : (lead : Lead) → IsLead records parts i lead → IsLead records parts (i + 1) lead
  earlier lead was = record { index = was.index; offset = was.offset; exchange = was.exchange; before = omega (arith, was.before); at = was.at; begins = was.begins; hands = was.hands }

  pub leads_more : (place : ℕ) (new : List Lead) → place_of records x.asked.handle ≡ Some place → AddsLeads records place (starts_of place x.asked leads) x leads new → AreLeads records parts (i + 1) new
  leads_more place new is adds lead = (
    λ among. elim ((adds lead).0 among) [
      | inl before ↦ earlier lead ((are lead).0 before)
      | inr (o, start, same, hands) ↦ record {
        index = i;
        offset = o;
        exchange = x;
        before = omega arith;
        at = at;
        begins = subst (λ k. Begins records parts i k o) (sym same) (start_begins place o is start);
        hands = hands;
      }
    ],
    λ was. elim (cases_lt was.index i) [
      | inl before ↦ (adds lead).1 (inl ((are lead).1 (record { index = was.index; offset = was.offset; exchange = was.exchange; before = before; at = was.at; begins = was.begins; hands = was.hands })))
      | inr last ↦ (
          let same : was.index ≡ i = omega (arith, last, was.before) in
          let here : slice_get parts i ≡ Some was.exchange = subst (λ k. slice_get parts k ≡ Some was.exchange) same was.at in
          let it : was.exchange ≡ x = same_Some was.exchange x (sym here ∙ at) in
          let begun : Begins records parts i lead.place was.offset = subst (λ k. Begins records parts k lead.place was.offset) same was.begins in
          let there : lead.place ≡ place = same_Some lead.place place (sym (begins_place records parts x begun at) ∙ is) in
          (adds lead).1 (inr (
            was.offset,
            begins_start (subst (λ k. Begins records parts i k was.offset) there begun),
            there,
            subst (λ (y : RecordPartValue). IsLeadFrom records was.offset y lead) it was.hands,
          )))
    ],
  )

  pub leads_same : place_of records x.asked.handle ≡ None → AreLeads records parts (i + 1) leads
  leads_same is lead = (
    λ among. earlier lead ((are lead).0 among),
    λ was. elim (cases_lt was.index i) [
      | inl before ↦ (are lead).1 (record { index = was.index; offset = was.offset; exchange = was.exchange; before = before; at = was.at; begins = was.begins; hands = was.hands })
      | inr last ↦ (
          let same : was.index ≡ i = omega (arith, last, was.before) in
          let begun : Begins records parts i lead.place was.offset = subst (λ k. Begins records parts k lead.place was.offset) same was.begins in
          let there : Some lead.place ≡ None = sym (begins_place records parts x begun at) ∙ is in
          absurd (cc))
    ],
  )

-- ---- the handles of one offset more

pub push_iff : (l lead : Lead) (old : List Lead) → IsAmong l (old ++ lead ∷ []) ↔ (IsAmong l old ⊎ (lead ≡ l))
push_iff l lead old = (
  λ among. elim (among_either l old (lead ∷ []) among) [ inl before ↦ inl before | inr last ↦ inr (is_only l lead last) ],
  λ is. elim is [ inl before ↦ among_left l old (lead ∷ []) before | inr same ↦ among_right l old (lead ∷ []) (inl same) ],
)

module _ (records : List Entry) (place : ℕ) (x : RecordPartValue) (o : ℕ) where
  abbrev Handed : Lead → Type 0
  Handed lead = (lead.place ≡ place) × IsLeadFrom records o x lead

  pub none_added : (old : List Lead) → ((l : Lead) → l.place ≡ place → ¬ IsLeadFrom records o x l) → (l : Lead) → IsAmong l old ↔ (IsAmong l old ⊎ Handed l)
  none_added old none l = (λ among. inl among, λ is. elim is [ inl before ↦ before | inr (same, hands) ↦ absurd (none l same hands) ])

  pub one_added : (old new : List Lead) (one : Lead) → ((l : Lead) → Handed l ↔ (one ≡ l)) → ((l : Lead) → IsAmong l new ↔ (IsAmong l old ⊎ (one ≡ l)))
      → (l : Lead) → IsAmong l new ↔ (IsAmong l old ⊎ Handed l)
  one_added old new one handed push l = (
    λ among. elim ((push l).0 among) [ inl before ↦ inl before | inr same ↦ inr ((handed l).1 same) ],
    λ is. elim is [ inl before ↦ (push l).1 (inl before) | inr it ↦ (push l).1 (inr ((handed l).0 it)) ],
  )

  pub adds_more : (starts : List ℕ) (old mid new : List Lead) → AddsLeads records place starts x old mid → ((l : Lead) → IsAmong l new ↔ (IsAmong l mid ⊎ Handed l))
      → AddsLeads records place (starts ++ o ∷ []) x old new
  adds_more starts old mid new adds push l = (
    λ among. elim ((push l).0 among) [
      | inl before ↦ elim ((adds l).0 before) [
        | inl first ↦ inl first
        | inr (k, there, same, hands) ↦ inr (k, among_left k starts (o ∷ []) there, same, hands)
      ]
      | inr (same, hands) ↦ inr (o, among_right o starts (o ∷ []) (inl refl), same, hands)
    ],
    λ is. elim is [
      | inl before ↦ (push l).1 (inl ((adds l).1 (inl before)))
      | inr (k, among, same, hands) ↦ elim (among_either k starts (o ∷ []) among) [
        | inl earlier ↦ (push l).1 (inl ((adds l).1 (inr (k, earlier, same, hands))))
        | inr last ↦ (push l).1 (inr (same, subst (λ j. IsLeadFrom records j x l) (sym (is_only k o last)) hands))
      ]
    ],
  )

-- ---- one verdict more

pub verdicts_more : (records : List Entry) (parts : List RecordPartValue) (k : ℕ) (x : RecordPartValue) (v : Verdict) (old : List Verdict) → AreVerdicts records parts k old → slice_get parts k ≡ Some x
    → IsVerdict records parts k x v → AreVerdicts records parts (k + 1) (old ++ v ∷ [])
verdicts_more records parts k x v old are at is = record {
  as_many = length-append old (v ∷ []) ∙ ap (λ n. n + 1) are.as_many;
  each = λ i y w within here there. elim (cases_lt i k) [
    | inl before ↦ are.each i y w before here (sym (push_before old v i (omega (arith, before, are.as_many))) ∙ there)
    | inr last ↦ (
        let same : i ≡ k = omega (arith, within, last) in
        let it : x ≡ y = same_Some x y (sym at ∙ subst (λ j. slice_get parts j ≡ Some y) same here) in
        let one : v ≡ w = same_Some v w (sym (push_at old v) ∙ subst (λ j. slice_get (old ++ v ∷ []) j ≡ Some w) (same ∙ sym are.as_many) there) in
        subst (λ j. IsVerdict records parts j y w) (sym same) (subst (λ (z : RecordPartValue). IsVerdict records parts k z w) it (subst (λ (u : Verdict). IsVerdict records parts k x u) one is)))
  ];
}
