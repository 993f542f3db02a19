-- Records one place after another.
use Rattle.std.{proofs.Common.{◌≡◌, ◌≢◌, ℕ, zero, suc, ◌+◌, Bool, cond, ◌==◌, ◌<◌, List, [], ◌∷◌, ◌++◌, length, map, take, get_or, true, false, position, Option, Some, None, Result, Ok, Err, refl, sym, ◌∙◌, ap, subst, add-one, add-zero, arith, inl, inr, Bor}, specs.Prelude.{◌≤◌, not, nat_lt, option_map, unwrap_or, IfOk}, specs.List.{position_or_len, cons_option, filter_map, range_with_len}, specs.Option.{option_or, option_to_list}, proofs.lemmas.Bool.{cond-true, cond-false, lt-ltb, le-ltb, cases_lt}, proofs.lemmas.List.{length-map, length-take-le, map-append, take_more}}
use Rattle.plan_values.{specs.declared.certificate.Certificate.{Certificate}, specs.declared.plan.Plan.{Plan}, specs.declared.terminus.PlannedRecord.{PlannedRecord}, specs.declared.terminus.PlannedTerminus.{PlannedTerminus}}
use Rattle.pdr_repository.{specs.declared.list_terminus.ListTerminus.{ListTerminus}, specs.ListTermini.{list_records}, specs.Records.{Entry, IsLawful}}
use Rattle.net_tables.{specs.Repositories.{terminus_of, records_of, places_of, entry_of, record_at, records_by_place, RecordsHaveOrder}, specs.TwoPlans.{Tables}}
use Rattle.net_rules.specs.Rules.{Accepts}
use Rattle.net_runs.{specs.Walkers.{walked_at_start}, proofs.ByPlace.{by_place_length, is_lawful}}
use Rattle.net_sim.specs.WalkedStanding.{NetworkValue, StandsForWalked}
use Rattle.net_check.proofs.Accepted.{accepted_orders}

-- where the first of a list stands, the list is one longer
position_more : (here : Bool) (n l : ℕ) → cond (nat_lt (cond (not here) (1 + n) 0) (suc l)) (Some (cond (not here) (1 + n) 0)) None
    ≡ cond here (Some 0) (option_map suc (cond (nat_lt n l) (Some n) None))
position_more true n l = cond-true (nat_lt 0 (suc l)) _ _ (lt-ltb 0 (suc l) (omega arith))
position_more false n l = elim (cases_lt n l) [
  | inl lt ↦ (let here : cond (nat_lt (1 + n) (suc l)) (Some (1 + n)) None ≡ Some (1 + n) = cond-true (nat_lt (1 + n) (suc l)) _ _ (lt-ltb (1 + n) (suc l) (omega (arith, lt))) in
      let there : cond (nat_lt n l) (Some n) None ≡ Some n = cond-true (nat_lt n l) _ _ (lt-ltb n l lt) in
      let same : 1 + n ≡ suc n = omega arith in
      here ∙ (ap (λ k. Some k) same ∙ sym (ap (option_map suc) there)))
  | inr le ↦ (let here : cond (nat_lt (1 + n) (suc l)) (Some (1 + n)) None ≡ None = cond-false (nat_lt (1 + n) (suc l)) _ _ (le-ltb (1 + n) (suc l) (omega (arith, le))) in
      let there : cond (nat_lt n l) (Some n) None ≡ None = cond-false (nat_lt n l) _ _ (le-ltb n l le) in
      here ∙ sym (ap (option_map suc) there))
]

position_push : (p : ℕ → Bool) (xs : List ℕ) (x : ℕ) → position p (xs ++ x ∷ []) ≡ option_or (position p xs) (cond (p x) (Some (length xs)) None)
position_push p [] x = alone (p x)
  where
    alone : (b : Bool) → cond (nat_lt (cond (not b) (1 + 0) 0) 1) (Some (cond (not b) (1 + 0) 0)) None ≡ cond b (Some 0) None
    alone true = refl
    alone false = refl
position_push p (y ∷ ys) x =
    position_more (p y) (position_or_len p (ys ++ x ∷ [])) (length (ys ++ x ∷ []))
    ∙ (ap (λ o. cond (p y) (Some 0) (option_map suc o)) (position_push p ys x)
    ∙ (pushed (p y) (position p ys) (p x) (length ys)
    ∙ ap (λ o. option_or o (cond (p x) (Some (suc (length ys))) None)) (sym (position_more (p y) (position_or_len p ys) (length ys)))))
  where
    later : (o : Option ℕ) (b : Bool) (n : ℕ) → option_map suc (option_or o (cond b (Some n) None)) ≡ option_or (option_map suc o) (cond b (Some (suc n)) None)
    later None true n = refl
    later None false n = refl
    later (Some q) b n = refl

    pushed : (here : Bool) (o : Option ℕ) (b : Bool) (n : ℕ) → cond here (Some 0) (option_map suc (option_or o (cond b (Some n) None)))
        ≡ option_or (cond here (Some 0) (option_map suc o)) (cond b (Some (suc n)) None)
    pushed true o b n = refl
    pushed false o b n = later o b n

-- the first record that is given a place, among one record more
pub first_given_more : {X : Type 0} (value : X → ℕ) (xs : List X) (i : ℕ) (x : X) (place : ℕ) → i < length xs → x ≡ get_or xs i x
    → position (λ given. given == place) (map value (take (i + 1) xs))
    ≡ option_or (position (λ given. given == place) (map value (take i xs))) (cond (value x == place) (Some i) None)
first_given_more value xs i x place within is =
    let p : ℕ → Bool = λ given. given == place in
    let few : length (map value (take i xs)) ≡ i = length-map (take i xs) value ∙ length-take-le i xs (omega arith) in
    let more : map value (take (i + 1) xs) ≡ map value (take i xs) ++ value x ∷ [] =
    ap (map value) (take_more xs i x within ∙ ap (λ y. take i xs ++ y ∷ []) (sym is)) ∙ map-append value (take i xs) (x ∷ []) in
    ap (position p) more
    ∙ (position_push p (map value (take i xs)) (value x)
    ∙ ap (λ n. option_or (position p (map value (take i xs))) (cond (value x == place) (Some n) None)) few)

-- one number more
pub filter_map_more : {X : Type 0} (h : ℕ → Option X) (a n : ℕ) → filter_map h (range_with_len a (n + 1)) ≡ filter_map h (range_with_len a n) ++ option_to_list (h (a + n))
filter_map_more h a n = ap (λ k. filter_map h (range_with_len a k)) (add-one n) ∙ more a n
  where
    joined : {X : Type 0} (o : Option X) (xs ys : List X) → cons_option o (xs ++ ys) ≡ cons_option o xs ++ ys
    joined None xs ys = refl
    joined (Some x) xs ys = refl

    alone : {X : Type 0} (o : Option X) → cons_option o [] ≡ option_to_list o
    alone None = refl
    alone (Some x) = refl

    more : (a n : ℕ) → filter_map h (range_with_len a (suc n)) ≡ filter_map h (range_with_len a n) ++ option_to_list (h (a + n))
    more a zero = alone (h a) ∙ ap (λ k. option_to_list (h k)) (sym (add-zero a))
    more a (suc n) =
        let further : a + 1 + n ≡ a + suc n = omega arith in
        ap (cons_option (h a)) (more (a + 1) n) ∙ (joined (h a) (filter_map h (range_with_len (a + 1) n)) (option_to_list (h (a + 1 + n)))
        ∙ ap (λ k. filter_map h (range_with_len a (suc n)) ++ option_to_list (h k)) further)

-- the records at so many places, and that at the next one
pub one_record_more : (listed : List PlannedRecord) (places : List ℕ) (place : ℕ) (before after : List Entry) (found : Option (Bor PlannedRecord))
    → option_map (λ r. r.now) found ≡ record_at listed places place
    → before ≡ filter_map (λ k. option_map entry_of (record_at listed places k)) (range_with_len 0 place)
    → after ≡ before ++ option_to_list (option_map (λ r. entry_of r.now) found)
    → after ≡ filter_map (λ k. option_map entry_of (record_at listed places k)) (range_with_len 0 (place + 1))
one_record_more listed places place before after found is all pushed =
    let h : ℕ → Option Entry = λ k. option_map entry_of (record_at listed places k) in
    let plain : 0 + place ≡ place = omega arith in
    pushed ∙ (ap (λ xs. xs ++ option_to_list (option_map (λ r. entry_of r.now) found)) all
    ∙ (ap (λ o. filter_map h (range_with_len 0 place) ++ option_to_list o) (seen found ∙ ap (option_map entry_of) is ∙ ap h (sym plain))
    ∙ sym (filter_map_more h 0 place)))
  where
    seen : (o : Option (Bor PlannedRecord)) → option_map (λ r. entry_of r.now) o ≡ option_map entry_of (option_map (λ r. r.now) o)
    seen None = refl
    seen (Some r) = refl

-- what stands for the numbers below one, and for that one
pub one_terminus_more : {B S : Type 0} (see : B → S) (h : ℕ → Option S) (n : ℕ) (before after : List B) (found : Option B) → option_map see found ≡ h n
    → map see before ≡ filter_map h (range_with_len 0 n) → after ≡ before ++ option_to_list found → map see after ≡ filter_map h (range_with_len 0 (n + 1))
one_terminus_more {B} {S} see h n before after found is all pushed =
    let plain : 0 + n ≡ n = omega arith in
    ap (map see) pushed ∙ (map-append see before (option_to_list found)
    ∙ (ap (λ xs. xs ++ map see (option_to_list found)) all
    ∙ (ap (λ xs. filter_map h (range_with_len 0 n) ++ xs) (seen found ∙ ap option_to_list (is ∙ ap h (sym plain)))
    ∙ sym (filter_map_more h 0 n))))
  where
    seen : (o : Option B) → map see (option_to_list o) ≡ option_to_list (option_map see o)
    seen None = refl
    seen (Some b) = refl

-- a terminus has few records
pub few_records : (plan : Plan) (n : ℕ) → length (records_of plan n) ≤ 4096
few_records plan n = by (terminus_of plan n)
  where
    by : (o : Option PlannedTerminus) → length (unwrap_or (option_map (λ t. t.records.items) o) []) ≤ 4096
    by None = omega arith
    by (Some t) = omega (arith, t.few_records, t.records.ok.0)

pub has_terminus : (plan : Plan) (n tid : ℕ) → Some tid ≡ option_map (λ t. t.tid) (terminus_of plan n) → terminus_of plan n ≢ None
has_terminus plan n tid is none =
    let never : Some tid ≡ None = is ∙ ap (option_map (λ (t : PlannedTerminus). t.tid)) none in
    absurd (cc)

-- records in an order are as a terminus can have them
pub lawful_records : (plan : Plan) (cert : Certificate) (n : ℕ) (records : List Entry) → RecordsHaveOrder plan cert → terminus_of plan n ≢ None
    → records ≡ records_by_place plan cert n → (length records ≤ 4096) × IsLawful records
lawful_records plan cert n records ordered there is =
    let order = ordered n there in
    let many = by_place_length (records_of plan n) (places_of cert n) order in
    (omega (arith, ap length is, many, few_records plan n), subst IsLawful (sym is) (is_lawful (records_of plan n) (places_of cert n) order))

-- so they are under other names of the plan and the certificate
pub same_order : (plan plan' : Plan) (cert cert' : Certificate) → RecordsHaveOrder plan cert → plan' ≡ plan → cert' ≡ cert → RecordsHaveOrder plan' cert'
same_order plan plan' cert cert' ordered same same_cert =
    subst (λ (p : Plan). RecordsHaveOrder p cert') (sym same) (subst (λ (k : Certificate). RecordsHaveOrder plan k) (sym same_cert) ordered)

-- the records of an accepted plan have one
pub checked_orders : (plan plan' : Plan) (cert cert' : Certificate) → Accepts plan cert → plan' ≡ plan → cert' ≡ cert → RecordsHaveOrder plan' cert'
checked_orders plan plan' cert cert' accepted same same_cert = same_order plan plan' cert cert' (accepted_orders plan cert accepted) same same_cert

-- a network that stands for the start of what was checked does so under another name of that
pub starts_in : (checked checked' : Tables × Certificate) (value : NetworkValue) → checked' ≡ checked
    → StandsForWalked value (walked_at_start checked'.0.plan checked'.1) → StandsForWalked value (walked_at_start checked.0.plan checked.1)
starts_in checked checked' value same stands = subst (λ (c : Tables × Certificate). StandsForWalked value (walked_at_start c.0.plan c.1)) same stands

pub known_terminus : (plan : Plan) (n : ℕ) (t : PlannedTerminus) → terminus_of plan n ≡ Some t → terminus_of plan n ≢ None
known_terminus plan n t there none =
    let never : Some t ≡ None = sym there ∙ none in
    absurd (cc)

-- what is said of the entries is said of the terminus that is made over them
pub few_kept : {E : Type 0} (made : Result ListTerminus E) (records : List Entry) → IfOk made (λ list. list_records list ≡ records) → length records ≤ 4096
    → IfOk made (λ list. length (list_records list) ≤ 4096)
few_kept (Ok list) records is few = omega (arith, few, ap length is)
few_kept (Err e) records is few = tt

pub lawful_kept : {E : Type 0} (made : Result ListTerminus E) (records : List Entry) → IfOk made (λ list. list_records list ≡ records) → IsLawful records
    → IfOk made (λ list. IsLawful (list_records list))
lawful_kept (Ok list) records is lawful = subst IsLawful (sym is) lawful
lawful_kept (Err e) records is lawful = tt
