-- Where a walk stands, and what every walk over a lawful list has collected.
use Rattle.std.{proofs.Common.{◌≡◌, ◌≢◌, ℕ, zero, suc, ◌+◌, ◌*◌, ◌<◌, ◌≤◌, List, [], ◌∷◌, ◌++◌, length, take, drop, get_or, slice_get, Option, Some, None, Ok, refl, sym, ap, ◌∙◌, subst, arith, inl, inr, ◌⊎◌, add-one, zero-add}, specs.Prelude.{AllPairs}, specs.List.{last_or}, specs.Int.{div_ceil}, proofs.lemmas.Option.{same_Some, slice_get_within, slice_get_cases, get_or_from_slice_get}, proofs.lemmas.Bool.{cases_lt}, proofs.lemmas.List.{append-nil, length_push, map-append, length-map, get_or-map, take_more, take_all, take-append-drop}, proofs.lemmas.List.Sums.{sum_by-append}, proofs.lemmas.List.Elements.{All-nil}, proofs.lemmas.Grind.{div_ceil_times}, proofs.Math.Seq.{take-add}, proofs.lemmas.Nat.{mul-le}}
use Rattle.pdr_repository.{specs.Records.{Entry, IsLawful, Means, bytes_by_place, handle_in, handle_at}, specs.Parts.{AnswersPart, IsPartOf}, specs.Walks.{Exchange, first_part, follows, due_by, due_after, Walk, data_of, flag_of, HasFlag, Collects, exchanges, NamesTheNext, EveryWalkCollects}, proofs.Collecting.{Collected, start_more, middle_more, whole_more, end_more}, proofs.Headers.{lawful_header}, proofs.Dues.{IsDue, More, Complete, due_answer, due_means, goes_on, completes, next_is, asks_next, first_due}}
use Rattle.pldm_message.specs.Pdrs.{PartRequest, Part}

last_push : {X : Type 0} (o : Option X) (xs : List X) (x : X) → last_or o (xs ++ x ∷ []) ≡ Some x
last_push o [] x = refl
last_push o (y ∷ xs) x = last_push (Some y) xs x

pub due_push : (count : ℕ) (xs : List Exchange) (x : Exchange) → due_after count (xs ++ x ∷ []) ≡ follows x.request x.answer
due_push count xs x = ap (due_by count) (last_push None xs x)

-- the walk stands within a record, of which k parts have been read
pub record Within (records : List Entry) (count : ℕ) (xs : List Exchange) : Type 0 where
  pub place : ℕ
  pub e : Entry
  pub k : ℕ
  pub offset : ℕ
  pub r : PartRequest
  pub here : slice_get records place ≡ Some e
  pub within : offset < length e.bytes
  pub parts : offset ≡ k * count
  pub asked : due_after count xs ≡ Some r
  pub due : IsDue place e count offset r
  pub collects : Collects xs (bytes_by_place (take place records)) (take offset e.bytes)
  pub at_start : offset ≡ 0 → collects.rest ≡ []
  pub after_start : 0 < offset → collects.rest ≢ []
  pub counted : length xs ≡ exchanges count (take place records) + k

-- the walk is over
pub record Past (records : List Entry) (count : ℕ) (xs : List Exchange) : Type 0 where
  pub asked : due_after count xs ≡ None
  pub collects : Collects xs (bytes_by_place records) []
  pub counted : length xs ≡ exchanges count records

abbrev pub Position : List Entry → ℕ → List Exchange → Type 0
Position records count xs = Within records count xs ⊎ Past records count xs

pub record_there : (records : List Entry) (i : ℕ) → i < length records → (e : Entry) × (slice_get records i ≡ Some e)
record_there records i within = elim (slice_get_cases records i).1 [
  | inl (e, _, here, _) ↦ (e, here)
  | inr (past, none) ↦ absurd (omega arith)
]

-- before the first exchange
pub at_the_start : (records : List Entry) (count : ℕ) → IsLawful records → Within records count []
at_the_start records count lawful =
    let a = record_there records 0 lawful.some in
    let header = lawful_header records lawful 0 a.0 a.1 in
    record {
      place = 0;
      e = a.0;
      k = 0;
      offset = 0;
      r = first_part count 0;
      here = a.1;
      within = omega (arith, header.whole);
      parts = omega arith;
      asked = refl;
      due = first_due 0 a.0 count 0 (λ _. refl) (λ h. absurd (h refl));
      collects = record { stretches = []; rest = []; whole = refl; each = All-nil _; open_one = inl refl; records = refl; data_so_far = refl };
      at_start = λ _. refl;
      after_start = λ h. absurd (omega arith);
      counted = refl;
    }

-- the places up to a record and with it
up_to : (records : List Entry) (place : ℕ) (e : Entry) → slice_get records place ≡ Some e → take (suc place) records ≡ take place records ++ e ∷ []
up_to records place e here =
    ap (λ n. take n records) (sym (add-one place)) ∙ take_more records place e (slice_get_within records place e here) ∙ ap (λ f. take place records ++ f ∷ []) (get_or_from_slice_get records place e e here)

bytes_up_to : (records : List Entry) (place : ℕ) (e : Entry) → slice_get records place ≡ Some e → bytes_by_place (take (suc place) records) ≡ bytes_by_place (take place records) ++ e.bytes ∷ []
bytes_up_to records place e here = ap bytes_by_place (up_to records place e here) ∙ map-append (λ (f : Entry). f.bytes) (take place records) (e ∷ [])

exchanges_up_to : (records : List Entry) (count place : ℕ) (e : Entry) → slice_get records place ≡ Some e → exchanges count (take (suc place) records) ≡ exchanges count (take place records) + div_ceil (length e.bytes) count
exchanges_up_to records count place e here = ap (exchanges count) (up_to records place e here) ∙ sum_by-append (λ (f : Entry). div_ceil (length f.bytes) count) (take place records) (e ∷ []) ∙ ap (λ n. exchanges count (take place records) + n) (zero-add (div_ceil (length e.bytes) count))

-- so many parts and one more
parts_are : (n count k : ℕ) → 8 ≤ count → k * count < n → n ≤ k * count + count → div_ceil n count ≡ suc k
parts_are n count k least low high =
    let bounds = div_ceil_times n count (omega arith) in
    let q = div_ceil n count in
    elim (cases_lt k q) [
      | inr few ↦ absurd (omega (arith, bounds.0, mul-le q count k count few (omega arith)))
      | inl some ↦ elim (cases_lt (suc k) q) [
        | inl many ↦ absurd (omega (arith, bounds.1, mul-le (suc (suc k)) count q count many (omega arith)))
        | inr at_most ↦ omega (arith, some, at_most)
      ]
    ]

has_flag : (flag : ℕ) (x : Exchange) (p : Part) → x.answer ≡ Ok p → p.flag ≡ flag → HasFlag flag x
has_flag flag x p is flagged = ap flag_of is ∙ ap Some flagged

data_is : (x : Exchange) (p : Part) → x.answer ≡ Ok p → data_of x.answer ≡ p.bytes
data_is x p is = ap data_of is

-- one exchange, where the record goes on
on_more : (records : List Entry) (count : ℕ) (xs : List Exchange) (w : Within records count xs) (x : Exchange) (p : Part) → 8 ≤ count → w.offset + count < length w.e.bytes
    → x.request ≡ w.r → x.answer ≡ Ok p → More w.place w.e count w.offset w.r p → Within records count (xs ++ x ∷ [])
on_more records count xs w x p least long request is more =
    let asked : due_after count (xs ++ x ∷ []) ≡ Some more.after = due_push count xs x ∙ ap (λ r. follows r x.answer) request ∙ ap (follows w.r) is ∙ more.asked in
    let counted : length (xs ++ x ∷ []) ≡ exchanges count (take w.place records) + suc w.k = length_push xs x ∙ omega (arith, w.counted) in
    let parts : w.offset + count ≡ suc w.k * count = omega (arith, w.parts) in
    let P : List ℕ → List Exchange → Type 0 = λ d rest. Collected (xs ++ x ∷ []) (bytes_by_place (take w.place records)) d rest in
    let make : (rest : List Exchange) → rest ≢ [] → P (take (w.offset + count) w.e.bytes) rest → Within records count (xs ++ x ∷ []) = λ rest some now. record {
      place = w.place;
      e = w.e;
      k = suc w.k;
      offset = w.offset + count;
      r = more.after;
      here = w.here;
      within = long;
      parts = parts;
      asked = asked;
      due = more.due;
      collects = now.all;
      at_start = λ h. absurd (omega arith);
      after_start = λ _. λ none. some (sym now.rest_is ∙ none);
      counted = counted;
    } in
    elim more.flag [
      | inl (o, _, flag) ↦
          let now = start_more xs (bytes_by_place (take w.place records)) (take w.offset w.e.bytes) x w.collects (w.at_start o) (has_flag 0 x p is flag) in
          let bytes : data_of x.answer ≡ take (w.offset + count) w.e.bytes = data_is x p is ∙ more.bytes ∙ rw (o, zero-add) refl in
          let Q : List ℕ → Type 0 = λ d. P d (x ∷ []) in
          make (x ∷ []) (λ none. cc) (subst Q bytes now)
      | inr (o, _, flag) ↦
          let now = middle_more xs (bytes_by_place (take w.place records)) (take w.offset w.e.bytes) x w.collects (w.after_start o) (has_flag 1 x p is flag) in
          let bytes : take w.offset w.e.bytes ++ data_of x.answer ≡ take (w.offset + count) w.e.bytes = ap (λ ys. take w.offset w.e.bytes ++ ys) (data_is x p is ∙ more.bytes) ∙ sym (take-add w.offset count w.e.bytes) in
          let rest = w.collects.rest ++ x ∷ [] in
          let Q : List ℕ → Type 0 = λ d. P d rest in
          make rest (λ none. omega (arith, length_push w.collects.rest x, ap length none)) (subst Q bytes now)
    ]

-- one exchange, where the record is complete
on_complete : (records : List Entry) (count : ℕ) (xs : List Exchange) (w : Within records count xs) (x : Exchange) (p : Part)
    → x.answer ≡ Ok p → Complete w.e count w.offset w.r p → Collected (xs ++ x ∷ []) (bytes_by_place (take (suc w.place) records)) [] []
on_complete records count xs w x p is complete =
    let P : List (List ℕ) → Type 0 = λ rs. Collected (xs ++ x ∷ []) rs [] [] in
    let before = bytes_by_place (take w.place records) in
    let up = bytes_up_to records w.place w.e w.here in
    elim complete.flag [
      | inl (o, _, flag) ↦
          let now = whole_more xs before (take w.offset w.e.bytes) x w.collects (w.at_start o) (has_flag 5 x p is flag) in
          let bytes : data_of x.answer ≡ w.e.bytes = data_is x p is ∙ complete.bytes ∙ rw o refl in
          subst P (ap (λ bs. before ++ bs ∷ []) bytes ∙ sym up) now
      | inr (o, _, flag) ↦
          let now = end_more xs before (take w.offset w.e.bytes) x w.collects (w.after_start o) (has_flag 4 x p is flag) in
          let bytes : take w.offset w.e.bytes ++ data_of x.answer ≡ w.e.bytes = ap (λ ys. take w.offset w.e.bytes ++ ys) (data_is x p is ∙ complete.bytes) ∙ take-append-drop w.offset w.e.bytes in
          subst P (ap (λ bs. before ++ bs ∷ []) bytes ∙ sym up) now
    ]

complete_counted : (records : List Entry) (count : ℕ) (xs : List Exchange) (w : Within records count xs) (x : Exchange) → 8 ≤ count → length w.e.bytes ≤ w.offset + count
    → length (xs ++ x ∷ []) ≡ exchanges count (take (suc w.place) records)
complete_counted records count xs w x least short =
    let parts = parts_are (length w.e.bytes) count w.k least (omega (arith, w.within, w.parts)) (omega (arith, short, w.parts)) in
    length_push xs x ∙ omega (arith, w.counted, parts, exchanges_up_to records count w.place w.e w.here)

-- and another record follows
on_next : (records : List Entry) (count : ℕ) (xs : List Exchange) (w : Within records count xs) (x : Exchange) (p : Part) (f : Entry) → IsLawful records → 8 ≤ count → length w.e.bytes ≤ w.offset + count
    → x.request ≡ w.r → x.answer ≡ Ok p → Complete w.e count w.offset w.r p → slice_get records (suc w.place) ≡ Some f → p.next ≡ f.handle → Within records count (xs ++ x ∷ [])
on_next records count xs w x p f lawful least short request is complete there named =
    let some : f.handle ≢ 0 = lawful.handles (suc w.place) f there in
    let header = lawful_header records lawful (suc w.place) f there in
    let now = on_complete records count xs w x p is complete in
    record {
      place = suc w.place;
      e = f;
      k = 0;
      offset = 0;
      r = first_part count f.handle;
      here = there;
      within = omega (arith, header.whole);
      parts = omega arith;
      asked = due_push count xs x ∙ ap (λ r. follows r x.answer) request ∙ ap (follows w.r) is ∙ complete.asked ∙ rw named (asks_next count f.handle some);
      due = first_due (suc w.place) f count f.handle (λ h. absurd (some h)) (λ _. refl);
      collects = now.all;
      at_start = λ _. now.rest_is;
      after_start = λ h. absurd (omega arith);
      counted = complete_counted records count xs w x least short ∙ omega arith;
    }

-- or that was the last
on_last : (records : List Entry) (count : ℕ) (xs : List Exchange) (w : Within records count xs) (x : Exchange) (p : Part) → 8 ≤ count → length w.e.bytes ≤ w.offset + count
    → x.request ≡ w.r → x.answer ≡ Ok p → Complete w.e count w.offset w.r p → length records ≤ suc w.place → p.next ≡ 0 → Past records count (xs ++ x ∷ [])
on_last records count xs w x p least short request is complete past none =
    let all : take (suc w.place) records ≡ records = take_all (suc w.place) records past in
    let now = on_complete records count xs w x p is complete in
    let P : List Entry → Type 0 = λ rs. Collects (xs ++ x ∷ []) (bytes_by_place rs) [] in
    record {
      asked = due_push count xs x ∙ ap (λ r. follows r x.answer) request ∙ ap (follows w.r) is ∙ complete.asked ∙ rw none refl;
      collects = subst P all now.all;
      counted = complete_counted records count xs w x least short ∙ ap (exchanges count) all;
    }

-- a walk goes on by one exchange
pub record Step (records : List Entry) (count : ℕ) (xs : List Exchange) (w : Within records count xs) (x : Exchange) : Type 0 where
  pub part : Part
  pub is : x.answer ≡ Ok part
  pub of_record : IsPartOf (handle_at records (w.place + 1)) w.e.bytes w.r part
  pub kind : More w.place w.e count w.offset w.r part ⊎ Complete w.e count w.offset w.r part
  pub position : Position records count (xs ++ x ∷ [])
  pub names : NamesTheNext records x

pub one_step : (records : List Entry) (count : ℕ) (xs : List Exchange) (w : Within records count xs) (x : Exchange) → IsLawful records → 8 ≤ count → count ≤ 4079
    → x.request ≡ w.r → AnswersPart records x.request x.answer → Step records count xs w x
one_step records count xs w x lawful least most request answers =
    let P : PartRequest → Type 0 = λ r. AnswersPart records r x.answer in
    let M : PartRequest → Type 0 = λ r. Means records r.handle w.place w.e in
    let given = due_answer records w.place w.e count w.offset w.r x.answer lawful least w.here w.within w.due (subst P request answers) in
    let p = given.part in
    let part = given.of_record in
    let names : NamesTheNext records x = (w.place, w.e, p, subst M (sym request) (due_means records w.place w.e count w.offset w.r w.here w.due), given.is, part.follows) in
    elim (cases_lt (w.offset + count) (length w.e.bytes)) [
      | inl long ↦
          let more = goes_on (handle_at records (w.place + 1)) w.place w.e count w.offset w.r p least most long w.due part in
          record { part = p; is = given.is; of_record = part; kind = inl more; position = inl (on_more records count xs w x p least long request given.is more); names = names }
      | inr short ↦
          let complete = completes (handle_at records (w.place + 1)) w.place w.e count w.offset w.r p most w.within short w.due part in
          elim (next_is records w.place p.next part.follows) [
            | inl (f, there, named) ↦ record { part = p; is = given.is; of_record = part; kind = inr complete; position = inl (on_next records count xs w x p f lawful least short request given.is complete there named); names = names }
            | inr (past, none) ↦ record { part = p; is = given.is; of_record = part; kind = inr complete; position = inr (on_last records count xs w x p least short request given.is complete past none); names = names }
          ]
    ]

-- where a walk stands after each of its exchanges, and what those name
record Stands (records : List Entry) (count : ℕ) (xs : List Exchange) (n : ℕ) : Type 0 where
  position : Position records count (take n xs)
  names : (i : ℕ) (x : Exchange) → i < n → slice_get xs i ≡ Some x → NamesTheNext records x

one_more : (xs : List Exchange) (n : ℕ) (x : Exchange) → slice_get xs n ≡ Some x → take (suc n) xs ≡ take n xs ++ x ∷ []
one_more xs n x here = ap (λ m. take m xs) (sym (add-one n)) ∙ take_more xs n x (slice_get_within xs n x here) ∙ ap (λ y. take n xs ++ y ∷ []) (get_or_from_slice_get xs n x x here)

stands_next : (records : List Entry) (count : ℕ) (xs : List Exchange) (n : ℕ) (x : Exchange) → IsLawful records → 8 ≤ count → count ≤ 4079 → Walk records count xs
    → slice_get xs n ≡ Some x → Stands records count xs n → Stands records count xs (suc n)
stands_next records count xs n x lawful least most walk here stands = elim stands.position [
  | inr past ↦ absurd (let f : None ≡ Some x.request = sym past.asked ∙ walk.asked n x here in cc)
  | inl w ↦
      let request : x.request ≡ w.r = same_Some x.request w.r (sym (walk.asked n x here) ∙ w.asked) in
      let step = one_step records count (take n xs) w x lawful least most request (walk.answered n x here) in
      let P : List Exchange → Type 0 = λ ys. Position records count ys in
      record {
        position = subst P (sym (one_more xs n x here)) step.position;
        names = λ i y before there. elim (cases_lt i n) [
          | inl earlier ↦ stands.names i y earlier there
          | inr not_earlier ↦
              let same : i ≡ n = omega arith in
              let Q : Exchange → Type 0 = λ z. NamesTheNext records z in
              subst Q (same_Some x y (sym here ∙ ap (slice_get xs) (sym same) ∙ there)) step.names
        ];
      }
]

stands_at : (records : List Entry) (count : ℕ) (xs : List Exchange) → IsLawful records → 8 ≤ count → count ≤ 4079 → Walk records count xs → (n : ℕ) → n ≤ length xs → Stands records count xs n
stands_at records count xs lawful least most walk zero within = record { position = inl (at_the_start records count lawful); names = λ i x before. absurd (omega arith) }
stands_at records count xs lawful least most walk (suc n) within =
    let there : (x : Exchange) × (slice_get xs n ≡ Some x) = elim (slice_get_cases xs n).1 [ inl (x, _, here, _) ↦ (x, here) | inr (past, _) ↦ absurd (omega arith) ] in
    stands_next records count xs n there.0 lawful least most walk there.1 (stands_at records count xs lawful least most walk n (omega arith))

pub stands : (records : List Entry) (count : ℕ) (xs : List Exchange) → IsLawful records → 8 ≤ count → count ≤ 4079 → Walk records count xs → Position records count xs
stands records count xs lawful least most walk =
    let P : List Exchange → Type 0 = λ ys. Position records count ys in
    subst P (take_all (length xs) xs (omega arith)) (stands_at records count xs lawful least most walk (length xs) (omega arith)).position

-- the bytes at a place are those of its record
handle_there : (records : List Entry) → IsLawful records → (i : ℕ) (e : Entry) (d : List ℕ) → slice_get records i ≡ Some e → handle_in (get_or (bytes_by_place records) i d) ≡ e.handle
handle_there records lawful i e d here =
    let within = slice_get_within records i e here in
    let header = lawful_header records lawful i e here in
    ap handle_in (get_or-map (λ (f : Entry). f.bytes) records i e d within ∙ ap (λ (f : Entry). f.bytes) (get_or_from_slice_get records i e e here)) ∙ header.names

-- the handles of a lawful list's bytes differ
distinct_handles : (records : List Entry) → IsLawful records → AllPairs (λ a b. handle_in a ≢ handle_in b) (bytes_by_place records)
distinct_handles records lawful = λ i j d before within same.
    let long : length (bytes_by_place records) ≡ length records = length-map records (λ (e : Entry). e.bytes) in
    let a = record_there records i (omega arith) in
    let b = record_there records j (omega arith) in
    let both : i ≡ j = lawful.distinct i j a.0 b.0 a.1 b.1 (sym (handle_there records lawful i a.0 d a.1) ∙ same ∙ handle_there records lawful j b.0 d b.1) in
    omega arith

-- the exchanges of some records are fewer than of those and one more
fewer : (records : List Entry) (count place k : ℕ) (e : Entry) → 8 ≤ count → slice_get records place ≡ Some e → k * count < length e.bytes → exchanges count (take place records) + k < exchanges count records
fewer records count place k e least here within =
    let bounds = div_ceil_times (length e.bytes) count (omega arith) in
    let parts : k < div_ceil (length e.bytes) count = elim (cases_lt k (div_ceil (length e.bytes) count)) [
      | inl less ↦ less
      | inr few ↦ absurd (omega (arith, bounds.0, mul-le (div_ceil (length e.bytes) count) count k count few (omega arith)))
    ] in
    let up = exchanges_up_to records count place e here in
    let all : exchanges count records ≡ exchanges count (take (suc place) records) + exchanges count (drop (suc place) records) =
    ap (exchanges count) (sym (take-append-drop (suc place) records)) ∙ sum_by-append (λ (f : Entry). div_ceil (length f.bytes) count) (take (suc place) records) (drop (suc place) records) in
    omega (arith, parts, up, all)

pub every_walk_collects : EveryWalkCollects
every_walk_collects records count xs lawful least most walk =
    let all = stands_at records count xs lawful least most walk (length xs) (omega arith) in
    let nexts : (i : ℕ) (x : Exchange) → slice_get xs i ≡ Some x → NamesTheNext records x = λ i x here. all.names i x (slice_get_within xs i x here) here in
    elim (stands records count xs lawful least most walk) [
      | inl w ↦
          let less = fewer records count w.place w.k w.e least w.here (omega (arith, w.within, w.parts)) in
          record {
            collected = bytes_by_place (take w.place records);
            under_way = take w.offset w.e.bytes;
            collects = w.collects;
            beginning = (bytes_by_place (drop w.place records), sym (map-append (λ (f : Entry). f.bytes) (take w.place records) (drop w.place records)) ∙ ap bytes_by_place (take-append-drop w.place records));
            whole = λ none. absurd (let f : None ≡ Some w.r = sym none ∙ w.asked in cc);
            exact = (λ none. absurd (let f : None ≡ Some w.r = sym none ∙ w.asked in cc), λ is. absurd (omega (arith, less, w.counted, is)));
            bounded = omega (arith, less, w.counted);
            handles = distinct_handles records lawful;
            nexts = nexts;
          }
      | inr past ↦ record {
        collected = bytes_by_place records;
        under_way = [];
        collects = past.collects;
        beginning = ([], append-nil (bytes_by_place records));
        whole = λ _. (refl, refl);
        exact = (λ _. past.counted, λ _. past.asked);
        bounded = omega (arith, past.counted);
        handles = distinct_handles records lawful;
        nexts = nexts;
      }
    ]
