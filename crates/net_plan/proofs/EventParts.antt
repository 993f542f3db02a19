-- What is gathered of an event, as a value.
use Rattle.std.{proofs.Common.{◌≡◌, ◌∙◌, ◌+◌, ◌≤◌, ◌&&◌, ◌||◌, ℕ, List, [], ◌∷◌, map, Bor, Bool, Vec, Global, true, false, not, cond, is_some, Option, Some, None, codes, ap, sym, subst, refl, arith}, specs.List.{list_any}}
use Rattle.json.{specs.Json.{Json, object, Members}, specs.Find.{get_member}}
use Rattle.mctp_transport.specs.declared.address.Tag.{Tag}
use Rattle.serde_json.specs.Data.{Data}
use Rattle.net_plan.{specs.EventParts.{event_slots, IsEventBy, given, keys_given}, specs.EventText.{IsBit}, specs.Json.{is_among}, specs.Gathered.{IsPlain, IsGathered, IsRead, AreParts}, specs.JsonWords.{HasKeys, IsString, IsName, IsHex, IsTruth, IsNumberWithin}, specs.Keys.{put_keys, move_keys, lose_keys, expire_keys, answer_keys, switch_keys, walk_keys, ask_keys, collected_keys}, specs.PlanText.{IsByte, IsWord}, specs.Trees.{data_of}, specs.declared.event_parts.EventParts.{EventParts}, proofs.Gathered.{at_gathered, all_keys, only_keys, object_plain, placed_at, look, at_key, here}}
use Rattle.plan_values.specs.EventValues.{put, move, lose, expire, answer, switch, walk, ask, collected}

-- ---- as many keys as an event has

given_there : {A : Type 0} (R : Data → A → Type 0) (o : Option A) (stands : Option Json) → IsRead R o stands → given stands ≡ given o
given_there R None stands h = ap given h
given_there R (Some x) stands h = ap given h.1

-- at how many of these keys something stands, and at how many of those that are an event's own
abbrev many : List (List ℕ) → Members → ℕ
many [] ms = 0
many (k ∷ ks) ms = given (get_member k ms) + many ks ms

abbrev many_own : List (List ℕ) → List (List ℕ) → Members → ℕ
many_own own [] ms = 0
many_own own (k ∷ ks) ms = cond (is_among own k) (given (get_member k ms)) 0 + many_own own ks ms

own_fewer : (own ks : List (List ℕ)) (ms : Members) → many_own own ks ms ≤ many ks ms
own_fewer own [] ms = omega arith
own_fewer own (k ∷ ks) ms = by (is_among own k) (own_fewer own ks ms)
  where
    by : (b : Bool) → many_own own ks ms ≤ many ks ms → cond b (given (get_member k ms)) 0 + many_own own ks ms ≤ given (get_member k ms) + many ks ms
    by true h = omega (arith, h)
    by false h = omega (arith, h)

none_given : {A : Type 0} (o : Option A) → given o ≡ 0 → is_some o ≡ false
none_given None e = refl
none_given (Some x) e = absurd (omega (arith, e))

others_none : (own ks : List (List ℕ)) (ms : Members) → many ks ms ≡ many_own own ks ms → list_any (λ key. not (is_among own key) && is_some (get_member key ms)) ks ≡ false
others_none own [] ms e = refl
others_none own (k ∷ ks) ms e = by (is_among own k) (own_fewer own ks ms) (others_none own ks ms) e
  where
    by : (b : Bool) → many_own own ks ms ≤ many ks ms → (many ks ms ≡ many_own own ks ms → list_any (λ key. not (is_among own key) && is_some (get_member key ms)) ks ≡ false)
        → given (get_member k ms) + many ks ms ≡ cond b (given (get_member k ms)) 0 + many_own own ks ms → ((not b && is_some (get_member k ms)) || list_any (λ key. not (is_among own key) && is_some (get_member key ms)) ks) ≡ false
    by true fewer rest e = rest (omega (arith, e))
    by false fewer rest e = ap (λ b. b || list_any (λ key. not (is_among own key) && is_some (get_member key ms)) ks) (none_given (get_member k ms) (omega (arith, fewer, e))) ∙ rest (omega (arith, fewer, e))

plus_one : (n : ℕ) → 1 + n ≡ n + 1
plus_one n = omega arith

-- ---- events by what happens

module _ (p : EventParts) (ms : Members) (h : AreParts (event_slots p) ms) where
  there : (k : List ℕ) → look k (event_slots p) (get_member k ms)
  there k = at_key k (event_slots p) ms h.read

  all_given : many (map (λ s. s.0) (event_slots p)) ms ≡ given (get_member (codes "do") ms) + keys_given p
  all_given =
      let e_node = given_there (λ d name. IsName d name.now) p.node (get_member (codes "node") ms) (there (codes "node")) in
      let e_bytes = given_there (λ d v. IsHex d v.items) p.bytes (get_member (codes "bytes") ms) (there (codes "bytes")) in
      let e_flight = given_there IsWord p.flight (get_member (codes "flight") ms) (there (codes "flight")) in
      let e_keep = given_there IsTruth p.keep (get_member (codes "keep") ms) (there (codes "keep")) in
      let e_source = given_there IsByte p.source (get_member (codes "source") ms) (there (codes "source")) in
      let e_tag = given_there (λ d tag. IsNumberWithin 0 7 d tag.value) p.tag (get_member (codes "tag") ms) (there (codes "tag")) in
      let e_owner = given_there IsBit p.owner (get_member (codes "owner") ms) (there (codes "owner")) in
      let e_eid = given_there (IsNumberWithin 8 254) p.eid (get_member (codes "eid") ms) (there (codes "eid")) in
      let e_count = given_there (IsNumberWithin 8 4079) p.count (get_member (codes "count") ms) (there (codes "count")) in
      let e_walker = given_there IsWord p.walker (get_member (codes "walker") ms) (there (codes "walker")) in
      let summed : given (get_member (codes "node") ms) + (given (get_member (codes "bytes") ms) + (given (get_member (codes "flight") ms) + (given (get_member (codes "keep") ms) + (given (get_member (codes "source") ms) + (given (get_member (codes "tag") ms) + (given (get_member (codes "owner") ms) + (given (get_member (codes "eid") ms) + (given (get_member (codes "count") ms) + (given (get_member (codes "walker") ms) + 0))))))))) ≡ given p.node + given p.bytes + given p.flight + given p.keep + given p.source + given p.tag + given p.owner + given p.eid + given p.count + given p.walker = omega (arith, e_node, e_bytes, e_flight, e_keep, e_source, e_tag, e_owner, e_eid, e_count, e_walker) in
      ap (λ n. given (get_member (codes "do") ms) + n) summed

  -- the object has exactly these keys
  exactly : (own : List (List ℕ)) (n : ℕ) → keys_given p ≡ n → given (get_member (codes "do") ms) ≡ 1 → many_own own (map (λ s. s.0) (event_slots p)) ms ≡ n + 1
      → list_any (λ key. not (is_some (get_member key ms))) own ≡ false → HasKeys own (data_of (object ms)) × IsPlain (object ms)
  exactly own n count does own_count full =
      let same : many (map (λ s. s.0) (event_slots p)) ms ≡ n + 1 = all_given ∙ ap (λ d. d + keys_given p) does ∙ ap (λ n. 1 + n) count ∙ plus_one n in
      let plain = only_keys (map (λ s. s.0) (event_slots p)) own ms h.plain (others_none own (map (λ s. s.0) (event_slots p)) ms (same ∙ sym own_count)) in
      (all_keys own ms plain full, object_plain own ms plain)

  pub put_of : (find : List ℕ → Option ℕ) (node : Bor (List ℕ)) (bytes : Vec ℕ Global) (index : ℕ) → keys_given p ≡ 2 → p.node ≡ Some node → p.bytes ≡ Some bytes → find node.now ≡ Some index → IsGathered (codes "do") IsString (Some (codes "put")) ms
      → IsEventBy find (data_of (object ms)) (put index bytes.items) × IsPlain (object ms)
  put_of find node bytes index count is_node is_bytes is_index does =
      let node_here = here (codes "node") (λ d name. IsName d name.now) p.node ms (there (codes "node")) node is_node in
      let bytes_here = here (codes "bytes") (λ d v. IsHex d v.items) p.bytes ms (there (codes "bytes")) bytes is_bytes in
      let keyed = exactly put_keys 2 count (ap given does.1) (rw (does.1, node_here.1, bytes_here.1) refl) (rw (does.1, node_here.1, bytes_here.1) refl) in
      (λ names places. record { keys = keyed.0; does = at_gathered (codes "do") IsString (codes "put") ms does; at_node = placed_at names find places node.now index is_index (data_of (object ms)) node_here.2; packet = bytes_here.2 }, keyed.1)

  pub move_of : (find : List ℕ → Option ℕ) (flight : ℕ) (keep : Bool) → keys_given p ≡ 2 → p.flight ≡ Some flight → p.keep ≡ Some keep → IsGathered (codes "do") IsString (Some (codes "move")) ms
      → IsEventBy find (data_of (object ms)) (move flight keep) × IsPlain (object ms)
  move_of find flight keep count is_flight is_keep does =
      let flight_here = here (codes "flight") IsWord p.flight ms (there (codes "flight")) flight is_flight in
      let keep_here = here (codes "keep") IsTruth p.keep ms (there (codes "keep")) keep is_keep in
      let keyed = exactly move_keys 2 count (ap given does.1) (rw (does.1, flight_here.1, keep_here.1) refl) (rw (does.1, flight_here.1, keep_here.1) refl) in
      (λ names places. record { keys = keyed.0; does = at_gathered (codes "do") IsString (codes "move") ms does; number = flight_here.2; kept = keep_here.2 }, keyed.1)

  pub lose_of : (find : List ℕ → Option ℕ) (flight : ℕ) → keys_given p ≡ 1 → p.flight ≡ Some flight → IsGathered (codes "do") IsString (Some (codes "lose")) ms
      → IsEventBy find (data_of (object ms)) (lose flight) × IsPlain (object ms)
  lose_of find flight count is_flight does =
      let flight_here = here (codes "flight") IsWord p.flight ms (there (codes "flight")) flight is_flight in
      let keyed = exactly lose_keys 1 count (ap given does.1) (rw (does.1, flight_here.1) refl) (rw (does.1, flight_here.1) refl) in
      (λ names places. record { keys = keyed.0; does = at_gathered (codes "do") IsString (codes "lose") ms does; number = flight_here.2 }, keyed.1)

  pub expire_of : (find : List ℕ → Option ℕ) (node : Bor (List ℕ)) (source : ℕ) (tag : Tag) (owner : Bool) (index : ℕ) → keys_given p ≡ 4 → p.node ≡ Some node → p.source ≡ Some source → p.tag ≡ Some tag → p.owner ≡ Some owner → find node.now ≡ Some index → IsGathered (codes "do") IsString (Some (codes "expire")) ms
      → IsEventBy find (data_of (object ms)) (expire index source tag.value owner) × IsPlain (object ms)
  expire_of find node source tag owner index count is_node is_source is_tag is_owner is_index does =
      let node_here = here (codes "node") (λ d name. IsName d name.now) p.node ms (there (codes "node")) node is_node in
      let source_here = here (codes "source") IsByte p.source ms (there (codes "source")) source is_source in
      let tag_here = here (codes "tag") (λ d tag. IsNumberWithin 0 7 d tag.value) p.tag ms (there (codes "tag")) tag is_tag in
      let owner_here = here (codes "owner") IsBit p.owner ms (there (codes "owner")) owner is_owner in
      let keyed = exactly expire_keys 4 count (ap given does.1) (rw (does.1, node_here.1, source_here.1, tag_here.1, owner_here.1) refl) (rw (does.1, node_here.1, source_here.1, tag_here.1, owner_here.1) refl) in
      (λ names places. record { keys = keyed.0; does = at_gathered (codes "do") IsString (codes "expire") ms does; at_node = placed_at names find places node.now index is_index (data_of (object ms)) node_here.2; from = source_here.2; tagged = tag_here.2; owned = owner_here.2 }, keyed.1)

  pub answer_of : (find : List ℕ → Option ℕ) (node : Bor (List ℕ)) (index : ℕ) → keys_given p ≡ 1 → p.node ≡ Some node → find node.now ≡ Some index → IsGathered (codes "do") IsString (Some (codes "answer")) ms
      → IsEventBy find (data_of (object ms)) (answer index) × IsPlain (object ms)
  answer_of find node index count is_node is_index does =
      let node_here = here (codes "node") (λ d name. IsName d name.now) p.node ms (there (codes "node")) node is_node in
      let keyed = exactly answer_keys 1 count (ap given does.1) (rw (does.1, node_here.1) refl) (rw (does.1, node_here.1) refl) in
      (λ names places. record { keys = keyed.0; does = at_gathered (codes "do") IsString (codes "answer") ms does; at_node = placed_at names find places node.now index is_index (data_of (object ms)) node_here.2 }, keyed.1)

  pub switch_of : (find : List ℕ → Option ℕ) (node : Bor (List ℕ)) (index : ℕ) → keys_given p ≡ 1 → p.node ≡ Some node → find node.now ≡ Some index → IsGathered (codes "do") IsString (Some (codes "switch")) ms
      → IsEventBy find (data_of (object ms)) (switch index) × IsPlain (object ms)
  switch_of find node index count is_node is_index does =
      let node_here = here (codes "node") (λ d name. IsName d name.now) p.node ms (there (codes "node")) node is_node in
      let keyed = exactly switch_keys 1 count (ap given does.1) (rw (does.1, node_here.1) refl) (rw (does.1, node_here.1) refl) in
      (λ names places. record { later = λ e. cc; keys = keyed.0; does = at_gathered (codes "do") IsString (codes "switch") ms does; at_node = placed_at names find places node.now index is_index (data_of (object ms)) node_here.2 }, keyed.1)

  pub walk_of : (find : List ℕ → Option ℕ) (node : Bor (List ℕ)) (eid : ℕ) (tag : Tag) (count : ℕ) (index : ℕ) → keys_given p ≡ 4 → p.node ≡ Some node → p.eid ≡ Some eid → p.tag ≡ Some tag → p.count ≡ Some count → find node.now ≡ Some index → IsGathered (codes "do") IsString (Some (codes "walk")) ms
      → IsEventBy find (data_of (object ms)) (walk index eid tag.value count) × IsPlain (object ms)
  walk_of find node eid tag count index number is_node is_eid is_tag is_count is_index does =
      let node_here = here (codes "node") (λ d name. IsName d name.now) p.node ms (there (codes "node")) node is_node in
      let eid_here = here (codes "eid") (IsNumberWithin 8 254) p.eid ms (there (codes "eid")) eid is_eid in
      let tag_here = here (codes "tag") (λ d tag. IsNumberWithin 0 7 d tag.value) p.tag ms (there (codes "tag")) tag is_tag in
      let count_here = here (codes "count") (IsNumberWithin 8 4079) p.count ms (there (codes "count")) count is_count in
      let keyed = exactly walk_keys 4 number (ap given does.1) (rw (does.1, node_here.1, eid_here.1, tag_here.1, count_here.1) refl) (rw (does.1, node_here.1, eid_here.1, tag_here.1, count_here.1) refl) in
      (λ names places. record { third = refl; keys = keyed.0; does = at_gathered (codes "do") IsString (codes "walk") ms does; at_node = placed_at names find places node.now index is_index (data_of (object ms)) node_here.2; asked = eid_here.2; tagged = tag_here.2; counted = count_here.2 }, keyed.1)

  pub ask_of : (find : List ℕ → Option ℕ) (walker : ℕ) → keys_given p ≡ 1 → p.walker ≡ Some walker → IsGathered (codes "do") IsString (Some (codes "ask")) ms
      → IsEventBy find (data_of (object ms)) (ask walker) × IsPlain (object ms)
  ask_of find walker count is_walker does =
      let walker_here = here (codes "walker") IsWord p.walker ms (there (codes "walker")) walker is_walker in
      let keyed = exactly ask_keys 1 count (ap given does.1) (rw (does.1, walker_here.1) refl) (rw (does.1, walker_here.1) refl) in
      (λ names places. record { third = refl; keys = keyed.0; does = at_gathered (codes "do") IsString (codes "ask") ms does; number = walker_here.2 }, keyed.1)

  pub collected_of : (find : List ℕ → Option ℕ) (walker : ℕ) → keys_given p ≡ 1 → p.walker ≡ Some walker → IsGathered (codes "do") IsString (Some (codes "collected")) ms
      → IsEventBy find (data_of (object ms)) (collected walker) × IsPlain (object ms)
  collected_of find walker count is_walker does =
      let walker_here = here (codes "walker") IsWord p.walker ms (there (codes "walker")) walker is_walker in
      let keyed = exactly collected_keys 1 count (ap given does.1) (rw (does.1, walker_here.1) refl) (rw (does.1, walker_here.1) refl) in
      (λ names places. record { third = refl; keys = keyed.0; does = at_gathered (codes "do") IsString (codes "collected") ms does; number = walker_here.2 }, keyed.1)

-- the word that was read at `do`
pub word_here : (p : EventParts) (text : Bor (List ℕ)) (word : List ℕ) → p.does ≡ Some text → text.now ≡ word → (ms : Members) → AreParts (event_slots p) ms → IsGathered (codes "do") IsString (Some word) ms
word_here p text word is same ms h = subst (λ word. IsGathered (codes "do") IsString (Some word) ms) same (subst (λ o. IsGathered (codes "do") (λ d text. IsString d text.now) o ms) is h.read.0)
