-- What is read of events is what the relation tells.
use Rattle.std.{proofs.Common.{◌≡◌, ◌≢◌, ℕ, zero, suc, ◌≤◌, ◌==◌, ◌||◌, List, [], ◌∷◌, length, Bool, true, false, nat_lt, Some, None, Ok, Err, refl, sym, ap, ◌∙◌, subst, cond, codes, arith, true≢false}, proofs.lemmas.Slice.Eq.{bytes_eq-Decides}, specs.List.{list_all}, specs.Str.{bytes_eq}}
use Rattle.mctp_transport.specs.PacketValues.{bit}
use Rattle.serde_json.specs.Data.{Data, string}
use Rattle.net_plan.{specs.EventReading.{format_of, events_format, events_tested, events}, specs.EventText.{Does, IsBit, IsEventOf, IsFormat, AreEventsOf}, specs.Finding.{first_fault, refused}, specs.Fitting.{IsOneOf, HasAt, Either, Fits, ChoiceFits}, specs.Grammar.{Grammar, keys_of, a_list, Known}, specs.Json.{is_among, demand}, specs.JsonWords.{At, IsShortListOf, IsNumberWithin, IsTruth, IsHex, IsIndexOfName}, specs.Made.{number_at, truth_at, hex_at, node_at, word_at, expire_made, walk_made, event_by, event_made, events_made}, specs.Names.{index_among, text_of, text_found}, specs.PlanText.{IsByte, IsWord}, specs.Tables.{a_number, a_node_name, a_word, a_byte, a_truth, a_hex, a_put, a_move, a_lose, an_expire, an_answer, a_switch, a_walk, an_ask, a_collected, event_choices, later_events, an_event, events_in}, specs.Reading.{then_with}, specs.declared.error.ValueFault.{ValueFault}, specs.declared.error.ValueFault.TheVariants.{UnknownName}, specs.declared.event_format.Format.{Format}, specs.declared.event_format.Format.TheVariants.{One, Two, Three}, specs.declared.shape.Named.TheVariants.{Nodes}, proofs.Fitting.{none_fits, fits_none, forget, unrefused}, proofs.KeysLaw.{among_Contains, Contains_among}, proofs.Makes.{Made, MadeAt, number_made, truth_made, hex_made, index_made, at_makes, within_makes}, proofs.Telling.{Tells, any, same_Ok, then_Ok, demanded}}
use Rattle.plan_values.{specs.EventValues.{EventEntry, put, move, lose, expire, answer, switch, walk, ask, collected, is_known_event}, specs.PlanValues.{PlanValue, node_names}}

-- ---- the format

pub format_found : (d : Data) (n : ℕ) → IsNumberWithin 1 3 d n → IsFormat d (format_of n)
format_found d zero h = let low : 1 ≤ 0 = h.1 in absurd (omega arith)
format_found d (suc (suc (suc (suc n)))) h = let high : suc (suc (suc (suc n))) ≤ 3 = h.2 in absurd (omega arith)
format_found d n h = h.0

abbrev number_of : Format → ℕ
number_of One = 1
number_of Two = 2
number_of Three = 3

numbered : (d : Data) (f : Format) → IsFormat d f → IsNumberWithin 1 3 d (number_of f)
numbered d One h = (h, omega arith, omega arith)
numbered d f h = (h, omega arith, omega arith)

number_back : (f : Format) → format_of (number_of f) ≡ f
number_back One = refl
number_back f = refl

format_at : (k : Known) → MadeAt k (codes "format") (a_number 1 3) (number_at (codes "format") 1 3) any (IsNumberWithin 1 3)
format_at k = number_made k (codes "format") 1 3

format_same : (k : Known) (d : Data) (f : Format) → At (codes "format") IsFormat d f → events_format d ≡ f
format_same k d f h = ap format_of ((format_at k).same d (number_of f) (h.0, h.1, numbered h.0 f h.2)) ∙ number_back f

-- ---- the owner's bit

bit_found : (d : Data) (n : ℕ) → IsNumberWithin 0 1 d n → IsBit d (n == 1)
bit_found d (suc (suc n)) h = let high : suc (suc n) ≤ 1 = h.2 in absurd (omega arith)
bit_found d n h = h.0

bit_within : (d : Data) (b : Bool) → IsBit d b → IsNumberWithin 0 1 d (bit b)
bit_within d true h = (h, omega arith, omega arith)
bit_within d false h = (h, omega arith, omega arith)

bit_back : (b : Bool) → (bit b == 1) ≡ b
bit_back true = refl
bit_back false = refl

-- ---- what happens

-- one word
only : (w : List ℕ) (d : Data) → HasAt (codes "do") (IsOneOf (w ∷ [])) d → Does w d
only w d h = (h.0, h.1, h.2.1 ∙ ap string (same (Contains_among (w ∷ []) h.2.0 h.2.2)))
  where
    same : (bytes_eq h.2.0 w || false) ≡ true → h.2.0 ≡ w
    same e = by (bytes_eq h.2.0 w) refl e
      where
        by : (b : Bool) → bytes_eq h.2.0 w ≡ b → (b || false) ≡ true → h.2.0 ≡ w
        by true is e = (bytes_eq-Decides h.2.0 w).0 is
        by false is e = absurd (true≢false (sym e))

one : (w : List ℕ) (d : Data) → Does w d → HasAt (codes "do") (IsOneOf (w ∷ [])) d
one w d h = (h.0, h.1, (w, h.2, among_Contains (w ∷ []) w (ap (λ b. b || false) ((bytes_eq-Decides w w).1 refl))))

-- the first of two where a word is that of the first choice, else what is known of the later ones
step : {F G : Type 0} (P : EventEntry → Type 0) (b a : Bool) (x y : EventEntry) → (b || a) ≡ true → Either b F G → (F → P x) → (a ≡ true → G → P y) → P (cond b x y)
step P true a x y among h here later = here h
step P false a x y among h here later = later among h

-- the same of what is known where the event made passes a test
stepped : {F G H I : Type 0} (t : EventEntry → Bool) (b : Bool) (x y : EventEntry) → Either b F G → t (cond b x y) ≡ true → (F → t x ≡ true → H) → (G → t y ≡ true → I) → Either b H I
stepped t true x y h pass here later = here h pass
stepped t false x y h pass here later = later h pass

last : {F : Type 0} (b : Bool) → (b || false) ≡ true → Either b F (Unit {0}) → F
last true among h = h
last false among h = absurd (true≢false (sym among))

-- ---- events

module _ (nodes : List (List ℕ)) where
  abbrev known : Known
  known = record { buses = []; nodes = nodes }

  abbrev find : List ℕ → ℕ
  find = index_among nodes

  abbrev is_known : ℕ → Bool
  is_known node = nat_lt node (length nodes)

  abbrev passes : EventEntry → Bool
  passes = is_known_event (length nodes)

  node_law : MadeAt known (codes "node") a_node_name (node_at find) is_known (IsIndexOfName nodes)
  node_law = index_made known (codes "node") Nodes

  bytes_law : MadeAt known (codes "bytes") a_hex hex_at any IsHex
  bytes_law = hex_made known

  keep_law : MadeAt known (codes "keep") a_truth (truth_at (codes "keep")) any IsTruth
  keep_law = truth_made known (codes "keep")

  flight_law : MadeAt known (codes "flight") a_word (word_at (codes "flight")) any IsWord
  flight_law = number_made known (codes "flight") 0 4294967295

  walker_law : MadeAt known (codes "walker") a_word (word_at (codes "walker")) any IsWord
  walker_law = number_made known (codes "walker") 0 4294967295

  source_law : MadeAt known (codes "source") a_byte (number_at (codes "source") 0 255) any IsByte
  source_law = number_made known (codes "source") 0 255

  tag_law : MadeAt known (codes "tag") (a_number 0 7) (number_at (codes "tag") 0 7) any (IsNumberWithin 0 7)
  tag_law = number_made known (codes "tag") 0 7

  owner_law : MadeAt known (codes "owner") (a_number 0 1) (number_at (codes "owner") 0 1) any (IsNumberWithin 0 1)
  owner_law = number_made known (codes "owner") 0 1

  eid_law : MadeAt known (codes "eid") (a_number 8 254) (number_at (codes "eid") 8 254) any (IsNumberWithin 8 254)
  eid_law = number_made known (codes "eid") 8 254

  count_law : MadeAt known (codes "count") (a_number 8 4079) (number_at (codes "count") 8 4079) any (IsNumberWithin 8 4079)
  count_law = number_made known (codes "count") 8 4079

  -- what is made where the word is none of format 1
  abbrev later_by : List ℕ → Data → EventEntry
  later_by w d =
      cond (bytes_eq w (codes "switch")) (switch (node_at find d))
      (cond (bytes_eq w (codes "walk")) (walk_made find d) (cond (bytes_eq w (codes "ask")) (ask (word_at (codes "walker") d)) (collected (word_at (codes "walker") d))))

  -- P of the event that is made, where it is one
  module _ (P : Data → EventEntry → Type 0) where
    record Each (f : Format) : Type 0 where
      puts : (d : Data) → Fits (Some known) a_put d → P d (put (node_at find d) (hex_at d))
      moves : (d : Data) → Fits (Some known) a_move d → P d (move (word_at (codes "flight") d) (truth_at (codes "keep") d))
      loses : (d : Data) → Fits (Some known) a_lose d → P d (lose (word_at (codes "flight") d))
      expires : (d : Data) → Fits (Some known) an_expire d → P d (expire_made find d)
      answers : (d : Data) → Fits (Some known) an_answer d → P d (answer (node_at find d))
      switches : (d : Data) → f ≢ One → Fits (Some known) a_switch d → P d (switch (node_at find d))
      walks : (d : Data) → f ≡ Three → Fits (Some known) a_walk d → P d (walk_made find d)
      asks : (d : Data) → f ≡ Three → Fits (Some known) an_ask d → P d (ask (word_at (codes "walker") d))
      collects : (d : Data) → f ≡ Three → Fits (Some known) a_collected d → P d (collected (word_at (codes "walker") d))

    later_made : (f : Format) → Each f → (w : List ℕ) (d : Data) → is_among (keys_of (later_events f)) w ≡ true → ChoiceFits (Some known) (later_events f) w d → P d (later_by w d)
    later_made One e w d among h = absurd (true≢false (sym among))
    later_made Two e w d among h = step (P d) (bytes_eq w (codes "switch")) false _ _ among h (e.switches d (λ e. cc)) (λ none. absurd (true≢false (sym none)))
    later_made Three e w d among h =
        step (P d) (bytes_eq w (codes "switch")) _ _ _ among h (e.switches d (λ e. cc))
        (λ among h. step (P d) (bytes_eq w (codes "walk")) _ _ _ among h (e.walks d refl)
        (λ among h. step (P d) (bytes_eq w (codes "ask")) _ _ _ among h (e.asks d refl)
        (λ among h. e.collects d refl (last (bytes_eq w (codes "collected")) among h))))

    by_word : (f : Format) → Each f → (w : List ℕ) (d : Data) → is_among (keys_of (event_choices f)) w ≡ true → ChoiceFits (Some known) (event_choices f) w d → P d (event_by w find d)
    by_word f e w d among h =
        step (P d) (bytes_eq w (codes "put")) _ _ _ among h (e.puts d)
        (λ among h. step (P d) (bytes_eq w (codes "move")) _ _ _ among h (e.moves d)
        (λ among h. step (P d) (bytes_eq w (codes "lose")) _ _ _ among h (e.loses d)
        (λ among h. step (P d) (bytes_eq w (codes "expire")) _ _ _ among h (e.expires d)
        (λ among h. step (P d) (bytes_eq w (codes "answer")) _ _ _ among h (e.answers d) (later_made f e w d)))))

    event_is : (f : Format) → Each f → (d : Data) → Fits (Some known) (an_event f) d → P d (event_made find d)
    event_is f e d h =
        let word : text_of h.0 ≡ h.2.0.0 = ap text_of h.2.0.1 in
        let among : is_among (keys_of (event_choices f)) (text_of h.0) ≡ true = ap (is_among (keys_of (event_choices f))) word ∙ Contains_among (keys_of (event_choices f)) h.2.0.0 h.2.0.2 in
        subst (λ o. P d (event_by (text_found o) find d)) (sym h.1) (by_word f e (text_of h.0) d among h.2.1)

  event_there : (f : Format) (d : Data) → Fits (Some known) (an_event f) d → IsEventOf f nodes d (event_made find d)
  event_there f d h = event_is (IsEventOf f nodes) f (record {
    puts = λ d h. record { keys = h.0; does = only (codes "put") d h.1.0; at_node = node_law.there d h.1.1.0; packet = bytes_law.there d h.1.1.1.0 };
    moves = λ d h. record { keys = h.0; does = only (codes "move") d h.1.0; number = flight_law.there d h.1.1.0; kept = keep_law.there d h.1.1.1.0 };
    loses = λ d h. record { keys = h.0; does = only (codes "lose") d h.1.0; number = flight_law.there d h.1.1.0 };
    expires = λ d h.
        let o = owner_law.there d h.1.1.1.1.1.0 in
        record {
          keys = h.0;
          does = only (codes "expire") d h.1.0;
          at_node = node_law.there d h.1.1.0;
          from = source_law.there d h.1.1.1.0;
          tagged = tag_law.there d h.1.1.1.1.0;
          owned = (o.0, o.1, bit_found o.0 (number_at (codes "owner") 0 1 d) o.2);
        };
    answers = λ d h. record { keys = h.0; does = only (codes "answer") d h.1.0; at_node = node_law.there d h.1.1.0 };
    switches = λ d later h. record { later = later; keys = h.0; does = only (codes "switch") d h.1.0; at_node = node_law.there d h.1.1.0 };
    walks = λ d third h. record {
      third = third;
      keys = h.0;
      does = only (codes "walk") d h.1.0;
      at_node = node_law.there d h.1.1.0;
      asked = eid_law.there d h.1.1.1.0;
      tagged = tag_law.there d h.1.1.1.1.0;
      counted = count_law.there d h.1.1.1.1.1.0;
    };
    asks = λ d third h. record { third = third; keys = h.0; does = only (codes "ask") d h.1.0; number = walker_law.there d h.1.1.0 };
    collects = λ d third h. record { third = third; keys = h.0; does = only (codes "collected") d h.1.0; number = walker_law.there d h.1.1.0 };
  }) d h

  event_passes : (f : Format) (d : Data) → Fits (Some known) (an_event f) d → passes (event_made find d) ≡ true
  event_passes f d h = event_is (λ d e. passes e ≡ true) f (record {
    puts = λ d h. node_law.passes d h.1.1.0;
    moves = λ d h. refl;
    loses = λ d h. refl;
    expires = λ d h. node_law.passes d h.1.1.0;
    answers = λ d h. node_law.passes d h.1.1.0;
    switches = λ d later h. node_law.passes d h.1.1.0;
    walks = λ d third h. node_law.passes d h.1.1.0;
    asks = λ d third h. refl;
    collects = λ d third h. refl;
  }) d h

  -- ---- back

  -- an event with a word that its format has
  chosen : (f : Format) (w : List ℕ) (d : Data) → Does w d → is_among (keys_of (event_choices f)) w ≡ true → ChoiceFits (Some known) (event_choices f) w d → Fits (Some known) (an_event f) d
  chosen f w d does among h = (does.0, does.1, ((w, does.2, among_Contains (keys_of (event_choices f)) w among), subst (λ e. ChoiceFits (Some known) (event_choices f) (text_of e) d) (sym does.2) h))

  walks_back : (f : Format) (w : List ℕ) (d : Data) → f ≡ Three → Does w d → is_among (keys_of (event_choices Three)) w ≡ true → ChoiceFits (Some known) (event_choices Three) w d → Fits (Some known) (an_event f) d
  walks_back f w d third does among h = subst (λ f. Fits (Some known) (an_event f) d) (sym third) (chosen Three w d does among h)

  event_back : (f : Format) (d : Data) (e : EventEntry) → IsEventOf f nodes d e → Fits (Some known) (an_event f) d
  event_back f d (put n b) h = chosen f (codes "put") d h.does refl (h.keys, (one (codes "put") d h.does, (node_law.back d n h.at_node, (bytes_law.back d b h.packet, tt))), tt)
  event_back f d (move n b) h = chosen f (codes "move") d h.does refl (h.keys, (one (codes "move") d h.does, (flight_law.back d n h.number, (keep_law.back d b h.kept, tt))), tt)
  event_back f d (lose n) h = chosen f (codes "lose") d h.does refl (h.keys, (one (codes "lose") d h.does, (flight_law.back d n h.number, tt)), tt)
  event_back f d (expire n s t o) h =
      let owned = owner_law.back d (bit o) (h.owned.0, h.owned.1, bit_within h.owned.0 o h.owned.2) in
      chosen f (codes "expire") d h.does refl (h.keys, (one (codes "expire") d h.does, (node_law.back d n h.at_node, (source_law.back d s h.from, (tag_law.back d t h.tagged, (owned, tt))))), tt)
  event_back f d (answer n) h = chosen f (codes "answer") d h.does refl (h.keys, (one (codes "answer") d h.does, (node_law.back d n h.at_node, tt)), tt)
  event_back One d (switch n) h = absurd (h.later refl)
  event_back Two d (switch n) h = chosen Two (codes "switch") d h.does refl (h.keys, (one (codes "switch") d h.does, (node_law.back d n h.at_node, tt)), tt)
  event_back Three d (switch n) h = chosen Three (codes "switch") d h.does refl (h.keys, (one (codes "switch") d h.does, (node_law.back d n h.at_node, tt)), tt)
  event_back f d (walk n e t c) h =
      walks_back f (codes "walk") d h.third h.does refl (h.keys, (one (codes "walk") d h.does, (node_law.back d n h.at_node, (eid_law.back d e h.asked, (tag_law.back d t h.tagged, (count_law.back d c h.counted, tt))))), tt)
  event_back f d (ask n) h = walks_back f (codes "ask") d h.third h.does refl (h.keys, (one (codes "ask") d h.does, (walker_law.back d n h.number, tt)), tt)
  event_back f d (collected n) h = walks_back f (codes "collected") d h.third h.does refl (h.keys, (one (codes "collected") d h.does, (walker_law.back d n h.number, tt)), tt)

  -- ---- the same

  said : (w : List ℕ) (d : Data) → Does w d → event_made find d ≡ event_by w find d
  said w d does = ap (λ o. event_by (text_found o) find d) does.1 ∙ ap (λ e. event_by (text_of e) find d) does.2

  event_same : (f : Format) (d : Data) (e : EventEntry) → IsEventOf f nodes d e → event_made find d ≡ e
  event_same f d (put n b) h = said (codes "put") d h.does ∙ rw (node_law.same d n h.at_node, bytes_law.same d b h.packet) refl
  event_same f d (move n b) h = said (codes "move") d h.does ∙ rw (flight_law.same d n h.number, keep_law.same d b h.kept) refl
  event_same f d (lose n) h = said (codes "lose") d h.does ∙ ap lose (flight_law.same d n h.number)
  event_same f d (expire n s t o) h =
      let owner = owner_law.same d (bit o) (h.owned.0, h.owned.1, bit_within h.owned.0 o h.owned.2) in
      said (codes "expire") d h.does ∙ rw (node_law.same d n h.at_node, source_law.same d s h.from, tag_law.same d t h.tagged, owner) (ap (expire n s t) (bit_back o))
  event_same f d (answer n) h = said (codes "answer") d h.does ∙ ap answer (node_law.same d n h.at_node)
  event_same f d (switch n) h = said (codes "switch") d h.does ∙ ap switch (node_law.same d n h.at_node)
  event_same f d (walk n e t c) h = said (codes "walk") d h.does ∙ rw (node_law.same d n h.at_node, eid_law.same d e h.asked, tag_law.same d t h.tagged, count_law.same d c h.counted) refl
  event_same f d (ask n) h = said (codes "ask") d h.does ∙ ap ask (walker_law.same d n h.number)
  event_same f d (collected n) h = said (codes "collected") d h.does ∙ ap collected (walker_law.same d n h.number)

  -- ---- names that are known

  later_known : (f : Format) (w : List ℕ) (d : Data) → ChoiceFits None (later_events f) w d → passes (later_by w d) ≡ true → ChoiceFits (Some known) (later_events f) w d
  later_known One w d h pass = tt
  later_known Two w d h pass = stepped passes (bytes_eq w (codes "switch")) _ _ h pass (λ h pass. (h.0, (h.1.0, (node_law.known d h.1.1.0 pass, tt)), tt)) (λ h pass. tt)
  later_known Three w d h pass =
      stepped passes (bytes_eq w (codes "switch")) _ _ h pass (λ h pass. (h.0, (h.1.0, (node_law.known d h.1.1.0 pass, tt)), tt))
      (λ h pass. stepped passes (bytes_eq w (codes "walk")) _ _ h pass (λ h pass. (h.0, (h.1.0, (node_law.known d h.1.1.0 pass, h.1.1.1)), tt)) (λ h pass. h))

  choices_known : (f : Format) (w : List ℕ) (d : Data) → ChoiceFits None (event_choices f) w d → passes (event_by w find d) ≡ true → ChoiceFits (Some known) (event_choices f) w d
  choices_known f w d h pass =
      stepped passes (bytes_eq w (codes "put")) _ _ h pass (λ h pass. (h.0, (h.1.0, (node_law.known d h.1.1.0 pass, h.1.1.1)), tt))
      (λ h pass. stepped passes (bytes_eq w (codes "move")) _ _ h pass (λ h pass. h)
      (λ h pass. stepped passes (bytes_eq w (codes "lose")) _ _ h pass (λ h pass. h)
      (λ h pass. stepped passes (bytes_eq w (codes "expire")) _ _ h pass (λ h pass. (h.0, (h.1.0, (node_law.known d h.1.1.0 pass, h.1.1.1)), tt))
      (λ h pass. stepped passes (bytes_eq w (codes "answer")) _ _ h pass (λ h pass. (h.0, (h.1.0, (node_law.known d h.1.1.0 pass, tt)), tt)) (later_known f w d)))))

  event_known : (f : Format) (d : Data) → Fits None (an_event f) d → passes (event_made find d) ≡ true → Fits (Some known) (an_event f) d
  event_known f d h pass = (h.0, h.1, (h.2.0, choices_known f (text_of h.0) d h.2.1 (sym (ap (λ o. passes (event_by (text_found o) find d)) h.1) ∙ pass)))

  event_makes : (f : Format) → Made known (an_event f) (event_made find) passes (IsEventOf f nodes)
  event_makes f = record { there = event_there f; back = event_back f; same = event_same f; known = event_known f; passes = event_passes f }

  list_at : (f : Format) → MadeAt known (codes "events") (a_list (Some 100000) (an_event f)) (events_made find) (list_all passes) (IsShortListOf 100000 (IsEventOf f nodes))
  list_at f = at_makes (codes "events") [] (within_makes (event_makes f) 100000)

  -- the names of events by the format that stands there are known where all events pass
  pub strictly : (d : Data) → Fits None (events_in (events_format d)) d → list_all passes (events_made find d) ≡ true → Fits (Some known) (events_in (events_format d)) d
  strictly d h pass = (h.0, (h.1.0, ((list_at (events_format d)).known d h.1.1.0 pass, tt)), tt)

  pub pass : (d : Data) → Fits (Some known) (events_in (events_format d)) d → list_all passes (events_made find d) ≡ true
  pass d h = (list_at (events_format d)).passes d h.1.1.0

events_sound : (p : PlanValue) (d : Data) (es : List EventEntry) → events (node_names p.nodes) d ≡ Ok es → AreEventsOf p d es
events_sound p d es e =
    let nodes = node_names p.nodes in
    let f = events_format d in
    let made = events_made (index_among nodes) d in
    let s = then_Ok (refused (first_fault None (events_in f) d)) (λ _. events_tested (length nodes) made) es e in
    let n = then_Ok (demand UnknownName (list_all (is_known_event (length nodes)) made)) (λ _. Ok made) es s.2 in
    let loose = none_fits None (events_in f) d (unrefused (first_fault None (events_in f) d) s.0 s.1) in
    let strict = strictly nodes d loose (demanded UnknownName (list_all (is_known_event (length nodes)) made) n.0 n.1) in
    let number = (format_at (known nodes)).there d strict.1.0 in
    subst (AreEventsOf p d) (same_Ok n.2) (record {
      keys = strict.0;
      format = f;
      numbered = (number.0, number.1, format_found number.0 (number_at (codes "format") 1 3 d) number.2);
      events = (list_at nodes f).there d strict.1.1.0;
    })

events_whole : (p : PlanValue) (d : Data) (es : List EventEntry) → AreEventsOf p d es → events (node_names p.nodes) d ≡ Ok es
events_whole p d es h =
    let nodes = node_names p.nodes in
    let k = known nodes in
    let f = events_format d in
    let is : h.format ≡ f = sym (format_same k d h.format h.numbered) in
    let listed = subst (λ f. At (codes "events") (IsShortListOf 100000 (IsEventOf f nodes)) d es) is h.events in
    let number = (format_at k).back d (number_of h.format) (h.numbered.0, h.numbered.1, numbered h.numbered.0 h.format h.numbered.2) in
    let strict : Fits (Some k) (events_in f) d = (h.keys, (number, ((list_at nodes f).back d es listed, tt)), tt) in
    let none : first_fault None (events_in f) d ≡ None = fits_none None (events_in f) d (forget k (events_in f) d strict) in
    let same : events_made (index_among nodes) d ≡ es = (list_at nodes f).same d es listed in
    let all : list_all (is_known_event (length nodes)) es ≡ true = ap (list_all (is_known_event (length nodes))) (sym same) ∙ pass nodes d strict in
    rw (none) (ap (events_tested (length nodes)) same ∙ rw (all) refl)

pub events_tells : (p : PlanValue) → Tells (events (node_names p.nodes)) any (AreEventsOf p)
events_tells p = record { sound = λ d es e pass. events_sound p d es e; whole = events_whole p; passes = λ d es h. refl }

-- events that were read are at nodes of their plan
pub events_known : (nodes : List (List ℕ)) (d : Data) (es : List EventEntry) → events nodes d ≡ Ok es → list_all (is_known_event (length nodes)) es ≡ true
events_known nodes d es e =
    let made = events_made (index_among nodes) d in
    let s = then_Ok (refused (first_fault None (events_in (events_format d)) d)) (λ _. events_tested (length nodes) made) es e in
    let n = then_Ok (demand UnknownName (list_all (is_known_event (length nodes)) made)) (λ _. Ok made) es s.2 in
    ap (list_all (is_known_event (length nodes))) (sym (same_Ok n.2)) ∙ demanded UnknownName (list_all (is_known_event (length nodes)) made) n.0 n.1

-- ---- the tests one after another

module _ (nodes : List (List ℕ)) (d : Data) (g : Grammar) (is : g ≡ events_in (events_format d)) where
  abbrev made : List EventEntry
  made = events_made (index_among nodes) d

  values : events nodes d ≡ then_with (refused (first_fault None g d)) (λ _. events_tested (length nodes) made)
  values = ap (λ g. then_with (refused (first_fault None g d)) (λ _. events_tested (length nodes) made)) (sym is)

  tested : (u : Unit {0}) → refused (first_fault None g d) ≡ Ok u → events nodes d ≡ events_tested (length nodes) made
  tested u e = values ∙ ap (λ r. then_with r (λ _. events_tested (length nodes) made)) e

  pub wrong_value : (e : ValueFault) → refused (first_fault None g d) ≡ Err e → events nodes d ≡ Err e
  wrong_value e told = values ∙ ap (λ r. then_with r (λ _. events_tested (length nodes) made)) told

  pub unknown_events : (u : Unit {0}) (e : ValueFault) (es : List EventEntry) → refused (first_fault None g d) ≡ Ok u → es ≡ made → Err e ≡ demand UnknownName (list_all (is_known_event (length nodes)) es) → events nodes d ≡ Err e
  unknown_events u e es well same told =
      tested u well ∙ ap (λ es. events_tested (length nodes) es) (sym same) ∙ ap (λ r. then_with r (λ _. Ok es)) (sym told)

  pub known_events : (u v : Unit {0}) (es : List EventEntry) → refused (first_fault None g d) ≡ Ok u → es ≡ made → Ok v ≡ demand UnknownName (list_all (is_known_event (length nodes)) es) → events nodes d ≡ Ok es
  known_events u v es well same told =
      tested u well ∙ ap (λ es. events_tested (length nodes) es) (sym same) ∙ ap (λ r. then_with r (λ _. Ok es)) (sym told)
