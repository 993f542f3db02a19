-- One entry more, and its lines.
use Rattle.std.{proofs.Common.{◌≡◌, ℕ, ◌<◌, ◌+◌, List, [], ◌∷◌, ◌++◌, length, refl, ap, sym, ◌∙◌, subst, get_or, map, take, append_assoc}, specs.Prelude.{Option, Result, Ok, Err, OnOk}, proofs.lemmas.List.{take_more, map-append}}
use Rattle.bus_captures.{specs.Values.{EntryValue, entry_value}, specs.declared.capture.Entry.{Entry}}
use Rattle.heard_captures.{specs.Seen.{Seen}, specs.Stations.{AreIdle}, specs.Steps.{HaveSeen, Sees}, specs.declared.stations.Stations.{Stations}}
use Rattle.plan_values.specs.declared.plan.Plan.{Plan}
use Rattle.decoded_texts.{specs.Decoding.{AreTold, None, More, unit_by}, specs.Seen.{IsToldAs}, specs.Steps.{AddsTold, AddsStep}}
use Rattle.heard_captures.proofs.SeenLaws as heard

module _ (plan : Option Plan) where
  -- these entries were seen, these are their lines, and the stations were given their packets
  pub record HasTold (entries : List EntryValue) (stations : Stations) (lines : List ℕ) : Type 0 where
    pub seen : List Seen
    pub have : HaveSeen (unit_by plan) entries seen stations
    pub told : AreTold plan entries seen lines

  pub nothing_told : (stations : Stations) → AreIdle stations → HasTold [] stations []
  nothing_told stations idle = record { seen = []; have = heard.nothing_seen (unit_by plan) stations idle; told = None }

  -- the next entry of a list
  pub next_told : (items : List Entry) (i : ℕ) (item : Entry) (old new : Stations) (text all : List ℕ) → i < length items → item ≡ get_or items i item
      → HasTold (map entry_value (take i items)) old text → AddsStep old new plan (entry_value item) text all
      → HasTold (map entry_value (take (i + 1) items)) new all
  next_told items i item old new text all within is before step =
      let entries = map entry_value (take i items) in
      let same : take (i + 1) items ≡ take i items ++ item ∷ [] = take_more items i item within ∙ ap (λ x. take i items ++ x ∷ []) (sym is) in
      let mapped : map entry_value (take (i + 1) items) ≡ entries ++ entry_value item ∷ [] =
      ap (λ es. map entry_value es) same ∙ map-append entry_value (take i items) (item ∷ []) in
      record {
        seen = before.seen ++ step.seen ∷ [];
        have = heard.next_seen (unit_by plan) items i item before.seen old new step.seen within is before.have step.sees;
        told = subst (λ (es : List EntryValue). AreTold plan es (before.seen ++ step.seen ∷ []) all) (sym mapped)
            (subst (λ t. AreTold plan (entries ++ entry_value item ∷ []) (before.seen ++ step.seen ∷ []) t) (sym step.joined)
            (More entries before.seen text (entry_value item) step.seen step.head step.told before.told step.tells));
      }

  -- what one entry changes, where its lines come
  pub step_if : {T E : Type 0} (old new : Stations) (e : EntryValue) (s : Seen) (before words headed after : List ℕ) (result : Result T E)
      → Sees (unit_by plan) old new e s → headed ≡ before ++ words → OnOk result (AddsTold plan s headed after) → OnOk result (AddsStep old new plan e before after)
  step_if old new e s before words headed after (Ok t) sees is (told, tells, joined) = record {
    seen = s;
    sees = sees;
    head = words;
    told = told;
    tells = tells;
    joined = joined ∙ ap (λ x. x ++ told) is ∙ append_assoc before words told;
  }
  step_if old new e s before words headed after (Err x) sees is told = told

  -- lines that are known
  pub line_if : {T E : Type 0} (s : Seen) (before lines after : List ℕ) (result : Result T E) → OnOk result (after ≡ before ++ lines) → IsToldAs plan s lines
      → OnOk result (AddsTold plan s before after)
  line_if s before lines after (Ok t) joined told = (lines, told, joined)
  line_if s before lines after (Err x) joined told = joined

-- what a message says
pub said_if : {T E : Type 0} (before said after : List ℕ) (result : Result T E) → OnOk result (after ≡ before ++ said)
    → OnOk result ((s : List ℕ) × (after ≡ before ++ s))
said_if before said after (Ok t) joined = (said, joined)
said_if before said after (Err x) joined = joined

-- behind a line stands what is said, and both are lines that were added
module _ {T E : Type 0} (before line : List ℕ) where
  pub behind_if : (between after : List ℕ) (result : Result T E) → between ≡ before ++ line → OnOk result ((s : List ℕ) × (after ≡ between ++ s))
      → OnOk result ((s : List ℕ) × (after ≡ before ++ (line ++ s)))
  behind_if between after (Ok t) is (said, joined) = (said, joined ∙ ap (λ x. x ++ said) is ∙ append_assoc before line said)
  behind_if between after (Err x) is told = told

  pub lines_if : (after : List ℕ) (result : Result T E) → OnOk result ((s : List ℕ) × (after ≡ before ++ (line ++ s)))
      → OnOk result ((told : List ℕ) × ((s : List ℕ) × (told ≡ line ++ s)) × (after ≡ before ++ told))
  lines_if after (Ok t) (said, joined) = (line ++ said, (said, refl), joined)
  lines_if after (Err x) told = told

-- ---- the pieces of a packet's line

flat3 : (a b c r : List ℕ) → (a ++ (b ++ c)) ++ r ≡ a ++ (b ++ (c ++ r))
flat3 a b c r = append_assoc a (b ++ c) r ∙ ap (λ x. a ++ x) (append_assoc b c r)

flat4 : (a b c d r : List ℕ) → (a ++ (b ++ (c ++ d))) ++ r ≡ a ++ (b ++ (c ++ (d ++ r)))
flat4 a b c d r = append_assoc a (b ++ (c ++ d)) r ∙ ap (λ x. a ++ x) (flat3 b c d r)

module _ (old space word packet a p t payload h names end : List ℕ) where
  regroup : ((((((old ++ (space ++ (word ++ (space ++ packet)))) ++ a) ++ (space ++ p)) ++ (space ++ (t ++ payload))) ++ h) ++ names) ++ end
      ≡ old ++ (space ++ (word ++ (space ++ (packet ++ (a ++ (space ++ (p ++ (space ++ (t ++ (payload ++ (h ++ (names ++ end))))))))))))
  regroup =
      let r1 = h ++ (names ++ end) in
      let r2 = space ++ (t ++ (payload ++ r1)) in
      let r3 = space ++ (p ++ r2) in
      let g1 = space ++ (word ++ (space ++ packet)) in
      let g4 = space ++ (t ++ payload) in
      append_assoc (((((old ++ g1) ++ a) ++ (space ++ p)) ++ g4) ++ h) names end
      ∙ append_assoc ((((old ++ g1) ++ a) ++ (space ++ p)) ++ g4) h (names ++ end)
      ∙ append_assoc (((old ++ g1) ++ a) ++ (space ++ p)) g4 r1 ∙ ap (λ x. (((old ++ g1) ++ a) ++ (space ++ p)) ++ x) (flat3 space t payload r1)
      ∙ append_assoc ((old ++ g1) ++ a) (space ++ p) r2 ∙ ap (λ x. ((old ++ g1) ++ a) ++ x) (append_assoc space p r2)
      ∙ append_assoc (old ++ g1) a r3
      ∙ append_assoc old g1 (a ++ r3) ∙ ap (λ x. old ++ x) (flat4 space word space packet (a ++ r3))

  pub line_joined : {T E : Type 0} (t1 t2 t3 t4 t5 t6 t7 : List ℕ) (result : Result T E) → t1 ≡ old ++ (space ++ (word ++ (space ++ packet))) → t2 ≡ t1 ++ a
      → t3 ≡ t2 ++ (space ++ p) → t4 ≡ t3 ++ (space ++ (t ++ payload)) → t5 ≡ t4 ++ h → t6 ≡ t5 ++ names → OnOk result (t7 ≡ t6 ++ end)
      → OnOk result (t7 ≡ old ++ (space ++ (word ++ (space ++ (packet ++ (a ++ (space ++ (p ++ (space ++ (t ++ (payload ++ (h ++ (names ++ end)))))))))))))
  line_joined t1 t2 t3 t4 t5 t6 t7 (Ok x) e1 e2 e3 e4 e5 e6 e7 =
      e7
      ∙ ap (λ y. y ++ end) (e6 ∙ ap (λ y. y ++ names) (e5 ∙ ap (λ y. y ++ h) (e4 ∙ ap (λ y. y ++ (space ++ (t ++ payload))) (e3 ∙ ap (λ y. y ++ (space ++ p)) (e2 ∙ ap (λ y. y ++ a) e1)))))
      ∙ regroup
  line_joined t1 t2 t3 t4 t5 t6 t7 (Err x) e1 e2 e3 e4 e5 e6 e7 = e7
