-- Along each run with walkers in which bytes are put in, the network has what it needs in order to go on.
use Rattle.std.{proofs.Common.{◌≡◌, ◌≢◌, ◌⊎◌, ℕ, zero, suc, ◌<◌, ◌≤◌, ◌^◌, Bool, true, false, List, [], ◌∷◌, ◌++◌, Option, Some, None, Result, Ok, Err, refl, sym, ap, ◌∙◌, subst, inl, inr, arith}, specs.Prelude.{MatchResult, slice_index}, specs.List.{AllByRecursion}, proofs.lemmas.Bool.{cases_lt}, proofs.lemmas.Bool.Decides.{eqb_tells}, proofs.lemmas.List.{append-nil}, proofs.lemmas.List.Elements.{recursion_from_All}, proofs.lemmas.Option.{same_Some}, specs.Option.{option_to_list}}
use Rattle.mctp_transport.{specs.Bits.{bit_most}, specs.PacketValues.{PacketValue, IsPacketValue, packet_value_bytes}, specs.Hearing.{Whole}, proofs.PacketLists.{joined_payloads}}
use Rattle.pldm_message.{specs.InstanceIds.{IdSet, Gives, TakesBack}, specs.Messages.{ResponseHeadValue}, specs.Pdrs.{PartRequest, IsPartRequest, Part, IsPart, part_numbers, get_pdr_request_bytes}}
use Rattle.pdr_repository.{specs.Records.{change_in}, specs.Parts.{PartAnswer}, specs.Walks.{first_part, follows}, specs.declared.walk_fault.Step.{Step as WalkStep}, specs.declared.walk_fault.WalkFault.{WalkFault}, specs.Walkers.{WalkState, asked_under, Asks, IsAnswerIn, Takes, TakesOutcome, Proceeds, Fails}, proofs.SomeAnswers.{EachByte}}
use Rattle.plan_values.{specs.declared.plan.Plan.{Plan}, specs.declared.certificate.Certificate.{Certificate}}
use Rattle.net_runs.{proofs.Units.{part_fits}, specs.Termini.{AreBytes}, specs.States.{NetworkState, unit_of}, specs.Events.{EventValue, Put, OutcomeValue, PutIn, N01}, specs.ByteRuns.{RecordsAreBytes}, specs.Walkers.{WalkerValue, WalkedState, WalkedEvent, Happening, BeginWalk, Ask, TellWalk, WalkRefusal, Also, N09, N10, WalkedOutcome, Happened, Begun, Asked, ToldWalk, WalkRefused, walked_at_start, fresh_walker, with_walker, IsWalkRefused, answering_key, AreSettled, ended_after, five_packets}, specs.WalkedRuns.{IsAsking, WalkedHappens, WalkedStep, WalkedTurn, WalkedRunFrom, walked_after, walked_reached}, specs.WalkedGoing.{HasNumberedFlights, IsLawfulWalker, CanGoOn, EidsAreBytes, WalkedRunsGoOn}, proofs.ByteRuns.{IsByteNetwork, are_bytes, start_bytes, step_bytes, whole_bytes}, proofs.Nexts.{step_is_next}, proofs.Promised.{step_tells}, proofs.Soundness.{changed}, proofs.Steps.{holds_some}, proofs.WalkedSteps.{walked_some_step}}
use Rattle.net_tables.{specs.Routing.{Holds}, specs.TwoPlans.{Tables}}
use Rattle.net_runs.specs.Networks as network

-- ---- a walker that is kept

-- it can ask, only its outstanding ID is out, and that fits its bits
pub record IsKept (plan : Plan) (walker : WalkerValue) : Type 0 where
  pub home : (own : ℕ) × (own < 256) × Holds plan walker.node own
  pub tag : walker.tag < 8
  pub eid : walker.eid < 256
  pub due : (r : PartRequest) → walker.walk.due ≡ Some r → IsPartRequest r
  pub outstanding : walker.walk.waiting ≢ None → walker.walk.due ≢ None
  pub only : (id : ℕ) → walker.ids.out id ≡ true → walker.walk.waiting ≡ Some id
  pub small : (id : ℕ) → walker.walk.waiting ≡ Some id → id < 32

pub kept_is_lawful : (plan : Plan) (walker : WalkerValue) → IsKept plan walker → IsLawfulWalker plan walker
kept_is_lawful plan walker kept = record {
  home = kept.home;
  tag = kept.tag;
  eid = kept.eid;
  due = kept.due;
  outstanding = kept.outstanding;
  free = λ none. (0, (omega arith, is_in (walker.ids.out 0) refl none));
}
  where
    is_in : (b : Bool) → walker.ids.out 0 ≡ b → walker.walk.waiting ≡ None → walker.ids.out 0 ≡ false
    is_in false is none = is
    is_in true is none = absurd (let e : None ≡ Some 0 = sym none ∙ kept.only 0 is in cc)

-- ---- what is due after an answer can be asked for

byte_at : (bytes : List ℕ) (i : ℕ) → EachByte bytes → slice_index bytes i < 256
byte_at [] i all = omega arith
byte_at (b ∷ bytes) zero all = all.0
byte_at (b ∷ bytes) (suc i) all = byte_at bytes i all.1

small_change : (bytes : List ℕ) → EachByte bytes → change_in bytes < 2 ^ 16
small_change bytes all = let a = byte_at bytes 6 all in let b = byte_at bytes 7 all in omega arith

follows_is_request : (r s : PartRequest) (p : Part) → IsPartRequest r → IsPart p → EachByte p.bytes → follows r (Ok p) ≡ Some s → IsPartRequest s
follows_is_request r s p lawful part all is = elim (eqb_tells p.flag 0) [
  | inl start ↦ such (record { handle = r.handle; transfer = p.transfer; operation = 0; count = r.count; change = change_in p.bytes })
      (record { handle = lawful.handle; transfer = part.transfer; operation = omega arith; count = lawful.count; change = small_change p.bytes all }) (rw start.0 refl)
  | inr no_start ↦ elim (eqb_tells p.flag 1) [
    | inl middle ↦ such (record { handle = r.handle; transfer = p.transfer; operation = 0; count = r.count; change = r.change })
        (record { handle = lawful.handle; transfer = part.transfer; operation = omega arith; count = lawful.count; change = lawful.change }) (rw (no_start.0, middle.0) refl)
    | inr no_middle ↦ elim (eqb_tells p.next 0) [
      | inl last ↦ absurd (let e : None ≡ Some s = sym (none (rw (no_start.0, no_middle.0, last.0) refl)) ∙ is in cc)
      | inr more ↦ such (first_part r.count p.next)
          (record { handle = part.next; transfer = omega arith; operation = omega arith; count = lawful.count; change = omega arith }) (rw (no_start.0, no_middle.0, more.0) refl)
    ]
  ]
]
  where
    none : follows r (Ok p) ≡ None → follows r (Ok p) ≡ None
    none e = e

    such : (t : PartRequest) → IsPartRequest t → follows r (Ok p) ≡ Some t → IsPartRequest s
    such t request same = let P : PartRequest → Type 0 = IsPartRequest in subst P (same_Some t s (sym same ∙ is)) request

right_bytes : (xs ys : List ℕ) → EachByte (xs ++ ys) → EachByte ys
right_bytes [] ys all = all
right_bytes (x ∷ xs) ys all = right_bytes xs ys all.1

front_bytes : (xs ys : List ℕ) → EachByte (xs ++ ys) → EachByte xs
front_bytes [] ys all = tt
front_bytes (x ∷ xs) ys all = (all.0, front_bytes xs ys all.1)

-- the bytes of a part that stands in a message of bytes
data_are_bytes : (bytes : List ℕ) (head : ResponseHeadValue) (p : Part) → EachByte bytes → IsAnswerIn bytes (record { head = head; outcome = Ok p }) → EachByte p.bytes
data_are_bytes bytes head p all is =
    let E : List ℕ → Type 0 = EachByte in
    let whole = subst E is.1 all in
    let tail : EachByte (part_numbers p ++ p.bytes ++ option_to_list p.crc) = whole.1.1.1.1.1 in
    right_bytes (part_numbers p) p.bytes (front_bytes (part_numbers p ++ p.bytes) (option_to_list p.crc) tail)

-- what a walker is like after it has taken an answer
pub record HasAnswered (old : WalkState) (result : Result WalkStep WalkFault) (new : WalkState) : Type 0 where
  pub step : WalkStep
  pub told : result ≡ Ok step
  pub waiting : new.waiting ≡ None
  pub due : (s : PartRequest) → new.due ≡ Some s → IsPartRequest s

-- what it is like where it hasn't
pub record HasNotAnswered (old : WalkState) (result : Result WalkStep WalkFault) (new : WalkState) : Type 0 where
  pub fault : WalkFault
  pub told : result ≡ Err fault
  pub waiting : new.waiting ≡ old.waiting
  pub due : new.due ≡ old.due

abbrev Made : WalkState → Result WalkStep WalkFault → WalkState → Type 0
Made old result new = HasAnswered old result new ⊎ HasNotAnswered old result new

stays : (old : WalkState) (result : Result WalkStep WalkFault) (new : WalkState) (fault : WalkFault) → result ≡ Err fault → new.waiting ≡ old.waiting → new.due ≡ old.due → Made old result new
stays old result new fault told waiting due = inr (record { fault = fault; told = told; waiting = waiting; due = due })

fails : (old : WalkState) (result : Result WalkStep WalkFault) (new : WalkState) (fault : WalkFault) → Fails old fault result new → Made old result new
fails old result new fault (told, is) = stays old result new fault told (ap (λ (v : WalkState). v.waiting) is) (ap (λ (v : WalkState). v.due) is)

ignores : (old : WalkState) (result : Result WalkStep WalkFault) (new : WalkState) (fault : WalkFault) → result ≡ Err fault → new ≡ old → Made old result new
ignores old result new fault told is = stays old result new fault told (ap (λ (v : WalkState). v.waiting) is) (ap (λ (v : WalkState). v.due) is)

proceeds : (old : WalkState) (r : PartRequest) (p : Part) (result : Result WalkStep WalkFault) (new : WalkState) → IsPartRequest r → IsPart p → EachByte p.bytes → Proceeds old r p result new
    → Made old result new
proceeds old r p (Ok step) new lawful part all (says, is) = inl (record {
  step = step;
  told = refl;
  waiting = ap (λ (v : WalkState). v.waiting) is;
  due = λ s due. follows_is_request r s p lawful part all (sym (ap (λ (v : WalkState). v.due) is) ∙ due);
})
proceeds old r p (Err fault) new lawful part all (why, is) = ignores old (Err fault) new fault refl is

outcome_made : (old : WalkState) (r : PartRequest) (head : ResponseHeadValue) (a : PartAnswer) (bytes : List ℕ) (result : Result WalkStep WalkFault) (new : WalkState) → IsPartRequest r → EachByte bytes
    → IsAnswerIn bytes (record { head = head; outcome = a }) → TakesOutcome old r a result new → Made old result new
outcome_made old r head (Err code) bytes result new lawful all is (inl (_, out)) = fails old result new _ out
outcome_made old r head (Err code) bytes result new lawful all is (inr (_, out)) = fails old result new _ out
outcome_made old r head (Ok p) bytes result new lawful all is (Some fault, judges, out) = fails old result new fault out
outcome_made old r head (Ok p) bytes result new lawful all is (None, judges, out) = proceeds old r p result new lawful is.0.1 (data_are_bytes bytes head p all is) out

takes_made : (old : WalkState) (bytes : List ℕ) (result : Result WalkStep WalkFault) (new : WalkState) → ((r : PartRequest) → old.due ≡ Some r → IsPartRequest r) → EachByte bytes
    → Takes old bytes result new → Made old result new
takes_made old bytes result new lawful all (inl (_, (told, is))) = ignores old result new _ told is
takes_made old bytes result new lawful all (inr (_, inl (_, (told, is)))) = ignores old result new _ told is
takes_made old bytes result new lawful all (inr (_, inr (_, inl (_, out)))) = fails old result new _ out
takes_made old bytes result new lawful all (inr (_, inr (_, inr (_, (h, begins, inl (_, (told, is))))))) = ignores old result new _ told is
takes_made old bytes result new lawful all (inr (_, inr (_, inr (_, (h, begins, inr (_, inl (_, out))))))) = fails old result new _ out
takes_made old bytes result new lawful all (inr (_, inr (_, inr (_, (h, begins, inr (_, inr (_, (m, r, is, due, out)))))))) =
    outcome_made old r m.head m.outcome bytes result new (lawful r due) all is out

-- ---- a walker that is handed a message, and one that asks

pub handed_is_kept : (plan : Plan) (walker : WalkerValue) (message : List ℕ) (result : Result WalkStep WalkFault) (walk : WalkState) (ids : IdSet) → IsKept plan walker → EachByte message
    → Takes walker.walk message result walk
    → MatchResult result (λ step. (id : ℕ) × (walker.walk.waiting ≡ Some id) × TakesBack walker.ids id ids) (λ fault. ids ≡ walker.ids)
    → IsKept plan (record walker { walk = walk; ids = ids; ended = ended_after walker.ended result })
handed_is_kept plan walker message result walk ids kept all takes given = by result (takes_made walker.walk message result walk kept.due all takes) given
  where
    by : (result : Result WalkStep WalkFault) → Made walker.walk result walk
        → MatchResult result (λ step. (id : ℕ) × (walker.walk.waiting ≡ Some id) × TakesBack walker.ids id ids) (λ fault. ids ≡ walker.ids)
        → IsKept plan (record walker { walk = walk; ids = ids; ended = ended_after walker.ended result })
    by (Ok step) (inr made) given = absurd (let e : Ok step ≡ Err made.fault = made.told in cc)
    by (Err fault) (inl made) given = absurd (let e : Err fault ≡ Ok made.step = made.told in cc)
    by (Ok step) (inl made) (id, waiting, back) = record {
      home = kept.home;
      tag = kept.tag;
      eid = kept.eid;
      due = made.due;
      outstanding = λ some. absurd (some made.waiting);
      only = λ i out. absurd (none_out i out);
      small = λ i is. absurd (let e : None ≡ Some i = sym made.waiting ∙ is in cc);
    }
      where
        none_out : (i : ℕ) → ids.out i ≡ true → ⊥
        none_out i out = elim (eqb_tells i id) [
          | inl same ↦ let gone : ids.out i ≡ false = back.out i ∙ rw same.0 refl in let e : false ≡ true = sym gone ∙ out in cc
          | inr other ↦
              let stood : walker.ids.out i ≡ true = sym (back.out i ∙ rw other.0 refl) ∙ out in
              other.1 (same_Some i id (sym (kept.only i stood) ∙ waiting))
        ]
    by (Err fault) (inr made) same = record {
      home = kept.home;
      tag = kept.tag;
      eid = kept.eid;
      due = λ r due. kept.due r (sym made.due ∙ due);
      outstanding = λ some none. kept.outstanding (λ waits. some (made.waiting ∙ waits)) (sym made.due ∙ none);
      only = λ i out. made.waiting ∙ kept.only i (ap (λ (x : IdSet). x.out i) (sym same) ∙ out);
      small = λ i is. kept.small i (sym made.waiting ∙ is);
    }

-- what is asked, and what the walker is then
record HasAsked (walker : WalkerValue) (id : ℕ) (request : List ℕ) (walk : WalkState) : Type 0 where
  r : PartRequest
  due : walker.walk.due ≡ Some r
  request_is : request ≡ get_pdr_request_bytes (asked_under id r)
  is : walk ≡ record walker.walk { waiting = Some id }

has_asked : (walker : WalkerValue) (id : ℕ) (request : List ℕ) (walk : WalkState) → Asks walker.walk id (Some request) walk → HasAsked walker id request walk
has_asked walker id request walk (inl (_, (none, _))) = absurd (let e : Some request ≡ None = none in cc)
has_asked walker id request walk (inr (_, (r, due, lawful, same, is))) = record { r = r; due = due; request_is = same_Some request _ same; is = is }

pub asking_is_kept : (tables : Tables) (w : NetworkState) (walker : WalkerValue) (flight : ℕ) (new : NetworkState) (next : WalkerValue) → IsKept tables.plan walker
    → IsAsking tables w walker flight new next → IsKept tables.plan next
asking_is_kept tables w walker flight new next kept asking =
    let asked = has_asked walker asking.id asking.request asking.walk asking.asks in
    let waits : asking.walk.waiting ≡ Some asking.id = ap (λ (v : WalkState). v.waiting) asked.is in
    let due : asking.walk.due ≡ walker.walk.due = ap (λ (v : WalkState). v.due) asked.is in
    let K : WalkerValue → Type 0 = IsKept tables.plan in
    subst K (sym asking.is) (record {
      home = kept.home;
      tag = kept.tag;
      eid = kept.eid;
      due = λ r is. kept.due r (sym due ∙ is);
      outstanding = λ some none. let e : Some asked.r ≡ None = sym asked.due ∙ sym due ∙ none in cc;
      only = λ i out. waits ∙ only i out asking.under;
      small = λ i is. let P : ℕ → Type 0 = λ n. n < 32 in subst P (same_Some asking.id i (sym waits ∙ is)) (small asking.under);
    })
  where
    only : (i : ℕ) → asking.ids.out i ≡ true
        → ((walker.walk.waiting ≡ Some asking.id) × (asking.ids ≡ walker.ids)) ⊎ ((walker.walk.waiting ≡ None) × AreSettled tables.plan w asking.own walker × Gives walker.ids asking.id asking.ids) → Some asking.id ≡ Some i
    only i out (inl (waiting, same)) = sym waiting ∙ kept.only i (ap (λ (x : IdSet). x.out i) (sym same) ∙ out)
    only i out (inr (none, settled, gives)) = elim (eqb_tells i asking.id) [
      | inl same ↦ ap Some (sym same.1)
      | inr other ↦
          let stood : walker.ids.out i ≡ true = sym (gives.out i ∙ rw other.0 refl) ∙ out in
          absurd (let e : None ≡ Some i = sym none ∙ kept.only i stood in cc)
    ]

    small : ((walker.walk.waiting ≡ Some asking.id) × (asking.ids ≡ walker.ids)) ⊎ ((walker.walk.waiting ≡ None) × AreSettled tables.plan w asking.own walker × Gives walker.ids asking.id asking.ids) → asking.id < 32
    small (inl (waiting, same)) = kept.small asking.id waiting
    small (inr (none, settled, gives)) = gives.next.free.0

-- ---- the bytes that are put in

pub request_is_bytes : (id : ℕ) (r : PartRequest) → id < 32 → IsPartRequest r → EachByte (get_pdr_request_bytes (asked_under id r))
request_is_bytes id r small lawful =
    let operation = lawful.operation in (
      omega arith,
      (
        omega arith,
        (omega arith, (omega arith, (omega arith, (omega arith, (omega arith, (omega arith, (omega arith, (omega arith, (omega arith, (omega arith, (operation, (omega arith, (omega arith, (omega arith, (omega arith, tt))))))))))))))),
      ),
    )

frame_is_bytes : (unit : ℕ) (p : PacketValue) → IsPacketValue unit p → EachByte p.payload → EachByte (packet_value_bytes p)
frame_is_bytes unit p frame all =
    let som = bit_most p.som in
    let eom = bit_most p.eom in
    let owner = bit_most p.owner in
    let reserved = frame.reserved in
    let number = frame.number in
    let tag = frame.tag in
    (omega arith, (frame.destination, (frame.source, (omega arith, all))))

asking_puts_bytes : (tables : Tables) (w : NetworkState) (walker : WalkerValue) (flight : ℕ) (new : NetworkState) (next : WalkerValue) → IsKept tables.plan walker
    → (asking : IsAsking tables w walker flight new next) → IsKept tables.plan next → AreBytes asking.bytes
asking_puts_bytes tables w walker flight new next kept asking kept_next =
    let asked = has_asked walker asking.id asking.request asking.walk asking.asks in
    let waits : next.walk.waiting ≡ Some asking.id = ap (λ (x : WalkerValue). x.walk.waiting) asking.is ∙ ap (λ (v : WalkState). v.waiting) asked.is in
    let request = request_is_bytes asking.id asked.r (kept_next.small asking.id waits) (kept.due asked.r asked.due) in
    let E : List ℕ → Type 0 = EachByte in
    let payload : asking.packet.payload ≡ asking.request = sym (append-nil asking.packet.payload) ∙ sym (asking.cut.cut.whole ∙ joined_payloads (asking.packet ∷ [])) in
    let content : EachByte asking.packet.payload = subst E (sym (payload ∙ asked.request_is)) request in
    are_bytes asking.bytes (subst E (sym asking.spelled.1) (frame_is_bytes (unit_of tables.plan) asking.packet asking.spelled.0 content))

-- ---- the network

pub record IsKeptNetwork (plan : Plan) (w : WalkedState) : Type 0 where
  pub bytes : IsByteNetwork w.network
  pub flights : HasNumberedFlights w.network
  pub numbered : (k : ℕ) (walker : WalkerValue) → w.walker k ≡ Some walker → k ≤ w.begun
  pub walkers : (k : ℕ) (walker : WalkerValue) → w.walker k ≡ Some walker → IsKept plan walker

can_go_on : (plan : Plan) (w : WalkedState) → IsKeptNetwork plan w → CanGoOn plan w
can_go_on plan w kept = record {
  termini = λ n t is. (kept.bytes.termini n t is).held;
  flights = kept.flights;
  walkers = record { numbered = kept.numbered; lawful = λ k walker is. kept_is_lawful plan walker (kept.walkers k walker is) };
}

module _ (tables : Tables) (eids : EidsAreBytes tables.plan) where
  network_keeps : (w : NetworkState) (event : EventValue) (outcome : OutcomeValue) (new : NetworkState) → IsByteNetwork w → HasNumberedFlights w
      → ((node : ℕ) (bytes : List ℕ) → event ≡ Put node bytes → AreBytes bytes) → network.Step tables w event outcome new → IsByteNetwork new × HasNumberedFlights new
  network_keeps w event outcome new bytes numbered puts step =
      (step_bytes tables w event outcome new bytes puts step, (step_is_next tables w event outcome new step).numbers numbered)

  -- one walker has changed, or is new
  with_kept : (walkers : ℕ → Option WalkerValue) (begun most j : ℕ) (x : WalkerValue) → ((k : ℕ) (walker : WalkerValue) → walkers k ≡ Some walker → k ≤ begun)
      → ((k : ℕ) (walker : WalkerValue) → walkers k ≡ Some walker → IsKept tables.plan walker) → IsKept tables.plan x → j ≤ most → begun ≤ most
      → ((k : ℕ) (walker : WalkerValue) → with_walker walkers j x k ≡ Some walker → k ≤ most)
      × ((k : ℕ) (walker : WalkerValue) → with_walker walkers j x k ≡ Some walker → IsKept tables.plan walker)
  with_kept walkers begun most j x numbered kept one small more = (
    (λ k walker is. elim (changed walkers j k x walker is) [
      | inl (same, _) ↦ omega arith
      | inr (_, stands) ↦ let h = numbered k walker stands in omega arith
    ]),
    (λ k walker is. elim (changed walkers j k x walker is) [
      | inl (_, same) ↦ let K : WalkerValue → Type 0 = IsKept tables.plan in subst K same one
      | inr (_, stands) ↦ kept k walker stands
    ]),
  )

  kept_by : (w new : WalkedState) (walkers : ℕ → Option WalkerValue) (begun : ℕ) → IsByteNetwork new.network × HasNumberedFlights new.network
      → ((k : ℕ) (walker : WalkerValue) → walkers k ≡ Some walker → k ≤ begun) × ((k : ℕ) (walker : WalkerValue) → walkers k ≡ Some walker → IsKept tables.plan walker)
      → new.walker ≡ walkers → new.begun ≡ begun → IsKeptNetwork tables.plan new
  kept_by w new walkers begun below of_walkers same number =
      let N : (ℕ → Option WalkerValue) → Type 0 = λ ws. (k : ℕ) (walker : WalkerValue) → ws k ≡ Some walker → k ≤ new.begun in
      let B : ℕ → Type 0 = λ b. (k : ℕ) (walker : WalkerValue) → walkers k ≡ Some walker → k ≤ b in
      let K : (ℕ → Option WalkerValue) → Type 0 = λ ws. (k : ℕ) (walker : WalkerValue) → ws k ≡ Some walker → IsKept tables.plan walker in
      record {
        bytes = below.0;
        flights = below.1;
        numbered = subst N (sym same) (subst B (sym number) of_walkers.0);
        walkers = subst K (sym same) of_walkers.1;
      }

  pub fresh_is_kept : (w : WalkedState) (node eid tag count : ℕ) → tag < 8 → ((why : WalkRefusal) → ¬ IsWalkRefused tables.plan w (BeginWalk node eid tag count) why)
      → IsKept tables.plan (fresh_walker node eid tag count)
  fresh_is_kept w node eid tag count small may =
      let own = holds_some tables.plan node (may (Also N01)) in
      let count_fits : count < 2 ^ 16 = elim (cases_lt (five_packets (unit_of tables.plan)) count) [ inl more ↦ absurd (may N10 (inr more)) | inr fits ↦ omega (arith, part_fits tables.plan count fits) ] in
      record {
        home = (own.0, eids node own.0 own.1, own.1);
        tag = small;
        eid = elim (cases_lt eid 256) [
          | inl byte ↦ byte
          | inr large ↦ absurd (may N09 (λ n holds. let byte = eids n eid holds in absurd (omega arith)))
        ];
        due = λ r is.
            let P : PartRequest → Type 0 = IsPartRequest in
            subst P (same_Some (first_part count 0) r is) (record { handle = omega arith; transfer = omega arith; operation = omega arith; count = count_fits; change = omega arith });
        outstanding = λ some. absurd (some refl);
        only = λ id out. absurd (let e : false ≡ true = out in cc);
        small = λ id is. absurd (let e : None ≡ Some id = is in cc);
      }

  abbrev PutsBytes : WalkedEvent → Type 0
  PutsBytes event = ((node : ℕ) (bytes : List ℕ) → event ≡ Happening (Put node bytes) → AreBytes bytes)
      × ((node eid tag count : ℕ) → event ≡ BeginWalk node eid tag count → tag < 8)

  happens_kept : (w : WalkedState) (event : WalkedEvent) (outcome : WalkedOutcome) (new : WalkedState) → IsKeptNetwork tables.plan w → PutsBytes event
      → ((why : WalkRefusal) → ¬ IsWalkRefused tables.plan w event why) → WalkedHappens tables w event outcome new → IsKeptNetwork tables.plan new
  happens_kept w (Happening event) (Happened outcome None) new kept puts may (step, none, same, begun) =
      kept_by w new w.walker w.begun
      (network_keeps w.network event outcome new.network kept.bytes kept.flights (λ node bytes is. puts.0 node bytes (ap Happening is)) step)
      (kept.numbered, kept.walkers) same begun
  happens_kept w (Happening event) (Happened outcome (Some handed)) new kept puts may (step, given, begun) =
      let walker = given.walker in
      let told = step_tells tables w.network event outcome given.meant.0 walker.node (answering_key walker) given.message new.network step given.meant.1 in
      let bytes = whole_bytes tables (w.network.history walker.node) told.flight.packet (Whole given.message) (kept.bytes.arrivals walker.node)
      (kept.bytes.flights told.number told.flight told.stands) told.comes given.message refl in
      let x : WalkerValue = record walker { walk = given.walk; ids = given.ids; ended = ended_after walker.ended handed.result } in
      let one = handed_is_kept tables.plan walker given.message handed.result given.walk given.ids (kept.walkers handed.number walker given.there) bytes given.takes given.given_back in
      kept_by w new (with_walker w.walker handed.number x) w.begun
      (network_keeps w.network event outcome new.network kept.bytes kept.flights (λ node bytes is. puts.0 node bytes (ap Happening is)) step)
      (with_kept w.walker w.begun w.begun handed.number x kept.numbered kept.walkers one (kept.numbered handed.number walker given.there) (omega arith)) given.is begun
  happens_kept w (BeginWalk node eid tag count) (Begun k) new kept puts may (number, is) =
      let x = fresh_walker node eid tag count in
      let one = fresh_is_kept w node eid tag count (puts.1 node eid tag count refl) may in
      let N : WalkedState → Type 0 = λ v. IsByteNetwork v.network × HasNumberedFlights v.network in
      kept_by w new (with_walker w.walker k x) k (subst N (sym is) (kept.bytes, kept.flights))
      (with_kept w.walker w.begun k k x kept.numbered kept.walkers one (omega arith) (omega arith)) (ap (λ (v : WalkedState). v.walker) is) (ap (λ (v : WalkedState). v.begun) is)
  happens_kept w (Ask k) (Asked j flight) new kept puts may (same, walker, next, there, asking, is, begun) =
      let old = kept.walkers k walker there in
      let one = asking_is_kept tables w.network walker flight new.network next old asking in
      let bytes = asking_puts_bytes tables w.network walker flight new.network next old asking one in
      let B : List ℕ → Type 0 = AreBytes in
      kept_by w new (with_walker w.walker k next) w.begun
      (network_keeps w.network (Put walker.node asking.bytes) (PutIn flight walker.node) new.network kept.bytes kept.flights
      (λ node others e. subst B (let h : asking.bytes ≡ others = same_put walker.node node asking.bytes others e in h) bytes) asking.put)
      (with_kept w.walker w.begun w.begun k next kept.numbered kept.walkers one (kept.numbered k walker there) (omega arith)) is begun
    where
      same_put : (node at : ℕ) (xs ys : List ℕ) → ◌≡◌ {A = EventValue} (Put node xs) (Put at ys) → xs ≡ ys
      same_put node at xs ys e = cc
  happens_kept w (TellWalk k) (ToldWalk j records standing) new kept puts may (same, walker, there, many, stands, is) =
      let S : WalkedState → Type 0 = IsKeptNetwork tables.plan in subst S (sym is) kept
  happens_kept w _ _ new kept puts may h = absurd h

  step_kept : (w : WalkedState) (event : WalkedEvent) (outcome : WalkedOutcome) (new : WalkedState) → IsKeptNetwork tables.plan w → PutsBytes event → WalkedStep tables w event outcome new
      → IsKeptNetwork tables.plan new
  step_kept w event (WalkRefused why) new kept puts h = let S : WalkedState → Type 0 = IsKeptNetwork tables.plan in subst S (sym h.1) kept
  step_kept w event outcome new kept puts h = happens_kept w event outcome new kept puts h.0 h.1

  run_kept : (w : WalkedState) (turns : List WalkedTurn) → IsKeptNetwork tables.plan w → AllByRecursion (λ turn. PutsBytes turn.event) turns → WalkedRunFrom tables w turns
      → IsKeptNetwork tables.plan (walked_after w turns)
  run_kept w [] kept puts run = kept
  run_kept w (turn ∷ turns) kept puts (step, rest) = run_kept turn.after turns (step_kept w turn.event turn.outcome turn.after kept puts.0 step) puts.1 rest

start_is_kept : (tables : Tables) (cert : Certificate) → RecordsAreBytes tables.plan cert → IsKeptNetwork tables.plan (walked_at_start tables.plan cert)
start_is_kept tables cert records = record {
  bytes = start_bytes tables cert records;
  flights = λ number f is. absurd (cc);
  numbered = λ k walker is. absurd (cc);
  walkers = λ k walker is. absurd (cc);
}

pub walked_runs_go_on : (tables : Tables) (cert : Certificate) → WalkedRunsGoOn tables cert
walked_runs_go_on tables cert turns event eids records puts run =
    let kept = run_kept tables eids (walked_at_start tables.plan cert) turns (start_is_kept tables cert records)
    (recursion_from_All (λ turn. ((node : ℕ) (bytes : List ℕ) → turn.event ≡ Happening (Put node bytes) → AreBytes bytes)
    × ((node eid tag count : ℕ) → turn.event ≡ BeginWalk node eid tag count → tag < 8)) turns puts) run in
    let can = can_go_on tables.plan (walked_reached tables.plan cert turns) kept in
    (can, walked_some_step tables (walked_reached tables.plan cert turns) can event)
