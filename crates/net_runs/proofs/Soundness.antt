-- What is kept along every run with walkers: what waits has the owner bit, termini keep their records, and walkers have
-- numbers and differ in node, endpoint ID or tag.
use Rattle.std.{proofs.Common.{◌≡◌, ◌≢◌, ◌⊎◌, ℕ, ◌+◌, ◌≤◌, List, [], ◌∷◌, Option, Some, None, refl, sym, ap, ◌∙◌, subst, inl, inr, arith, true, cond}, specs.Prelude.{option_map}, specs.List.{AllByRecursion}, proofs.lemmas.Bool.Decides.{eqb_tells}, proofs.lemmas.Option.{same_Some}}
use Rattle.plan_values.{specs.declared.plan.Plan.{Plan}, specs.declared.certificate.Certificate.{Certificate}, specs.declared.terminus.PlannedTerminus.{PlannedTerminus}}
use Rattle.net_tables.{specs.TwoPlans.{Tables}, specs.Repositories.{terminus_of, records_by_place}}
use Rattle.net_runs.{specs.Termini.{TerminusState}, specs.States.{NetworkState, at_start}, specs.Events.{EventValue, Put, OutcomeValue, PutIn}, specs.Networks.{Step}, specs.Walkers.{WalkerValue, WalkedState, WalkedEvent, Happening, BeginWalk, Ask, TellWalk, WalkedOutcome, Happened, Begun, Asked, ToldWalk, WalkRefused, WalkRefusal, N08, walked_at_start, fresh_walker, with_walker, IsWalkRefused, ended_after}, specs.WalkedRuns.{WalkedHappens, WalkedStep, WalkedTurn, WalkedRunFrom, walked_after}, proofs.Records.{step_keeps, start_has_records}, proofs.Waitings.{EachWaiting, step_waiting}, proofs.UnderWay.{IsPlain}}

-- two walkers ask the same under the same tag from the same node
abbrev pub IsAlike : WalkerValue → WalkerValue → Type 0
IsAlike x y = (x.node ≡ y.node) × (x.eid ≡ y.eid) × (x.tag ≡ y.tag)

pub record AreApart (walkers : ℕ → Option WalkerValue) (begun : ℕ) : Type 0 where
  pub apart : (i j : ℕ) (x y : WalkerValue) → walkers i ≡ Some x → walkers j ≡ Some y → IsAlike x y → i ≡ j
  pub numbered : (i : ℕ) (x : WalkerValue) → walkers i ≡ Some x → i ≤ begun

pub record IsSound (plan : Plan) (cert : Certificate) (w : WalkedState) : Type 0 where
  pub plain : IsPlain plan cert w.network
  pub walkers : AreApart w.walker w.begun

-- what a changed walker is, and the others
pub changed : (walkers : ℕ → Option WalkerValue) (j i : ℕ) (x y : WalkerValue) → with_walker walkers j x i ≡ Some y
    → ((i ≡ j) × (x ≡ y)) ⊎ ((i ≢ j) × (walkers i ≡ Some y))
changed walkers j i x y is = elim (eqb_tells i j) [
  | inl same ↦ let h : cond true (Some x) (walkers i) ≡ Some y = rw same.0 at is in inl (same.1, same_Some x y h)
  | inr other ↦ inr (other.1, rw other.0 at is)
]

-- a walker changes, but not in its node, endpoint ID and tag
changed_apart : (walkers : ℕ → Option WalkerValue) (begun j : ℕ) (old x : WalkerValue) → AreApart walkers begun → walkers j ≡ Some old → IsAlike x old
    → AreApart (with_walker walkers j x) begun
changed_apart walkers begun j old x apart there alike = record {
  apart = λ a b y z one two same.
      let Y = before a y one in
      let Z = before b z two in
      apart.apart a b Y.0 Z.0 Y.1 Z.1 (sym Y.2.0 ∙ same.0 ∙ Z.2.0, sym Y.2.1 ∙ same.1 ∙ Z.2.1, sym Y.2.2 ∙ same.2 ∙ Z.2.2);
  numbered = λ a y one. let Y = before a y one in apart.numbered a Y.0 Y.1;
}
  where
    before : (a : ℕ) (y : WalkerValue) → with_walker walkers j x a ≡ Some y → (z : WalkerValue) × (walkers a ≡ Some z) × IsAlike y z
    before a y is = elim (changed walkers j a x y is) [
      | inl (same, one) ↦
          let A : WalkerValue → Type 0 = λ v. IsAlike v old in
          (old, ap walkers same ∙ there, subst A one alike)
      | inr (other, stands) ↦ (y, stands, (refl, refl, refl))
    ]

-- one more walker, unlike the others
one_more_apart : (w : WalkedState) (x : WalkerValue) → AreApart w.walker w.begun → ((i : ℕ) (y : WalkerValue) → w.walker i ≡ Some y → ¬ IsAlike y x)
    → AreApart (with_walker w.walker (w.begun + 1) x) (w.begun + 1)
one_more_apart w x apart unlike = record {
  apart = λ a b y z one two same. elim (changed w.walker (w.begun + 1) a x y one) [
    | inl (at, is) ↦ elim (changed w.walker (w.begun + 1) b x z two) [
      | inl (here, _) ↦ at ∙ sym here
      | inr (other, stands) ↦
          let A : WalkerValue → Type 0 = λ v. IsAlike z v in
          absurd (unlike b z stands (subst A (sym is) (sym same.0, sym same.1, sym same.2)))
    ]
    | inr (other, stands) ↦ elim (changed w.walker (w.begun + 1) b x z two) [
      | inl (here, is) ↦ let A : WalkerValue → Type 0 = λ v. IsAlike y v in absurd (unlike a y stands (subst A (sym is) same))
      | inr (_, there) ↦ apart.apart a b y z stands there same
    ]
  ];
  numbered = λ a y one. elim (changed w.walker (w.begun + 1) a x y one) [
    | inl (at, _) ↦ omega arith
    | inr (_, stands) ↦ let h = apart.numbered a y stands in omega arith
  ];
}

module _ (tables : Tables) (cert : Certificate) where
  plain_keeps : (w : NetworkState) (event : EventValue) (outcome : OutcomeValue) (new : NetworkState) → IsPlain tables.plan cert w → Step tables w event outcome new → IsPlain tables.plan cert new
  plain_keeps w event outcome new plain step = record {
    owners = step_waiting tables (λ n m. m.key.owner ≡ true) w event outcome new plain.owners step (λ n m told. told.2);
    records = step_keeps tables cert w event outcome new plain.records step;
  }

  sound_by : (w new : WalkedState) (walkers : ℕ → Option WalkerValue) → IsPlain tables.plan cert new.network → AreApart walkers w.begun → new.walker ≡ walkers → new.begun ≡ w.begun
      → IsSound tables.plan cert new
  sound_by w new walkers plain apart same begun =
      let A : (ℕ → Option WalkerValue) → Type 0 = λ ws. AreApart ws new.begun in
      let B : ℕ → Type 0 = λ b. AreApart walkers b in
      record { plain = plain; walkers = subst A (sym same) (subst B (sym begun) apart) }

  happens_sound : (w : WalkedState) (event : WalkedEvent) (outcome : WalkedOutcome) (new : WalkedState) → IsSound tables.plan cert w
      → ((why : WalkRefusal) → ¬ IsWalkRefused tables.plan w event why) → WalkedHappens tables w event outcome new → IsSound tables.plan cert new
  happens_sound w (Happening event) (Happened outcome None) new sound may (step, none, same, begun) =
      sound_by w new w.walker (plain_keeps w.network event outcome new.network sound.plain step) sound.walkers same begun
  happens_sound w (Happening event) (Happened outcome (Some handed)) new sound may (step, given, begun) =
      sound_by w new
      (with_walker w.walker handed.number (record given.walker { walk = given.walk; ids = given.ids; ended = ended_after given.walker.ended handed.result }))
      (plain_keeps w.network event outcome new.network sound.plain step)
      (changed_apart w.walker w.begun handed.number given.walker
      (record given.walker { walk = given.walk; ids = given.ids; ended = ended_after given.walker.ended handed.result }) sound.walkers given.there (refl, refl, refl)) given.is begun
  happens_sound w (BeginWalk node eid tag count) (Begun k) new sound may (number, is) =
      let x = fresh_walker node eid tag count in
      let S : WalkedState → Type 0 = IsSound tables.plan cert in
      let K : ℕ → Type 0 = λ m. IsSound tables.plan cert (record { network = w.network; walker = with_walker w.walker m x; begun = m }) in
      subst S (sym is)
      (subst K (sym number) (record {
        plain = sound.plain;
        walkers = one_more_apart w x sound.walkers (λ i y stands alike. may N08 (i, y, stands, alike.0, alike.1, alike.2));
      }))
  happens_sound w (Ask k) (Asked j flight) new sound may (same, walker, next, there, asking, is, begun) =
      sound_by w new (with_walker w.walker k next)
      (plain_keeps w.network (Put walker.node asking.bytes) (PutIn flight walker.node) new.network sound.plain asking.put)
      (changed_apart w.walker w.begun k walker next sound.walkers there
      (ap (λ (x : WalkerValue). x.node) asking.is, ap (λ (x : WalkerValue). x.eid) asking.is, ap (λ (x : WalkerValue). x.tag) asking.is)) is begun
  happens_sound w (TellWalk k) (ToldWalk j records standing) new sound may (same, walker, there, many, stands, is) =
      let S : WalkedState → Type 0 = IsSound tables.plan cert in subst S (sym is) sound
  happens_sound w _ _ new sound may h = absurd h

  pub step_sound : (w : WalkedState) (event : WalkedEvent) (outcome : WalkedOutcome) (new : WalkedState) → IsSound tables.plan cert w → WalkedStep tables w event outcome new → IsSound tables.plan cert new
  step_sound w event (WalkRefused why) new sound h = let S : WalkedState → Type 0 = IsSound tables.plan cert in subst S (sym h.1) sound
  step_sound w event outcome new sound h = happens_sound w event outcome new sound h.0 h.1

  pub run_sound : (w : WalkedState) (turns : List WalkedTurn) → IsSound tables.plan cert w → WalkedRunFrom tables w turns → IsSound tables.plan cert (walked_after w turns)
  run_sound w [] sound run = sound
  run_sound w (turn ∷ turns) sound (step, rest) = run_sound turn.after turns (step_sound w turn.event turn.outcome turn.after sound step) rest

  start_owners : EachWaiting (λ n m. m.key.owner ≡ true) (at_start tables.plan cert)
  start_owners n t is = planned (terminus_of tables.plan n) is
    where
      planned : (o : Option PlannedTerminus) → option_map (λ (x : PlannedTerminus). record { tid = x.tid; records = records_by_place tables.plan cert n; waiting = [] }) o ≡ Some t
          → AllByRecursion (λ m. m.key.owner ≡ true) t.waiting
      planned None e = absurd (cc)
      planned (Some x) e =
          let made : TerminusState = record { tid = x.tid; records = records_by_place tables.plan cert n; waiting = [] } in
          let A : TerminusState → Type 0 = λ s. AllByRecursion (λ m. m.key.owner ≡ true) s.waiting in
          subst A (same_Some made t e) tt

  pub start_sound : IsSound tables.plan cert (walked_at_start tables.plan cert)
  start_sound = record {
    plain = record { owners = start_owners; records = start_has_records tables cert };
    walkers = record { apart = λ i j x y one. absurd (cc); numbered = λ i x one. absurd (cc) };
  }
