-- What is told joins packets that were put in before.
use Rattle.std.{proofs.Common.{◌≡◌, ◌⊎◌, ℕ, zero, suc, ◌<◌, List, [], ◌∷◌, ◌++◌, length, Some, refl, sym, ◌∙◌, ap, subst, inl, inr, arith}, specs.Prelude.{slice_get, option_map}, proofs.lemmas.List.{append_assoc}, proofs.lemmas.List.Elements.{All-weaker}, proofs.lemmas.Option.{slice_get-map, none-some, same_Some}}
use Rattle.mctp_transport.{specs.PacketValues.{PacketValue, key_of}, specs.Hearing.{Whole}}
use Rattle.plan_values.{specs.declared.plan.Plan.{Plan}, specs.declared.certificate.Certificate.{Certificate}}
use Rattle.net_tables.{specs.Routing.{Holds}, specs.TwoPlans.{Tables}}
use Rattle.net_runs.{specs.Events.{Entered}, specs.Walkers.{WalkedEvent, WalkedOutcome, Happened, walked_at_start}, specs.WalkedRuns.{WalkedTurn, WalkedRunFrom, WalkedRunOf, walked_reached}, specs.WalkedMessages.{IsPutOfWalked}, specs.WalkedPromises.{WasPutInWalked, WalkedHeadline}, proofs.Below.{walked_splits}}
use Rattle.net_check.specs.Accepted.{IsAccepted}
use Rattle.net_sim.{specs.WalkedStanding.{NetworkValue}, specs.Played.{IsRunOf, PlaysAll}, specs.PutInBefore.{WasPutInBefore, TellWhatWasPutIn, PlaysWhatWasPutIn}, proofs.AsSent.{turn_at}, proofs.PlayedWalks.{run_joins, promised}}

-- the turns before an index, and those after it
split_at : (turns : List WalkedTurn) (i : ℕ) (turn : WalkedTurn) → slice_get turns i ≡ Some turn
    → (first : List WalkedTurn) × (rest : List WalkedTurn) × (turns ≡ first ++ turn ∷ rest) × (length first ≡ i)
split_at [] i turn there = absurd (none-some turn there)
split_at (t ∷ turns) zero turn there = ([], turns, ap (λ (x : WalkedTurn). x ∷ turns) (same_Some t turn there), refl)
split_at (t ∷ turns) (suc i) turn there =
    let (first, rest, split, long) = split_at turns i turn there in
    (t ∷ first, rest, ap (λ (ts : List WalkedTurn). t ∷ ts) split, ap suc long)

-- what turns put in is put in by the first of them or by the others
put_in_parts : (plan : Plan) (before first : List WalkedTurn) (p : PacketValue) → WasPutInWalked plan (before ++ first) p
    → WasPutInWalked plan before p ⊎ WasPutInWalked plan first p
put_in_parts plan [] first p put = inr put
put_in_parts plan (turn ∷ before) first p (inl now) = inl (inl now)
put_in_parts plan (turn ∷ before) first p (inr later) = elim (put_in_parts plan before first p later) [
  | inl early ↦ inl (inr early)
  | inr late ↦ inr late
]

-- and by one of them, at an index
put_in_at : (plan : Plan) (first rest : List WalkedTurn) (p : PacketValue) → WasPutInWalked plan first p
    → (index : ℕ) × (turn : WalkedTurn) × (index < length first) × (slice_get (first ++ rest) index ≡ Some turn)
    × IsPutOfWalked plan turn.event turn.outcome turn.after.network p
put_in_at plan [] rest p put = absurd put
put_in_at plan (turn ∷ first) rest p (inl now) = (0, turn, omega arith, refl, now)
put_in_at plan (turn ∷ first) rest p (inr later) =
    let (index, other, less, there, puts) = put_in_at plan first rest p later in
    (suc index, other, omega (arith, less), there, puts)

module _ (tables : Tables) (cert : Certificate) (before : List WalkedTurn) (run : WalkedRunOf tables cert before) where
  -- the run up to a turn
  until : (first rest : List WalkedTurn) (turn : WalkedTurn)
      → WalkedRunFrom tables (walked_reached tables.plan cert before) (first ++ turn ∷ rest) → WalkedRunOf tables cert ((before ++ first) ++ turn ∷ [])
  until first rest turn more =
      let w = walked_reached tables.plan cert before in
      let (begins, (step, later)) = walked_splits tables w first (turn ∷ rest) more in
      let both = run_joins tables w first (turn ∷ []) begins (step, tt) in
      let R : List WalkedTurn → Type 0 = WalkedRunOf tables cert in
      subst R (sym (append_assoc before first (turn ∷ []))) (run_joins tables (walked_at_start tables.plan cert) before (first ++ turn ∷ []) run both)

  told_put_in : (events : List WalkedEvent) (outcomes : List WalkedOutcome) (new : NetworkValue) → WalkedHeadline tables cert
      → (played : IsRunOf tables (walked_reached tables.plan cert before) events outcomes new) → TellWhatWasPutIn before played
  told_put_in events outcomes new headline played i number n key message handed tells =
      let (turn, there, is) = turn_at played.turns i (Happened (Entered number n key (Whole message)) handed) (ap (λ os. slice_get os i) played.outcomes_are ∙ tells) in
      let (first, rest, split, long) = split_at played.turns i turn there in
      let W : List WalkedTurn → Type 0 = WalkedRunFrom tables (walked_reached tables.plan cert before) in
      let (ps, joined, all) = headline.packets.tells (before ++ first) turn (until first rest turn (subst W split played.runs)) number n key message handed is in
      let P : PacketValue → Type 0 = λ p. WasPutInWalked tables.plan (before ++ first) p × Holds tables.plan n p.destination × (key_of p ≡ key) in
      let Q : PacketValue → Type 0 = λ p. WasPutInBefore tables.plan before events played.turns i p × Holds tables.plan n p.destination × (key_of p ≡ key) in
      let early : (p : PacketValue) → WasPutInWalked tables.plan (before ++ first) p → WasPutInBefore tables.plan before events played.turns i p = λ p put.
      elim (put_in_parts tables.plan before first p put) [
        | inl sooner ↦ inl sooner
        | inr late ↦
            let (index, other, less, found, puts) = put_in_at tables.plan first (turn ∷ rest) p late in
            let at : slice_get played.turns index ≡ Some other = ap (λ (ts : List WalkedTurn). slice_get ts index) split ∙ found in
            inr (
              index,
              omega (arith, less, long),
              record {
                turn = other;
                there = at;
                event = ap (λ (es : List WalkedEvent). slice_get es index) (sym played.events_are)
                    ∙ (slice_get-map (λ (t : WalkedTurn). t.event) played.turns index ∙ ap (option_map (λ (t : WalkedTurn). t.event)) at);
                puts = puts;
              },
            )
      ]
      in
      (ps, joined, All-weaker P Q (λ p g. (early p g.0, g.1, g.2)) ps all)

pub plays_what_was_put_in : (tables : Tables) (cert : Certificate) (old : NetworkValue) (events : List WalkedEvent) (outcomes : List WalkedOutcome) (new : NetworkValue)
    → IsAccepted tables cert → PlaysAll tables old events outcomes new → PlaysWhatWasPutIn tables cert old events outcomes new
plays_what_was_put_in tables cert old events outcomes new accepted all before run stands =
    (all (walked_reached tables.plan cert before) stands, told_put_in tables cert before run events outcomes new (promised tables cert accepted).headline)
