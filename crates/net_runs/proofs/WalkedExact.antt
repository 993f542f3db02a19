-- In a tidy rest of a run with walkers each message that comes is the one that was sent.
use Rattle.std.{proofs.Common.{◌≡◌, ◌⊎◌, ℕ, List, [], ◌∷◌, refl, sym, subst, inl, inr}, specs.List.{AllByRecursion}, proofs.lemmas.List.Elements.{All-from_recursion}}
use Rattle.mctp_transport.{specs.PacketValues.{KeyValue}, specs.Hearing.{Whole}, proofs.Sending.{joins_to_itself}}
use Rattle.net_tables.specs.TwoPlans.{Tables}
use Rattle.net_runs.{specs.States.{NetworkState}, specs.Events.{Entered}, specs.Runs.{IsPutOf}, specs.ExactMessages.{Epoch, IsOfEpoch, IsQuiet}, specs.Walkers.{WalkedState, WalkedOutcome}, specs.WalkedRuns.{WalkedStep, WalkedRunFrom}, specs.WalkedMessages.{WalkedTurnOfEpoch, IsWalkedTidyFrom, walked_turns_of, TellsWalkedAsSent, WalkedRunsAsSent}, proofs.Nexts.{step_is_next}, proofs.Promised.{step_tells}, proofs.Such.{AreSuch, quiet_are_such, next_are_such, told_joins_such}, proofs.Below.{turn_below, happened_below, puts_alike}}

module _ (unit : ℕ) (tables : Tables) (key : KeyValue) (d : ℕ) where
  abbrev Exact : Epoch → NetworkState → Type 0
  Exact epoch w = AreSuch tables key d (IsOfEpoch unit epoch key d) w

  begins : (first now : Epoch) (w : NetworkState) → Exact first w → (now ≡ first) ⊎ IsQuiet tables.plan w key d → Exact now w
  begins first now w exact (inl same) = let P : Epoch → Type 0 = λ e. Exact e w in subst P (sym same) exact
  begins first now w exact (inr quiet) = quiet_are_such tables key d (IsOfEpoch unit now key d) w quiet

  each_tells : (w : WalkedState) (first : Epoch) (turns : List WalkedTurnOfEpoch) → Exact first w.network → WalkedRunFrom tables w (walked_turns_of turns)
      → IsWalkedTidyFrom unit tables.plan key d w first turns → AllByRecursion (TellsWalkedAsSent unit tables.plan key d) turns
  each_tells w first [] exact run tidy = tt
  each_tells w first (turn ∷ turns) exact (step, rest) (starts, puts, later) =
      let now = begins first turn.1 w.network exact starts in
      let P = IsOfEpoch unit turn.1 key d in
      let next : Exact turn.1 turn.0.after.network = elim (turn_below tables w turn.0.event turn.0.outcome turn.0.after step) [
        | inl alone ↦ subst (Exact turn.1) (sym alone.1) now
        | inr one ↦
            next_are_such tables key d P w.network (IsPutOf tables.plan one.lower one.told turn.0.after.network) turn.0.after.network now
            (λ p put mine there. puts p (puts_alike tables w turn.0.event turn.0.outcome turn.0.after one.lower one.told one.alike p put) mine there)
            (step_is_next tables w.network one.lower one.told turn.0.after.network one.step)
      ] in
      let tells : TellsWalkedAsSent unit tables.plan key d turn = λ number n message handed holds short is.
      let whole = Entered number n key (Whole message) in
      let S : WalkedOutcome → Type 0 = λ o. WalkedStep tables w turn.0.event o turn.0.after in
      let (lower, same, happens) = happened_below tables w turn.0.event whole handed turn.0.after (subst S is step) in
      let told = step_tells tables w.network lower whole number n key message turn.0.after.network happens refl in
      let (p, ps, one, joined, all) = told_joins_such tables key d P w.network n message now holds told in
      joins_to_itself unit turn.1.message d key turn.1.first_number ps message short all joined
      in
      (tells, each_tells turn.0.after turn.1 turns next rest later)

  pub walked_runs_as_sent : (w : WalkedState) → WalkedRunsAsSent unit tables key d w
  walked_runs_as_sent w first turns quiet run tidy =
      All-from_recursion (TellsWalkedAsSent unit tables.plan key d) turns
      (each_tells w first turns (quiet_are_such tables key d (IsOfEpoch unit first key d) w.network quiet) run tidy)
