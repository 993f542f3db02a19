-- Along a run each flight stays within its hops, and each packet that arrives is for the node and was put in.
use Rattle.std.proofs.Common.{◌≡◌, ℕ, ◌+◌, ◌≤◌, List, [], ◌∷◌, Some, sym, subst, inl, inr, arith}
use Rattle.mctp_transport.{specs.PacketValues.{PacketValue}, specs.Histories.{Input, Arrived, TimeUp, History, EachArrival}, proofs.Arrivals.{EachArrival-append}}
use Rattle.plan_values.specs.declared.certificate.Certificate.{Certificate}
use Rattle.net_tables.{specs.Routing.{Holds}, proofs.TableLaws.{named}, specs.Ranks.{rank}, specs.TwoPlans.{Tables}, specs.Lawful.{IsLawful}}
use Rattle.net_runs.{specs.States.{NetworkState, Flight, at_start, destination, rows_now}, specs.Runs.{Turn, RunFrom, after_all, PutsIn, WasPutIn}, proofs.Nexts.{HasMoved, IsNew, IsNext, MayBeGiven, step_is_next}, specs.WalkedGoing.{HasNumberedFlights}}

abbrev pub IsWithinHops : Certificate → Flight → Type 0
IsWithinHops cert f = f.hops + rank cert f.node (destination f) ≤ rank cert f.origin (destination f)

-- what is kept, where Known holds of what was put in
pub record Kept (tables : Tables) (cert : Certificate) (Known : PacketValue → Type 0) (w : NetworkState) : Type 0 where
  pub flights : (number : ℕ) (f : Flight) → w.flight number ≡ Some f → IsWithinHops cert f × Known f.packet
  pub arrivals : (n : ℕ) → EachArrival (λ p. Holds tables.plan n p.destination × Known p) (w.history n)
  pub numbers : HasNumberedFlights w

pub at_start_keeps : (tables : Tables) (cert : Certificate) (Known : PacketValue → Type 0) → Kept tables cert Known (at_start tables.plan cert)
at_start_keeps tables cert Known = record { flights = λ number f is. absurd (cc); arrivals = λ n. tt; numbers = λ number f is. absurd (cc) }

module _ (tables : Tables) (cert : Certificate) (Known : PacketValue → Type 0) (lawful : IsLawful tables cert) where
  moved_keeps : (w : NetworkState) (g : Flight) → Kept tables cert Known w → HasMoved tables w g → IsWithinHops cert g × Known g.packet
  moved_keeps w g kept moved =
      let P : Flight → Type 0 = λ h. IsWithinHops cert h × Known h.packet in
      let f = moved.flight in
      let before = kept.flights moved.there.0 f moved.there.1 in
      let within = before.0 in
      let falls = lawful.falls (w.switched f.node) f.node (destination f) moved.hop.next moved.decided.0 (named (rows_now tables w f.node) (destination f) moved.hop moved.decided.3) in
      subst P (sym moved.is) (omega (arith, falls, within), before.1)

  new_keeps : (puts : PacketValue → Type 0) (g : Flight) → ((p : PacketValue) → puts p → Known p) → IsNew puts g → IsWithinHops cert g × Known g.packet
  new_keeps puts g knows new =
      let P : Flight → Type 0 = λ h. IsWithinHops cert h × Known h.packet in
      subst P (sym new.is) (omega arith, knows new.packet new.put)

  arrived : (w : NetworkState) (n : ℕ) (i : Input) → Kept tables cert Known w → MayBeGiven tables w n i → EachArrival (λ p. Holds tables.plan n p.destination × Known p) (i ∷ [])
  arrived w n (Arrived p) kept (holds, (f, (number, there), same)) = ((holds, subst Known same (kept.flights number f there).1), tt)
  arrived w n (TimeUp key) kept may = tt

  pub next_keeps : (w : NetworkState) (puts : PacketValue → Type 0) (new : NetworkState) → Kept tables cert Known w → ((p : PacketValue) → puts p → Known p)
      → IsNext tables w puts new → Kept tables cert Known new
  next_keeps w puts new kept knows next = record {
    flights = λ number g is. elim (next.flights number g is) [
      | inl (older, there) ↦ kept.flights older g there
      | inr changed ↦ elim changed [ inl moved ↦ moved_keeps w g kept moved | inr fresh ↦ new_keeps puts g knows fresh ]
    ];
    arrivals = λ n.
        let P : PacketValue → Type 0 = λ p. Holds tables.plan n p.destination × Known p in
        let E : History → Type 0 = EachArrival P in
        elim (next.given n) [
          | inl same ↦ subst E (sym same) (kept.arrivals n)
          | inr (i, more, may) ↦ subst E (sym more) (EachArrival-append P (w.history n) (i ∷ []) (kept.arrivals n) (arrived w n i kept may))
        ];
    numbers = next.numbers kept.numbers;
  }

  run_keeps_from : (w : NetworkState) (turns : List Turn) → Kept tables cert Known w → ((p : PacketValue) → WasPutIn tables.plan turns p → Known p)
      → RunFrom tables w turns → Kept tables cert Known (after_all w turns)
  run_keeps_from w [] kept knows h = kept
  run_keeps_from w (turn ∷ turns) kept knows (step, rest) =
      run_keeps_from turn.after turns
      (next_keeps w (PutsIn tables.plan turn) turn.after kept (λ p now. knows p (inl now)) (step_is_next tables w turn.event turn.outcome turn.after step))
      (λ p later. knows p (inr later)) rest

  pub run_keeps : (turns : List Turn) → ((p : PacketValue) → WasPutIn tables.plan turns p → Known p) → RunFrom tables (at_start tables.plan cert) turns
      → Kept tables cert Known (after_all (at_start tables.plan cert) turns)
  run_keeps turns knows run = run_keeps_from (at_start tables.plan cert) turns (at_start_keeps tables cert Known) knows run
