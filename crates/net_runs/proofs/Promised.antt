-- What an accepted tables and certificate promise of every run.
use Rattle.std.{proofs.Common.{◌≡◌, ℕ, suc, ◌+◌, true, false, List, [], ◌∷◌, ◌++◌, Some, None, sym, refl, ap, ◌∙◌, subst}, specs.List.{AllByRecursion}, proofs.lemmas.List.Elements.{All-from_recursion}}
use Rattle.mctp_transport.{specs.PacketValues.{PacketValue, KeyValue, key_of}, specs.Messages.{EachPacket}, specs.Histories.{Input, Arrived, History, EachArrival, after, last_of, Comes}, specs.Hearing.{Whole}, proofs.Arrivals.{EachArrival-append, EachArrival-weaker, EachArrival-last_of, packets_arrived}, proofs.LastStarts.{packets_key}, proofs.FirstIndexes.{snoc_same}}
use Rattle.plan_values.specs.declared.certificate.Certificate.{Certificate}
use Rattle.net_tables.{specs.Routing.{Holds}, specs.TwoPlans.{Tables}, specs.Lawful.{IsLawful}, specs.Repositories.{RecordsHaveOrder}}
use Rattle.mctp_routing.specs.declared.decision.Decision.TheVariants.{Here, Drop, Forward}
use Rattle.net_runs.{specs.States.{NetworkState, Flight, at_start, without_flight, with_made, slots, limit}, specs.Events.{EventValue, Put, Move, Lose, Expire, AnswerAt, Switch, OutcomeValue, PutIn, Entered, Lost, Expired, Answered, Silent, Switched, Refused}, specs.Networks.{Step, Happens, Moves}, specs.Runs.{Turn, RunOf, RunFrom, after_all, reached, WasPutIn}, specs.Headline.{AloneHolds, JoinsPackets, KeepsPackets, HeadlineOf}, proofs.Kept.{Kept, run_keeps}, proofs.Records.{keeps_records}, proofs.ByPlace.{walks_collect_each}}

-- what is said of each packet by its place holds of all
each_all : (P : PacketValue → Type 0) (ps : List PacketValue) → EachPacket ps (λ _ p. P p) → AllByRecursion P ps
each_all P [] h = tt
each_all P (p ∷ ps) h = (h 0 p refl, each_all P ps (λ i q is. h (suc i) q is))

both : (P Q : PacketValue → Type 0) (ps : List PacketValue) → AllByRecursion P ps → AllByRecursion Q ps → AllByRecursion (λ p. P p × Q p) ps
both P Q [] a b = tt
both P Q (p ∷ ps) a b = ((a.0, b.0), both P Q ps a.1 b.1)

weaker : (P Q : PacketValue → Type 0) → ((p : PacketValue) → P p → Q p) → (ps : List PacketValue) → AllByRecursion P ps → AllByRecursion Q ps
weaker P Q f [] a = tt
weaker P Q f (p ∷ ps) a = (f p a.0, weaker P Q f ps a.1)

-- what is known of each packet that arrived is known of those that a message joins
came_known : (P : PacketValue → Type 0) (history : History) (message : List ℕ) (comes : Comes slots limit history message) → EachArrival P history
    → AllByRecursion (λ p. P p × (key_of p ≡ key_of comes.packet)) comes.packets
came_known P history message comes arrived =
    let key = key_of comes.packet in
    both P (λ p. key_of p ≡ key) comes.packets
    (packets_arrived P (last_of history key) comes.packets comes.since_start (EachArrival-last_of P history key arrived))
    (each_all (λ p. key_of p ≡ key) comes.packets (packets_key history key comes.packets comes.since_start))

came_joins : (tables : Tables) (turns : List Turn) (n : ℕ) (history : History) (message : List ℕ) (comes : Comes slots limit history message)
    → EachArrival (λ p. Holds tables.plan n p.destination × WasPutIn tables.plan turns p) history → JoinsPackets tables.plan turns n (key_of comes.packet) message
came_joins tables turns n history message comes arrived =
    let P : PacketValue → Type 0 = λ p. Holds tables.plan n p.destination × WasPutIn tables.plan turns p in
    let Q : PacketValue → Type 0 = λ p. WasPutIn tables.plan turns p × Holds tables.plan n p.destination × (key_of p ≡ key_of comes.packet) in (
      comes.packets,
      comes.joined,
      All-from_recursion Q comes.packets
          (weaker (λ p. P p × (key_of p ≡ key_of comes.packet)) Q (λ p h. (h.0.1, h.0.0, h.1)) comes.packets (came_known P history message comes arrived)),
    )

-- a run is a run up to its last turn, and that turn
pub run_parts : (tables : Tables) (w : NetworkState) (earlier : List Turn) (turn : Turn) → RunFrom tables w (earlier ++ turn ∷ [])
    → RunFrom tables w earlier × Step tables (after_all w earlier) turn.event turn.outcome turn.after
run_parts tables w [] turn (step, none) = (tt, step)
run_parts tables w (first ∷ earlier) turn (step, rest) = let later = run_parts tables first.after earlier turn rest in ((step, later.0), later.1)

-- what a step tells of a message came with a flight's packet at a node that holds its destination
pub record TellsMessage (tables : Tables) (w : NetworkState) (n : ℕ) (key : KeyValue) (message : List ℕ) : Type 0 where
  pub flight : Flight
  pub number : ℕ
  pub stands : w.flight number ≡ Some flight
  pub holds : Holds tables.plan n flight.packet.destination
  pub mine : key ≡ key_of flight.packet
  pub comes : Comes slots limit (after (w.history n) (Arrived flight.packet)) message

moves_tell : (tables : Tables) (w v : NetworkState) (stood k j : ℕ) (f : Flight) (n : ℕ) (key : KeyValue) (message : List ℕ) (new : NetworkState) → w.flight stood ≡ Some f
    → v.history ≡ w.history → Moves tables v k f (Entered j n key (Whole message)) new → TellsMessage tables w n key message
moves_tell tables w v stood k j f n key message new stands same (Here, holds, (number, at, whose, hears, is)) =
    let P : ℕ → Type 0 = λ m. Holds tables.plan m f.packet.destination in
    let Q : (ℕ → History) → Type 0 = λ history. Comes slots limit (after (history f.node) (Arrived f.packet)) message in
    let R : ℕ → Type 0 = λ m. Comes slots limit (after (w.history m) (Arrived f.packet)) message in
    record {
      flight = f;
      number = stood;
      stands = stands;
      holds = subst P (sym at) holds;
      mine = whose;
      comes = subst R (sym at) (subst Q same hears);
    }
moves_tell tables w v stood k j f n key message new stands same (Drop why, holds, done) = absurd done
moves_tell tables w v stood k j f n key message new stands same (Forward next, holds, done) = absurd done

happens_tells : (tables : Tables) (w : NetworkState) (event : EventValue) (outcome : OutcomeValue) (j n : ℕ) (key : KeyValue) (message : List ℕ) (new : NetworkState)
    → Happens tables w event outcome new → outcome ≡ Entered j n key (Whole message) → TellsMessage tables w n key message
happens_tells tables w (Put node bytes) (PutIn k at) j n key message new h is = absurd (cc)
happens_tells tables w (Move number false) outcome j n key message new (f, stands, moves) is =
    let P : OutcomeValue → Type 0 = λ o. Moves tables (without_flight w number) number f o new in
    moves_tell tables w (without_flight w number) number number j f n key message new stands refl (subst P is moves)
happens_tells tables w (Move number true) outcome j n key message new (f, stands, moves) is =
    let P : OutcomeValue → Type 0 = λ o. Moves tables (with_made w (w.made + 1)) (w.made + 1) f o new in
    moves_tell tables w (with_made w (w.made + 1)) number (w.made + 1) j f n key message new stands refl (subst P is moves)
happens_tells tables w (Lose number) (Lost k) j n key message new h is = absurd (cc)
happens_tells tables w (Expire node word) (Expired at was_open) j n key message new h is = absurd (cc)
happens_tells tables w (AnswerAt node) (Silent at) j n key message new h is = absurd (cc)
happens_tells tables w (AnswerAt node) (Answered at first last) j n key message new h is = absurd (cc)
happens_tells tables w (AnswerAt node) _ j n key message new (t, oldest, rest, None, tid, stands, waits, answers, done) is = absurd done
happens_tells tables w (AnswerAt node) _ j n key message new (t, oldest, rest, Some answer, tid, stands, waits, answers, done) is = absurd done
happens_tells tables w (Switch node) (Switched at) j n key message new h is = absurd (cc)
happens_tells tables w _ _ j n key message new h is = absurd h

pub step_tells : (tables : Tables) (w : NetworkState) (event : EventValue) (outcome : OutcomeValue) (j n : ℕ) (key : KeyValue) (message : List ℕ) (new : NetworkState)
    → Step tables w event outcome new → outcome ≡ Entered j n key (Whole message) → TellsMessage tables w n key message
step_tells tables w event (Refused why) j n key message new step is = absurd (cc)
step_tells tables w event outcome j n key message new step is = happens_tells tables w event outcome j n key message new step.1 is

-- the packet of the message that ends a history is its last
last_packet : (history : History) (p : PacketValue) (message : List ℕ) (comes : Comes slots limit (after history (Arrived p)) message) → p ≡ comes.packet
last_packet history p message comes = same_packet (snoc_same history comes.earlier (Arrived p) (Arrived comes.packet) comes.ends).1
  where
    same_packet : {a b : PacketValue} → ◌≡◌ {A = Input} (Arrived a) (Arrived b) → a ≡ b
    same_packet e = cc

module _ (tables : Tables) (cert : Certificate) (lawful : IsLawful tables cert) where
  kept : (turns : List Turn) → RunOf tables cert turns → Kept tables cert (WasPutIn tables.plan turns) (reached tables.plan cert turns)
  kept turns run = run_keeps tables cert (WasPutIn tables.plan turns) lawful turns (λ p put. put) run

  joins_told : (earlier : List Turn) (n : ℕ) (key : KeyValue) (message : List ℕ) → RunOf tables cert earlier
      → TellsMessage tables (reached tables.plan cert earlier) n key message → JoinsPackets tables.plan earlier n key message
  joins_told earlier n key message run told =
      let known = kept earlier run in
      let P : PacketValue → Type 0 = λ p. Holds tables.plan n p.destination × WasPutIn tables.plan earlier p in
      let p = told.flight.packet in
      let history = (reached tables.plan cert earlier).history n in
      let arrived : EachArrival P (after history (Arrived p)) =
      EachArrival-append P history (Arrived p ∷ []) (known.arrivals n) ((told.holds, (known.flights told.number told.flight told.stands).1), tt) in
      let R : KeyValue → Type 0 = λ k. JoinsPackets tables.plan earlier n k message in
      subst R (sym (told.mine ∙ ap key_of (last_packet history p message told.comes)))
      (came_joins tables earlier n (after history (Arrived p)) message told.comes arrived)

  pub lawful_keeps : KeepsPackets tables cert
  lawful_keeps = record {
    enters = λ turns run n.
        EachArrival-weaker (λ p. Holds tables.plan n p.destination × WasPutIn tables.plan turns p) (λ p. AloneHolds tables.plan n p.destination)
        (λ p h. (h.0, λ m there. lawful.alone n m p.destination h.0 there)) ((reached tables.plan cert turns).history n) ((kept turns run).arrivals n);
    hops = λ turns run number f is. ((kept turns run).flights number f is).0;
    joins = λ turns run n message comes.
        (key_of comes.packet, came_joins tables turns n ((reached tables.plan cert turns).history n) message comes ((kept turns run).arrivals n));
    tells = λ earlier turn run number n key message is.
        let parts = run_parts tables (at_start tables.plan cert) earlier turn run in
        joins_told earlier n key message parts.0
        (step_tells tables (reached tables.plan cert earlier) turn.event turn.outcome number n key message turn.after parts.1 is);
  }

pub lawful_headline : (tables : Tables) (cert : Certificate) → IsLawful tables cert → RecordsHaveOrder tables.plan cert → HeadlineOf tables cert
lawful_headline tables cert lawful orders = record {
  packets = lawful_keeps tables cert lawful;
  records = keeps_records tables cert;
  walks = walks_collect_each tables.plan cert orders;
}
