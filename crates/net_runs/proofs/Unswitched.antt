-- Before any switch, a network that moves to new tables does what the network of the old plan does.
use Rattle.std.{proofs.Common.{◌≡◌, ◌≢◌, ◌↔◌, ℕ, ◌+◌, Bool, true, false, cond, List, [], ◌∷◌, Option, Some, None, sym, refl, ap, ◌∙◌, subst}, specs.Prelude.{option_map}, specs.List.{AllByRecursion}, proofs.lemmas.List.Elements.{recursion_from_All}}
use Rattle.mctp_transport.{specs.PacketValues.{PacketValue, KeyValue}, specs.Histories.{Arrived}, specs.Hearing.{Answer, Whole, Held, Dropped}}
use Rattle.mctp_routing.specs.declared.decision.Decision.TheVariants.{Here, Drop, Forward}
use Rattle.plan_values.{specs.declared.plan.Plan.{Plan}, specs.declared.nodes.Row.{Row}, specs.declared.certificate.Certificate.{Certificate}}
use Rattle.net_tables.{specs.Routing.{rows_of}, specs.TwoPlans.{Tables, moving, rows_by}}
use Rattle.net_runs.{specs.Termini.{with_waiting}, specs.States.{NetworkState, Flight, at_start, without_flight, with_made, with_input, with_terminus, with_packet, with_packets, with_received}, specs.Events.{EventValue, Put, Move, Lose, Expire, AnswerAt, Switch, Refusal, N01, N02, N03, N04, N05, N06, N07, OutcomeValue, PutIn, Moved, Entered, Stopped, Lost, Expired, Answered, Silent, Switched, Refused, IsRefused}, specs.Networks.{Step, Happens, Moves, IsDecided}, specs.Runs.{Turn, Run, RunOf, RunFrom, NoneSwitches}}

abbrev pub IsNoSwitch : EventValue → Type 0
IsNoSwitch event = (node : ℕ) → event ≢ Switch node

-- no node has switched
abbrev pub IsUnswitched : NetworkState → Type 0
IsUnswitched w = (n : ℕ) → w.switched n ≡ false

abbrev pub of : Plan → Option Plan → Tables
of plan after = record { plan = plan; after = after }

rows_before : (plan : Plan) (after : Option Plan) (n : ℕ) → rows_by plan after false n ≡ rows_of plan n
rows_before plan None n = refl
rows_before plan (Some after) n = refl

same_rows : (plan : Plan) (a b : Option Plan) (switched : Bool) (n : ℕ) → switched ≡ false → rows_by plan a switched n ≡ rows_by plan b switched n
same_rows plan a b false n is = rows_before plan a n ∙ sym (rows_before plan b n)
same_rows plan a b true n is = absurd (cc)

refused_also : (plan : Plan) (a b : Option Plan) (w : NetworkState) (event : EventValue) (why : Refusal) → IsNoSwitch event → IsRefused (of plan a) w event why
    → IsRefused (of plan b) w event why
refused_also plan a b w event N01 not refused = refused
refused_also plan a b w event N02 not refused = refused
refused_also plan a b w event N03 not refused = refused
refused_also plan a b w event N04 not refused = refused
refused_also plan a b w event N05 not refused = refused
refused_also plan a b w event N06 not refused = refused
refused_also plan a b w (Put node bytes) N07 not refused = refused
refused_also plan a b w (Move number keep) N07 not refused = refused
refused_also plan a b w (Lose number) N07 not refused = refused
refused_also plan a b w (Expire node key) N07 not refused = refused
refused_also plan a b w (AnswerAt node) N07 not refused = refused
refused_also plan a b w (Switch node) N07 not refused = absurd (not node refl)

moves_also : (plan : Plan) (a b : Option Plan) (v : NetworkState) (k : ℕ) (f : Flight) (outcome : OutcomeValue) (new : NetworkState) → IsUnswitched v
    → Moves (of plan a) v k f outcome new → Moves (of plan b) v k f outcome new
moves_also plan a b v k f outcome new none (decision, decided, done) =
    let D : List Row → Type 0 = λ rows. IsDecided plan rows f decision in
    (decision, subst D (same_rows plan a b (v.switched f.node) f.node (none f.node)) decided, done)

happens_also : (plan : Plan) (a b : Option Plan) (w : NetworkState) (event : EventValue) (outcome : OutcomeValue) (new : NetworkState) → IsNoSwitch event → IsUnswitched w
    → Happens (of plan a) w event outcome new → Happens (of plan b) w event outcome new
happens_also plan a b w (Put node bytes) (PutIn k at) new not none h = h
happens_also plan a b w (Move number false) outcome new not none (f, stands, moves) =
    (f, stands, moves_also plan a b (without_flight w number) number f outcome new none moves)
happens_also plan a b w (Move number true) outcome new not none (f, stands, moves) =
    (f, stands, moves_also plan a b (with_made w (w.made + 1)) (w.made + 1) f outcome new none moves)
happens_also plan a b w (Lose number) (Lost k) new not none h = h
happens_also plan a b w (Expire node key) (Expired at was_open) new not none h = h
happens_also plan a b w (AnswerAt node) outcome new not none h = h
happens_also plan a b w (Switch node) (Switched at) new not none h = absurd (not node refl)
happens_also plan a b w _ _ new not none h = absurd h

pub step_also : (plan : Plan) (a b : Option Plan) (w : NetworkState) (event : EventValue) (outcome : OutcomeValue) (new : NetworkState) → IsNoSwitch event → IsUnswitched w
    → Step (of plan a) w event outcome new → Step (of plan b) w event outcome new
step_also plan a b w event (Refused why) new not none ((refused, first), same) =
    ((refused_also plan a b w event why not refused, λ other less is. first other less (refused_also plan b a w event other not is)), same)
step_also plan a b w event outcome new not none h =
    ((λ why is. h.0 why (refused_also plan b a w event why not is)), happens_also plan a b w event outcome new not none h.1)

-- ---- nothing but a switch switches a node

received_switched : (v : NetworkState) (node : ℕ) (key : KeyValue) (answer : Answer) → (with_received v node key answer).switched ≡ v.switched
received_switched v node key (Whole message) = pick key.owner (with_terminus v node (option_map (λ t. with_waiting t (record { key = key; bytes = message })) (v.terminus node))) refl
  where
    pick : (b : Bool) (u : NetworkState) → u.switched ≡ v.switched → (cond b u v).switched ≡ v.switched
    pick true u same = same
    pick false u same = refl
received_switched v node key Held = refl
received_switched v node key (Dropped why) = refl

packets_switched : (w : NetworkState) (node : ℕ) (ps : List PacketValue) → (with_packets w node ps).switched ≡ w.switched
packets_switched w node [] = refl
packets_switched w node (p ∷ ps) = packets_switched (with_packet w node p) node ps

moves_switched : (tables : Tables) (v : NetworkState) (k : ℕ) (f : Flight) (outcome : OutcomeValue) (new : NetworkState) → Moves tables v k f outcome new
    → new.switched ≡ v.switched
moves_switched tables v k f (Entered j node key answer) new (Here, holds, (number, at, whose, hears, is)) =
    ap (λ (u : NetworkState). u.switched) is ∙ received_switched (with_input v f.node (Arrived f.packet)) f.node key answer
moves_switched tables v k f (Stopped j told) new (Drop why, decided, (number, same, is)) = ap (λ (u : NetworkState). u.switched) is
moves_switched tables v k f (Moved j node hops) new (Forward hop, decided, (number, at, more, is)) = ap (λ (u : NetworkState). u.switched) is
moves_switched tables v k f _ new (_, decided, done) = absurd done

happens_switched : (tables : Tables) (w : NetworkState) (event : EventValue) (outcome : OutcomeValue) (new : NetworkState) → IsNoSwitch event
    → Happens tables w event outcome new → new.switched ≡ w.switched
happens_switched tables w (Put node bytes) (PutIn k at) new not (p, spelled, number, place, is) = ap (λ (u : NetworkState). u.switched) is
happens_switched tables w (Move number false) outcome new not (f, stands, moves) = moves_switched tables (without_flight w number) number f outcome new moves
happens_switched tables w (Move number true) outcome new not (f, stands, moves) =
    moves_switched tables (with_made w (w.made + 1)) (w.made + 1) f outcome new moves
happens_switched tables w (Lose number) (Lost k) new not (ended, is) = ap (λ (u : NetworkState). u.switched) is
happens_switched tables w (Expire node key) (Expired at was_open) new not (place, opened, is) = ap (λ (u : NetworkState). u.switched) is
happens_switched tables w (AnswerAt node) (Silent at) new not (t, oldest, rest, None, tid, stands, waits, answers, (place, is)) = ap (λ (u : NetworkState). u.switched) is
happens_switched tables w (AnswerAt node) (Answered at first last) new not (t, oldest, rest, Some answer, tid, stands, waits, answers, (eid, ps, holds, packets, place, begins, ends, is)) =
    ap (λ (u : NetworkState). u.switched) is ∙ packets_switched (with_terminus w node (Some (record t { tid = tid; waiting = rest }))) node ps
happens_switched tables w (AnswerAt node) _ new not (t, oldest, rest, None, tid, stands, waits, answers, done) = absurd done
happens_switched tables w (AnswerAt node) _ new not (t, oldest, rest, Some answer, tid, stands, waits, answers, done) = absurd done
happens_switched tables w (Switch node) (Switched at) new not h = absurd (not node refl)
happens_switched tables w _ _ new not h = absurd h

pub step_switched : (tables : Tables) (w : NetworkState) (event : EventValue) (outcome : OutcomeValue) (new : NetworkState) → IsNoSwitch event
    → Step tables w event outcome new → new.switched ≡ w.switched
step_switched tables w event (Refused why) new not h = ap (λ (u : NetworkState). u.switched) h.1
step_switched tables w event outcome new not h = happens_switched tables w event outcome new not h.1

run_also : (plan : Plan) (a b : Option Plan) (w : NetworkState) (turns : List Turn) → IsUnswitched w → AllByRecursion (λ turn. IsNoSwitch turn.event) turns
    → RunFrom (of plan a) w turns → RunFrom (of plan b) w turns
run_also plan a b w [] none not run = tt
run_also plan a b w (turn ∷ turns) none (not, later) (step, rest) = (
  step_also plan a b w turn.event turn.outcome turn.after not none step,
  run_also plan a b turn.after turns
      (λ n. ap (λ switched. switched n) (step_switched (of plan a) w turn.event turn.outcome turn.after not step) ∙ none n) later rest,
)

pub runs_alike : (before after : Plan) (cert : Certificate) (turns : List Turn) → NoneSwitches turns → Run before cert turns ↔ RunOf (moving before after) cert turns
runs_alike before after cert turns none =
    let not = recursion_from_All (λ turn. IsNoSwitch turn.event) turns none in (
      run_also before None (Some after) (at_start before cert) turns (λ n. refl) not,
      run_also before (Some after) None (at_start before cert) turns (λ n. refl) not,
    )
