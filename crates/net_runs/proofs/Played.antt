-- A walk is played to its end, exchange by exchange.
use Rattle.std.{proofs.Common.{◌≡◌, ◌≢◌, ℕ, zero, suc, ◌+◌, ◌*◌, ◌<◌, ◌≤◌, Bool, false, List, [], ◌∷◌, ◌++◌, length, Option, Some, None, refl, sym, ap, ◌∙◌, arith}, specs.Prelude.{All, sum_by}, proofs.lemmas.List.{length_push}, proofs.lemmas.List.Elements.{All-from_recursion}, proofs.lemmas.Option.{none-some}}
use Rattle.pldm_message.specs.Pdrs.{PartRequest}
use Rattle.pdr_repository.{specs.Records.{Entry, IsLawful, bytes_by_place}, specs.Walks.{Exchange, WalkPromises, exchanges}, proofs.Collecting.{collects_once}, proofs.Taking.{fresh_stands}, proofs.Walks.{every_walk_collects}}
use Rattle.plan_values.specs.declared.certificate.Certificate.{Certificate}
use Rattle.net_tables.{specs.Repositories.{records_of, places_of, records_by_place, RecordsHaveOrder}, specs.TwoPlans.{Tables}, proofs.Elements.{holder_within}}
use Rattle.net_runs.{specs.Termini.{AreBytes}, specs.States.{at_start}, specs.Events.{Put, most_flights}, specs.NetworkWalks.{IsSameWalker}, specs.PlayedWalks.{HasWay, WalksCanBePlayed}, specs.Walkers.{WalkerValue, WalkedState, Happening, BeginWalk, Begun, walked_at_start, fresh_walker, with_walker, most_records, most_bytes}, specs.WalkedGoing.{EidsAreBytes}, proofs.AtRest.{start_at_rest}, proofs.ByPlace.{is_lawful}, proofs.Exchanging.{IsReady, HasExchanged, one_exchange}, proofs.FirstAsks.{may_begin}, proofs.Fitting.{exchanges_most}, proofs.Reaching.{Reaches, stays_there, reaches_on}, proofs.WalkedGoings.{fresh_is_kept}}
use Rattle.net_tables.specs.Lawful as ways

module _ (tables : Tables) (cert : Certificate) (lawful : ways.IsLawful tables cert) (own n : ℕ) (small : own < 256) (back : HasWay tables n own)
    (right_records : IsLawful (records_by_place tables.plan cert n)) (all : All (λ e. AreBytes e.bytes) (records_by_place tables.plan cert n)) (first : WalkerValue) where
  abbrev Ready : WalkedState → List Exchange → Type 0
  Ready w xs = IsReady tables cert lawful own n small back right_records all first w xs

  -- the walk is over
  pub record HasEnded (w : WalkedState) : Type 0 where
    pub new : WalkedState
    pub run : Reaches tables w new
    pub walker : WalkerValue
    pub there : new.walker 1 ≡ Some walker
    pub due : walker.walk.due ≡ None
    pub goes : walker.walk.failed ≡ false
    pub ended : walker.ended ≡ None
    pub whole : walker.walk.records ≡ bytes_by_place (records_by_place tables.plan cert n)
    pub same : IsSameWalker first walker
    pub taken : walker.walk.taken ≡ exchanges first.walk.count (records_by_place tables.plan cert n)

  promised : (w : WalkedState) (xs : List Exchange) (ready : Ready w xs) → WalkPromises (records_by_place tables.plan cert n) ready.walker.walk.count xs
  promised w xs ready = every_walk_collects (records_by_place tables.plan cert n) ready.walker.walk.count xs right_records ready.least (let most = ready.most in omega arith) ready.walk

  over : (w : WalkedState) (xs : List Exchange) (ready : Ready w xs) → ready.walker.walk.due ≡ None → HasEnded w
  over w xs ready none =
      let p = promised w xs ready in
      let same = collects_once xs ready.walker.walk.records p.collected ready.walker.walk.under_way p.under_way ready.stands.collects p.collects in
      record {
        new = w;
        run = stays_there tables w;
        walker = ready.walker;
        there = ready.there;
        due = none;
        goes = ready.stands.goes;
        ended = ready.ended;
        whole = same.0 ∙ (p.whole (sym ready.stands.due ∙ none)).0;
        same = ready.same;
        taken = ready.taken ∙ p.exact.0 (sym ready.stands.due ∙ none) ∙ ap (λ c. exchanges c (records_by_place tables.plan cert n)) ready.same.count;
      }

  bounded : (w : WalkedState) (xs : List Exchange) → HasExchanged tables cert lawful own n small back right_records all first w xs
      → length xs + 1 ≤ sum_by (λ (x : Entry). length x.bytes) (records_by_place tables.plan cert n)
  bounded w xs e =
      let p = promised e.new (xs ++ e.x ∷ []) e.ready in
      let few = p.bounded in
      let least = e.ready.least in
      let more = exchanges_most e.ready.walker.walk.count (omega arith) (records_by_place tables.plan cert n) in
      omega (arith, few, more, length_push xs e.x)

  -- so many exchanges at most are left
  abbrev Plays : ℕ → Type 0
  Plays most = (w : WalkedState) (xs : List Exchange) → Ready w xs → sum_by (λ (e : Entry). length e.bytes) (records_by_place tables.plan cert n) ≤ length xs + most
      → w.network.made + 6 * most + 70 ≤ most_flights → HasEnded w

  pub plays_on : (most : ℕ) → Plays most
  plays_on zero w xs ready enough left = by ready.walker.walk.due refl
    where
      by : (o : Option PartRequest) → ready.walker.walk.due ≡ o → HasEnded w
      by None due = over w xs ready due
      by (Some r) due =
          let b = bounded w xs (one_exchange tables cert lawful own n small back right_records all first w xs ready r due (omega (arith, left))) in
          absurd (omega (arith, b, enough))
  plays_on (suc most) w xs ready enough left = by (λ v ys now more room. plays_on most v ys now more room) ready.walker.walk.due refl
    where
      by : Plays most → (o : Option PartRequest) → ready.walker.walk.due ≡ o → HasEnded w
      by later None due = over w xs ready due
      by later (Some r) due = on (one_exchange tables cert lawful own n small back right_records all first w xs ready r due (omega (arith, left)))
        where
          on : HasExchanged tables cert lawful own n small back right_records all first w xs → HasEnded w
          on e =
              let rest = later e.new (xs ++ e.x ∷ []) e.ready (omega (arith, enough, length_push xs e.x)) (omega (arith, e.made, left)) in
              record {
                new = rest.new;
                run = reaches_on tables w e.new rest.new e.run rest.run;
                walker = rest.walker;
                there = rest.there;
                due = rest.due;
                goes = rest.goes;
                ended = rest.ended;
                whole = rest.whole;
                same = rest.same;
                taken = rest.taken;
              }

pub walks_can_be_played : (tables : Tables) (cert : Certificate) → ways.IsLawful tables cert → RecordsHaveOrder tables.plan cert → WalksCanBePlayed tables cert
walks_can_be_played tables cert lawful orders node own eid tag count n home held has few_tag least most way back all few fits =
    let right_records = is_lawful (records_of tables.plan n) (places_of cert n) (orders n has) in
    let bytes : EidsAreBytes tables.plan = λ m e holds. let fit = (lawful.eids m e holds).1 in omega arith in
    let small = bytes node own home in
    let unswitched : ℕ → Bool = λ _. false in
    let first = fresh_walker node eid tag count in
    let start = walked_at_start tables.plan cert in
    let w : WalkedState = record { network = at_start tables.plan cert; walker = with_walker (λ _. None) 1 first; begun = 1 } in
    let may = may_begin tables cert unswitched node own eid tag count n (holder_within tables.plan node own home) (holder_within tables.plan n eid held) home held has small (bytes n eid held) few_tag least most in
    let ready : IsReady tables cert lawful own n small back right_records all first w [] = record {
      rest = start_at_rest tables.plan cert n has;
      walker = first;
      there = refl;
      same = record { node = refl; eid = refl; tag = refl; count = refl };
      home = home;
      held = held;
      way = way;
      kept = fresh_is_kept tables bytes start node eid tag count few_tag may;
      idle = refl;
      ended = refl;
      least = least;
      most = most;
      few = few;
      fits = fits;
      walk = record { asked = λ i x is. absurd (none-some x is); answered = λ i x is. absurd (none-some x is) };
      stands = fresh_stands first.walk count most_records most_bytes refl;
      taken = refl;
    } in
    let total = sum_by (λ (e : Entry). length e.bytes) (records_by_place tables.plan cert n) in
    let done = plays_on tables cert lawful own n small back right_records all first total w [] ready (omega arith) (omega (arith, fits)) in
    record {
      begins = record { event = BeginWalk node eid tag count; outcome = Begun 1; after = w };
      later = done.run.turns;
      run = ((may, (refl, refl)), done.run.run);
      event = refl;
      outcome = refl;
      puts = All-from_recursion (λ turn. (at : ℕ) (bytes : List ℕ) → turn.event ≢ Happening (Put at bytes)) done.run.turns done.run.puts;
      walker = done.walker;
      same = done.same;
      taken = done.taken;
      there = ap (λ (v : WalkedState). v.walker 1) done.run.ends ∙ done.there;
      due = done.due;
      goes = done.goes;
      ended = done.ended;
      whole = done.whole;
    }
