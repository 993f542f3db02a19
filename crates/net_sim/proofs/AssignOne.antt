-- The requests to one node of an assignment are replied to.
use Rattle.std.{proofs.Common.{◌≡◌, ◌≢◌, ℕ, zero, suc, ◌<◌, List, [], ◌∷◌, ◌++◌, length, Option, Some, None, refl, sym, ap, ◌∙◌, subst}, specs.Prelude.{slice_get, slice_set}, proofs.lemmas.List.{length-set}}
use Rattle.plan_values.specs.declared.nodes.Pool.{Pool}
use Rattle.mctp_transport.{specs.PacketValues.{IsAssignable}, specs.declared.device_kind.DeviceKind.{DeviceKind}}
use Rattle.mctp_control.{specs.Ranges.{IsAssignableRange}, specs.RouteEntries.{EntryValue}, specs.Requests.{request_bytes}, specs.Devices.{DeviceValue}, specs.Replies.{Replies}}
use Rattle.net_sim.{specs.Assignments.{AssignmentValue, sets_eid, allocates_pool, pool_requests}, specs.AssignmentRuns.{planned_pool, IsReplied, AssignRun, IsAccepted, AreAccepted}, proofs.AssignReplies.{set_told, set_can_be_told, set_accepts, set_reply, pool_told, pool_can_be_told, pool_accepts, pool_reply}}
use Rattle.mctp_transport.specs.declared.device_kind.DeviceKind.TheVariants as device

-- a place that was written
pub get_set_same : {A : Type 0} (xs : List A) (i : ℕ) (old new : A) → slice_get xs i ≡ Some old → slice_get (slice_set xs i new) i ≡ Some new
get_set_same [] i old new is = cc
get_set_same (x ∷ xs) zero old new is = refl
get_set_same (x ∷ xs) (suc i) old new is = get_set_same xs i old new is

-- another place
pub get_set_other : {A : Type 0} (xs : List A) (i k : ℕ) (new : A) → i ≢ k → slice_get (slice_set xs i new) k ≡ slice_get xs k
get_set_other [] i k new other = refl
get_set_other (x ∷ xs) zero zero new other = absurd (other refl)
get_set_other (x ∷ xs) zero (suc k) new other = refl
get_set_other (x ∷ xs) (suc i) zero new other = refl
get_set_other (x ∷ xs) (suc i) (suc k) new other = get_set_other xs i k new (λ same. other (ap suc same))

-- one device has changed, to this one
pub record Changed (before after : List DeviceValue) (n : ℕ) (new : DeviceValue) : Type 0 where
  pub here : slice_get after n ≡ Some new
  pub there : (k : ℕ) → n ≢ k → slice_get after k ≡ slice_get before k
  pub as_many : length after ≡ length before

pub written : (before after : List DeviceValue) (n : ℕ) (old new : DeviceValue) → slice_get before n ≡ Some old → after ≡ slice_set before n new → Changed before after n new
written before after n old new stands is = record {
  here = ap (λ (l : List DeviceValue). slice_get l n) is ∙ get_set_same before n old new stands;
  there = λ k other. ap (λ (l : List DeviceValue). slice_get l k) is ∙ get_set_other before n k new other;
  as_many = ap (λ (l : List DeviceValue). length l) is ∙ length-set before n new;
}

-- changed twice
pub twice : (before between after : List DeviceValue) (n : ℕ) (mid new : DeviceValue) → Changed before between n mid → Changed between after n new → Changed before after n new
twice before between after n mid new first second = record {
  here = second.here;
  there = λ k other. second.there k other ∙ first.there k other;
  as_many = second.as_many ∙ first.as_many;
}

-- what an assignment finds at a node: a bridge, where there is a pool, and a pool that can be given
pub record IsGiven (kind : DeviceKind) (eid wants : ℕ) (pool : Option Pool) : Type 0 where
  pub assignable : IsAssignable eid
  pub few : wants < 256
  pub range : (p : Pool) → pool ≡ Some p → (kind ≡ device.Bridge) × IsAssignableRange p.first.value p.size

module _ (tables : ℕ → List EntryValue) (n bus : ℕ) (kind : DeviceKind) (eid wants : ℕ) (pool : Option Pool) (given : IsGiven kind eid wants pool) where
  abbrev pub found : DeviceValue
  found = record { kind = kind; eid = None; wants = wants; pool = None }

  abbrev pub left : Option Pool → DeviceValue
  left p = record { kind = kind; eid = Some (record { eid = eid; giver = Some bus }); wants = wants; pool = planned_pool p (Some bus) }

  abbrev set_asked : AssignmentValue
  set_asked = record { bus = bus; node = n; body = sets_eid eid }

  abbrev pub asked : Option Pool → List AssignmentValue
  asked p = set_asked ∷ pool_requests n bus p

  -- what the device that stands there replies
  at_device : (before : List DeviceValue) (d : DeviceValue) (request : AssignmentValue) (reply : Option (List ℕ)) (after : List DeviceValue)
      → slice_get before request.node ≡ Some d → (x : IsReplied tables before request reply after) → Replies d request.bus (tables request.node) (request_bytes request.body) reply x.new
  at_device before d request reply after stands x =
      let same : x.device ≡ d = cc in
      subst (λ (e : DeviceValue). Replies e request.bus (tables request.node) (request_bytes request.body) reply x.new) same x.replies

  -- The rest of a run after the requests to the node: the device holds what was given, the others are as before, and the
  -- requests were accepted.
  pub record Rest (list : List AssignmentValue) (before : List DeviceValue) (rest : List AssignmentValue) (replies : List (Option (List ℕ))) (after : List DeviceValue) (new : DeviceValue) : Type 0 where
    pub between : List DeviceValue
    pub others : List (Option (List ℕ))
    pub run : AssignRun tables between rest others after
    pub changed : Changed before between n new
    pub accepted : AreAccepted rest others → AreAccepted (list ++ rest) replies

  after_pool : (p : Pool) → pool ≡ Some p → (before : List DeviceValue) (rest : List AssignmentValue) (replies : List (Option (List ℕ))) (after : List DeviceValue)
      → slice_get before n ≡ Some (left None) → AssignRun tables before (pool_requests n bus (Some p) ++ rest) replies after
      → Rest (pool_requests n bus (Some p)) before rest replies after (left (Some p))
  after_pool p is before rest [] after stands run = absurd run
  after_pool p is before rest (reply ∷ replies) after stands (between, replied, run) =
      let g = given.range p is in
      let told = pool_told (left None) bus (tables n) p g.0 g.1 reply replied.new tt (at_device before (left None) (record { bus = bus; node = n; body = allocates_pool p }) reply between stands replied) in
      record {
        between = between;
        others = replies;
        run = run;
        changed = written before between n (left None) (left (Some p)) stands (replied.becomes ∙ ap (slice_set before n) told.new_is);
        accepted = λ rest_accepted. (
          subst (λ (r : Option (List ℕ)). IsAccepted (record { bus = bus; node = n; body = allocates_pool p }) r) (sym told.reply_is)
              (pool_accepts (left None) bus (tables n) p g.0 g.1),
          rest_accepted,
        );
      }

  after_set : (p : Option Pool) → pool ≡ p → (before : List DeviceValue) (rest : List AssignmentValue) (replies : List (Option (List ℕ))) (after : List DeviceValue)
      → slice_get before n ≡ Some (left None) → AssignRun tables before (pool_requests n bus p ++ rest) replies after
      → Rest (pool_requests n bus p) before rest replies after (left p)
  after_set None is before rest replies after stands run = record {
    between = before;
    others = replies;
    run = run;
    changed = record { here = stands; there = λ k other. refl; as_many = refl };
    accepted = λ rest_accepted. rest_accepted;
  }
  after_set (Some p) is before rest replies after stands run = after_pool p is before rest replies after stands run

  -- the requests to a node are accepted, and it then holds what was given
  pub after_asked : (before : List DeviceValue) (rest : List AssignmentValue) (replies : List (Option (List ℕ))) (after : List DeviceValue)
      → slice_get before n ≡ Some found → AssignRun tables before (asked pool ++ rest) replies after → Rest (asked pool) before rest replies after (left pool)
  after_asked before rest [] after stands run = absurd run
  after_asked before rest (reply ∷ replies) after stands (between, replied, run) =
      let told = set_told found bus (tables n) eid given.assignable reply replied.new tt (at_device before found set_asked reply between stands replied) in
      let changed = written before between n found (left None) stands (replied.becomes ∙ ap (slice_set before n) told.new_is) in
      let more = after_set pool refl between rest replies after changed.here run in
      record {
        between = more.between;
        others = more.others;
        run = more.run;
        changed = twice before between more.between n (left None) (left pool) changed more.changed;
        accepted = λ rest_accepted. (
          subst (λ (r : Option (List ℕ)). IsAccepted set_asked r) (sym told.reply_is)
              (set_accepts found bus (tables n) eid given.assignable given.few),
          more.accepted rest_accepted,
        );
      }

  -- How the requests to a node can be replied to, and what goes before each run of the rest.
  pub record Start (list : List AssignmentValue) (before : List DeviceValue) (new : DeviceValue) : Type 0 where
    pub between : List DeviceValue
    pub replies : List (Option (List ℕ))
    pub changed : Changed before between n new
    pub run : (rest : List AssignmentValue) (others : List (Option (List ℕ))) (after : List DeviceValue) → AssignRun tables between rest others after
        → AssignRun tables before (list ++ rest) (replies ++ others) after

  start_pool : (p : Option Pool) → pool ≡ p → (before : List DeviceValue) → slice_get before n ≡ Some (left None) → Start (pool_requests n bus p) before (left p)
  start_pool None is before stands = record {
    between = before;
    replies = [];
    changed = record { here = stands; there = λ k other. refl; as_many = refl };
    run = λ rest others after run. run;
  }
  start_pool (Some p) is before stands =
      let g = given.range p is in
      let between : List DeviceValue = slice_set before n (left (Some p)) in
      let reply = pool_reply (left None) bus (tables n) p g.0 g.1 in
      let replied : IsReplied tables before (record { bus = bus; node = n; body = allocates_pool p }) (Some reply) between = record {
        device = left None;
        stands = stands;
        new = left (Some p);
        replies = pool_can_be_told (left None) bus (tables n) p g.0 g.1 tt;
        becomes = refl;
      } in
      record {
        between = between;
        replies = Some reply ∷ [];
        changed = written before between n (left None) (left (Some p)) stands refl;
        run = λ rest others after run. (between, replied, run);
      }

  pub start_asked : (before : List DeviceValue) → slice_get before n ≡ Some found → Start (asked pool) before (left pool)
  start_asked before stands =
      let between : List DeviceValue = slice_set before n (left None) in
      let reply = set_reply found bus (tables n) eid given.assignable in
      let replied : IsReplied tables before set_asked (Some reply) between = record {
        device = found;
        stands = stands;
        new = left None;
        replies = set_can_be_told found bus (tables n) eid given.assignable tt;
        becomes = refl;
      } in
      let changed = written before between n found (left None) stands refl in
      let more = start_pool pool refl between changed.here in
      record {
        between = more.between;
        replies = Some reply ∷ more.replies;
        changed = twice before between more.between n (left None) (left pool) changed more.changed;
        run = λ rest others after run. (between, replied, more.run rest others after run);
      }
