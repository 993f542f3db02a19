-- What an empty device replies to the requests of an assignment.
use Rattle.std.proofs.Common.{◌≡◌, inl, inr, ℕ, zero, suc, ◌<◌, List, [], ◌∷◌, Option, Some, None, refl, sym, ap, ◌∙◌, subst, arith}
use Rattle.plan_values.specs.declared.nodes.Pool.{Pool}
use Rattle.mctp_transport.{specs.PacketValues.{IsAssignable}, specs.declared.device_kind.DeviceKind.{DeviceKind}}
use Rattle.mctp_control.{specs.Ranges.{IsAssignableRange}, specs.RouteEntries.{EntryValue}, specs.Statuses.{Pairs, pairs_byte, PoolStatusValue}, specs.Requests.{RequestValue, IsRequest, request_bytes}, specs.RequestLaws.{one_request}, specs.Responses.{EidSet, PoolTold, ResponseValue, SpellsResponse}, specs.Devices.{PoolHeld, DeviceValue, MayGiveEid, MayGivePool, allocation_of, pool_wanted}, specs.Replies.{IsAsked, Supports, reply_bytes, SetReplies, AllocateReplies, CommandReplies, Replies}}
use Rattle.net_sim.{specs.Assignments.{plain_header, sets_eid, allocates_pool}, specs.AssignmentRuns.{AcceptsCommand}}
use Rattle.mctp_transport.specs.declared.device_kind.DeviceKind.TheVariants as device

-- a reply, and the device afterwards
pub record Told (reply : Option (List ℕ)) (new : DeviceValue) (bytes : List ℕ) (later : DeviceValue) : Type 0 where
  pub reply_is : reply ≡ Some bytes
  pub new_is : new ≡ later

-- a reply that accepts the request
abbrev pub Accepting : RequestValue → List ℕ → Type 0
Accepting asked bytes = (r : ResponseValue) × SpellsResponse r bytes × AcceptsCommand asked.command r.answer

supports_set : (k : DeviceKind) → Supports k 1
supports_set device.Endpoint = inl refl
supports_set device.Bridge = λ u. u.0 refl

allocation_most : (wants : ℕ) (held : Option PoolHeld) → allocation_of wants held < 4
allocation_most zero held = omega arith
allocation_most (suc n) None = omega arith
allocation_most (suc n) (Some h) = omega arith

wanted_most : (k : DeviceKind) (wants : ℕ) → wants < 256 → pool_wanted k wants < 256
wanted_most device.Endpoint wants few = omega arith
wanted_most device.Bridge wants few = few

module _ (d : DeviceValue) (bus : ℕ) (table : List EntryValue) (eid : ℕ) (assignable : IsAssignable eid) where
  abbrev pub set_body : List ℕ
  set_body = request_bytes (sets_eid eid)

  abbrev set_content : List ℕ
  set_content = 0 ∷ allocation_of (pool_wanted d.kind d.wants) d.pool ∷ eid ∷ pool_wanted d.kind d.wants ∷ []

  abbrev pub set_reply : List ℕ
  set_reply = reply_bytes set_body set_content

  abbrev pub with_eid : DeviceValue
  with_eid = record d { eid = Some (record { eid = eid; giver = Some bus }) }

  set_asked : IsAsked set_body
  set_asked = (omega arith, refl, refl)

  set_lawful : IsRequest (sets_eid eid)
  set_lawful = let most = assignable.1 in record { instance = omega arith; command = (omega arith, omega arith, omega arith) }

  -- a device without EID takes the one that it is given
  pub set_told : (reply : Option (List ℕ)) (new : DeviceValue) → MayGiveEid d.eid bus → Replies d bus table set_body reply new → Told reply new set_reply with_eid
  set_told reply new may replied =
      let a = replied.answered (sets_eid eid) set_asked (supports_set d.kind) (set_lawful, refl) in
      let s = a.2.accepted assignable (inl (refl, may)) in
      record { reply_is = a.1 ∙ ap (λ (c : List ℕ). Some (reply_bytes set_body c)) s.0; new_is = s.1 }

  set_replies : MayGiveEid d.eid bus → SetReplies d bus 0 eid set_content with_eid
  set_replies may = record {
    invalid = λ wrong. elim wrong [ inl high ↦ absurd (omega arith) | inr not ↦ absurd (not assignable) ];
    accepted = λ _ _. (refl, refl);
    rejected = λ _ _ refused. absurd (refused may);
  }

  -- and so it does reply
  pub set_can_be_told : MayGiveEid d.eid bus → Replies d bus table set_body (Some set_reply) with_eid
  set_can_be_told may = record {
    silent = λ not. absurd (not set_asked);
    unsupported = λ _ not. absurd (not (supports_set d.kind));
    wrong_length = λ _ _ not. absurd (not (λ _. refl, λ e. cc, λ e. cc, λ e. cc));
    answered = λ r _ _ spelled. (
      _,
      refl,
      subst (λ (q : RequestValue). CommandReplies d bus table q.command set_content with_eid)
          (one_request (sets_eid eid) r set_lawful spelled.0 spelled.1) (set_replies may),
    );
  }

  -- which accepts the request
  pub set_accepts : d.wants < 256 → Accepting (sets_eid eid) set_reply
  set_accepts few =
      let allocation = allocation_of (pool_wanted d.kind d.wants) d.pool in
      let low : allocation < 4 = allocation_most (pool_wanted d.kind d.wants) d.pool in
      let most = assignable.1 in
      let status : Pairs = record { high = 0; second = 0; third = 0; low = allocation } in
      let byte : allocation ≡ pairs_byte status = omega arith in (
        record { header = plain_header; answer = EidSet status eid (pool_wanted d.kind d.wants) },
        (
          record { instance = omega arith; answer = (record { second = omega arith; high = omega arith; third = omega arith; low = low }, omega arith, wanted_most d.kind d.wants few) },
          ap (λ (b : ℕ). reply_bytes set_body (0 ∷ b ∷ eid ∷ pool_wanted d.kind d.wants ∷ [])) byte,
        ),
        (refl, refl),
      )

module _ (d : DeviceValue) (bus : ℕ) (table : List EntryValue) (pool : Pool) (bridge : d.kind ≡ device.Bridge) (range : IsAssignableRange pool.first.value pool.size) where
  abbrev pub pool_body : List ℕ
  pool_body = request_bytes (allocates_pool pool)

  abbrev pool_content : List ℕ
  pool_content = 0 ∷ 0 ∷ pool.size ∷ pool.first.value ∷ []

  abbrev pub pool_reply : List ℕ
  pool_reply = reply_bytes pool_body pool_content

  abbrev pub with_pool : DeviceValue
  with_pool = record d { pool = Some (record { first = pool.first.value; size = pool.size; giver = Some bus }) }

  pool_asked : IsAsked pool_body
  pool_asked = (omega arith, refl, refl)

  pool_lawful : IsRequest (allocates_pool pool)
  pool_lawful =
      let high = range.2 in let some = range.0 in let low = range.1 in
      record { instance = omega arith; command = (omega arith, omega arith, omega arith, omega arith) }

  supports_pool : Supports d.kind 8
  supports_pool = let B : DeviceKind → Type 0 = λ k. Supports k 8 in subst B (sym bridge) (λ u. u.2 refl)

  -- a bridge without pool takes the one that it is given
  pub pool_told : (reply : Option (List ℕ)) (new : DeviceValue) → MayGivePool d.pool bus → Replies d bus table pool_body reply new → Told reply new pool_reply with_pool
  pool_told reply new may replied =
      let a = replied.answered (allocates_pool pool) pool_asked supports_pool (pool_lawful, refl) in
      let s = a.2.accepted range (inl (refl, may)) in
      record { reply_is = a.1 ∙ ap (λ (c : List ℕ). Some (reply_bytes pool_body c)) s.0; new_is = s.1 }

  pool_replies : MayGivePool d.pool bus → AllocateReplies d bus 0 pool.size pool.first.value pool_content with_pool
  pool_replies may = record {
    reserved = λ high. absurd (omega arith);
    information = λ two. absurd (omega arith);
    invalid = λ _ not. absurd (not range);
    accepted = λ _ _. (refl, refl);
    rejected = λ _ _ refused. absurd (refused may);
  }

  -- and so it does reply
  pub pool_can_be_told : MayGivePool d.pool bus → Replies d bus table pool_body (Some pool_reply) with_pool
  pool_can_be_told may = record {
    silent = λ not. absurd (not pool_asked);
    unsupported = λ _ not. absurd (not supports_pool);
    wrong_length = λ _ _ not. absurd (not (λ e. cc, λ e. cc, λ _. refl, λ e. cc));
    answered = λ r _ _ spelled. (
      _,
      refl,
      subst (λ (q : RequestValue). CommandReplies d bus table q.command pool_content with_pool)
          (one_request (allocates_pool pool) r pool_lawful spelled.0 spelled.1) (pool_replies may),
    );
  }

  -- which accepts the request
  pub pool_accepts : Accepting (allocates_pool pool) pool_reply
  pool_accepts =
      let high = range.2 in let some = range.0 in let low = range.1 in
      let status : PoolStatusValue = record { reserved = 0; acceptance = 0 } in (
        record { header = plain_header; answer = PoolTold status pool.size pool.first.value },
        (record { instance = omega arith; answer = (record { reserved = omega arith; acceptance = omega arith }, omega arith, omega arith) }, refl),
        (refl, refl, refl),
      )
