-- Packets that reach nodes of a network, and what is sent for them.
use Rattle.std.{proofs.Common.{◌≡◌, ℕ, ◌<◌, List, length, map, Some, get_or, refl, sym, ◌∙◌, ap, subst, arith, [], ◌∷◌, ◌++◌, ◌+◌, ◌↔◌, ◌⊎◌, take, inl, inr, Result, Ok, Err, IfOk}, specs.List.{flat_map}, proofs.lemmas.List.{flat_map_more, length-map, length_push, map-append, take_more, take-append-le}, specs.Prelude.{option_map, slice_get, slice_set}, proofs.Math.Seq.{map-set_same}, proofs.lemmas.Bool.Decides.{eqb_tells}, proofs.lemmas.Option.{slice_get-get_or, slice_get-map, slice_get_cases, same_Some}}
use Rattle.pdr_repository.specs.Records.{Entry}
use Rattle.mctp_transport.{specs.PacketValues.{PacketValue}, specs.declared.packet_error.PacketError.{PacketError}}
use Rattle.net_tables.proofs.Elements.{in_set}
use Rattle.emulated_node.{specs.Emulating.{HaveStates}, specs.Networks.{AreSteps, Becomes, SentValue, Spreads, States, StepValue, World, sent_value, with_state}, specs.Nodes.{NodeState, Setting}, specs.ReceivedValues.{ReceivedValue}, specs.Receiving.{Receives}, specs.Standing.{HasNodeState, setting_of}, specs.Unread.{IsNoPacketFor}, specs.declared.emulated.Emulated.{Emulated}, specs.declared.handled.Handled.{Handled}, specs.declared.handled.SentPacket.{SentPacket}}
use Rattle.mctp_transport.specs.Refusals as refusals
use Rattle.mctp_transport.specs.declared.packet_error.PacketError.TheVariants as packet

-- its setting is there
pub setting_there : {T : Type 0} (xs : List (Emulated T)) (n : ℕ) (e : Emulated T) → n < length xs → e ≡ get_or xs n e → slice_get (map setting_of xs) n ≡ Some (setting_of e)
setting_there xs n e within is =
    slice_get-map setting_of xs n ∙ ap (option_map setting_of) (slice_get-get_or xs n e within ∙ ap Some (sym is))

-- a node that is there has a setting
pub node_there : {T : Type 0} (xs : List (Emulated T)) (n : ℕ) → n < length xs → (set : Setting) × (slice_get (map setting_of xs) n ≡ Some set)
node_there xs n within = elim (slice_get_cases xs n).1 [
  | inl (e, lt, at, same) ↦ (setting_of e, slice_get-map setting_of xs n ∙ ap (option_map setting_of) at)
  | inr (past, none) ↦ absurd (omega (arith, within, past))
]

-- nothing is sent
pub alone_becomes : (w : World) (s after : States) (p : SentValue) (h due : Handled) (sent : List SentPacket) → h ≡ due → sent ≡ [] → Becomes w s p due [] after
    → Becomes w s p h (map sent_value sent) after
alone_becomes w s after p h due sent is none becomes =
    subst (λ (x : Handled). Becomes w s p x (map sent_value sent) after) (sym is) (subst (λ (xs : List SentPacket). Becomes w s p due (map sent_value xs) after) (sym none) becomes)

module _ {T : Type 0} (tid : T → ℕ) (records : T → List Entry) (xs : List (Emulated T)) (n : ℕ) (old new : Emulated T) (within : n < length xs) (is_old : old ≡ get_or xs n old) where
  there : slice_get xs n ≡ Some old
  there = slice_get-get_or xs n old within ∙ ap Some (sym is_old)

  -- it is the setting of the node
  pub is_setting : (set : Setting) → slice_get (map setting_of xs) n ≡ Some set → setting_of old ≡ set
  is_setting set is = same_Some (setting_of old) set (sym (setting_there xs n old within is_old) ∙ is)

  -- the nodes stay what they are
  pub settings_kept : setting_of new ≡ setting_of old → map setting_of (slice_set xs n new) ≡ map setting_of xs
  settings_kept same = map-set_same setting_of xs n new old (same ∙ ap setting_of is_old)

  -- one of them has its next state, and the others theirs
  states_after : (s : States) (next : NodeState) → HaveStates tid records xs s → HasNodeState tid records new next → HaveStates tid records (slice_set xs n new) (with_state s n next)
  states_after s next stands has m e is = elim (in_set xs new n m e within is) [
    | inl (other, kept) ↦ elim (eqb_tells m n) [
      | inl same ↦ absurd (other same.1)
      | inr apart ↦ rw apart.0 (stands m e kept)
    ]
    | inr (at, equal) ↦ elim (eqb_tells m n) [
      | inl same ↦ rw same.0 (subst (λ (x : Emulated T). HasNodeState tid records x next) equal has)
      | inr apart ↦ absurd (apart.1 at)
    ]
  ]

  -- what becomes of the packet there
  pub receives_at : {R E : Type 0} (value : R → ReceivedValue) (bus : ℕ) (p : PacketValue) (result : Result R E)
      → IfOk result (λ r. (s : NodeState) → HasNodeState tid records old s → (next : NodeState) × Receives (setting_of old) s bus p (value r) next × HasNodeState tid records new next)
      → IfOk result (λ r. (s : States) (set : Setting) → HaveStates tid records xs s → slice_get (map setting_of xs) n ≡ Some set
      → (next : NodeState) × Receives set (s n) bus p (value r) next × HaveStates tid records (slice_set xs n new) (with_state s n next))
  receives_at value bus p (Ok r) receives = λ s set stands is.
      let went = receives (s n) (stands n old there) in
      (went.0, subst (λ x. Receives x (s n) bus p (value r) went.0) (is_setting set is) went.1, states_after s went.0 stands went.2)
  receives_at value bus p (Err e) receives = tt

-- the setting of a node among others that are what they were
pub setting_after : {T : Type 0} (xs ys : List (Emulated T)) (n : ℕ) (e : Emulated T) (set : Setting) → map setting_of ys ≡ map setting_of xs → n < length xs → e ≡ get_or ys n e
    → slice_get (map setting_of xs) n ≡ Some set → setting_of e ≡ set
setting_after xs ys n e set same within is at =
    let many : length ys ≡ length xs = sym (length-map ys setting_of) ∙ (ap length same ∙ length-map xs setting_of) in
    let lt : n < length ys = omega (arith, within, many) in
    same_Some (setting_of e) set (sym (setting_there ys n e lt is) ∙ (ap (λ l. slice_get l n) same ∙ at))

-- why bytes are no packet
pub no_packet : {A : Type 0} (unit : ℕ) (why : PacketError) (bytes : List ℕ) (read : Result A PacketError) → read ≡ Err why → ((read ≡ Err packet.Short) ↔ refusals.IsShort bytes)
    → ((read ≡ Err packet.Empty) ↔ (¬ refusals.IsShort bytes × refusals.IsEmpty bytes)) → ((read ≡ Err packet.Long) ↔ refusals.IsLong unit bytes)
    → ((read ≡ Err packet.Version) ↔ (¬ refusals.IsShort bytes × ¬ refusals.IsEmpty bytes × ¬ refusals.IsLong unit bytes × refusals.HasOtherVersion bytes)) → IsNoPacketFor unit why bytes
no_packet unit packet.Short bytes read is short empty long version = short.0 is
no_packet unit packet.Empty bytes read is short empty long version = empty.0 is
no_packet unit packet.Long bytes read is short empty long version = long.0 is
no_packet unit packet.Version bytes read is short empty long version = version.0 is

-- So many packets were taken, in the order in which they were sent, and the nodes stand for what that led to.
pub record HasSpread (Stands : States → Type 0) (w : World) (s : States) (put : SentValue) (packets : List SentValue) (handled : List Handled) : Type 0 where
  pub steps : List StepValue
  pub last : States
  pub become : AreSteps w s steps last
  pub sent : packets ≡ put ∷ flat_map (λ t. t.sent) steps
  pub taken : map (λ t. t.packet) steps ≡ take (length steps) packets
  pub became : map (λ t. t.handled) steps ≡ handled
  pub stands : Stands last

pub spread_none : (Stands : States → Type 0) (w : World) (s : States) (put : SentValue) → Stands s → HasSpread Stands w s put (put ∷ []) []
spread_none Stands w s put stands = record { steps = []; last = s; become = refl; sent = refl; taken = refl; became = refl; stands = stands }

-- one step more
become_more : (w : World) (s last next : States) (steps : List StepValue) (t : StepValue) → AreSteps w s steps last → Becomes w last t.packet t.handled t.sent next
    → AreSteps w s (steps ++ t ∷ []) next
become_more w s last next [] t is becomes = (next, subst (λ x. Becomes w x t.packet t.handled t.sent next) is becomes, refl)
become_more w s last next (u ∷ steps) t (mid, first, rest) becomes = (mid, first, become_more w mid last next steps t rest becomes)

pub spread_more : (Stands Stands' : States → Type 0) (w : World) (s : States) (put : SentValue) (packets : List SentValue) (handled : List Handled) (before : HasSpread Stands w s put packets handled)
    (p : SentValue) (h : Handled) (sent : List SentValue) (next : States) → length handled < length packets → p ≡ get_or packets (length handled) p → Becomes w before.last p h sent next → Stands' next
    → HasSpread Stands' w s put (packets ++ sent) (handled ++ h ∷ [])
spread_more Stands Stands' w s put packets handled before p h sent next within is becomes stands =
    let t : StepValue = record { packet = p; handled = h; sent = sent } in
    let steps = before.steps in
    let many : length steps ≡ length handled = sym (length-map steps (λ (t : StepValue). t.handled)) ∙ ap length before.became in
    let lt : length steps < length packets = omega (arith, within, many) in
    let there : p ≡ get_or packets (length steps) p = is ∙ ap (λ k. get_or packets k p) (sym many) in
    record {
      steps = steps ++ t ∷ [];
      last = next;
      become = become_more w s before.last next steps t before.become becomes;
      sent = ap (λ xs. xs ++ sent) before.sent ∙ flat_map_more (λ (t : StepValue). t.sent) (put ∷ []) steps t;
      taken = map-append (λ (t : StepValue). t.packet) steps (t ∷ [])
          ∙ (ap (λ xs. xs ++ p ∷ []) before.taken
          ∙ (ap (λ (x : SentValue). take (length steps) packets ++ x ∷ []) there
          ∙ (sym (take_more packets (length steps) p lt)
          ∙ (sym (take-append-le (length steps + 1) packets sent (omega (arith, lt))) ∙ ap (λ k. take k (packets ++ sent)) (sym (length_push steps t))))));
      became = map-append (λ (t : StepValue). t.handled) steps (t ∷ []) ∙ ap (λ xs. xs ++ h ∷ []) before.became;
      stands = stands;
    }

-- all were taken, or as many as are taken at most
pub spread_ends : (Stands : States → Type 0) (w : World) (s : States) (put : SentValue) (packets : List SentValue) (handled : List Handled) (before : HasSpread Stands w s put packets handled)
    → (length handled ≡ length packets) ⊎ (length handled ≡ 4096)
    → (steps : List StepValue) × (last : States) × Spreads w s put packets steps last × (map (λ t. t.handled) steps ≡ handled) × Stands last
spread_ends Stands w s put packets handled before ends =
    let many : length before.steps ≡ length handled = sym (length-map before.steps (λ (t : StepValue). t.handled)) ∙ ap length before.became in (
      before.steps,
      before.last,
      record {
        become = before.become;
        sent = before.sent;
        taken = before.taken;
        ends = subst (λ k. (k ≡ length packets) ⊎ (k ≡ 4096)) (sym many) ends;
      },
      before.became,
      before.stands,
    )
