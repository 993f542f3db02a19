-- A packet that enters its node, and the message that may come with it.
use Rattle.std.{proofs.Common.{◌≡◌, ℕ, zero, suc, ◌<◌, ◌≤◌, Bool, true, false, cond, eqb, List, [], ◌∷◌, length, map, Option, Some, None, refl, sym, ◌∙◌, ap, subst, inl, inr, arith}, specs.Prelude.{slice_get, slice_set, option_map, option_and_then, unwrap_or, find, ◌==◌}, proofs.lemmas.List.{map-set, length-map}, proofs.lemmas.Bool.{cases_Bool}, proofs.lemmas.Bool.Decides.{eqb_tells}, proofs.lemmas.Option.{same_Some, slice_get-map}}
use Rattle.plan_values.{specs.declared.certificate.Certificate.{Certificate}, specs.declared.certificate.NodeRanks.{NodeRanks}, specs.declared.certificate.RankRange.{RankRange}}
use Rattle.net_tables.specs.Ranks.{rank, rank_in, is_in_range}
use Rattle.mctp_transport.{specs.PacketValues.{PacketValue, KeyValue, key_of}, specs.Histories.{History, Arrived, after, Comes}, proofs.Openness.{comes_start, comes_more}, specs.Hearing.{Answer, Whole, Held, Dropped, Hears}, specs.declared.assembler.Assembler.{Assembler}, specs.declared.drop_cause.DropCause.{DropCause}}
use Rattle.net_runs.{specs.Termini.{TerminusState, WaitingMessage, with_waiting}, specs.States.{NetworkState, Flight, with_input, with_terminus, with_received, slots, limit}, specs.Events.{Entered}}
use Rattle.net_sim.{specs.TerminusQueues.{with_message}, specs.Standing.{TrafficValue, HasNetworkState, Receives, at_place}, proofs.Changes.{input_stands, terminus_stands}}
use Rattle.mctp_transport.specs.Assembly as assembly

-- a message comes with a packet that ends it
pub comes_ends : (slots limit : ℕ) (h : History) (p : PacketValue) (message : List ℕ) → Comes slots limit (after h (Arrived p)) message → p.eom ≡ true
comes_ends slots limit h p message came = elim (cases_Bool p.som) [
  | inl y ↦ (comes_start slots limit h p message y came).0
  | inr n ↦ (comes_more slots limit h p message n came).2
]

-- a list keeps its meaning where an element is replaced by one of the same meaning
pub map_set_same : {D T : Type 0} (f : D → T) (ds : List D) (i : ℕ) (old new : D) → slice_get ds i ≡ Some old → f new ≡ f old → map f (slice_set ds i new) ≡ map f ds
map_set_same f [] i old new is same = absurd (cc)
map_set_same f (d ∷ ds) zero old new is same = ap (λ x. x ∷ map f ds) (same ∙ ap f (sym (same_Some d old is)))
map_set_same f (d ∷ ds) (suc i) old new is same = ap (λ xs. f d ∷ xs) (map_set_same f ds i old new is same)

-- a terminus that is as it was
same_terminus : (u : TrafficValue) (w : NetworkState) (node : ℕ) (o : Option TerminusState) → w.terminus node ≡ o → HasNetworkState u (with_terminus w node o) → HasNetworkState u w
same_terminus u w node o is s = record {
  flights = s.flights;
  made = s.made;
  histories = s.histories;
  switched = s.switched;
  termini = λ n. elim (eqb_tells n node) [
    | inl same ↦ (
        let h : cond (eqb n node) o (w.terminus n) ≡ at_place u.termini n = s.termini n in
        let k : cond true o (w.terminus n) ≡ at_place u.termini n = subst (λ b. cond b o (w.terminus n) ≡ at_place u.termini n) same.0 h in
        ap w.terminus same.1 ∙ (is ∙ k))
    | inr other ↦ (
        let h : cond (eqb n node) o (w.terminus n) ≡ at_place u.termini n = s.termini n in
        let k : cond false o (w.terminus n) ≡ at_place u.termini n = subst (λ b. cond b o (w.terminus n) ≡ at_place u.termini n) other.0 h in
        k)
  ];
}

module _ (v u : TrafficValue) (number : ℕ) (f : Flight) (a b : Assembler) (key : KeyValue) (of_key : key ≡ key_of f.packet) (within : f.node < length v.assemblers)
    (here : slice_get v.assemblers f.node ≡ Some a)
    (stands : (h : History) → assembly.HoldsHistory a h → assembly.HoldsHistory b (after h (Arrived f.packet)))
    (flights : u.flights ≡ v.flights) (assemblers : u.assemblers ≡ slice_set v.assemblers f.node b)
    (switched : u.switched ≡ v.switched) where
  heard_stands : (w : NetworkState) → HasNetworkState v w → u.termini ≡ v.termini → HasNetworkState u (with_input w f.node (Arrived f.packet))
  heard_stands w s termini = input_stands v u w s f.node b (Arrived f.packet) within (stands (w.history f.node) (s.histories f.node a here)) flights assemblers termini switched

  pub receives_held : ((h : History) → assembly.HoldsHistory a h → Hears slots limit h f.packet Held) → u.termini ≡ v.termini → Receives v number f (Entered number f.node key Held) u
  receives_held hears termini w s = (
    with_input w f.node (Arrived f.packet),
    (refl, refl, of_key, hears (w.history f.node) (s.histories f.node a here), refl),
    heard_stands w s termini,
  )

  pub receives_dropped : (why : DropCause) → ((h : History) → assembly.HoldsHistory a h → Hears slots limit h f.packet (Dropped why)) → u.termini ≡ v.termini
      → Receives v number f (Entered number f.node key (Dropped why)) u
  receives_dropped why hears termini w s = (
    with_input w f.node (Arrived f.packet),
    (refl, refl, of_key, hears (w.history f.node) (s.histories f.node a here), refl),
    heard_stands w s termini,
  )

  pub receives_whole : (m : List ℕ) (o : Option TerminusState) → ((h : History) → assembly.HoldsHistory a h → Hears slots limit h f.packet (Whole m)) → f.node < length v.termini
      → slice_get v.termini f.node ≡ Some o → (length m ≤ 4096 → f.packet.eom ≡ true → u.termini ≡ slice_set v.termini f.node (with_message (record { key = key; bytes = m }) o))
      → Receives v number f (Entered number f.node key (Whole m)) u
  receives_whole m o hears short there termini w s =
      let heard = hears (w.history f.node) (s.histories f.node a here) in (
        with_received (with_input w f.node (Arrived f.packet)) f.node key (Whole m),
        (refl, refl, of_key, heard, refl),
        by key.owner refl (termini heard.fits (comes_ends slots limit (w.history f.node) f.packet m heard)),
      )
    where
      middle : TrafficValue
      middle = record v { assemblers = slice_set v.assemblers f.node b }

      given : HasNetworkState middle (with_input w f.node (Arrived f.packet))
      given = input_stands v middle w s f.node b (Arrived f.packet) within (stands (w.history f.node) (s.histories f.node a here)) refl refl refl refl

      was : w.terminus f.node ≡ o
      was = s.termini f.node ∙ ap (λ (x : Option (Option TerminusState)). option_and_then (λ (t : Option TerminusState). t) x) there

      message : WaitingMessage
      message = record { key = key; bytes = m }

      waits : Option TerminusState → Option TerminusState
      waits t = option_map (λ (t : TerminusState). with_waiting t message) t

      entered : NetworkState
      entered = with_input w f.node (Arrived f.packet)

      by : (owner : Bool) → key.owner ≡ owner → u.termini ≡ slice_set v.termini f.node (cond key.owner (waits o) o)
          → HasNetworkState u (cond key.owner (with_terminus entered f.node (waits (w.terminus f.node))) entered)
      by true owned now =
          let now' : u.termini ≡ slice_set v.termini f.node (waits o) = now ∙ ap (λ b. slice_set v.termini f.node (cond b (waits o) o)) owned in
          let s' : HasNetworkState u (with_terminus entered f.node (waits o)) = terminus_stands middle u entered given f.node (waits o) short flights assemblers now' switched in
          let s'' : HasNetworkState u (with_terminus entered f.node (waits (w.terminus f.node))) =
          subst (λ (t : Option TerminusState). HasNetworkState u (with_terminus entered f.node (waits t))) (sym was) s' in
          subst (λ b. HasNetworkState u (cond b (with_terminus entered f.node (waits (w.terminus f.node))) entered)) (sym owned) s''
      by false owned now =
          let now' : u.termini ≡ slice_set v.termini f.node o = now ∙ ap (λ b. slice_set v.termini f.node (cond b (waits o) o)) owned in
          let s' : HasNetworkState u (with_terminus entered f.node o) = terminus_stands middle u entered given f.node o short flights assemblers now' switched in
          subst (λ b. HasNetworkState u (cond b (with_terminus entered f.node (waits (w.terminus f.node))) entered)) (sym owned) (same_terminus u entered f.node o was s')

-- the terminus of a node after a message has come there
pub queue_waits : {D : Type 0} (g : D → Option TerminusState) (ds : List D) (i : ℕ) (new : D) (m : WaitingMessage) (o : Option TerminusState) → g new ≡ with_message m o
    → map g (slice_set ds i new) ≡ slice_set (map g ds) i (with_message m o)
queue_waits g ds i new m o is = map-set g ds i new ∙ ap (λ t. slice_set (map g ds) i t) is

pub queue_there : {D : Type 0} (g : D → Option TerminusState) (ds : List D) (i : ℕ) (d : D) → slice_get ds i ≡ Some d → slice_get (map g ds) i ≡ Some (g d)
queue_there g ds i d is = slice_get-map g ds i ∙ ap (option_map g) is

-- what an assembler of the network's size answers
pub as_sized : (a : Assembler) (p : PacketValue) (answer : Answer) → (assembly.assembler_slots a ≡ 16) × (assembly.assembler_limit a ≡ 4096)
    → ((h : History) → assembly.HoldsHistory a h → Hears (assembly.assembler_slots a) (assembly.assembler_limit a) h p answer)
    → (h : History) → assembly.HoldsHistory a h → Hears slots limit h p answer
as_sized a p answer sizes hears h is =
    subst (λ n. Hears n limit h p answer) sizes.0 (subst (λ n. Hears (assembly.assembler_slots a) n h p answer) sizes.1 (hears h is))

-- the bound on ranks
pub rank_most : (cert : Certificate) (n e : ℕ) → rank cert n e ≤ 255
rank_most cert n e = of_node (find (λ (given : NodeRanks). given.node == n) cert.ranks.items)
  where
    of_range : (o : Option RankRange) → unwrap_or (option_map (λ (range : RankRange). range.rank) o) 0 ≤ 255
    of_range None = omega arith
    of_range (Some range) = range.rank_within

    of_node : (o : Option NodeRanks) → unwrap_or (option_map (λ (given : NodeRanks). rank_in given.ranges.items e) o) 0 ≤ 255
    of_node None = omega arith
    of_node (Some given) = of_range (find (λ (range : RankRange). is_in_range range e) given.ranges.items)

pub short_map : {D T : Type 0} (g : D → T) (ds : List D) (n : ℕ) → n < length ds → n < length (map g ds)
short_map g ds n within = simp length-map within

-- the same of equal bytes
pub at_bytes : (m bytes : List ℕ) → m ≡ bytes → (key : KeyValue) (t o : Option TerminusState) → (length bytes ≤ 4096 → t ≡ with_message (record { key = key; bytes = bytes }) o)
    → length m ≤ 4096 → t ≡ with_message (record { key = key; bytes = m }) o
at_bytes m bytes same key t o is fits =
    subst (λ (b : List ℕ). t ≡ with_message (record { key = key; bytes = b }) o) (sym same) (is (subst (λ (b : List ℕ). length b ≤ 4096) same fits))
