-- Packets that come over the buses, and the messages that come with them.
use Rattle.std.{proofs.Common.{◌≡◌, ℕ, ◌<◌, List, length, Some, get_or, sym, ◌∙◌, ap, subst, inl, inr}, specs.Prelude.{Result, Ok, Err, IfOk, slice_get, slice_set}, proofs.lemmas.Bool.Decides.{eqb_tells}, proofs.lemmas.Option.{slice_get-get_or}}
use Rattle.mctp_transport.{specs.declared.assembler.Assembler.{Assembler}, specs.Assembly.{HoldsHistory, assembler_slots, assembler_limit}, specs.PacketValues.{PacketValue}, specs.Hearing.{Answer, Hears, HearsOnly}, specs.Histories.{History, Arrived, after}}
use Rattle.net_tables.proofs.Elements.{in_set}
use Rattle.emulated_node.{specs.Heard.{AreSized, HaveBeenGiven, with_arrival}, specs.Nodes.{NodeState, Setting}, specs.ReceivedValues.{ReceivedValue, Sent, Held, Dropped}, specs.Receiving.{ComesWhole, IsForwarded, Receives}}
use Rattle.emulated_node.specs.declared.received.Reason.TheVariants as reason

module _ (xs : List Assembler) (bus : ℕ) (old fed : Assembler) (within : bus < length xs) (is_old : old ≡ get_or xs bus old) where
  there : slice_get xs bus ≡ Some old
  there = slice_get-get_or xs bus old within ∙ ap Some (sym is_old)

  -- one assembler was given the packet, and the others nothing
  pub given : (p : PacketValue) (history : ℕ → History) → ((k : History) → HoldsHistory old k → HoldsHistory fed (after k (Arrived p)))
      → HaveBeenGiven xs history → HaveBeenGiven (slice_set xs bus fed) (with_arrival history bus p)
  given p history stands before n b is = elim (in_set xs fed bus n b within is) [
    | inl (other, kept) ↦ elim (eqb_tells n bus) [
      | inl same ↦ absurd (other same.1)
      | inr apart ↦ rw apart.0 (before n b kept)
    ]
    | inr (at, equal) ↦ elim (eqb_tells n bus) [
      | inl same ↦ rw same.0 (subst (λ (x : Assembler). HoldsHistory x (after (history n) (Arrived p))) equal
          (subst (λ k. HoldsHistory fed (after (history k) (Arrived p))) (sym at) (stands (history bus) (before bus old there))))
      | inr apart ↦ absurd (apart.1 at)
    ]
  ]

  -- they stay sized
  pub sized : assembler_slots fed ≡ assembler_slots old → assembler_limit fed ≡ assembler_limit old → AreSized xs → AreSized (slice_set xs bus fed)
  sized slots limit are n b is = elim (in_set xs fed bus n b within is) [
    | inl (other, kept) ↦ are n b kept
    | inr (at, equal) ↦
        let was = are bus old there in
        subst (λ (x : Assembler). (assembler_slots x ≡ 16) × (assembler_limit x ≡ 4096)) equal (slots ∙ was.0, limit ∙ was.1)
  ]

  -- what is heard of the packet
  pub hears_over : {A E : Type 0} (answer : A → Answer) (p : PacketValue) (result : Result A E) → AreSized xs
      → IfOk result (λ a. (k : History) → HoldsHistory old k → HearsOnly (assembler_slots old) (assembler_limit old) k p (answer a))
      → IfOk result (λ a. (history : ℕ → History) → HaveBeenGiven xs history → Hears 16 4096 (history bus) p (answer a))
  hears_over answer p (Ok a) are hears = λ history before.
      let was = are bus old there in
      subst (λ n. Hears n 4096 (history bus) p (answer a)) was.0 (subst (λ n. Hears (assembler_slots old) n (history bus) p (answer a)) was.1 (hears (history bus) (before bus old there)).hears)
  hears_over answer p (Err e) are hears = hears

-- what becomes of a whole message is what becomes of its packet
pub whole_receives : (set : Setting) (s : NodeState) (bus : ℕ) (p : PacketValue) (received : ReceivedValue) (new : NodeState) → ComesWhole set s bus p received new
    → Receives set s bus p received new
whole_receives set s bus p (Sent over packets) new comes = inl comes
whole_receives set s bus p Held new comes = absurd comes.replies
whole_receives set s bus p (Dropped (reason.ForwardFault why)) new comes = absurd comes.replies
whole_receives set s bus p (Dropped reason.NoPort) new comes = absurd comes.replies
whole_receives set s bus p (Dropped (reason.Unassembled why)) new comes = absurd comes.replies
whole_receives set s bus p (Dropped reason.NoRequest) new comes = comes
whole_receives set s bus p (Dropped reason.NoAnswer) new comes = comes

-- so is what becomes of a packet that goes on
pub on_receives : (set : Setting) (s : NodeState) (bus : ℕ) (p : PacketValue) (received : ReceivedValue) (new : NodeState) → IsForwarded set s p received new
    → Receives set s bus p received new
on_receives set s bus p (Sent over packets) new goes = inr goes
on_receives set s bus p Held new goes = absurd goes.2
on_receives set s bus p (Dropped (reason.ForwardFault why)) new goes = absurd goes.2
on_receives set s bus p (Dropped reason.NoPort) new goes = goes
on_receives set s bus p (Dropped (reason.Unassembled why)) new goes = absurd goes.2
on_receives set s bus p (Dropped reason.NoRequest) new goes = absurd goes.2
on_receives set s bus p (Dropped reason.NoAnswer) new goes = absurd goes.2
