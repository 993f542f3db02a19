-- What becomes of lines that name a bus.
use Rattle.std.proofs.Common.{◌≡◌, ℕ, Bool, List, Result, Ok, Err, IfOk, inl, subst, string_bytes}
use Rattle.emulated_node.{specs.Nodes.{NodeState, Setting}, specs.ReceivedValues.{ReceivedValue}, specs.Receiving.{Receives}}
use Rattle.mctp_transport.specs.PacketValues.{PacketValue, Spelled}
use Rattle.plan_values.specs.declared.plan.Plan.{Plan}
use Rattle.bus_commands.{specs.PacketLines.{Says}, specs.Turns.{GivesLine, IsToldOf, TakesBytes}, specs.declared.turn.Turn.{Turn}}
use Rattle.bus_commands.specs.PacketLines as said

module _ {E : Type 0} (Before After : NodeState → Type 0) (addressed : Bool) (set : Setting) where
  -- the bytes are a packet, and what the node does with it is told; it is the same node then
  pub comes_all : (kept : Setting) (bus : ℕ) (bytes line : List ℕ) (frame : PacketValue) (received : ReceivedValue) (made : Result Turn E) → kept ≡ set
      → Spelled set.plan.unit frame bytes
      → ((s : NodeState) → Before s → (next : NodeState) × Receives set s bus frame received next × After next)
      → IfOk made (λ (t : Turn). IsToldOf addressed kept bus frame.destination received line (string_bytes t.answer) t.note.items)
      → IfOk made (λ (t : Turn). (s : NodeState) → Before s
      → (next : NodeState) × TakesBytes addressed set s bus bytes line (string_bytes t.answer) t.note.items next × After next)
  comes_all kept bus bytes line frame received (Ok t) same spelled receives told = λ s before.
      let r = receives s before in (
        r.0,
        inl (record {
          frame = frame;
          received = received;
          spelled = spelled;
          receives = r.1;
          told = subst (λ (x : Setting). IsToldOf addressed x bus frame.destination received line (string_bytes t.answer) t.note.items) same told;
        }),
        r.2,
      )
  comes_all kept bus bytes line frame received (Err e) same spelled receives told = tt

  -- the line says that these bytes came over the bus
  pub says_bytes : (plan : Plan) (n bus : ℕ) (bytes copied line : List ℕ) (made : Result Turn E) → plan ≡ set.plan → n ≡ set.node
      → Says addressed plan n line (said.Packet bus bytes) → copied ≡ bytes
      → IfOk made (λ (t : Turn). (s : NodeState) → Before s
      → (next : NodeState) × TakesBytes addressed set s bus copied line (string_bytes t.answer) t.note.items next × After next)
      → IfOk made (λ (t : Turn). (s : NodeState) → Before s
      → (next : NodeState) × GivesLine addressed set s line (string_bytes t.answer) t.note.items next × After next)
  says_bytes plan n bus bytes copied line (Ok t) same at says is takes = λ s before.
      let r = takes s before in (
        r.0,
        (
          said.Packet bus bytes,
          subst (λ (p : Plan). Says addressed p set.node line (said.Packet bus bytes)) same (subst (λ m. Says addressed plan m line (said.Packet bus bytes)) at says),
          subst (λ b. TakesBytes addressed set s bus b line (string_bytes t.answer) t.note.items r.0) is r.1,
        ),
        r.2,
      )
  says_bytes plan n bus bytes copied line (Err e) same at says is takes = tt
