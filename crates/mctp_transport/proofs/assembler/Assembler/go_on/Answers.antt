use Rattle.std.{proofs.Common.{refl, sym, ap, ◌∙◌, Some, None, Option}, specs.Prelude.{slice_set}, proofs.lemmas.Option.{none-some}}
use Rattle.mctp_transport.{specs.Packets.{packet_value_of}, specs.Hearing.{Whole}, specs.Tables.{Partial}, specs.Assembly.{table_of, partial_of}, specs.Parts.{part}, proofs.AssemblyLaws.{at_slot, held_with, leaves_nothing, leaves_whole, leaves_more, next_is, whole_is}}
use Rattle.mctp_transport.proofs.assembler.Assembler.go_on.Goals as goal

-- a slot with nothing open isn't held
pub returns-in_default-clause-table : goal.returns-in_default-clause-table
returns-in_default-clause-table c = λ q e.
    let nothing = ap (λ o. partial_of o (part c.args.self.now.limit c.args.self.now.block.items c.args.index)) c.in_default.is in
    absurd (none-some q (sym nothing ∙ at_slot c.args.self.now c.args.index c.index.result.now q c.requires c.index.ensures e))

pub returns-in_default-clause-answer : goal.returns-in_default-clause-answer
returns-in_default-clause-answer c = λ q e.
    let nothing = ap (λ o. partial_of o (part c.args.self.now.limit c.args.self.now.block.items c.args.index)) c.in_default.is in
    absurd (none-some q (sym nothing ∙ at_slot c.args.self.now c.args.index c.index.result.now q c.requires c.index.ensures e))

-- the packet doesn't go on
pub returns-in-Err-clause-table : goal.returns-in-Err-clause-table
returns-in-Err-clause-table c = λ q e.
    let h = held_with c.args.self.now c.args.index c.index.result.now c.in-Some.open q (packet_value_of c.args.packet.now) (Some c.in-Err.why)
    c.in-Some.is c.requires c.index.ensures c.in-Err.ensures.fault e in
    let l = leaves_nothing c.args.self.now.limit q (packet_value_of c.args.packet.now) c.in-Err.why h.fault_is in
    c.close.ensures.table ∙ ap (λ (o : Option Partial). slice_set (table_of c.args.self.now) c.args.index o) (sym l.rest_is)

pub returns-in-Err-clause-answer : goal.returns-in-Err-clause-answer
returns-in-Err-clause-answer c = λ q e.
    let h = held_with c.args.self.now c.args.index c.index.result.now c.in-Some.open q (packet_value_of c.args.packet.now) (Some c.in-Err.why)
    c.in-Some.is c.requires c.index.ensures c.in-Err.ensures.fault e in
    sym (leaves_nothing c.args.self.now.limit q (packet_value_of c.args.packet.now) c.in-Err.why h.fault_is).answer_is

-- the packet ends the message
pub returns-then-packet-clause-answer : goal.returns-then-packet-clause-answer
returns-then-packet-clause-answer c = λ q e.
    let h = held_with c.args.self.now c.args.index c.index.result.now c.in-Some.open q (packet_value_of c.args.packet.now) None
    c.in-Some.is c.requires c.index.ensures c.in-Ok.ensures.fault e in
    let l = leaves_whole c.args.self.now.limit q (packet_value_of c.args.packet.now) h.fault_is c.if-packet.true in
    ap Whole (whole_is c.args.self.now c.args.index c.in-Some.open c.in-Ok.next q (packet_value_of c.args.packet.now) c.put.new.self.block.items c.put.new.self.limit h.held
    c.put.ensures.limit c.in-Ok.ensures.fits c.in-Ok.ensures.len c.put.ensures.part)
    ∙ sym l.answer_is

-- the packet goes on, and more has to come
pub returns-else-packet-clause-table : goal.returns-else-packet-clause-table
returns-else-packet-clause-table c = λ q e.
    let h = held_with c.args.self.now c.args.index c.index.result.now c.in-Some.open q (packet_value_of c.args.packet.now) None
    c.in-Some.is c.requires c.index.ensures c.in-Ok.ensures.fault e in
    let l = leaves_more c.args.self.now.limit q (packet_value_of c.args.packet.now) h.fault_is c.if-packet.false in
    let n = next_is c.args.self.now c.args.index c.in-Some.open c.in-Ok.next q (packet_value_of c.args.packet.now) c.extend.new.self.block.items h.held
    c.in-Ok.ensures.key (rw c.in-Ok.ensures.number refl) c.in-Ok.ensures.unit c.in-Ok.ensures.len c.extend.ensures.part in
    c.extend.ensures.table ∙ ap (λ (o : Option Partial). slice_set (table_of c.args.self.now) c.args.index o) (n ∙ sym l.rest_is)

pub returns-else-packet-clause-answer : goal.returns-else-packet-clause-answer
returns-else-packet-clause-answer c = λ q e.
    let h = held_with c.args.self.now c.args.index c.index.result.now c.in-Some.open q (packet_value_of c.args.packet.now) None
    c.in-Some.is c.requires c.index.ensures c.in-Ok.ensures.fault e in
    sym (leaves_more c.args.self.now.limit q (packet_value_of c.args.packet.now) h.fault_is c.if-packet.false).answer_is
