use Rattle.std.{proofs.Common.{◌<◌, ◌≤◌, ◌*◌, length, Option, refl, sym, ap, subst, ◌∙◌}, specs.Prelude.{IfSome, slice_set}, proofs.lemmas.List.{length-set}, proofs.lemmas.List.Elements.{All-set}, proofs.lemmas.Option.{slice_get_read}}
use Rattle.mctp_transport.{specs.declared.assembler.open_message.OpenMessage.{OpenMessage}, specs.Assembly.{partial_of, table_of}, specs.Parts.{part}, proofs.KeyNumberLaws.{number_kept}, proofs.Parts.{rows_put, own_put}}
use Rattle.mctp_transport.proofs.assembler.Assembler.extend.Goals as goal

pub returns-clause-table : goal.returns-clause-table
returns-clause-table c =
    rows_put partial_of c.args.self.now.limit c.args.self.now.block.items c.write.new.block.items c.args.bytes.now c.args.self.now.slots.items c.args.index c.args.at c.go_on_as.new.slot
    c.write.ensures.items c.requires.fits c.requires.index c.args.self.now.sized
    ∙ ap (λ (o : Option OpenMessage). slice_set (table_of c.args.self.now) c.args.index (partial_of o (part c.args.self.now.limit c.write.new.block.items c.args.index))) c.go_on_as.ensures

pub returns-clause-part : goal.returns-clause-part
returns-clause-part c =
    own_put c.args.self.now.limit _ c.args.self.now.block.items c.write.new.block.items c.args.bytes.now c.args.index c.args.at
    c.write.ensures.items c.requires.fits c.requires.index c.args.self.now.sized

pub invariant_of-self-clause-numbered : goal.invariant_of-self-clause-numbered
invariant_of-self-clause-numbered c =
    let items = c.args.self.now.slots.items in
    let index : c.args.index < length items = c.requires.index in
    let before = c.index_mut.result.now in
    number_kept items c.args.self.now.numbers c.args.index c.go_on_as.new.slot before c.args.message c.args.self.now.numbered c.go_on_as.ensures c.index_mut.ensures.value
    (c.requires.open before (slice_get_read items _ c.args.index before refl index c.index_mut.ensures.value))

pub invariant_of-self-clause-sized : goal.invariant_of-self-clause-sized
invariant_of-self-clause-sized c = c.write.ensures.len ∙ c.args.self.now.sized ∙ ap (λ n. n * c.args.self.now.limit) (sym (length-set c.args.self.now.slots.items c.args.index c.go_on_as.new.slot))

pub invariant_of-self-clause-within : goal.invariant_of-self-clause-within
invariant_of-self-clause-within c =
    All-set (λ slot. IfSome slot (λ begun. begun.len ≤ c.args.self.now.limit)) c.args.self.now.slots.items c.args.index c.go_on_as.new.slot
    (subst (λ (o : Option OpenMessage). IfSome o (λ begun. begun.len ≤ c.args.self.now.limit)) (sym c.go_on_as.ensures) c.requires.within) c.args.self.now.within
