use Rattle.std.{proofs.Common.{◌≡◌, Bool, false, List, Some, length, subst, arith}, specs.Prelude.{slice_get}, proofs.lemmas.Option.{slice_get_read, slice_get_within}}
use Rattle.net_rules.proofs.NewHandles.{one_ticked}
use Rattle.net_rules.proofs.rules.records.are_ticked_off_once.Goals as goal

pub loop-record-preserved : goal.loop-record-preserved
loop-record-preserved c =
    let records = c.args.records.now in
    let k = c.loop-record.record-index in
    let r = c.record-item.result in
    let here : slice_get records k ≡ Some r = slice_get_read records (length records) k r (omega arith) (omega arith) c.record-item.is in
    let can = c.can_be_ticked.ensures.0 c.if-not-can_be_ticked.false in
    let free : slice_get c.loop-record.ticks.items r.handle ≡ Some false = subst (λ (ticks : List Bool). slice_get ticks r.handle ≡ Some false) c.deref.ensures.value can.1 in
    one_ticked records k c.loop-record.ticks.items c.loop-record.invariant r here can.0 free

pub returns : goal.returns
returns c = λ _ j r is. c.loop-record.invariant.new j r (let within = slice_get_within c.args.records.now j r is in omega arith) is
