use Rattle.std.proofs.Common.{arith, ap, ◌∙◌, length-append, length, take, ◌≡◌, ◌+◌}
use Rattle.mctp_control.{specs.RouteEntries.{entry_value, entry_bytes}, specs.EntryLists.{entries_bytes, values_of}, proofs.EntryTaking.{bytes_more}, proofs.EntryFitting.{is_most, few_fit}}
use Rattle.mctp_control.proofs.replies.fitting.Goals as goal

pub returns-then-bytes-gt-MAX_ENTRY_BYTES-clause-most : goal.returns-then-bytes-gt-MAX_ENTRY_BYTES-clause-most
returns-then-bytes-gt-MAX_ENTRY_BYTES-clause-most c =
    let e = c.index-entries-count.result in
    let more = bytes_more c.args.entries.now c.loop-count.count e c.loop-count-test.true c.index-entries-count.is in
    let b : length (entries_bytes (values_of (take (c.loop-count.count + 1) c.args.entries.now)))
    ≡ length (entries_bytes (values_of (take c.loop-count.count c.args.entries.now))) + length (entry_bytes (entry_value e)) =
    ap length more ∙ length-append (entries_bytes (values_of (take c.loop-count.count c.args.entries.now))) (entry_bytes (entry_value e)) in
    is_most _ _ (omega arith) (omega arith) (λ l. omega (arith, b))

pub returns-then-bytes-gt-MAX_ENTRY_BYTES-clause-few : goal.returns-then-bytes-gt-MAX_ENTRY_BYTES-clause-few
returns-then-bytes-gt-MAX_ENTRY_BYTES-clause-few c = few_fit c.args.entries.now _ (omega arith) (omega arith)

pub returns-clause-few : goal.returns-clause-few
returns-clause-few c =
    let h : c.loop-count.count ≡ length c.args.entries.now = omega arith in
    rw (← h) (few_fit c.args.entries.now _ (omega arith) (omega arith))
