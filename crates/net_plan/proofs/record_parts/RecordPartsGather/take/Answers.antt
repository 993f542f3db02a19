use Rattle.std.proofs.Common.{codes, refl}
use Rattle.net_plan.{specs.JsonWords.{IsHex}, specs.PlanText.{IsWord}, specs.RecordParts.{record_slots}, proofs.Gathered.{next_taken}}
use Rattle.net_plan.proofs.record_parts.RecordPartsGather.take.Goals as goal

pub returns-in_ok-next_word-in-handle-clause-more : goal.returns-in_ok-next_word-in-handle-clause-more
returns-in_ok-next_word-in-handle-clause-more c =
    next_taken IsWord (codes "handle") (record_slots c.args.self.now) c.args.self.now.handle c.set_once.new.slot c.in_ok-next_word-in-handle.field-0 c.set_once.result c.args.key.now c.args._depth c.args.reader.now c.next_word.new.reader c.in-handle.is (λ o h. h) refl c.in_ok-next_word-in-handle.ensures c.set_once.ensures

pub returns-in_ok-next_word-in-next-clause-more : goal.returns-in_ok-next_word-in-next-clause-more
returns-in_ok-next_word-in-next-clause-more c =
    next_taken IsWord (codes "next") (record_slots c.args.self.now) c.args.self.now.next c.set_once-in-next.new.slot c.in_ok-next_word-in-next.field-0 c.set_once-in-next.result c.args.key.now c.args._depth c.args.reader.now c.next_word-in-next.new.reader c.in-next.is (λ o h. h) refl c.in_ok-next_word-in-next.ensures c.set_once-in-next.ensures

pub returns-in_ok-next_hex-in-bytes-clause-more : goal.returns-in_ok-next_hex-in-bytes-clause-more
returns-in_ok-next_hex-in-bytes-clause-more c =
    next_taken (λ d v. IsHex d v.items) (codes "bytes") (record_slots c.args.self.now) c.args.self.now.bytes c.set_once-in-bytes.new.slot c.in_ok-next_hex-in-bytes.field-0 c.set_once-in-bytes.result c.args.key.now c.args._depth c.args.reader.now c.next_hex.new.reader c.in-bytes.is (λ o h. h) refl c.in_ok-next_hex-in-bytes.ensures c.set_once-in-bytes.ensures
