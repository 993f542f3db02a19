use Rattle.std.proofs.Common.{codes, refl}
use Rattle.net_plan.{specs.EventParts.{event_slots}, specs.EventText.{IsBit}, specs.JsonWords.{IsString, IsName, IsHex, IsTruth, IsNumberWithin}, specs.PlanText.{IsByte, IsWord}, proofs.Gathered.{next_taken}}
use Rattle.net_plan.proofs.event_parts.EventPartsGather.take.Goals as goal

pub returns-in_ok-next_text-in-do-clause-more : goal.returns-in_ok-next_text-in-do-clause-more
returns-in_ok-next_text-in-do-clause-more c =
    next_taken (λ d text. IsString d text.now) (codes "do") (event_slots c.args.self.now) c.args.self.now.does c.set_once.new.slot c.in_ok-next_text-in-do.field-0 c.set_once.result c.args.key.now c.args._depth c.args.reader.now c.next_text.new.reader c.in-do.is (λ o h. h) refl c.in_ok-next_text-in-do.ensures c.set_once.ensures

pub returns-in_ok-next_name-in-node-clause-more : goal.returns-in_ok-next_name-in-node-clause-more
returns-in_ok-next_name-in-node-clause-more c =
    next_taken (λ d name. IsName d name.now) (codes "node") (event_slots c.args.self.now) c.args.self.now.node c.set_once-in-node.new.slot c.in_ok-next_name-in-node.field-0 c.set_once-in-node.result c.args.key.now c.args._depth c.args.reader.now c.next_name.new.reader c.in-node.is (λ o h. h) refl c.in_ok-next_name-in-node.ensures c.set_once-in-node.ensures

pub returns-in_ok-next_hex-in-bytes-clause-more : goal.returns-in_ok-next_hex-in-bytes-clause-more
returns-in_ok-next_hex-in-bytes-clause-more c =
    next_taken (λ d v. IsHex d v.items) (codes "bytes") (event_slots c.args.self.now) c.args.self.now.bytes c.set_once-in-bytes.new.slot c.in_ok-next_hex-in-bytes.field-0 c.set_once-in-bytes.result c.args.key.now c.args._depth c.args.reader.now c.next_hex.new.reader c.in-bytes.is (λ o h. h) refl c.in_ok-next_hex-in-bytes.ensures c.set_once-in-bytes.ensures

pub returns-in_ok-next_word-in-flight-clause-more : goal.returns-in_ok-next_word-in-flight-clause-more
returns-in_ok-next_word-in-flight-clause-more c =
    next_taken IsWord (codes "flight") (event_slots c.args.self.now) c.args.self.now.flight c.set_once-in-flight.new.slot c.in_ok-next_word-in-flight.field-0 c.set_once-in-flight.result c.args.key.now c.args._depth c.args.reader.now c.next_word.new.reader c.in-flight.is (λ o h. h) refl c.in_ok-next_word-in-flight.ensures c.set_once-in-flight.ensures

pub returns-in_ok-next_truth-in-keep-clause-more : goal.returns-in_ok-next_truth-in-keep-clause-more
returns-in_ok-next_truth-in-keep-clause-more c =
    next_taken IsTruth (codes "keep") (event_slots c.args.self.now) c.args.self.now.keep c.set_once-in-keep.new.slot c.in_ok-next_truth-in-keep.field-0 c.set_once-in-keep.result c.args.key.now c.args._depth c.args.reader.now c.next_truth.new.reader c.in-keep.is (λ o h. h) refl c.in_ok-next_truth-in-keep.ensures c.set_once-in-keep.ensures

pub returns-in_ok-next_byte-in-source-clause-more : goal.returns-in_ok-next_byte-in-source-clause-more
returns-in_ok-next_byte-in-source-clause-more c =
    next_taken IsByte (codes "source") (event_slots c.args.self.now) c.args.self.now.source c.set_once-in-source.new.slot c.in_ok-next_byte-in-source.field-0 c.set_once-in-source.result c.args.key.now c.args._depth c.args.reader.now c.next_byte.new.reader c.in-source.is (λ o h. h) refl c.in_ok-next_byte-in-source.ensures c.set_once-in-source.ensures

pub returns-in_ok-next_tag-in-tag-clause-more : goal.returns-in_ok-next_tag-in-tag-clause-more
returns-in_ok-next_tag-in-tag-clause-more c =
    next_taken (λ d tag. IsNumberWithin 0 7 d tag.value) (codes "tag") (event_slots c.args.self.now) c.args.self.now.tag c.set_once-in-tag.new.slot c.in_ok-next_tag-in-tag.field-0 c.set_once-in-tag.result c.args.key.now c.args._depth c.args.reader.now c.next_tag.new.reader c.in-tag.is (λ o h. h) refl c.in_ok-next_tag-in-tag.ensures c.set_once-in-tag.ensures

pub returns-in_ok-next_bit-in-owner-clause-more : goal.returns-in_ok-next_bit-in-owner-clause-more
returns-in_ok-next_bit-in-owner-clause-more c =
    next_taken IsBit (codes "owner") (event_slots c.args.self.now) c.args.self.now.owner c.set_once-in-owner.new.slot c.in_ok-next_bit-in-owner.field-0 c.set_once-in-owner.result c.args.key.now c.args._depth c.args.reader.now c.next_bit.new.reader c.in-owner.is (λ o h. h) refl c.in_ok-next_bit-in-owner.ensures c.set_once-in-owner.ensures

pub returns-in_ok-next_number_within-in-eid-clause-more : goal.returns-in_ok-next_number_within-in-eid-clause-more
returns-in_ok-next_number_within-in-eid-clause-more c =
    next_taken (IsNumberWithin 8 254) (codes "eid") (event_slots c.args.self.now) c.args.self.now.eid c.set_once-in-eid.new.slot c.in_ok-next_number_within-in-eid.field-0 c.set_once-in-eid.result c.args.key.now c.args._depth c.args.reader.now c.next_number_within.new.reader c.in-eid.is (λ o h. h) refl c.in_ok-next_number_within-in-eid.ensures.read c.set_once-in-eid.ensures

pub returns-in_ok-next_number_within-in-count-clause-more : goal.returns-in_ok-next_number_within-in-count-clause-more
returns-in_ok-next_number_within-in-count-clause-more c =
    next_taken (IsNumberWithin 8 4079) (codes "count") (event_slots c.args.self.now) c.args.self.now.count c.set_once-in-count.new.slot c.in_ok-next_number_within-in-count.field-0 c.set_once-in-count.result c.args.key.now c.args._depth c.args.reader.now c.next_number_within-in-count.new.reader c.in-count.is (λ o h. h) refl c.in_ok-next_number_within-in-count.ensures.read c.set_once-in-count.ensures

pub returns-in_ok-next_word-in-walker-clause-more : goal.returns-in_ok-next_word-in-walker-clause-more
returns-in_ok-next_word-in-walker-clause-more c =
    next_taken IsWord (codes "walker") (event_slots c.args.self.now) c.args.self.now.walker c.set_once-in-walker.new.slot c.in_ok-next_word-in-walker.field-0 c.set_once-in-walker.result c.args.key.now c.args._depth c.args.reader.now c.next_word-in-walker.new.reader c.in-walker.is (λ o h. h) refl c.in_ok-next_word-in-walker.ensures c.set_once-in-walker.ensures
