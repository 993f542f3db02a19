use Rattle.std.proofs.Common.{codes, refl}
use Rattle.net_plan.{specs.JsonWords.{IsNumberWithin, IsString}, specs.PlanText.{IsByte}, specs.RowParts.{row_slots}, proofs.Gathered.{next_taken}}
use Rattle.net_plan.proofs.row_parts.RowPartsGather.take.Goals as goal

pub returns-in_ok-next_byte-in-first-clause-more : goal.returns-in_ok-next_byte-in-first-clause-more
returns-in_ok-next_byte-in-first-clause-more c =
    next_taken IsByte (codes "first") (row_slots c.args.self.now) c.args.self.now.first c.set_once.new.slot c.in_ok-next_byte-in-first.field-0 c.set_once.result c.args.key.now c.args._depth c.args.reader.now c.next_byte.new.reader c.in-first.is (λ o h. h) refl c.in_ok-next_byte-in-first.ensures c.set_once.ensures

pub returns-in_ok-next_byte-in-size-clause-more : goal.returns-in_ok-next_byte-in-size-clause-more
returns-in_ok-next_byte-in-size-clause-more c =
    next_taken IsByte (codes "size") (row_slots c.args.self.now) c.args.self.now.size c.set_once-in-size.new.slot c.in_ok-next_byte-in-size.field-0 c.set_once-in-size.result c.args.key.now c.args._depth c.args.reader.now c.next_byte-in-size.new.reader c.in-size.is (λ o h. h) refl c.in_ok-next_byte-in-size.ensures c.set_once-in-size.ensures

pub returns-in_ok-next_port-in-port-clause-more : goal.returns-in_ok-next_port-in-port-clause-more
returns-in_ok-next_port-in-port-clause-more c =
    next_taken (IsNumberWithin 0 31) (codes "port") (row_slots c.args.self.now) c.args.self.now.port c.set_once-in-port.new.slot c.in_ok-next_port-in-port.field-0 c.set_once-in-port.result c.args.key.now c.args._depth c.args.reader.now c.next_port.new.reader c.in-port.is (λ o h. h) refl c.in_ok-next_port-in-port.ensures c.set_once-in-port.ensures

pub returns-in_ok-next_text-in-next-clause-more : goal.returns-in_ok-next_text-in-next-clause-more
returns-in_ok-next_text-in-next-clause-more c =
    next_taken (λ d name. IsString d name.now) (codes "next") (row_slots c.args.self.now) c.args.self.now.next c.set_once-in-next.new.slot c.in_ok-next_text-in-next.field-0 c.set_once-in-next.result c.args.key.now c.args._depth c.args.reader.now c.next_text.new.reader c.in-next.is (λ o h. h) refl c.in_ok-next_text-in-next.ensures c.set_once-in-next.ensures
