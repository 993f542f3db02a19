use Rattle.std.proofs.Common.{◌≡◌, ◌+◌, ◌++◌, length, ap, ◌∙◌, length-append}
use Rattle.bus_captures.{proofs.WritingLaws.{joined, before}, specs.Numbers.{number_bytes}, specs.Written.{carried_value, link_header}}
use Rattle.bus_captures.specs.declared.format.Order.TheVariants as order
use Rattle.bus_captures.proofs.writing.add_packet.Goals as goal

pub returns-clause-bytes : goal.returns-clause-bytes
returns-clause-bytes c =
    let packet = carried_value c.args.packet.now in
    let f = c.args.file.now.items in
    let number = number_bytes order.Little in
    let count = 20 + length packet.bytes in
    let two = joined f _ c.add_number-2.new.file.items (number packet.seconds) (number packet.nanoseconds) c.in_ok-add_number.ensures c.in_ok-add_number-2.ensures in
    let three = joined f _ c.add_number-3.new.file.items (number packet.seconds ++ number packet.nanoseconds) (number count) two c.in_ok-add_number-3.ensures in
    let four = joined f _ c.add_number-4.new.file.items (number packet.seconds ++ number packet.nanoseconds ++ number count) (number count) three c.in_ok-add_number-4.ensures in
    let last = joined c.add_number-4.new.file.items _ c.add.new.file.items (link_header packet) packet.bytes c.in_ok-add_link_header.ensures c.in_ok-add.ensures in
    let long : length (link_header packet ++ packet.bytes) ≡ count =
    length-append (link_header packet) packet.bytes ∙ ap (λ n. n + length packet.bytes) (before packet c.args.packet.now.short) in
    rw long (joined f _ _ (number packet.seconds ++ number packet.nanoseconds ++ number count ++ number count) (link_header packet ++ packet.bytes) four last)
