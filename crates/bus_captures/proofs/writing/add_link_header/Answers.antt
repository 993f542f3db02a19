use Rattle.std.proofs.Common.{◌-◌, ◌++◌, ◌∷◌, [], List, ℕ, length, replicate, ap, ◌∙◌}
use Rattle.byteorder.specs.Endian.{big_bytes}
use Rattle.bus_captures.proofs.WritingLaws.{joined}
use Rattle.bus_captures.proofs.writing.add_link_header.Goals as goal

pub returns : goal.returns
returns c =
    let packet = c.args.packet.now in
    let f = c.args.file.now.items in
    let two = joined f _ c.add_short-2.new.file.items (big_bytes 2 250) (big_bytes 2 0) c.in_ok-add_short.ensures c.in_ok-add_short-2.ensures in
    let three = joined f _ c.add_interface.new.file.items (big_bytes 2 250 ++ big_bytes 2 0) (big_bytes 4 packet.interface) two c.in_ok-add_interface.ensures in
    let four = joined f _ c.add_short-3.new.file.items (big_bytes 2 250 ++ big_bytes 2 0 ++ big_bytes 4 packet.interface) (big_bytes 2 290) three c.in_ok-add_short-3.ensures in
    let fixed : List ℕ = big_bytes 2 250 ++ big_bytes 2 0 ++ big_bytes 4 packet.interface ++ big_bytes 2 290 in
    let five = joined f _ c.add.new.file.items fixed (3 ∷ length packet.address.now ∷ []) four c.in_ok-add.ensures in
    let padding : List ℕ = replicate (8 - length packet.address.now) 0 in
    let last = joined c.add.new.file.items _ c.add-3.new.file.items packet.address.now padding c.in_ok-add-2.ensures
    (c.in_ok-add-3.ensures ∙ ap (λ z. c.add-2.new.file.items ++ z) c.zeros.ensures) in
    joined f _ _ (fixed ++ 3 ∷ length packet.address.now ∷ []) (packet.address.now ++ padding) five last
