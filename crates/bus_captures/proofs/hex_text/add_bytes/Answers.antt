use Rattle.std.proofs.Common.{◌≡◌, ◌++◌, [], ap, ◌∙◌, append-nil, refl}
use Rattle.bus_captures.{specs.Hex.{IsHex}, proofs.HexLaws.{one_more_byte, one_more_there}}
use Rattle.bus_captures.proofs.hex_text.add_bytes.Goals as goal

pub returns-in-End : goal.returns-in-End
returns-in-End c =
    let items = c.loop-rest.bytes.items in
    let none : IsHex c.loop-rest.left.now [] = rw c.in-End.ensures refl in (
      (rw append-nil at (c.loop-rest.invariant.0 [] none)),
      λ others h.
          let k = c.loop-rest.invariant.1 others h in
          let empty : k.0 ≡ [] = rw c.in-End.ensures at k.2 in
          k.1 ∙ ap (λ xs. items ++ xs) empty ∙ append-nil items,
    )

pub loop-rest-preserved : goal.loop-rest-preserved
loop-rest-preserved c =
    let items = c.loop-rest.bytes.items in (
      rw c.in_ok-push-in-Byte.ensures.items (one_more_byte c.args.text.now c.loop-rest.left.now c.in-Byte.rest.now items c.in-Byte.byte c.in-Byte.ensures c.loop-rest.invariant.0),
      rw c.in_ok-push-in-Byte.ensures.items (one_more_there c.args.text.now c.loop-rest.left.now c.in-Byte.rest.now items c.in-Byte.byte c.in-Byte.ensures c.loop-rest.invariant.1),
    )
