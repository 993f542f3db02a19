use Rattle.std.proofs.Common.{◌≡◌, false, true}
use Rattle.bus_captures.{specs.Sorts.{is_space}, proofs.HexLaws.{space_passes, mark_passes, byte_splits, two_bytes_are_none}, proofs.hex_text.front_of.Goals.{else-first-eq48-via-then-first-eq48+else-second-eq120, else-first-eq48-via-else-first-eq48}}
use Rattle.bus_captures.proofs.hex_text.front_of.Goals as goal

pub returns-then-is_space : goal.returns-then-is_space
returns-then-is_space c =
    let space : is_space c.in-Some.first ≡ true = cc in
    space_passes c.args.text.now c.in-Some.rest.now c.in-Some.first c.in-Some.ensures space

pub returns-then-second-eq120 : goal.returns-then-second-eq120
returns-then-second-eq120 c =
    mark_passes c.args.text.now c.in-Some.rest.now c.in-Some-split_first.rest.now c.in-Some.first c.in-Some-split_first.second
    c.in-Some.ensures c.in-Some-split_first.ensures c.if-first-eq48.true c.if-second-eq120.true

pub returns-in-Some-byte_of : goal.returns-in-Some-byte_of
returns-in-Some-byte_of c =
    let other : is_space c.in-Some.first ≡ false = cc in
    byte_splits c.args.text.now c.in-Some.rest.now c.in-Some-split_first.rest.now c.in-Some.first c.in-Some-split_first.second
    c.in-Some-byte_of.byte c.in-Some.ensures c.in-Some-split_first.ensures other c.in-Some-byte_of.ensures

pub returns-in-None : goal.returns-in-None
returns-in-None c =
    let other : is_space c.in-Some.first ≡ false = cc in
    two_bytes_are_none c.args.text.now c.in-Some.rest.now c.in-Some-split_first.rest.now c.in-Some.first c.in-Some-split_first.second
    c.in-Some.ensures c.in-Some-split_first.ensures other
    (λ mark. elim c.else-first-eq48.branch [
      | else-first-eq48-via-then-first-eq48+else-second-eq120 w ↦ w.if-second-eq120.false mark.1
      | else-first-eq48-via-else-first-eq48 w ↦ w.if-first-eq48.false mark.0
    ])
    c.in-None.ensures
