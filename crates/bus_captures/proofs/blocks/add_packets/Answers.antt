use Rattle.std.{proofs.Common.{◌≡◌, ◌+◌, ◌++◌, ◌∷◌, [], map, ap, ◌∙◌, subst, sym, arith}, proofs.lemmas.List.{map-append}}
use Rattle.bus_captures.{specs.BlockValues.{block_value}, specs.Values.{entry_value}, proofs.SectionLaws.{HasRead, nothing_read, block_taken, packet_read, shorter}}
use Rattle.bus_captures.proofs.blocks.add_packets.Goals as goal

pub loop-left-init : goal.loop-left-init
loop-left-init c = (
  subst (λ es. HasRead c.args.bytes.now (map entry_value es) c.args.bytes.now 0 c.new-section.result) (sym c.requires)
      (nothing_read c.args.bytes.now c.new-section.result c.new-section.ensures),
  omega arith,
)

pub loop-left-preserved-in_ok-take : goal.loop-left-preserved-in_ok-take
loop-left-preserved-in_ok-take c =
    let b = block_value c.in-Some.block in
    let found = c.in-Some.ensures in
    let less = shorter b c.loop-left.left.now c.in-Some.rest.now found.2 in
    let within = c.loop-left.invariant.1 in (
      block_taken c.args.bytes.now _ c.loop-left.left.now c.in-Some.rest.now c.loop-left.place c.loop-left.section c.take.new.self b
          c.loop-left.invariant.0 found.0 found.1 found.2 (cc) c.in_ok-take.ensures,
      omega arith,
    )

pub loop-left-preserved : goal.loop-left-preserved
loop-left-preserved c =
    let b = block_value c.in-Some.block in
    let found = c.in-Some.ensures in
    let less = shorter b c.loop-left.left.now c.in-Some.rest.now found.2 in
    let within = c.loop-left.invariant.1 in
    let old = c.loop-left.entries.items in
    let section = c.loop-left.section in
    let e = entry_value c.in_ok-entry.field-0 in
    let added : map entry_value c.push.new.self.items ≡ map entry_value old ++ e ∷ [] =
    ap (map entry_value) c.in_ok-push.ensures.items ∙ map-append entry_value old _ in (
      subst (λ es. HasRead c.args.bytes.now es c.in-Some.rest.now (c.loop-left.place + 1) section) (sym added)
          (packet_read c.args.bytes.now (map entry_value old) c.loop-left.left.now c.in-Some.rest.now c.loop-left.place section b e
          c.loop-left.invariant.0 found.0 found.1 found.2 (cc) c.in_ok-entry.ensures),
      omega arith,
    )
