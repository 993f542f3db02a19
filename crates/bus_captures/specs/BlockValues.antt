-- Blocks, as the code holds them.
use Rattle.bus_captures.{specs.declared.block.Block.{Block}, specs.declared.block.Packet.{Packet}}
use Rattle.bus_captures.specs.Blocks as blocks

abbrev pub block_value : Block → blocks.Block
block_value b = record { order = b.order; kind = b.kind; body = b.body.now }

abbrev pub packet_value : Packet → blocks.PacketValue
packet_value p = record { interface = p.interface; stamp = p.stamp; original = p.original; kept = p.kept.now }
