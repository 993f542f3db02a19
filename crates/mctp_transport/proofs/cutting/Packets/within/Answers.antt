use Rattle.std.proofs.Common.{refl, arith, true, false}
use Rattle.mctp_transport.proofs.PacketLists.{all_packets}
use Rattle.mctp_transport.proofs.cutting.Packets.within.Goals as goal

pub returns : goal.returns
returns c =
    all_packets c.args.unit (record {
      reserved = c.new.result.value;
      destination = c.args.destination.value;
      source = c.args.key.source.value;
      som = true;
      eom = false;
      number = c.args.start.value;
      owner = c.args.key.owner;
      tag = c.args.key.tag.value;
      payload = c.args.message.now;
    }) (omega arith) c.args.start.in_range refl c.new.ensures
