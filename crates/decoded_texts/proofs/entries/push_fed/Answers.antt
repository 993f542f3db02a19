use Rattle.std.{proofs.Common.{string_bytes}, specs.Prelude.{option_map}}
use Rattle.mctp_transport.{specs.Packets.{packet_value_of}, specs.Heard.{heard_answer}}
use Rattle.decoded_texts.{specs.Seen.{fed_line}, proofs.SeenLaws.{behind_if}}
use Rattle.decoded_texts.proofs.entries.push_fed.Goals as goal

pub returns : goal.returns
returns c =
    behind_if (string_bytes c.args.text.now)
    (fed_line (option_map (λ n. n.now.plan.now) c.args.names) (packet_value_of c.args.packet.now) (heard_answer c.args.heard.now)) _ _ c.push_said.result
    c.in_ok-push_fed_line.ensures c.push_said.ensures
