use Rattle.std.{proofs.Common.{◌≡◌, ◌++◌, rules, string_bytes}, specs.Prelude.{OnOk, codes, option_map}}
use Rattle.hex.specs.Hex.{encode_lower}
use Rattle.mctp_transport.{specs.Heard.{heard_answer}, specs.Packets.{packet_value_of}}
use Rattle.plan_texts.specs.Shown.{address_words_of, position_words_of, tag_words_of}
use Rattle.decoded_texts.{specs.Names.{names_of}, specs.Seen.{answer_word}, proofs.SeenLaws.{line_joined}}
use Rattle.decoded_texts.proofs.entries.push_fed_line.Goals as goal

pub returns : goal.returns
returns c =
    let f = packet_value_of c.args.packet.now in
    let ended : OnOk c.push_str.result (string_bytes c.push_str.new.self ≡ string_bytes c.push_names.new.text ++ codes "\n") = search rules in
    line_joined (string_bytes c.args.text.now) (codes " ") (answer_word (heard_answer c.args.heard.now)) (codes "packet ") (address_words_of f)
    (position_words_of f) (tag_words_of f) (codes " payload ") (encode_lower f.payload) (names_of (option_map (λ n. n.now.plan.now) c.args.names) f) (codes "\n") _ _ _ _ _ _ _ c.push_str.result
    c.in_ok-push_answer.ensures c.in_ok-push_addresses.ensures c.in_ok-push_position.ensures c.in_ok-push_tag.ensures c.in_ok-push_payload.ensures c.in_ok-push_names.ensures ended
