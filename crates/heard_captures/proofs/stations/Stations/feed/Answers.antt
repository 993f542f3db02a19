use Rattle.std.{proofs.Common.{◌≡◌, ℕ, false, subst}, specs.Prelude.{Some}, specs.BTreeMap.{Updates, get, is_at}}
use Rattle.mctp_transport.{specs.Heard.{heard_answer}, specs.Packets.{packet_value_of}, specs.Histories.{History}}
use Rattle.heard_captures.{specs.Places.{place_cmp}, specs.Stations.{HasBeenGiven}, proofs.StationLaws.{fed_at}}
use Rattle.heard_captures.proofs.stations.Stations.feed.Goals as goal

pub returns : goal.returns
returns c =
    let old = c.args.self.now in
    let a = c.in_ok-assembler.assembler in
    let there = c.place_of-place.ensures in
    fed_at old c.take.new.self _ c.args.interface (packet_value_of c.args.packet) a c.hear.new.assembler (heard_answer c.in_ok-heard.heard)
    (subst (λ k. (h : History) → HasBeenGiven (get place_cmp old.by_place k) h → HasBeenGiven (Some a) h) there c.in_ok-assembler.ensures.given)
    (subst (λ k. (q : ℕ × ℕ × ℕ) → is_at (place_cmp k) q ≡ false → get place_cmp c.take.new.self.by_place q ≡ get place_cmp old.by_place q) there c.take.ensures.others)
    (subst (λ k. Updates place_cmp c.take.new.self.by_place c.insert.new.self k (Some c.hear.new.assembler)) there c.in_ok-insert.ensures.updates)
    c.hear.ensures.slots c.hear.ensures.limit c.in_ok-heard.ensures.hears c.hear.ensures.stands
