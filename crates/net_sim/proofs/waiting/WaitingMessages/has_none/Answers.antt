use Rattle.std.{proofs.Common.{◌≡◌, Some, sym, ap, ◌∙◌}, proofs.lemmas.Bool.Decides.{Decides-eqb}}
use Rattle.mctp_transport.specs.Packets.{key_value}
use Rattle.net_sim.{specs.KeyCounts.{count_of}, proofs.Tallying.{none_waiting, waiting_none}}
use Rattle.net_sim.proofs.waiting.WaitingMessages.has_none.Goals as goal

pub returns-in-Some : goal.returns-in-Some
returns-in-Some c =
    let now = c.args.self.now in
    let key = key_value c.args.key in
    let told : count_of now.counts key 0 ≡ Some c.in-Some.count = ap (count_of now.counts key) (sym c.here.ensures) ∙ sym c.in-Some.ensures in
    let is = now.tallied key 0 c.in-Some.count c.args.key.tag.in_range told in (
      λ yes. none_waiting key now.messages.items (sym is ∙ (Decides-eqb c.in-Some.count 0).0 yes),
      λ all. (Decides-eqb c.in-Some.count 0).1 (is ∙ waiting_none key now.messages.items all),
    )
