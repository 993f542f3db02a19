use Rattle.std.{proofs.Common.{◌≡◌, List, ℕ, false, subst}, specs.Prelude.{Some}, specs.Str.{bytes_eq}}
use Rattle.heard_captures.{specs.Messages.{message_value}, specs.Times.{times_of, Counts}, proofs.TimesLaws.{tallies}}
use Rattle.heard_captures.proofs.times.Tally.count.Goals as goal

pub returns : goal.returns
returns c =
    let old = c.args.self.now in
    let between = c.take-times.new.self in
    let t = c.count.new.self in
    let is_new = c.in_ok-is_new.is_new in
    let same = c.as_slice.ensures.value in
    tallies old between _ c.args.interface (message_value c.args.message.now) c.in_ok-spoken.spoken.items t is_new c.in_ok-spoken.ensures
    (subst (λ (bs : List ℕ). (cs : List ℕ) → bytes_eq bs cs ≡ false → times_of between cs ≡ times_of old cs) same c.take-times.ensures.others)
    c.in_ok-insert.ensures.updates
    (subst (λ (bs : List ℕ). Counts (times_of old bs) (Some t) c.args.interface is_new) same (c.take-times.ensures.counts (Some t) c.args.interface is_new c.in_ok-is_new.ensures))
