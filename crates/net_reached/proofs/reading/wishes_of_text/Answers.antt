use Rattle.std.{proofs.Common.{rules, ◌≡◌, ℕ, List, map, Bor}, specs.Str.Lines.{lines}}
use Rattle.net_reached.proofs.Saying.{line_at, said_before, take_one_more}
use Rattle.net_reached.proofs.reading.wishes_of_text.Goals as goal

pub returns-in-None-clause-unread : goal.returns-in-None-clause-unread
returns-in-None-clause-unread c =
    let same : map (λ (x : Bor (List ℕ)). x.now) c.deref-line-items.result.now ≡ lines c.args.text.now = search rules in (
      c.loop-index.index,
      c.bad_line.ensures,
      record {
        line = _;
        there = line_at c.deref-line-items.result.now (lines c.args.text.now) c.loop-index.index _ same c.loop-index-test.true;
        unread = c.in-None.ensures.none;
        first = λ j earlier less is. said_before c.args.plan.now (lines c.args.text.now) c.loop-index.index j c.loop-index.wishes.items earlier c.loop-index.invariant less is;
      },
    )

pub loop-index-preserved : goal.loop-index-preserved
loop-index-preserved c =
    let same : map (λ (x : Bor (List ℕ)). x.now) c.deref-line-items.result.now ≡ lines c.args.text.now = search rules in
    let there = line_at c.deref-line-items.result.now (lines c.args.text.now) c.loop-index.index _ same c.loop-index-test.true in
    take_one_more c.args.plan.now (lines c.args.text.now) c.loop-index.index c.loop-index.wishes.items c.push_wish.new.wishes.items _ c.in-Some.wish c.loop-index.invariant
    there c.in-Some.ensures.said (search rules)
