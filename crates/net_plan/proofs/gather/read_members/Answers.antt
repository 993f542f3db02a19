use Rattle.std.proofs.Common.{◌≡◌, ◌-◌, length, Some, None, ap, ◌∙◌, refl, arith}
use Rattle.json.{specs.Json.{no_members, members, value, parse_map, read_key}, proofs.Grammar.{members_more, members_end, read_key-shorter}, proofs.Trees.{none_before}}
use Rattle.net_plan.{specs.Gathered.{with_last}, proofs.Gathered.{joined, joined_none, one_more}}
use Rattle.plain_json.proofs.Tokens.{value_shorter}
use Rattle.net_plan.proofs.gather.read_members.Goals as goal

pub members-init : goal.members-init
members-init g c =
    let ts = c.args.reader.now in
    (length ts, no_members, omega arith, none_before (members (value c.args.depth) (length ts) ts), omega arith, λ h. h, refl)

pub members-smaller : goal.members-smaller
members-smaller g c =
    let l = c.members in
    let k = c.in-Some.key.now in
    let s = c.next_key.new.self in
    let key : read_key l.reader ≡ Some (Some k, s) = grind arith in
    let took = c.in_ok-take.ensures.more in
    let less = read_key-shorter l.reader (Some k) s key in
    let lesser = value_shorter c.args.depth s c.take.new.reader took.0 took.1 in
    omega arith

pub members-preserved : goal.members-preserved
members-preserved g c =
    let p = value c.args.depth in
    let l = c.members in
    let n = l.invariant.0 in
    let before = l.invariant.1 in
    let k = c.in-Some.key.now in
    let s = c.next_key.new.self in
    let r = c.take.new.reader in
    let key : read_key l.reader ≡ Some (Some k, s) = grind arith in
    let took = c.in_ok-take.ensures.more in
    let j = took.0 in
    let less = read_key-shorter l.reader (Some k) s key in
    let lesser = value_shorter c.args.depth s r j took.1 in
    let enough = l.invariant.2 in
    let within = l.invariant.4 in
    let turn = members_more p n k l.reader s r j (omega arith) key took.1 in (
      n - 1,
      with_last before k j,
      omega arith,
      l.invariant.3 ∙ ap (parse_map (joined before)) turn ∙ one_more before k j (members p (n - 1) r),
      omega arith,
      λ none. took.2 before (l.invariant.5 none),
      c.take.ensures.kept ∙ l.invariant.6,
    )

pub returns-clause-read : goal.returns-clause-read
returns-clause-read g c =
    let p = value c.args.depth in
    let l = c.members in
    let n = l.invariant.0 in
    let before = l.invariant.1 in
    let r = c.next_key.new.self in
    let over = l.invariant.3 ∙ ap (parse_map (joined before)) (members_end p n l.reader r l.invariant.2 (grind arith)) in (
      before,
      over ∙ ap (λ ms. Some (ms, r)) (joined_none before),
      l.invariant.5,
    )
