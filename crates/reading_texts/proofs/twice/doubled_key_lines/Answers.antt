use Rattle.std.proofs.Common.{◌≡◌, ◌<◌, ℕ, List, length, string_bytes, rules, ◌∙◌, sym, ap, subst}
use Rattle.json.specs.Value.{value_view}
use Rattle.net_pointers.{specs.Doubles.{part_at}, specs.Offsets.{LeadsToKey}}
use Rattle.reading_texts.{specs.ReadingLines.{Begins}, specs.TroubleLines.{keys_in, object_text}, proofs.DoubledTold.{key_told, members_there}}
use Rattle.reading_texts.proofs.twice.doubled_key_lines.Goals as goal

pub key_offset-requires-clause-there : goal.key_offset-requires-clause-there
key_offset-requires-clause-there c =
    let there = members_there (value_view c.args.value.now) c.args.doubled.now c.requires.doubled in
    subst (λ (path : List ℕ). c.args.doubled.now.members.first < length (keys_in (part_at path (value_view c.args.value.now)))) (sym c.as_slice-path.ensures.value) there.0

pub key_offset-requires-2-clause-there : goal.key_offset-requires-2-clause-there
key_offset-requires-2-clause-there c =
    let there = members_there (value_view c.args.value.now) c.args.doubled.now c.requires.doubled in
    subst (λ (path : List ℕ). c.args.doubled.now.members.second < length (keys_in (part_at path (value_view c.args.value.now)))) (sym c.as_slice-path.ensures.value) there.1

pub returns : goal.returns
returns c =
    let text = c.args.text.now in
    let j = value_view c.args.value.now in
    let k = c.args.doubled.now in
    let whole = string_bytes c.in_ok-object.object in
    let path : c.as_slice-path.result.now ≡ k.path.items = c.as_slice-path.ensures.value in
    let the_object : whole ≡ object_text k.path.items j = c.in_ok-object.ensures ∙ ap (λ (is : List ℕ). object_text is j) path in
    let one : Begins whole c.deref-3.result.now = search rules in
    let other : Begins whole c.deref-4.result.now = search rules in
    let first : LeadsToKey text k.path.items k.members.first c.in_ok-first.first = subst (λ (is : List ℕ). LeadsToKey text is k.members.first c.in_ok-first.first) path c.in_ok-first.ensures in
    let second : LeadsToKey text k.path.items k.members.second c.in_ok-second.second = subst (λ (is : List ℕ). LeadsToKey text is k.members.second c.in_ok-second.second) path c.in_ok-second.ensures in
    key_told string_bytes text j k whole c.deref-3.result.now c.deref-4.result.now c.in_ok-first.first c.in_ok-second.second c.two_lines.result the_object one other first second c.two_lines.ensures
