use Rattle.std.{proofs.Common.{◌≡◌, ◌+◌, ℕ, List, map, take, drop, true, false, Bor, sym, ap, ◌∙◌}, specs.Str.{bytes_eq}}
use Rattle.net_plan.{specs.Json.{is_among}, specs.Names.{are_new}, specs.Trees.{Tree}, proofs.Keys.{list_any-map}, proofs.Names.{not_new, one_new, names_take, names_drop}}
use Rattle.net_plan.proofs.json_keys.are_keys_new.Goals as goal

abbrev key : Bor (List ℕ) × Tree → List ℕ
key m = m.0.now

pub returns-then-is_key_of : goal.returns-then-is_key_of
returns-then-is_key_of c =
    let items = c.args.members.now in
    let i = c.loop-index.index in
    let x = c.index-members-index.result in
    let seen = map key (take i items) in
    let among : is_among seen (key x) ≡ true = list_any-map (λ other. bytes_eq (key x) other) key (take i items) ∙ sym c.is_key_of.ensures ∙ c.if-is_key_of.true in
    sym (not_new seen (key x) (map key (drop (i + 1) items)) among) ∙ ap (are_new seen) (sym (names_drop key items i x c.loop-index-test.true c.index-members-index.is)) ∙ c.loop-index.invariant

pub loop-index-preserved : goal.loop-index-preserved
loop-index-preserved c =
    let items = c.args.members.now in
    let i = c.loop-index.index in
    let x = c.index-members-index.result in
    let seen = map key (take i items) in
    let among : is_among seen (key x) ≡ false = list_any-map (λ other. bytes_eq (key x) other) key (take i items) ∙ sym c.is_key_of.ensures ∙ c.if-is_key_of.false in
    ap (λ names. are_new names (map key (drop (i + 1) items))) (names_take key items i x c.loop-index-test.true c.index-members-index.is) ∙ sym (one_new seen (key x) (map key (drop (i + 1) items)) among)
    ∙ ap (are_new seen) (sym (names_drop key items i x c.loop-index-test.true c.index-members-index.is)) ∙ c.loop-index.invariant
