use Rattle.std.{proofs.Common.{List, ℕ, ◌++◌, map, string_bytes, ap, ◌∙◌}, specs.List.{flat_map}}
use Rattle.plan_exports.{specs.LinuxScripts.{link_lines, eid_line}, proofs.Said.{four_pieces}}
use Rattle.plan_exports.proofs.linux.script_text.Goals as goal

pub returns : goal.returns
returns c =
    let devices = map (λ d. d.now) c.args.devices.now in
    let links = c.in_ok-push_links.ensures
    ∙ ap (λ (bs : List ℕ). string_bytes c.in_ok-text.text ++ flat_map (link_lines c.args.plan.now devices) bs) (c.deref.ensures.value ∙ c.in_ok-buses.ensures) in
    let eids = c.in_ok-push_eids.ensures
    ∙ ap (λ (bs : List ℕ). string_bytes c.push_links.new.text ++ flat_map (eid_line c.args.plan.now c.args.node devices) bs) (c.deref-2.ensures.value ∙ c.in_ok-buses.ensures) in
    four_pieces _ _ _ _ _ (string_bytes c.in_ok-text.text) (string_bytes c.push_links.new.text) (string_bytes c.push_eids.new.text) (string_bytes c.push_routes.new.text)
    (string_bytes c.push_neighbors.new.text) c.in_ok-text.ensures links eids c.in_ok-push_routes.ensures c.in_ok-push_neighbors.ensures
