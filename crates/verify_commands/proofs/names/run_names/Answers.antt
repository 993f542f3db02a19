use Rattle.std.{proofs.Common.{rules, ◌≡◌, map, string_bytes, subst}, specs.Prelude.{IfOk}, proofs.lemmas.List.Sorted.{IsPermutation-map}}
use Rattle.verify_commands.{specs.Runs.{AreNames}, proofs.Named.{stems_again, runs_told}}
use Rattle.verify_commands.proofs.names.run_names.Goals as goal

pub returns : goal.returns
returns c =
    let files = map string_bytes c.args.files.now in
    let sorted = c.sort.new.self.items in
    let again = stems_again files _ (map string_bytes sorted) (IsPermutation-map string_bytes _ sorted c.in_ok-sort.ensures.permutation) c.in_ok-stems.ensures in
    let same : c.deref.result.now ≡ sorted = search rules in
    runs_told (λ runs. map string_bytes runs.items) files (map string_bytes sorted) c.each_once.result again
    (subst (λ names. IfOk c.each_once.result (λ once. AreNames (map string_bytes names) (map string_bytes once.items))) same c.each_once.ensures)
