-- The numbers of an audit's last line.
use Rattle.std.{specs.Prelude.{ℕ, List, ◌++◌, codes}, specs.Fmt.{decimal}}
use Rattle.audited_captures.specs.declared.sums.Sum.{Sum}

abbrev pub sum_words : Sum → List ℕ
sum_words sum =
    codes ": " ++ (decimal sum.compared ++ (codes " of " ++ (decimal sum.nodes ++ (codes " nodes, "
    ++ (decimal sum.packets ++ (codes " packets, " ++ (decimal sum.refused ++ codes " refused\n")))))))
