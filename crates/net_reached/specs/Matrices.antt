-- A table of who reaches whom.
use Rattle.std.{specs.Prelude.{◌≡◌, ◌≢◌, ◌⊎◌, ℕ, suc, zero, ◌+◌, nat_lt, if◌then◌else◌, List, [], ◌++◌, codes, length}, specs.Fmt.{decimal}}
use Rattle.plan_values.specs.declared.plan.Plan.{Plan}
use Rattle.net_tables.specs.Names.{node_name}
use Rattle.net_reached.specs.Wishes.{ComesTo, ReachesNode}

-- a number in three columns, where it has at most three digits
abbrev pub number_cell : ℕ → List ℕ
number_cell n =
    if nat_lt n 10 then (codes "  " ++ decimal n) else if nat_lt n 100 then (codes " " ++ decimal n) else decimal n

-- the numbers of the first nodes, from 1
abbrev pub head_cells : ℕ → List ℕ
head_cells zero = []
head_cells (suc count) = head_cells count ++ number_cell (count + 1)

-- what the table has for a and b: a dot for one node, how many hops a packet of a makes to b, or a dash
abbrev pub IsCell : Plan → ℕ → ℕ → List ℕ → Type 0
IsCell plan a b cell = ((a ≡ b) × (cell ≡ codes "  ."))
    ⊎ ((a ≢ b) × (moves : ℕ) × ComesTo plan a b moves × (cell ≡ number_cell moves))
    ⊎ ((a ≢ b) × (¬ ReachesNode plan a b) × (cell ≡ codes "  -"))

-- the cells of a for each of the first nodes, as many as are said
abbrev pub AreCells : Plan → ℕ → ℕ → List ℕ → Type 0
AreCells plan a zero text = text ≡ []
AreCells plan a (suc b) text =
    (before cell : List ℕ) × AreCells plan a b before × IsCell plan a b cell × (text ≡ before ++ cell)

-- the row of a: its number, its cells and its name
abbrev pub IsRow : Plan → ℕ → List ℕ → Type 0
IsRow plan a row = (cells : List ℕ) × AreCells plan a (length plan.nodes.items) cells
    × (row ≡ number_cell (a + 1) ++ (codes " " ++ (cells ++ (codes "  " ++ (node_name plan a ++ codes "\n")))))

-- the rows of the first nodes
abbrev pub AreRows : Plan → ℕ → List ℕ → Type 0
AreRows plan zero text = text ≡ []
AreRows plan (suc a) text =
    (before row : List ℕ) × AreRows plan a before × IsRow plan a row × (text ≡ before ++ row)

-- the text has a line with the nodes' numbers, and a row for each node
abbrev pub IsMatrix : Plan → List ℕ → Type 0
IsMatrix plan text = (rows : List ℕ) × AreRows plan (length plan.nodes.items) rows
    × (text ≡ (codes "    " ++ (head_cells (length plan.nodes.items) ++ codes "\n")) ++ rows)
