-- The lines that tell how two plans differ.
use Rattle.std.{specs.Prelude.{ℕ, List, ◌++◌, Option, Some, None, codes}, specs.Fmt.{decimal}}
use Rattle.hex.specs.Hex.{encode_lower}
use Rattle.net_tables.specs.Names.{kind_word}
use Rattle.plan_differences.{specs.declared.difference.Difference.{Difference}, specs.declared.difference.Difference.TheVariants.{Removed, Changed, Added}, specs.Facts.{FactValue, fact_value, unit, bus, node, pool, port, row, terminus, record_of}}
use Rattle.plan_texts.specs.LineParts.{address_text}

-- the words for what a fact is about
abbrev pub thing_text : FactValue → List ℕ
thing_text (unit size) = codes "unit"
thing_text (bus name binding media) = codes "bus " ++ name
thing_text (node name kind eid owner) = codes "node " ++ name
thing_text (pool name first size) = codes "pool of " ++ name
thing_text (port name index on address) = codes "port " ++ (decimal index ++ (codes " of " ++ name))
thing_text (row name first size through next) = codes "row " ++ (decimal first ++ (codes " of " ++ name))
thing_text (terminus name tid) = codes "terminus of " ++ name
thing_text (record_of name handle next bytes) = codes "record " ++ (decimal handle ++ (codes " of " ++ name))

abbrev pub name_or_dash : Option (List ℕ) → List ℕ
name_or_dash (Some name) = name
name_or_dash None = codes "-"

-- what a fact says of its thing
abbrev pub said_text : FactValue → List ℕ
said_text (unit size) = decimal size
said_text (bus name binding media) = codes "binding " ++ (decimal binding ++ (codes " media " ++ decimal media))
said_text (node name kind eid owner) =
    kind_word kind ++ (codes " eid " ++ (decimal eid ++ (codes " owner " ++ name_or_dash owner)))
said_text (pool name first size) = codes "first " ++ (decimal first ++ (codes " size " ++ decimal size))
said_text (port name index on address) = codes "bus " ++ (on ++ (codes " address " ++ address_text address))
said_text (row name first size through next) =
    codes "size " ++ (decimal size ++ (codes " port " ++ (decimal through ++ (codes " next " ++ next))))
said_text (terminus name tid) = codes "tid " ++ decimal tid
said_text (record_of name handle next bytes) =
    codes "next " ++ (decimal next ++ (codes " bytes " ++ encode_lower bytes))

-- all that a fact says
abbrev pub fact_text : FactValue → List ℕ
fact_text f = thing_text f ++ (codes ": " ++ said_text f)

-- the thing, and what is said of it, or what was said and what is
abbrev pub difference_text : Difference → List ℕ
difference_text (Removed f) =
    codes "removed " ++ (thing_text (fact_value f) ++ (codes ": " ++ (said_text (fact_value f) ++ codes "\n")))
difference_text (Changed f g) = codes "changed " ++ (thing_text (fact_value f) ++ (codes ": "
    ++ (said_text (fact_value f) ++ (codes " -> " ++ (said_text (fact_value g) ++ codes "\n")))))
difference_text (Added g) =
    codes "added " ++ (thing_text (fact_value g) ++ (codes ": " ++ (said_text (fact_value g) ++ codes "\n")))
