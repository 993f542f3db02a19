-- The certificate that a JSON value stands for, or its first fault in the order of tests, by functions.
use Rattle.std.{specs.Prelude.{ℕ, ◌+◌, ◌&&◌, codes, List, [], ◌∷◌, length, Bool, true, nat_le, None, ⊤, Result, Ok}, specs.List.{list_all}}
use Rattle.serde_json.specs.Data.{Data}
use Rattle.plan_values.specs.CertificateValues.{RangeValue, CertificateValue, are_known}
use Rattle.net_plan.{specs.Finding.{first_fault, refused}, specs.Json.{at_key, demand}, specs.Made.{certificate_made}, specs.Names.{index_among, names_differ, texts_at}, specs.Reading.{then_with}, specs.Tables.{a_certificate}, specs.declared.error.ValueFault.{ValueFault}, specs.declared.error.ValueFault.TheVariants.{UnknownName, Doubled}}

-- no two entries of a list name one node
abbrev pub nodes_differ : Data → Result ⊤ ValueFault
nodes_differ d = demand Doubled (names_differ (texts_at (codes "node") d))

-- each range begins where the one before has ended, or later
abbrev pub ascends : ℕ → List RangeValue → Bool
ascends end [] = true
ascends end (r ∷ rs) = nat_le end r.first && ascends (r.first + r.size) rs

-- no list names a node twice
unfoldable pub entries_differ : Data → Result ⊤ ValueFault
entries_differ d =
    then_with (at_key (codes "levels") nodes_differ d) (λ _.
    then_with (at_key (codes "places") nodes_differ d) (λ _. at_key (codes "ranks") nodes_differ d))

-- the tests of a whole certificate: no range overlaps, and all its nodes are known
abbrev pub tested : ℕ → CertificateValue → Result CertificateValue ValueFault
tested nodes c =
    then_with (demand Doubled (list_all (λ r. ascends 0 r.ranges) c.ranks)) (λ _.
    then_with (demand UnknownName (are_known nodes c)) (λ _. Ok c))

abbrev pub certificate : List (List ℕ) → Data → Result CertificateValue ValueFault
certificate nodes d =
    then_with (refused (first_fault None a_certificate d)) (λ _.
    then_with (entries_differ d) (λ _. tested (length nodes) (certificate_made (index_among nodes) d)))
