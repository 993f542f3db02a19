-- Where a spot over an index stands is where the pointer leads.
use Rattle.std.{proofs.Common.{◌≡◌, ℕ, ◌++◌, List, Option, Some, None, codes, refl, ap, ◌∙◌}, specs.Fmt.{decimal}, specs.Prelude.{MatchOption}}
use Rattle.json.specs.Json.{Json}
use Rattle.net_plan.{specs.Finding.{Step}, specs.Texts.{IsTree}, specs.Trees.{data_of}}
use Rattle.net_pointers.{specs.Offsets.{LeadsTo}, specs.Pointers.{value_at}, specs.Spots.{IsAt}, specs.declared.position.Position.{Position}, specs.declared.spots.Spot.{Spot}}
use Rattle.fault_texts.specs.Places.{IsAtTold, position_text, spot_words}

same_text : (name : List ℕ) (p q : Position) → p.line ≡ q.line → p.column ≡ q.column → position_text name p ≡ position_text name q
same_text name p q line column =
    ap (λ n. name ++ (codes ":" ++ (decimal n ++ (codes ":" ++ decimal p.column)))) line
    ∙ ap (λ n. name ++ (codes ":" ++ (decimal q.line ++ (codes ":" ++ decimal n)))) column

pub at_told : (name text : List ℕ) (pointer : List Step) (j : Json) (o : Option Spot) → IsTree text j
    → MatchOption o (value_at pointer (data_of j) ≡ None) (λ spot. LeadsTo text pointer spot.offset × IsAt text spot.offset spot.position)
    → IsAtTold name text pointer (spot_words name o)
at_told name text pointer j None whole none = (None, (j, whole, none), refl)
at_told name text pointer j (Some spot) whole there =
    (Some spot.offset, (j, whole, there.0), ap (λ words. codes " at " ++ words) (same_text name spot.position _ there.1.0 there.1.1))
