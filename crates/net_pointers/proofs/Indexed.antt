-- What is found over an index.
use Rattle.std.{proofs.Common.{◌≡◌, ◌≢◌, ◌∷◌, ℕ, List, [], Option, Some, None, drop, sym, ap, ◌∙◌}, specs.Prelude.{Result, Ok, Err, IfOk, IsSomeAnd, MatchOption, slice_get}}
use Rattle.json.{specs.Json.{Json}, specs.Lex.{tokens}, specs.Token.{Token}}
use Rattle.net_plan.{specs.Texts.{IsTree}, specs.Trees.{data_of}, specs.Finding.{Step}}
use Rattle.net_pointers.{specs.Offsets.{LeadsTo}, specs.Spots.{AreSpots, IsAt, PartIsAt, StandsAt}, specs.PartTokens.{from_path}, specs.Paths.{path_of}, specs.Doubles.{part_at}, specs.Pointers.{value_at}, specs.declared.spots.Spot.{Spot}, proofs.Beginnings.{last}, proofs.Offsets.{pointer_leads}, proofs.Paths.{path_leads}, proofs.Ways.{path_way, sound_start}}

-- where a pointer leads along a path, what it leads to is found
pub spot_leads : {E : Type 0} (text : List ℕ) (pointer : List Step) (j : Json) (path : List ℕ) (r : Result (Option Spot) E) → IsTree text j → path_of pointer j ≡ Some path
    → IfOk r (λ f. (tree part : Json) → IsTree text tree → part_at path tree ≡ Some part → IsSomeAnd f (PartIsAt text path))
    → IfOk r (λ f. MatchOption f (value_at pointer (data_of j) ≡ None) (λ spot. LeadsTo text pointer spot.offset × IsAt text spot.offset spot.position))
spot_leads text pointer j path (Ok (Some spot)) whole along there =
    let leads = path_leads pointer j path along in
    let is = there j leads.0 whole leads.1 in
    (pointer_leads text pointer j path spot.offset whole along is.0, is.1)
spot_leads text pointer j path (Ok None) whole along there =
    let leads = path_leads pointer j path along in
    absurd (there j leads.0 whole leads.1)
spot_leads text pointer j path (Err e) whole along there = tt

-- the token with which a part begins
pub part_tokens : (text path : List ℕ) (tree part : Json) → IsTree text tree → part_at path tree ≡ Some part
    → (u : Token) × (us : List Token) × (from_path path (tokens text) ≡ Some (u ∷ us)) × (u ≢ Token.bad)
part_tokens text path tree part whole at =
    let way = path_way path (tokens text) tree part ([], last _ tree whole) at in
    let start = sound_start 127 way.0 way.2.0 part way.2.1 in
    (start.0, start.1, way.1 ∙ ap Some start.2, start.3)

-- the spot of that token
pub part_spot : (text path : List ℕ) (spots : List Spot) (k : ℕ) (u : Token) (us : List Token) → AreSpots text spots → from_path path (tokens text) ≡ Some (u ∷ us) → u ≢ Token.bad → u ∷ us ≡ drop k (tokens text)
    → IsSomeAnd (slice_get spots k) (PartIsAt text path)
part_spot text path spots k u us are from sound there = by (slice_get spots k) (are k u us (sym there) sound)
  where
    by : (o : Option Spot) → IsSomeAnd o (StandsAt text (u ∷ us)) → IsSomeAnd o (PartIsAt text path)
    by (Some s) h = ((u ∷ us, from, h.0), h.1)
    by None h = h
