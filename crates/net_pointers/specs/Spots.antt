-- Where the tokens of a text begin.
use Rattle.std.specs.Prelude.{◌≡◌, ◌≢◌, ◌+◌, ℕ, List, ◌∷◌, take, drop, count_by, slice_get, IsSomeAnd}
use Rattle.json.{specs.Lex.{tokens}, specs.Token.{Token}}
use Rattle.net_pointers.{specs.Offsets.{AreTokensFrom, PartStandsAt}, specs.Positions.{is_line_feed, begins_character, last_line}, specs.declared.position.Position.{Position}, specs.declared.spots.Spot.{Spot}}

-- the byte at the offset stands in this line and column
abbrev pub IsAt : List ℕ → ℕ → Position → Type 0
IsAt text offset position = (position.line ≡ count_by is_line_feed (take offset text) + 1)
    × (position.column ≡ count_by begins_character (last_line (take offset text)) + 1)

-- the token with which these begin stands at the spot
abbrev pub StandsAt : List ℕ → List Token → Spot → Type 0
StandsAt text ts spot = AreTokensFrom text spot.offset ts × IsAt text spot.offset spot.position

-- the spots are those of all tokens, but for one that says that the text is no JSON
abbrev pub AreSpots : List ℕ → List Spot → Type 0
AreSpots text spots = (k : ℕ) (u : Token) (us : List Token) → drop k (tokens text) ≡ u ∷ us → u ≢ Token.bad
    → IsSomeAnd (slice_get spots k) (StandsAt text (u ∷ us))

-- the part to which a path of indices leads stands at the spot
abbrev pub PartIsAt : List ℕ → List ℕ → Spot → Type 0
PartIsAt text path spot = PartStandsAt text path spot.offset × IsAt text spot.offset spot.position
