-- How the code looks names up.
use Rattle.std.specs.Prelude.{◌≡◌, ℕ, ◌<◌, List, length, codes, string_bytes, slice_index_or, String}
use Rattle.plan_values.specs.declared.plan.Plan.{Plan}
use Rattle.decoded_texts.specs.Names.{end_words}

-- for each endpoint ID the words of those who hold it
pub record AreEndWords {Z : Type 0} (plan : Plan) (words : List ℕ) (table : List (String Z)) : Type 0 where
  pub many : length table ≡ 256
  pub each : (e : ℕ) (x : String Z) → e < 256
      → string_bytes (slice_index_or table e x) ≡ end_words plan words e

-- the words of those who hold a source, and of those who hold a destination
pub record AreNames {Z : Type 0} (plan : Plan) (from to : List (String Z)) : Type 0 where
  pub sources : AreEndWords plan (codes " from ") from
  pub destinations : AreEndWords plan (codes " to ") to
