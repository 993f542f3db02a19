-- Tests in their order.
use Rattle.std.specs.Prelude.{◌⊎◌}

-- the first of several causes: where this one holds, its outcome, and else what the causes after it say
abbrev pub First : Type 0 → Type 0 → Type 0 → Type 0
First cause outcome later = (cause × outcome) ⊎ ((¬ cause) × later)
