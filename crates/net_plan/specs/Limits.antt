-- How much a text may hold.
use Rattle.std.specs.Prelude.{ℕ}

-- the most bytes of a text: 16 MiB
abbrev pub most_text_bytes : ℕ
most_text_bytes = 16777216

-- the most events of a list
abbrev pub most_events : ℕ
most_events = 100000
