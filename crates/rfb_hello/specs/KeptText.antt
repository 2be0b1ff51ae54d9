-- A text that is kept as far as there is room for it.
use Rattle.std.specs.Prelude.{ℕ, List, [], take, min}

-- the most bytes that are kept of a text, and those that are
pub record KeptText : Type 0 where
  pub room : ℕ
  pub bytes : List ℕ

-- what is kept of a text of that length, once these bytes have come, under a limit
abbrev pub kept_of : ℕ → ℕ → List ℕ → KeptText
kept_of limit size text = record { room = min size limit; bytes = take limit text }

-- no text, and no room for one
abbrev pub no_text : KeptText
no_text = record { room = 0; bytes = [] }
