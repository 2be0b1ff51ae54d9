-- Which hints become copies of an update.
use Rattle.std.specs.Prelude.{◌≡◌, ℕ, true, false, List, [], ◌∷◌, ◌⊎◌, if◌then◌else◌}
use Rattle.rfb_picture.specs.Rect.{contains}
use Rattle.rfb_wire.specs.declared.encoding.Encoding.TheVariants.{CopyRect}
use Rattle.rfb_server.specs.declared.hint.Hint.{Hint}
use Rattle.rfb_server.specs.Encodings.{is_listed}
use Rattle.rfb_server.specs.Server.{ServerState}
use Rattle.rfb_server.specs.Request.{is_asked, is_whole}
use Rattle.rfb_server.specs.Composition.{Move, moved, IsGain}

-- the copy that a hint speaks of
abbrev pub move_of : Hint → Move
move_of hint = record { to = hint.to; sx = hint.sx; sy = hint.sy }

-- a copy is of use: it is a gain, and all that it overwrites is asked, and none of it whole
pub record IsOfUse (s : ServerState) (move : Move) : Type 0 where
  pub gain : IsGain s move
  pub asked : (x y : ℕ) → contains move.to x y ≡ true → is_asked s x y ≡ true
  pub not_whole : (x y : ℕ) → contains move.to x y ≡ true → is_whole s x y ≡ false

-- these moves are the hints that are of use, the oldest first, each by the record that the moves
-- before it leave
abbrev pub AreUsed : ServerState → List Hint → List Move → Type 0
AreUsed s [] moves = moves ≡ []
AreUsed s (hint ∷ hints) moves =
    ((later : List Move) × (moves ≡ move_of hint ∷ later) × IsOfUse s (move_of hint)
    × AreUsed (moved (move_of hint) s) hints later)
    ⊎ ((IsOfUse s (move_of hint) → ⊥) × AreUsed s hints moves)

-- hints may be used where the viewer listed CopyRect
abbrev pub usable : ServerState → List Hint → List Hint
usable s hints = if is_listed CopyRect s.encodings then hints else []
