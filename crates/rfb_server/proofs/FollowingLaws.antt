-- A session that was notified where its screen is drawn on follows the screen that a drawing
-- leaves.
use Rattle.std.proofs.Common.{◌≡◌, ℕ, false, ◌∙◌}
use Rattle.rfb_pixel.specs.declared.colour.Colour.{Colour}
use Rattle.rfb_picture.specs.declared.rect.Rect.{Rect}
use Rattle.rfb_picture.specs.Rect.{contains}
use Rattle.rfb_picture.specs.Grid.{Grid, IsGrid, at_or, changed}
use Rattle.rfb_picture.proofs.GridLaws.{at-changed, width-changed, height-changed}
use Rattle.rfb_server.specs.Server.{black}
use Rattle.rfb_server.specs.KnownScreen.{IsSameOutside}

-- a change inside a rectangle leaves the places outside
pub outside_changed : (rect : Rect) (f : ℕ → ℕ → Colour → Colour) (picture : Grid Colour) → IsGrid picture →
    ((x y : ℕ) (old : Colour) → contains rect x y ≡ false → f x y old ≡ old) →
    IsSameOutside rect picture (changed f picture)
outside_changed rect f picture whole stays =
    record {
      columns = width-changed f picture;
      rows = height-changed f picture;
      same = λ x y p q e. at-changed f picture x y black whole p q ∙ stays x y (at_or picture x y black) e;
    }
