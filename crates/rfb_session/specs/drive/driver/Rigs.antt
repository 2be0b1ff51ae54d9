-- What a rig has beside the screen, step by step.
use Rattle.std.specs.Prelude.{ℕ, List, Option, Some, None, Result}
use Rattle.std.specs.Borrow.{Bor}
use Rattle.std.specs.Global.{Vec}
use Rattle.rfb_pixel.specs.declared.colour.Colour.{Colour}
use Rattle.rfb_picture.specs.declared.rect.Rect.{Rect}
use Rattle.rfb_picture.specs.Grid.{Grid}
use Rattle.rfb_session.specs.declared.drive.driver.rig.RigFault.{RigFault}
use Rattle.rfb_session.specs.declared.drive.words.Likeness.{Likeness}
use Rattle.rfb_session.specs.declared.netpbm.Pixmap.{Pixmap}

-- it looked for the picture of a file; it took the bytes of one; it saved a part of a picture to one; it kept what
-- a screen showed, and what was expected
pub data RigStep : Type 0 where
  Looked : (name : List ℕ) → (found : Result Pixmap RigFault) → RigStep
  Took : (name : List ℕ) → (found : Result (Vec ℕ) RigFault) → RigStep
  Saved : (name : List ℕ) → (picture : Grid Colour) → (part : Rect) → (done : Result (Unit {0}) RigFault) → RigStep
  Kept : (picture : Grid Colour) → (expected : Option (Pixmap × Likeness)) → RigStep

-- what a rig may become by a step
abbrev pub Rigging : Type 0 → Type 1
Rigging R = R → RigStep → R → Type 0

-- the picture that was expected, and where and how near
abbrev pub wanted_in : Option (Bor Pixmap × Likeness) → Option (Pixmap × Likeness)
wanted_in None = None
wanted_in (Some wanted) = Some (wanted.0.now, wanted.1)
