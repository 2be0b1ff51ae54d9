-- Which bytes spell which picture, and what is wrong with those that spell none.
use Rattle.std.specs.Prelude.{◌*◌, ◌++◌, ◌⊎◌, ⊤, ℕ, List, Option, Some, None, take, drop}
use Rattle.rfb_pixel.specs.declared.colour.Colour.{Colour}
use Rattle.rfb_picture.specs.Grid.{Grid, grid}
use Rattle.rfb_session.specs.declared.netpbm.fault.Flaw.{Flaw}
use Rattle.rfb_session.specs.declared.netpbm.fault.PixmapError.{PixmapError}
use Rattle.rfb_session.specs.declared.netpbm.fault.PixmapError.TheVariants.{Flaw as FlawError, Input, NoMemory}
use Rattle.rfb_session.specs.declared.netpbm.head.Sample.{Sample}
use Rattle.rfb_session.specs.declared.netpbm.Pixmap.{Pixmap}
use Rattle.rfb_session.specs.netpbm.Head.{HasHeadFlaw, IsHead}
use Rattle.rfb_session.specs.netpbm.Places.{ArePlaces, HasPlacesFlaw}

-- the bytes in which a head has to end, which are this project's choice, and those after them
abbrev pub front_of : List ℕ → List ℕ
front_of bytes = take 8192 bytes

abbrev pub tail_of : List ℕ → List ℕ
tail_of bytes = drop 8192 bytes

-- bytes are a head, and the places of a picture of the size that it says
pub record Spells (bytes : List ℕ) (picture : Grid Colour) : Type 0 where
  pub sample : Sample
  pub rest : List ℕ
  pub is_head : IsHead (front_of bytes) picture.width picture.height sample rest
  pub are_places : ArePlaces sample (picture.height * picture.width) (rest ++ tail_of bytes)
      picture.places

-- they are none; or after a head there are other places
abbrev pub HasFlaw : List ℕ → Flaw → Type 0
HasFlaw bytes flaw =
    HasHeadFlaw (front_of bytes) flaw
    ⊎ ((width height : ℕ) × (sample : Sample) × (rest : List ℕ)
    × IsHead (front_of bytes) width height sample rest
    × HasPlacesFlaw sample (height * width) (rest ++ tail_of bytes) flaw)

-- ---- what was read

-- the picture of a pixmap
abbrev pub picture_of : Pixmap → Grid Colour
picture_of pixmap = grid pixmap.width pixmap.height pixmap.places.items

-- what was read, where its bytes are known, spells it
abbrev pub SpellsKnown : Option (List ℕ) → Grid Colour → Type 0
SpellsKnown None picture = ⊤
SpellsKnown (Some bytes) picture = Spells bytes picture

-- or has this flaw, if that is why it was refused
abbrev pub FailsToSpell : Option (List ℕ) → PixmapError → Type 0
FailsToSpell (Some bytes) (FlawError flaw) = HasFlaw bytes flaw
FailsToSpell (Some bytes) (Input error) = ⊤
FailsToSpell (Some bytes) NoMemory = ⊤
FailsToSpell None error = ⊤
