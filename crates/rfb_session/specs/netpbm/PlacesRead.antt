-- Places that are read piece by piece, and why they could not be.
use Rattle.std.specs.Prelude.{◌≡◌, ◌<◌, ◌≤◌, ◌*◌, ⊤, ℕ, List, Option, Some, None, length}
use Rattle.std.specs.Io.KnownBytes.{Consumes, IsAtEnd}
use Rattle.rfb_pixel.specs.declared.colour.Colour.{Colour}
use Rattle.rfb_session.specs.declared.netpbm.fault.Flaw.TheVariants.{TooShort, TooLong}
use Rattle.rfb_session.specs.declared.netpbm.fault.PixmapError.{PixmapError}
use Rattle.rfb_session.specs.declared.netpbm.fault.PixmapError.TheVariants.{Flaw as FlawError, Input, NoMemory}
use Rattle.rfb_session.specs.declared.netpbm.head.Sample.{Sample}
use Rattle.rfb_session.specs.netpbm.Places.{HasPlacesFlaw, colours_of, size_of}

-- `count` places came, with these colours
pub record ReadPlaces (sample : Sample) (count : ℕ) (old new : Option (List ℕ))
    (places : List Colour) : Type 0 where
  pub seen : List ℕ
  pub came : Consumes old new seen
  pub size : length seen ≡ size_of sample * count
  pub are : places ≡ colours_of sample seen

-- if a flaw is why `count` did not come, the input ended before
abbrev pub FailsPiece : Sample → ℕ → Option (List ℕ) → Option (List ℕ) → PixmapError → Type 0
FailsPiece sample count old new (FlawError flaw) =
    (flaw ≡ TooShort) × (bytes : List ℕ) × Consumes old new bytes × IsAtEnd new
    × (length bytes < size_of sample * count)
FailsPiece sample count old new (Input input) = ⊤
FailsPiece sample count old new NoMemory = ⊤

-- if a flaw is why the input was to have ended, bytes are left
abbrev pub FailsEnd : Option (List ℕ) → PixmapError → Type 0
FailsEnd (Some bytes) (FlawError flaw) = (flaw ≡ TooLong) × (1 ≤ length bytes)
FailsEnd (Some bytes) (Input input) = ⊤
FailsEnd (Some bytes) NoMemory = ⊤
FailsEnd None error = ⊤

-- what was read, where its bytes are known, has this flaw, if that is why
abbrev pub FailsToFill : Sample → ℕ → Option (List ℕ) → PixmapError → Type 0
FailsToFill sample count (Some bytes) (FlawError flaw) = HasPlacesFlaw sample count bytes flaw
FailsToFill sample count (Some bytes) (Input input) = ⊤
FailsToFill sample count (Some bytes) NoMemory = ⊤
FailsToFill sample count None error = ⊤
