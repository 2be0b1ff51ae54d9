-- What follows of a composing for the viewer's picture and for the record.
use Rattle.std.proofs.Common.{◌≡◌, ℕ, ◌<◌, Bool, true, false, List, map, ◌++◌, Some, ◌⊎◌, inr, refl}
use Rattle.rfb_pixel.specs.declared.colour.Colour.{Colour}
use Rattle.rfb_pixel.specs.Format.{seen_through}
use Rattle.rfb_picture.specs.Grid.{Grid, IsGrid, at_or}
use Rattle.rfb_codec.specs.Effect.{effects, IsAlike, Agrees}
use Rattle.rfb_codec.specs.WholeUpdate.{update_of}
use Rattle.rfb_server.specs.Server.{ServerState, black}
use Rattle.rfb_server.specs.Request.{wanted, recorded, is_asked}
use Rattle.rfb_server.specs.Composition.{Part, sent_as, between, IsPlace, Composes}

-- over the area that was asked the picture is the screen, as it looks through the format
pub shows_screen : (old new : ServerState) (bytes : List ℕ) (copies blocks : List Part)
    (picture : Grid Colour) (x y : ℕ) (d : Colour) →
    Composes old new bytes copies blocks → IsAlike old.screen old.known →
    IsGrid picture → IsAlike picture old.known → Agrees old.form picture old.known →
    IsPlace old x y → is_asked old x y ≡ true →
    at_or (effects (between old) (update_of (map sent_as (copies ++ blocks))) picture) x y d
    ≡ seen_through old.form (at_or old.screen x y black)
shows_screen old new bytes copies blocks picture x y d composes alike whole size agrees place asked =
    let wide : x < new.known.width = rw (composes.same_size.columns, ← alike.columns) place.0 in
    let high : y < new.known.height = rw (composes.same_size.rows, ← alike.rows) place.1 in
    composes.agrees picture whole size agrees x y (wanted old x y) d wide high (composes.answered x y place asked)

-- each place is recorded as it was or with the wanted pixel
pub recorded_or_wanted : (old new : ServerState) (bytes : List ℕ) (copies blocks : List Part) (x y : ℕ) →
    Composes old new bytes copies blocks → IsPlace old x y →
    (recorded new x y ≡ recorded old x y) ⊎ (recorded new x y ≡ Some (wanted old x y))
recorded_or_wanted old new bytes copies blocks x y composes place =
    by_asked (is_asked old x y) (composes.answered x y place) (composes.others x y place)
  where
    by_asked : (asked : Bool) → (asked ≡ true → recorded new x y ≡ Some (wanted old x y)) →
        (asked ≡ false → (recorded new x y ≡ recorded old x y) ⊎ (recorded new x y ≡ Some (wanted old x y))) →
        (recorded new x y ≡ recorded old x y) ⊎ (recorded new x y ≡ Some (wanted old x y))
    by_asked true here there = inr (here refl)
    by_asked false here there = there refl
