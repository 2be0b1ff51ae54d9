-- Where a screen may differ from what its viewer has: the places that a session has marked.
use Rattle.std.specs.Prelude.{◌≡◌, ℕ, ◌≤◌, Bool, true, false, Option, None}
use Rattle.rfb_picture.specs.Grid.{Grid, IsGrid, filled, uniform}
use Rattle.rfb_picture.specs.Area.{Places, IsArea, no_places}

-- what is known, what is asked and what is marked are of the places of one screen, and a screen has
-- at most 4,096 columns and as many rows
pub record AreAlike (known : Grid (Option ℕ)) (area : Places) (marks : Grid Bool) : Type 0 where
  pub known_whole : IsGrid known
  pub area_is : IsArea area
  pub marks_whole : IsGrid marks
  pub area_wide : area.asked.width ≡ known.width
  pub area_high : area.asked.height ≡ known.height
  pub marks_wide : marks.width ≡ known.width
  pub marks_high : marks.height ≡ known.height
  pub columns : known.width ≤ 4096
  pub rows : known.height ≤ 4096

-- at no place of a screen of that size is it known what its viewer has
abbrev pub none_known : ℕ → ℕ → Grid (Option ℕ)
none_known width height = uniform width height None

-- each place of a screen of that size is marked
abbrev pub all_marked : ℕ → ℕ → Grid Bool
all_marked width height =
    filled (record { x = 0; y = 0; w = width; h = height }) true (uniform width height false)

-- these are all places of a screen of that size
pub record AreAllPlaces (width height : ℕ) (marks : Grid Bool) : Type 0 where
  pub value : marks ≡ all_marked width height
  pub columns : marks.width ≡ width
  pub rows : marks.height ≡ height

-- of a screen of that size nothing is known yet, nothing asked, and every place is marked
pub record AreUntouched (width height : ℕ) (known : Grid (Option ℕ)) (area : Places)
    (marks : Grid Bool) : Type 0 where
  pub known_is : known ≡ none_known width height
  pub known_wide : known.width ≡ width
  pub known_high : known.height ≡ height
  pub area_is : area ≡ no_places width height
  pub area_wide : area.asked.width ≡ width
  pub area_high : area.asked.height ≡ height
  pub marked : AreAllPlaces width height marks
