-- A rectangle of two rows and two columns of tiles, computed: 17 by 17 places at pixels of one byte.
use Rattle.std.proofs.Common.{◌≡◌, ℕ, zero, suc, List, [], ◌∷◌, ◌++◌, replicate, refl}
use Rattle.rfb_pixel.specs.Format.{bgr233}
use Rattle.rfb_picture.specs.Grid.{grid, changed, uniform}
use Rattle.rfb_wire.specs.stream.Prefix.{More, Got, Bad}
use Rattle.rfb_codec.specs.declared.fault.PaintFault.TheVariants.{SubrectOutside}
use Rattle.rfb_codec.specs.Hextile.{tile_count, tile_part, tile_at, hextile}

-- ---- where the tiles lie

there_are_four : tile_count 17 17 ≡ 4
there_are_four = refl

the_first_is_square : tile_part 17 17 0 ≡ record { x = 0; y = 0; w = 16; h = 16 }
the_first_is_square = refl

the_second_is_narrow : tile_part 17 17 1 ≡ record { x = 16; y = 0; w = 1; h = 16 }
the_second_is_narrow = refl

the_third_is_low : tile_part 17 17 2 ≡ record { x = 0; y = 16; w = 16; h = 1 }
the_third_is_low = refl

the_last_is_one_place : tile_part 17 17 3 ≡ record { x = 16; y = 16; w = 1; h = 1 }
the_last_is_one_place = refl

corners_of_the_first : (tile_at 17 0 0 ≡ 0) × (tile_at 17 15 15 ≡ 0)
corners_of_the_first = (refl, refl)

corners_of_the_others : (tile_at 17 16 0 ≡ 1) × (tile_at 17 16 15 ≡ 1) × (tile_at 17 0 16 ≡ 2)
    × (tile_at 17 15 16 ≡ 2) × (tile_at 17 16 16 ≡ 3)
corners_of_the_others = (refl, refl, refl, refl, refl)

-- ---- what they show

times : ℕ → List ℕ → List ℕ
times zero row = []
times (suc n) row = row ++ times n row

-- a row of the first tile, with the second tile's pixel after it
row : ℕ → List ℕ
row pixel = replicate 16 9 ++ pixel ∷ []

-- a background alone; one with a coloured subrectangle of 1 by 2 at its fourth row; one with
-- a foreground over 5 by 1 from its fifth column on; and a raw pixel
four : List ℕ
four = 2 ∷ 9 ∷ (26 ∷ 10 ∷ 1 ∷ 20 ∷ 3 ∷ 1 ∷ (14 ∷ 11 ∷ 30 ∷ 1 ∷ 64 ∷ 64 ∷ (1 ∷ 77 ∷ [])))

last_row : List ℕ
last_row = replicate 4 11 ++ (replicate 5 30 ++ (replicate 7 11 ++ 77 ∷ []))

four_different_tiles : hextile bgr233 17 17 four
    ≡ Got (grid 17 17 (times 3 (row 10) ++ (times 2 (row 20) ++ (times 11 (row 10) ++ last_row)))) []
unfolding hextile changed uniform four times row last_row
four_different_tiles = refl

-- three tiles wait for the fourth
three_are_not_all : hextile bgr233 17 17 (2 ∷ 9 ∷ 0 ∷ 0 ∷ []) ≡ More
unfolding hextile
three_are_not_all = refl

a_low_tile_is_left_by_two_rows : hextile bgr233 17 17 (2 ∷ 9 ∷ 0 ∷ 12 ∷ 30 ∷ 1 ∷ 0 ∷ 1 ∷ []) ≡ Bad SubrectOutside
unfolding hextile
a_low_tile_is_left_by_two_rows = refl

a_narrow_one_is_not : hextile bgr233 17 17 (2 ∷ 9 ∷ 12 ∷ 30 ∷ 1 ∷ 0 ∷ 1 ∷ []) ≡ More
unfolding hextile
a_narrow_one_is_not = refl
