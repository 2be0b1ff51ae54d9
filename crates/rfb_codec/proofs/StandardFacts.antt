-- What bytes say as data of a rectangle, computed from the readings: little-endian pixels of one byte
-- and of four.
use Rattle.std.proofs.Common.{◌≡◌, [], ◌∷◌, refl}
use Rattle.rfb_pixel.specs.Format.{rgb888, bgr233}
use Rattle.rfb_picture.specs.Grid.{grid, changed, uniform}
use Rattle.rfb_wire.specs.declared.encoding.Encoding.TheVariants.{CopyRect}
use Rattle.rfb_wire.specs.stream.Prefix.{More, Got, Bad}
use Rattle.rfb_codec.specs.declared.fault.PaintFault.TheVariants.{SubrectOutside, SourceOutside, NoBackground}
use Rattle.rfb_codec.specs.declared.fault.PaintFault.TheVariants.{NoForeground, BothColourBits}
use Rattle.rfb_codec.specs.Raw.{raw}
use Rattle.rfb_codec.specs.Rre.{rre}
use Rattle.rfb_codec.specs.Hextile.{hextile}
use Rattle.rfb_codec.specs.RectData.{Source, rect_data}

-- ---- Raw

raw_is_row_by_row : raw bgr233 2 2 (1 ∷ 2 ∷ 3 ∷ 4 ∷ 5 ∷ []) ≡ Got (grid 2 2 (1 ∷ 2 ∷ 3 ∷ 4 ∷ [])) (5 ∷ [])
unfolding raw changed uniform
raw_is_row_by_row = refl

raw_pixels_have_the_formats_bytes : raw rgb888 1 1 (1 ∷ 128 ∷ 255 ∷ 0 ∷ []) ≡ Got (grid 1 1 (16744449 ∷ [])) []
unfolding raw changed uniform
raw_pixels_have_the_formats_bytes = refl

raw_waits_for_its_last_byte : raw bgr233 2 1 (7 ∷ []) ≡ More
unfolding raw
raw_waits_for_its_last_byte = refl

-- ---- CopyRect

a_source_is_two_numbers : rect_data bgr233 4 1 (record { x = 1; y = 0; w = 3; h = 1 }) CopyRect (0 ∷ 0 ∷ 0 ∷ 0 ∷ 9 ∷ [])
    ≡ Got (Source 0 0) (9 ∷ [])
unfolding rect_data
a_source_is_two_numbers = refl

a_source_that_leaves_the_screen_is_refused : rect_data bgr233 2 1 (record { x = 0; y = 0; w = 2; h = 1 }) CopyRect
    (0 ∷ 1 ∷ 0 ∷ 0 ∷ []) ≡ Bad SourceOutside
unfolding rect_data
a_source_that_leaves_the_screen_is_refused = refl

an_empty_rectangle_has_a_source_too : rect_data bgr233 2 1 (record { x = 0; y = 0; w = 0; h = 1 }) CopyRect
    (0 ∷ 3 ∷ 0 ∷ 0 ∷ []) ≡ Bad SourceOutside
unfolding rect_data
an_empty_rectangle_has_a_source_too = refl

-- ---- RRE

a_subrectangle_over_a_background : rre rgb888 8 1 (0 ∷ 0 ∷ 0 ∷ 1 ∷ 0 ∷ 0 ∷ 0 ∷ 0 ∷ 255 ∷ 255 ∷ 255 ∷ 0 ∷ 0 ∷ 7 ∷ 0 ∷ 0
    ∷ 0 ∷ 1 ∷ 0 ∷ 1 ∷ []) ≡ Got (grid 8 1 (0 ∷ 0 ∷ 0 ∷ 0 ∷ 0 ∷ 0 ∷ 0 ∷ 16777215 ∷ [])) []
unfolding rre changed uniform
a_subrectangle_over_a_background = refl

the_last_of_two_subrectangles_is_shown : rre bgr233 3 1 (0 ∷ 0 ∷ 0 ∷ 2 ∷ 0 ∷ 7 ∷ 0 ∷ 0 ∷ 0 ∷ 0 ∷ 0 ∷ 2 ∷ 0 ∷ 1 ∷ 56 ∷ 0
    ∷ 1 ∷ 0 ∷ 0 ∷ 0 ∷ 2 ∷ 0 ∷ 1 ∷ []) ≡ Got (grid 3 1 (7 ∷ 56 ∷ 56 ∷ [])) []
unfolding rre changed uniform
the_last_of_two_subrectangles_is_shown = refl

a_count_is_not_judged : rre bgr233 2 1 (255 ∷ 255 ∷ 255 ∷ 255 ∷ 16 ∷ 32 ∷ 0 ∷ 2 ∷ 0 ∷ 0 ∷ 0 ∷ 1 ∷ 0 ∷ []) ≡ More
unfolding rre
a_count_is_not_judged = refl

a_subrectangle_is_judged_at_its_last_byte : rre bgr233 2 1
    (255 ∷ 255 ∷ 255 ∷ 255 ∷ 16 ∷ 32 ∷ 0 ∷ 2 ∷ 0 ∷ 0 ∷ 0 ∷ 1 ∷ 0 ∷ 1 ∷ []) ≡ Bad SubrectOutside
unfolding rre
a_subrectangle_is_judged_at_its_last_byte = refl

-- ---- Hextile

tiles_of_one_pixel_keep_the_background : hextile rgb888 17 1 (2 ∷ 1 ∷ 128 ∷ 255 ∷ 0 ∷ 0 ∷ [])
    ≡ Got (grid 17 1 (16744449 ∷ 16744449 ∷ 16744449 ∷ 16744449 ∷ 16744449 ∷ 16744449 ∷ 16744449 ∷ 16744449 ∷ 16744449
    ∷ 16744449 ∷ 16744449 ∷ 16744449 ∷ 16744449 ∷ 16744449 ∷ 16744449 ∷ 16744449 ∷ 16744449 ∷ [])) []
unfolding hextile changed uniform
tiles_of_one_pixel_keep_the_background = refl

a_foreground_over_a_background : hextile bgr233 2 1 (14 ∷ 16 ∷ 32 ∷ 1 ∷ 16 ∷ 0 ∷ []) ≡ Got (grid 2 1 (16 ∷ 32 ∷ [])) []
unfolding hextile changed uniform
a_foreground_over_a_background = refl

a_first_tile_needs_a_background : hextile bgr233 2 1 (0 ∷ []) ≡ Bad NoBackground
unfolding hextile
a_first_tile_needs_a_background = refl

with_subrectangles_it_does_too : hextile bgr233 2 1 (8 ∷ []) ≡ Bad NoBackground
unfolding hextile
with_subrectangles_it_does_too = refl

a_background_is_missed_before_both_bits_are : hextile bgr233 2 1 (28 ∷ []) ≡ Bad NoBackground
unfolding hextile
a_background_is_missed_before_both_bits_are = refl

both_bits_are_refused : hextile bgr233 17 1 (2 ∷ 16 ∷ 28 ∷ []) ≡ Bad BothColourBits
unfolding hextile
both_bits_are_refused = refl

subrectangles_need_a_foreground : hextile bgr233 17 1 (2 ∷ 16 ∷ 8 ∷ []) ≡ Bad NoForeground
unfolding hextile
subrectangles_need_a_foreground = refl

three_tiles_of_two_pixels : hextile bgr233 48 1 (26 ∷ 16 ∷ 2 ∷ 32 ∷ 224 ∷ 0 ∷ 48 ∷ 240 ∷ 0 ∷ 12 ∷ 32 ∷ 1 ∷ 240 ∷ 0 ∷ 8
    ∷ 1 ∷ 240 ∷ 0 ∷ []) ≡ Got (grid 48 1 (16 ∷ 16 ∷ 16 ∷ 16 ∷ 16 ∷ 16 ∷ 16 ∷ 16 ∷ 16 ∷ 16 ∷ 16 ∷ 16 ∷ 16 ∷ 16 ∷ 32 ∷ 48
    ∷ 16 ∷ 16 ∷ 16 ∷ 16 ∷ 16 ∷ 16 ∷ 16 ∷ 16 ∷ 16 ∷ 16 ∷ 16 ∷ 16 ∷ 16 ∷ 16 ∷ 16 ∷ 32 ∷ 16 ∷ 16 ∷ 16 ∷ 16 ∷ 16 ∷ 16 ∷ 16
    ∷ 16 ∷ 16 ∷ 16 ∷ 16 ∷ 16 ∷ 16 ∷ 16 ∷ 16 ∷ 32 ∷ [])) []
unfolding hextile changed uniform
three_tiles_of_two_pixels = refl

-- a background is carried past a raw tile, by this project's choice
a_raw_tile_leaves_the_background : hextile bgr233 33 1 (2 ∷ 9 ∷ 1 ∷ 1 ∷ 2 ∷ 3 ∷ 4 ∷ 5 ∷ 6 ∷ 7 ∷ 8 ∷ 1 ∷ 2 ∷ 3 ∷ 4 ∷ 5
    ∷ 6 ∷ 7 ∷ 8 ∷ 0 ∷ []) ≡ Got (grid 33 1 (9 ∷ 9 ∷ 9 ∷ 9 ∷ 9 ∷ 9 ∷ 9 ∷ 9 ∷ 9 ∷ 9 ∷ 9 ∷ 9 ∷ 9 ∷ 9 ∷ 9 ∷ 9 ∷ 1 ∷ 2 ∷ 3
    ∷ 4 ∷ 5 ∷ 6 ∷ 7 ∷ 8 ∷ 1 ∷ 2 ∷ 3 ∷ 4 ∷ 5 ∷ 6 ∷ 7 ∷ 8 ∷ 9 ∷ [])) []
unfolding hextile changed uniform
a_raw_tile_leaves_the_background = refl

a_tile_of_the_last_column_is_narrow : hextile bgr233 17 1 (2 ∷ 16 ∷ 12 ∷ 32 ∷ 1 ∷ 0 ∷ 16 ∷ []) ≡ Bad SubrectOutside
unfolding hextile
a_tile_of_the_last_column_is_narrow = refl
