-- What items make of a picture of 2 by 1, and of what is known of it, computed at pixels of one byte.
use Rattle.std.proofs.Common.{◌≡◌, ℕ, List, [], ◌∷◌, Some, None, refl}
use Rattle.rfb_pixel.specs.declared.colour.Colour.{Colour}
use Rattle.rfb_pixel.specs.Format.{bgr233}
use Rattle.rfb_picture.specs.declared.rect.Rect.{Rect}
use Rattle.rfb_picture.specs.Grid.{grid, changed, uniform}
use Rattle.rfb_wire.specs.declared.encoding.Encoding.{Encoding}
use Rattle.rfb_wire.specs.declared.encoding.Encoding.TheVariants.{Raw, CopyRect}
use Rattle.rfb_wire.specs.ServerMessage.{Bell}
use Rattle.rfb_codec.specs.Raw.{raw}
use Rattle.rfb_codec.specs.RectData.{rect_data, Source}
use Rattle.rfb_codec.specs.UpdateStream.{UpdatePoint, UpdateItem, Message, Rectangle}
use Rattle.rfb_codec.specs.Effect.{effect, effects, recorded, noted}

abbrev point : UpdatePoint
point = record { width = 2; height = 1; form = bgr233; left = 1 }

abbrev black : Colour
black = record { r = 0; g = 0; b = 0 }

abbrev red : Colour
red = record { r = 65535; g = 0; b = 0 }

abbrev left_place : Rect
left_place = record { x = 0; y = 0; w = 1; h = 1 }

abbrev right_place : Rect
right_place = record { x = 1; y = 0; w = 1; h = 1 }

abbrev item : Rect → Encoding → List ℕ → UpdateItem
item rect encoding body = Rectangle (record { rect = rect; encoding = encoding }) body

pixels_are_painted : effect point (item right_place Raw (7 ∷ [])) (grid 2 1 (black ∷ black ∷ []))
    ≡ grid 2 1 (black ∷ red ∷ [])
unfolding effect rect_data raw changed uniform
pixels_are_painted = refl

a_source_is_copied : effect point (item left_place CopyRect (0 ∷ 1 ∷ 0 ∷ 0 ∷ [])) (grid 2 1 (black ∷ red ∷ []))
    ≡ grid 2 1 (red ∷ red ∷ [])
unfolding effect rect_data changed
a_source_is_copied = refl

one_item_after_another : effects point (item right_place Raw (7 ∷ []) ∷ item left_place CopyRect (0 ∷ 1 ∷ 0 ∷ 0 ∷ [])
    ∷ []) (grid 2 1 (black ∷ black ∷ [])) ≡ grid 2 1 (red ∷ red ∷ [])
unfolding effect rect_data raw changed uniform
one_item_after_another = refl

bytes_that_are_too_few_paint_nothing : effect point (item right_place Raw []) (grid 2 1 (black ∷ black ∷ []))
    ≡ grid 2 1 (black ∷ black ∷ [])
unfolding effect rect_data raw
bytes_that_are_too_few_paint_nothing = refl

nor_do_bytes_that_are_too_many : effect point (item right_place Raw (7 ∷ 7 ∷ [])) (grid 2 1 (black ∷ black ∷ []))
    ≡ grid 2 1 (black ∷ black ∷ [])
unfolding effect rect_data raw
nor_do_bytes_that_are_too_many = refl

nor_does_a_source_off_the_screen : effect point (item left_place CopyRect (0 ∷ 2 ∷ 0 ∷ 0 ∷ []))
    (grid 2 1 (black ∷ red ∷ [])) ≡ grid 2 1 (black ∷ red ∷ [])
unfolding effect rect_data
nor_does_a_source_off_the_screen = refl

a_bell_paints_nothing : effect point (Message Bell) (grid 2 1 (black ∷ red ∷ [])) ≡ grid 2 1 (black ∷ red ∷ [])
unfolding effect
a_bell_paints_nothing = refl

a_pixel_is_known_where_it_was_sent : recorded right_place (grid 1 1 (7 ∷ [])) (grid 2 1 (None ∷ Some 9 ∷ []))
    ≡ grid 2 1 (None ∷ Some 7 ∷ [])
unfolding changed
a_pixel_is_known_where_it_was_sent = refl

a_copy_takes_along_what_is_known : noted right_place (Source 0 0) (grid 2 1 (Some 7 ∷ None ∷ []))
    ≡ grid 2 1 (Some 7 ∷ Some 7 ∷ [])
unfolding changed
a_copy_takes_along_what_is_known = refl

and_that_nothing_is : noted right_place (Source 0 0) (grid 2 1 (None ∷ Some 7 ∷ [])) ≡ grid 2 1 (None ∷ None ∷ [])
unfolding changed
and_that_nothing_is = refl
