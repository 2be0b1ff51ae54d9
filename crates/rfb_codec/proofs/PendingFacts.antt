-- How many bytes are pending after each front of data, computed at pixels of one byte.
use Rattle.std.proofs.Common.{◌≡◌, ℕ, List, [], ◌∷◌, ◌++◌, refl}
use Rattle.rfb_pixel.specs.Format.{rgb565, bgr233}
use Rattle.rfb_picture.specs.declared.rect.Rect.{Rect}
use Rattle.rfb_wire.specs.declared.encoding.Encoding.TheVariants.{Raw, CopyRect, Rre, Hextile}
use Rattle.rfb_codec.specs.UpdateStream.{UpdatePoint}
use Rattle.rfb_codec.specs.PendingBytes.{data_pending, update_pending}

-- what is pending once each byte has come
abbrev byte_by_byte : (List ℕ → ℕ) → List ℕ → List ℕ → List ℕ
byte_by_byte pending front [] = []
byte_by_byte pending front (byte ∷ more) = pending (front ++ byte ∷ []) ∷ byte_by_byte pending (front ++ byte ∷ []) more

abbrev row : ℕ → Rect
row w = record { x = 0; y = 0; w = w; h = 1 }

-- a tile of 16 by 1 with a background, one subrectangle and its pixel; it is whole at its sixth byte
a_coloured_tile : byte_by_byte (data_pending bgr233 (row 17) Hextile) [] (26 ∷ 16 ∷ 1 ∷ 32 ∷ 0 ∷ 0 ∷ [])
    ≡ 1 ∷ 2 ∷ 3 ∷ 4 ∷ 5 ∷ 0 ∷ []
unfolding data_pending
a_coloured_tile = refl

-- a second tile that asks for nothing is whole at its mask
a_tile_of_its_mask_alone : byte_by_byte (data_pending bgr233 (row 33) Hextile) [] (2 ∷ 16 ∷ 0 ∷ 2 ∷ 48 ∷ [])
    ≡ 1 ∷ 0 ∷ 0 ∷ 1 ∷ 0 ∷ []
unfolding data_pending
a_tile_of_its_mask_alone = refl

-- of a raw tile neither the mask nor a whole pixel is pending
a_raw_tile : byte_by_byte (data_pending rgb565 (row 2) Hextile) [] (1 ∷ 16 ∷ 32 ∷ 48 ∷ 64 ∷ []) ≡ 0 ∷ 1 ∷ 0 ∷ 1 ∷ 0 ∷ []
unfolding data_pending
a_raw_tile = refl

raw_pixels : byte_by_byte (data_pending rgb565 (row 2) Raw) [] (1 ∷ 2 ∷ 3 ∷ 4 ∷ []) ≡ 1 ∷ 0 ∷ 1 ∷ 0 ∷ []
unfolding data_pending
raw_pixels = refl

a_source : byte_by_byte (data_pending bgr233 (row 2) CopyRect) [] (0 ∷ 1 ∷ 0 ∷ 2 ∷ []) ≡ 1 ∷ 2 ∷ 3 ∷ 0 ∷ []
unfolding data_pending
a_source = refl

a_background_and_a_subrectangle : byte_by_byte (data_pending bgr233 (row 2) Rre) [] (0 ∷ 0 ∷ 0 ∷ 1 ∷ 16 ∷ 32 ∷ 0 ∷ 0 ∷ 0
    ∷ 0 ∷ 0 ∷ 1 ∷ 0 ∷ 1 ∷ []) ≡ 1 ∷ 2 ∷ 3 ∷ 4 ∷ 0 ∷ 1 ∷ 2 ∷ 3 ∷ 4 ∷ 5 ∷ 6 ∷ 7 ∷ 8 ∷ 0 ∷ []
unfolding data_pending
a_background_and_a_subrectangle = refl

inside : UpdatePoint
inside = record { width = 4; height = 1; form = rgb565; left = 1 }

-- a head, and a pixel and a half after it
a_rectangle : byte_by_byte (update_pending inside) [] (0 ∷ 0 ∷ 0 ∷ 0 ∷ 0 ∷ 2 ∷ 0 ∷ 1 ∷ 0 ∷ 0 ∷ 0 ∷ 0 ∷ 7 ∷ 56 ∷ 2 ∷ [])
    ≡ 1 ∷ 2 ∷ 3 ∷ 4 ∷ 5 ∷ 6 ∷ 7 ∷ 8 ∷ 9 ∷ 10 ∷ 11 ∷ 0 ∷ 1 ∷ 0 ∷ 1 ∷ []
unfolding update_pending data_pending inside
a_rectangle = refl

between : UpdatePoint
between = record { width = 4; height = 1; form = rgb565; left = 0 }

an_updates_head : byte_by_byte (update_pending between) [] (0 ∷ 0 ∷ 0 ∷ 1 ∷ []) ≡ 1 ∷ 2 ∷ 3 ∷ 0 ∷ []
unfolding update_pending between
an_updates_head = refl
