-- A tile that is drawn over a background, or Raw, is sent as this project's rules have it.
use Rattle.std.proofs.Common.{◌≡◌, ℕ, ◌+◌, ◌*◌, ◌/◌, ◌%◌, ◌<◌, ◌≤◌, ◌⊎◌, inl, inr, List, [], ◌∷◌, ◌++◌, true, false}
use Rattle.std.proofs.Common.{Option, Some, None, length, slice_index, refl, sym, subst, ◌∙◌, ap, arith}
use Rattle.std.proofs.lemmas.Bool.{cases_lt}
use Rattle.std.proofs.lemmas.List.{get_or_past}
use Rattle.std.proofs.lemmas.Nat.{div-add-mod', mod_below, div_below, pow_pos}
use Rattle.rfb_pixel.specs.Format.{PixelFormat, size_of}
use Rattle.rfb_picture.specs.Grid.{Grid}
use Rattle.rfb_picture.proofs.GridLaws.{place_below, some_in_row}
use Rattle.rfb_codec.specs.declared.subrect.Subrect.{Subrect}
use Rattle.rfb_codec.specs.declared.hextile.layout.TileLayout.TheVariants.{Raw, Plain, Colored}
use Rattle.rfb_codec.specs.declared.hextile.encode.carried.Carried.{Carried}
use Rattle.rfb_codec.specs.Pixels.{IsPixel, HasPixels}
use Rattle.rfb_codec.specs.Rre.{pixel_at}
use Rattle.rfb_codec.specs.Choice.{IsPixelOf}
use Rattle.rfb_codec.specs.encoder.Cover.{ArePartsOf, IsCover}
use Rattle.rfb_codec.specs.Tile.{background_of, foreground_of}
use Rattle.rfb_codec.specs.encoder.TileSpelling.{tile_of, AreTileParts}
use Rattle.rfb_codec.specs.SentTile.{are_some}
use Rattle.rfb_codec.specs.Hextile.{is_raw_tile, is_raw_or_colored, uses_foreground}
use Rattle.rfb_codec.specs.encoder.Carried.{IsNamed, Sends}
use Rattle.rfb_codec.proofs.TileSpellingLemmas.{IsTileSize, IsColourOf, spells_raw, spells_plain, spells_colored_tile}
use Rattle.rfb_codec.proofs.TileSpellingLemmas.{fits_tile}
use Rattle.rfb_codec.proofs.CarriedLemmas.{carried_kept, carried_on, in_force, unbroken}
use Rattle.rfb_codec.proofs.HextileEncodeLemmas.{AreAll, shows_raw, shows_plain, shows_colored}

-- ---- subrectangles of a cover

-- each pixel is one of the format's
abbrev pub ArePixels : PixelFormat → List ℕ → Type 0
ArePixels f pixels = (i : ℕ) → IsPixel f (slice_index pixels i)

pub pixel_small : (f : PixelFormat) (pixels : List ℕ) (pixel : ℕ) → ArePixels f pixels →
    IsPixelOf pixels pixel → IsPixel f pixel
pixel_small f pixels pixel small (i, within, is) = subst (IsPixel f) (sym is) (small i)

pub tile_parts : (f : PixelFormat) (w h : ℕ) (pixels : List ℕ) (background : ℕ) (subs : List Subrect) →
    ArePixels f pixels → ArePartsOf w h pixels background subs → AreTileParts f w h subs
tile_parts f w h pixels background [] small parts = tt
tile_parts f w h pixels background (s ∷ subs) small parts = (
  record {
    pixel = pixel_small f pixels s.pixel small parts.0.pixel;
    inside = parts.0.inside;
    wide = parts.0.wide;
    high = parts.0.high;
  },
  tile_parts f w h pixels background subs small parts.1,
)

-- those of a smaller tile are some of a whole one
pub small_parts : (f : PixelFormat) (w h : ℕ) (subs : List Subrect) → w ≤ 16 → h ≤ 16 →
    AreTileParts f w h subs → AreTileParts f 16 16 subs
small_parts f w h [] narrow low parts = tt
small_parts f w h (s ∷ subs) narrow low parts = (
  record {
    pixel = parts.0.pixel;
    inside = (omega (arith, parts.0.inside.0), omega (arith, parts.0.inside.1));
    wide = parts.0.wide;
    high = parts.0.high;
  },
  small_parts f w h subs narrow low parts.1,
)

-- of two pixels each subrectangle has the one that is not the background
all_foreground : (w h : ℕ) (pixels : List ℕ) (background foreground : ℕ) (subs : List Subrect) →
    ((i : ℕ) → i < length pixels → (slice_index pixels i ≡ background) ⊎ (slice_index pixels i ≡ foreground)) →
    ArePartsOf w h pixels background subs → AreAll foreground subs
all_foreground w h pixels background foreground [] two parts = tt
all_foreground w h pixels background foreground (s ∷ subs) two parts =
    let first : s.pixel ≡ foreground = elim (two parts.0.pixel.0 parts.0.pixel.1) [
      | inl b ↦ absurd (parts.0.other (parts.0.pixel.2 ∙ b))
      | inr g ↦ parts.0.pixel.2 ∙ g
    ] in
    (first, all_foreground w h pixels background foreground subs two parts.1)

-- a colour that is named is the one that is needed
named_small : (f : PixelFormat) (specified held : Option ℕ) (value : ℕ) → IsNamed specified held value →
    IsPixel f value → IsColourOf f specified
named_small f None held value named small = tt
named_small f (Some v) held value named small = subst (IsPixel f) (sym named) small

-- ---- the four kinds

-- Raw, which leaves nothing
pub sends_raw : (f : PixelFormat) (w h : ℕ) (pixels : List ℕ) (subs : List Subrect) (carried : Carried) → length pixels
    ≡ h * w → ArePixels f pixels → Sends f w h Raw pixels subs carried (record { background = None; foreground = None })
sends_raw f w h pixels subs carried size small = λ before remembers. record {
  spelled = spells_raw f w h before pixels subs size;
  fits = tt;
  keeps = record { background = λ raw. cc; foreground = λ uses. cc };
  shown = λ x y p q. shows_raw f w h (before ++ tile_of f Raw pixels subs ∷ []) pixels subs size small x y p q;
  left = record { background = tt; foreground = tt };
}

-- one pixel, which is the background; the foreground stays what it was
pub sends_one : (f : PixelFormat) (w h : ℕ) (pixels : List ℕ) (subs : List Subrect)
    (carried : Carried) (background : ℕ) (specified : Option ℕ) → subs ≡ [] → length pixels ≡ h * w → IsTileSize w h →
    0 < length pixels → ArePixels f pixels → ((i : ℕ) → i < length pixels → slice_index pixels i ≡ background) →
    IsNamed specified carried.background background → Sends f w h (Plain specified None) pixels subs carried
    (record { background = Some background; foreground = carried.foreground })
sends_one f w h pixels subs carried background specified none size tile some small one named = λ before remembers.
    let t = tile_of f (Plain specified None) pixels subs in
    let plain : IsPixel f background = subst (IsPixel f) (one 0 some) (small 0) in
    let force =
    in_force background_of is_raw_tile before specified carried.background background named remembers.background in
    let unused : are_some subs ≡ true → ⊥ = rw none (λ e. cc) in
    let parts : AreTileParts f w h subs = rw none tt in
    record {
      spelled = spells_plain f w h before specified None pixels subs background tile parts
          (named_small f specified carried.background background named plain) tt force (λ uses. absurd (unused uses));
      fits = fits_tile f w h (Plain specified None) pixels subs parts;
      keeps = record {
        background = λ raw names. unbroken background_of is_raw_tile before specified carried.background background
            named remembers.background names;
        foreground = λ uses names. let idle : uses_foreground t ≡ false = rw none refl in cc;
      };
      shown = λ x y p q.
          let below = place_below w h x y p q in
          shows_plain f w before specified None pixels subs background force (λ uses. absurd (unused uses)) x y
          ∙ ap (λ (all : List Subrect). pixel_at background all x y) none
          ∙ sym (one (y * w + x) (omega (arith, size, below)));
      left = record {
        background = carried_on background_of is_raw_tile before t specified carried.background background refl
            named refl remembers.background;
        foreground =
            carried_kept foreground_of is_raw_or_colored before t carried.foreground refl refl remembers.foreground;
      };
    }

-- two pixels; the subrectangles have the foreground
pub sends_two : (f : PixelFormat) (w h : ℕ) (pixels : List ℕ)
    (subs : List Subrect) (carried : Carried) (background foreground : ℕ) (specified named_too : Option ℕ) →
    length pixels ≡ h * w → IsTileSize w h → ArePixels f pixels → IsPixel f background → IsPixel f foreground →
    ((i : ℕ) → i < length pixels → (slice_index pixels i ≡ background) ⊎ (slice_index pixels i ≡ foreground)) →
    IsCover w h pixels background subs → IsNamed specified carried.background background →
    IsNamed named_too carried.foreground foreground → Sends f w h (Plain specified named_too) pixels subs carried
    (record { background = Some background; foreground = Some foreground })
sends_two f w h pixels subs carried background foreground specified named_too size tile small plain other two cover
    named second = λ before remembers.
    let t = tile_of f (Plain specified named_too) pixels subs in
    let force =
    in_force background_of is_raw_tile before specified carried.background background named remembers.background in
    let force_too = in_force foreground_of is_raw_or_colored before named_too carried.foreground foreground
    second remembers.foreground in
    let parts = tile_parts f w h pixels background subs small cover.parts in
    record {
      spelled = spells_plain f w h before specified named_too
          pixels subs background tile parts (named_small f specified carried.background background named plain)
          (named_small f named_too carried.foreground foreground second other) force (λ uses. (foreground, force_too));
      fits = fits_tile f w h (Plain specified named_too) pixels subs parts;
      keeps = record {
        background = λ raw names. unbroken background_of is_raw_tile before specified carried.background background
            named remembers.background names;
        foreground = λ uses names. unbroken foreground_of is_raw_or_colored before named_too carried.foreground
            foreground second remembers.foreground names;
      };
      shown = λ x y p q. shows_plain f w before specified named_too pixels subs background force (λ uses. (
        foreground,
        force_too,
        all_foreground w h pixels background foreground subs two cover.parts,
      )) x y ∙ cover.shows x y p q;
      left = record {
        background = carried_on background_of is_raw_tile before t specified carried.background background refl
            named refl remembers.background;
        foreground = carried_on foreground_of is_raw_or_colored before t named_too carried.foreground foreground refl
            second refl remembers.foreground;
      };
    }

-- more pixels; each subrectangle has its own, and no foreground is left
pub sends_more : (f : PixelFormat) (w h : ℕ) (pixels : List ℕ) (subs : List Subrect) (carried : Carried)
    (background : ℕ) (specified : Option ℕ) → length pixels ≡ h * w → IsTileSize w h → ArePixels f pixels →
    IsPixel f background → IsCover w h pixels background subs → IsNamed specified carried.background background →
    Sends f w h (Colored specified) pixels subs carried (record { background = Some background; foreground = None })
sends_more f w h pixels subs carried background specified size tile small plain cover named = λ before remembers.
    let t = tile_of f (Colored specified) pixels subs in
    let force =
    in_force background_of is_raw_tile before specified carried.background background named remembers.background in
    let parts = tile_parts f w h pixels background subs small cover.parts in
    record {
      spelled = spells_colored_tile f w h before specified pixels subs background tile parts
          (named_small f specified carried.background background named plain) force;
      fits = fits_tile f w h (Colored specified) pixels subs parts;
      keeps = record {
        background = λ raw names. unbroken background_of is_raw_tile before specified carried.background background
            named remembers.background names;
        foreground = λ uses. cc;
      };
      shown = λ x y p q. shows_colored f w before specified pixels subs background force x y ∙ cover.shows x y p q;
      left = record {
        background = carried_on background_of is_raw_tile before t specified carried.background background refl
            named refl remembers.background;
        foreground = tt;
      };
    }

-- ---- pixels of a tile

-- the pixels of a tile are those of its block
pub tile_small : (f : PixelFormat) (block : Grid ℕ) (w h left top : ℕ) (pixels : List ℕ) →
    length pixels ≡ h * w → HasPixels f block → ((x y : ℕ) → x < w → y < h → slice_index pixels (y * w + x)
    ≡ slice_index block.places ((top + y) * block.width + (left + x))) → ArePixels f pixels
tile_small f block w h left top pixels size small cut i = elim (cases_lt i (h * w)) [
  | inl within ↦
      let some = some_in_row i h w within in
      let there = cut (i % w) (i / w) (mod_below i w some) (div_below i w h some within) in
      let is : slice_index pixels i ≡ slice_index block.places ((top + i / w) * block.width + (left + i % w)) =
      rw (div-add-mod' i w) at there in
      subst (IsPixel f) (sym is) (small ((top + i / w) * block.width + (left + i % w)))
  | inr beyond ↦
      let none : slice_index pixels i ≡ 0 = get_or_past pixels i 0 (omega (arith, size)) in
      subst (IsPixel f) (sym none) (pow_pos (8 * size_of f))
]
