-- The reading of a tile of Hextile is what its bytes spell, in both directions, and its faults are those
-- of its mask and of subrectangles that leave it.
use Rattle.std.proofs.Common.{◌≡◌, ℕ, ◌+◌, ◌⊎◌, inl, inr, List, [], ◌∷◌, ◌++◌, Bool, true, false, Option, Some, None}
use Rattle.std.proofs.Common.{length, if◌then◌else◌, ◌&&◌, refl, sym, subst, ◌∙◌, ap, append-nil}
use Rattle.rfb_pixel.specs.Format.{PixelFormat, size_of}
use Rattle.rfb_picture.specs.declared.rect.Rect.{Rect}
use Rattle.rfb_wire.specs.Fields.{u8_at}
use Rattle.rfb_wire.specs.stream.Prefix.{Says, Reads, Same}
use Rattle.rfb_wire.specs.stream.Parts.{piece, done, judged, and_then, valued, checked, optional}
use Rattle.rfb_wire.specs.RectStream.{is_on_screen}
use Rattle.rfb_wire.proofs.stream_laws.PartLaws.{alone, piece_says, piece_reads, done_says, done_reads, judged_says}
use Rattle.rfb_wire.proofs.stream_laws.PartLaws.{judged_reads, then_says, then_reads, same_reads}
use Rattle.rfb_wire.proofs.stream_laws.RepeatLaws.{FaultIf, checked_says, checked_reads, optional_says, optional_reads}
use Rattle.rfb_wire.proofs.RectStreamLaws.{on_true, on_test}
use Rattle.rfb_codec.specs.declared.fault.PaintFault.{PaintFault}
use Rattle.rfb_codec.specs.declared.fault.PaintFault.TheVariants.{SubrectOutside}
use Rattle.rfb_codec.specs.Raw.{raw_length}
use Rattle.rfb_codec.specs.Tile.{is_raw, background_specified, foreground_specified, any_subrects, subrects_colored}
use Rattle.rfb_codec.specs.Tile.{Tile, RawTile, PlainTile, ColoredTile, mask_fault, AreInside, places_of, FitsTile}
use Rattle.rfb_codec.specs.Tile.{SpellsPlace, SpellsColored, SpellsAfter, SpellsTile, FaultsMask, LeavesTile}
use Rattle.rfb_codec.specs.Tile.{tile_colour, place_of, colored_of, counted, after_mask, tile_layout, are_inside}
use Rattle.rfb_codec.specs.Tile.{tile_fault, tile_after}
use Rattle.rfb_codec.proofs.TilePartLaws.{colored_reads, counted_reads, counted_says, never, pixel_reads, pixel_says}
use Rattle.rfb_codec.proofs.TilePartLaws.{place_reads}

-- ---- what comes after a mask

-- an optional part has no fault where none of it is refused
no_fault : (flag : Bool) (fault : PaintFault) (bytes : List ℕ) → FaultIf flag never fault bytes → ⊥
no_fault false fault bytes none = none
no_fault true fault bytes none = none

abbrev raw_parts : PixelFormat → ℕ → ℕ → Says Tile PaintFault
raw_parts f w h = then_says (piece_says (raw_length f w h)) (λ pixels. done_says (RawTile pixels))

abbrev plain_places : PixelFormat → ℕ → Option ℕ → Option ℕ → Says Tile PaintFault
plain_places f mask background foreground = then_says (counted_says (any_subrects mask) SpellsPlace)
    (λ places. done_says (PlainTile background foreground places))

abbrev plain_foreground : PixelFormat → ℕ → Option ℕ → Says Tile PaintFault
plain_foreground f mask background =
    then_says (optional_says (foreground_specified mask) (pixel_says f)) (plain_places f mask background)

abbrev plain_parts : PixelFormat → ℕ → Says Tile PaintFault
plain_parts f mask = then_says (optional_says (background_specified mask) (pixel_says f)) (plain_foreground f mask)

abbrev colored_subs : PixelFormat → ℕ → Option ℕ → Says Tile PaintFault
colored_subs f mask background =
    then_says (counted_says (any_subrects mask) (SpellsColored f)) (λ subs. done_says (ColoredTile background subs))

abbrev colored_parts : PixelFormat → ℕ → Says Tile PaintFault
colored_parts f mask = then_says (optional_says (background_specified mask) (pixel_says f)) (colored_subs f mask)

abbrev parts_after : PixelFormat → ℕ → ℕ → ℕ → Bool → Bool → Says Tile PaintFault
parts_after f w h mask true colored = raw_parts f w h
parts_after f w h mask false false = plain_parts f mask
parts_after f w h mask false true = colored_parts f mask

after_reads : (f : PixelFormat) (w h mask : ℕ) (raw colored : Bool) →
    Reads (after_mask f w h mask raw colored) (parts_after f w h mask raw colored)
after_reads f w h mask true colored =
    then_reads (piece (raw_length f w h)) (λ pixels. done (RawTile pixels)) (piece_says (raw_length f w h))
    (λ pixels. done_says (RawTile pixels)) (piece_reads (raw_length f w h)) (λ pixels. done_reads (RawTile pixels))
after_reads f w h mask false false =
    then_reads (optional (background_specified mask) (tile_colour f))
    (λ background. and_then (optional (foreground_specified mask) (tile_colour f)) (λ foreground. and_then
    (counted (any_subrects mask) (valued 2 place_of)) (λ places. done (PlainTile background foreground places))))
    (optional_says (background_specified mask) (pixel_says f)) (plain_foreground f mask)
    (optional_reads (background_specified mask) (tile_colour f) (pixel_says f) (pixel_reads f))
    (λ background. then_reads (optional (foreground_specified mask) (tile_colour f)) (λ foreground. and_then
    (counted (any_subrects mask) (valued 2 place_of)) (λ places. done (PlainTile background foreground places)))
    (optional_says (foreground_specified mask) (pixel_says f)) (plain_places f mask background)
    (optional_reads (foreground_specified mask) (tile_colour f) (pixel_says f) (pixel_reads f))
    (λ foreground. then_reads (counted (any_subrects mask) (valued 2 place_of))
    (λ places. done (PlainTile background foreground places)) (counted_says (any_subrects mask) SpellsPlace)
    (λ places. done_says (PlainTile background foreground places))
    (counted_reads (any_subrects mask) (valued 2 place_of) SpellsPlace place_reads)
    (λ places. done_reads (PlainTile background foreground places))))
after_reads f w h mask false true =
    then_reads (optional (background_specified mask) (tile_colour f))
    (λ background. and_then (counted (any_subrects mask) (valued (size_of f + 2) (colored_of f)))
    (λ subs. done (ColoredTile background subs)))
    (optional_says (background_specified mask) (pixel_says f)) (colored_subs f mask)
    (optional_reads (background_specified mask) (tile_colour f) (pixel_says f) (pixel_reads f))
    (λ background. then_reads (counted (any_subrects mask) (valued (size_of f + 2) (colored_of f)))
    (λ subs. done (ColoredTile background subs)) (counted_says (any_subrects mask) (SpellsColored f))
    (λ subs. done_says (ColoredTile background subs))
    (counted_reads (any_subrects mask) (valued (size_of f + 2) (colored_of f)) (SpellsColored f) (colored_reads f))
    (λ subs. done_reads (ColoredTile background subs)))

-- the parts after a mask of these two bits are what the table has
after_item : (f : PixelFormat) (w h mask : ℕ) (raw colored : Bool) →
    is_raw mask ≡ raw → subrects_colored mask ≡ colored → (tile : Tile) (bytes : List ℕ) →
    (parts_after f w h mask raw colored).item tile bytes → SpellsAfter f w h mask tile bytes
after_item f w h mask true colored r s tile bytes (pixels, front, back, whole, (is, size), (tile_is, none)) =
    let all : bytes ≡ front = alone bytes front back whole none in
    subst (λ (t : Tile). SpellsAfter f w h mask t bytes) (sym tile_is) (r, all ∙ is, ap length all ∙ size)
after_item f w h mask false false r s tile bytes (
  background,
  first,
  others,
  whole,
  first_is,
  (foreground, second, more, split, second_is, (places, third, back, rest, third_is, (tile_is, none))),
) =
    let all : more ≡ third = alone more third back rest none in
    subst (λ (t : Tile). SpellsAfter f w h mask t bytes) (sym tile_is) (
      r,
      s,
      record {
        first = first;
        second = second;
        third = third;
        whole = whole ∙ ap (λ (ys : List ℕ). first ++ ys) (split ∙ ap (λ (ys : List ℕ). second ++ ys) all);
        background_is = first_is;
        foreground_is = second_is;
        places_are = third_is;
      },
    )
after_item f w h mask false true r s tile bytes
    (background, first, others, whole, first_is, (subs, second, back, rest, second_is, (tile_is, none))) =
    let all : others ≡ second = alone others second back rest none in
    subst (λ (t : Tile). SpellsAfter f w h mask t bytes) (sym tile_is) (
      r,
      s,
      record {
        first = first;
        second = second;
        whole = whole ∙ ap (λ (ys : List ℕ). first ++ ys) all;
        background_is = first_is;
        subs_are = second_is;
      },
    )

after_item_back : (f : PixelFormat) (w h mask : ℕ) (raw colored : Bool) → is_raw mask ≡ raw →
    subrects_colored mask ≡ colored → (tile : Tile) (bytes : List ℕ) → SpellsAfter f w h mask tile bytes →
    (parts_after f w h mask raw colored).item tile bytes
after_item_back f w h mask true colored r s (RawTile pixels) bytes (is, all, size) =
    (pixels, bytes, [], sym (append-nil bytes), (all, size), (refl, refl))
after_item_back f w h mask false colored r s (RawTile pixels) bytes (is, all, size) = cc
after_item_back f w h mask true colored r s (PlainTile background foreground places) bytes (is, plain, spelled) = cc
after_item_back f w h mask false true r s (PlainTile background foreground places) bytes (is, plain, spelled) = cc
after_item_back f w h mask false false r s (PlainTile background foreground places) bytes (is, plain, p) = (
  background,
  p.first,
  p.second ++ p.third,
  p.whole,
  p.background_is,
  (
    foreground,
    p.second,
    p.third,
    refl,
    p.foreground_is,
    (places, p.third, [], sym (append-nil p.third), p.places_are, (refl, refl)),
  ),
)
after_item_back f w h mask true colored r s (ColoredTile background subs) bytes (is, col, spelled) = cc
after_item_back f w h mask false false r s (ColoredTile background subs) bytes (is, col, spelled) = cc
after_item_back f w h mask false true r s (ColoredTile background subs) bytes (is, col, p) = (
  background,
  p.first,
  p.second,
  p.whole,
  p.background_is,
  (subs, p.second, [], sym (append-nil p.second), p.subs_are, (refl, refl)),
)

after_fault : (f : PixelFormat) (w h mask : ℕ) (raw colored : Bool) (fault : PaintFault) (bytes : List ℕ) →
    (parts_after f w h mask raw colored).fault fault bytes → ⊥
after_fault f w h mask true colored fault bytes (inl none) = none
after_fault f w h mask true colored fault bytes (inr w') = w'.5
after_fault f w h mask false false fault bytes (inl bad) = no_fault (background_specified mask) fault bytes bad
after_fault f w h mask false false fault bytes (inr (b, first, others, whole, is, inl bad)) =
    no_fault (foreground_specified mask) fault others bad
after_fault f w h mask false false fault bytes
    (inr (b, first, others, whole, is, inr (g, second, more, split, second_is, inl none))) = none
after_fault f w h mask false false fault bytes
    (inr (b, first, others, whole, is, inr (g, second, more, split, second_is, inr w'))) = w'.5
after_fault f w h mask false true fault bytes (inl bad) = no_fault (background_specified mask) fault bytes bad
after_fault f w h mask false true fault bytes (inr (b, first, others, whole, is, inl none)) = none
after_fault f w h mask false true fault bytes (inr (b, first, others, whole, is, inr w')) = w'.5

-- ---- a tile's layout

abbrev pub layout_says : PixelFormat → ℕ → ℕ → List Tile → Says Tile PaintFault
layout_says f w h before = record { item = SpellsTile f w h before; fault = FaultsMask before }

abbrev mask_says : List Tile → Says ℕ PaintFault
mask_says before = checked_says 1 (λ bytes. mask_fault before (u8_at 0 bytes)) (u8_at 0)

abbrev layout_parts : PixelFormat → ℕ → ℕ → List Tile → Says Tile PaintFault
layout_parts f w h before =
    then_says (mask_says before) (λ mask. parts_after f w h mask (is_raw mask) (subrects_colored mask))

layout_same : (f : PixelFormat) (w h : ℕ) (before : List Tile) →
    Same (layout_parts f w h before) (layout_says f w h before)
layout_same f w h before = record { item = item; fault = fault; item_back = item_back; fault_back = fault_back }
  where
    item : (tile : Tile) (bytes : List ℕ) → (layout_parts f w h before).item tile bytes →
        SpellsTile f w h before tile bytes
    item tile bytes (mask, front, back, whole, (one, good, is), parts) =
        let after : SpellsAfter f w h mask tile back =
        after_item f w h mask (is_raw mask) (subrects_colored mask) refl refl tile back parts in
        record {
          head = front;
          rest = back;
          whole = whole;
          one = one;
          good = good;
          after = subst (λ (m : ℕ). SpellsAfter f w h m tile back) is after;
        }

    fault : (g : PaintFault) (bytes : List ℕ) → (layout_parts f w h before).fault g bytes → FaultsMask before g bytes
    fault g bytes (inl (one, bad)) = record { one = one; bad = bad }
    fault g bytes (inr (mask, front, back, whole, is, parts)) =
        absurd (after_fault f w h mask (is_raw mask) (subrects_colored mask) g back parts)

    item_back : (tile : Tile) (bytes : List ℕ) → SpellsTile f w h before tile bytes →
        (layout_parts f w h before).item tile bytes
    item_back tile bytes s =
        let mask = u8_at 0 s.head in (
          mask,
          s.head,
          s.rest,
          s.whole,
          (s.one, s.good, refl),
          after_item_back f w h mask (is_raw mask) (subrects_colored mask) refl refl tile s.rest s.after,
        )

    fault_back : (g : PaintFault) (bytes : List ℕ) → FaultsMask before g bytes →
        (layout_parts f w h before).fault g bytes
    fault_back g bytes s = inl (s.one, s.bad)

pub layout_reads : (f : PixelFormat) (w h : ℕ) (before : List Tile) → Reads (tile_layout f w h before)
    (layout_says f w h before)
layout_reads f w h before =
    same_reads (tile_layout f w h before) (layout_parts f w h before) (layout_says f w h before)
    (layout_same f w h before)
    (then_reads (checked 1 (λ bytes. mask_fault before (u8_at 0 bytes)) (u8_at 0))
    (λ mask. after_mask f w h mask (is_raw mask) (subrects_colored mask)) (mask_says before)
    (λ mask. parts_after f w h mask (is_raw mask) (subrects_colored mask))
    (checked_reads 1 (λ bytes. mask_fault before (u8_at 0 bytes)) (u8_at 0))
    (λ mask. after_reads f w h mask (is_raw mask) (subrects_colored mask)))

-- ---- a tile that is judged

both : (a b : Bool) → (a && b) ≡ true → (a ≡ true) × (b ≡ true)
both true true e = (refl, refl)
both true false e = cc
both false b e = cc

pub inside_true : (w h : ℕ) (places : List Rect) → are_inside w h places ≡ true → AreInside w h places
inside_true w h [] e = tt
inside_true w h (place ∷ places) e =
    let parts = both (is_on_screen w h place) (are_inside w h places) e in
    (on_true w h place parts.0, inside_true w h places parts.1)

pub inside_test : (w h : ℕ) (places : List Rect) → AreInside w h places → are_inside w h places ≡ true
inside_test w h [] inside = refl
inside_test w h (place ∷ places) inside = rw (on_test w h place inside.0, inside_test w h places inside.1) refl

-- what bytes say of a tile of that size after others
abbrev pub tile_says : PixelFormat → ℕ → ℕ → List Tile → Says Tile PaintFault
tile_says f w h before = record {
  item = λ tile bytes. SpellsTile f w h before tile bytes × FitsTile w h tile;
  fault = λ fault bytes. FaultsMask before fault bytes ⊎ ((fault ≡ SubrectOutside) × LeavesTile f w h before bytes);
}

abbrev judged_parts : PixelFormat → ℕ → ℕ → List Tile → Says Tile PaintFault
judged_parts f w h before = then_says (layout_says f w h before) (λ tile. judged_says (tile_fault w h tile) tile)

tile_same : (f : PixelFormat) (w h : ℕ) (before : List Tile) → Same (judged_parts f w h before) (tile_says f w h before)
tile_same f w h before = record { item = item; fault = fault; item_back = item_back; fault_back = fault_back }
  where
    fits : (tile : Tile) (b : Bool) → are_inside w h (places_of tile) ≡ b →
        ◌≡◌ {A = Option PaintFault} (if b then None else Some SubrectOutside) None → FitsTile w h tile
    fits tile true is e = inside_true w h (places_of tile) is
    fits tile false is e = cc

    leaves : (tile : Tile) (b : Bool) (g : PaintFault) → are_inside w h (places_of tile) ≡ b →
        ◌≡◌ {A = Option PaintFault} (if b then None else Some SubrectOutside) (Some g) →
        (g ≡ SubrectOutside) × (FitsTile w h tile → ⊥)
    leaves tile true g is e = cc
    leaves tile false g is e =
        let same : SubrectOutside ≡ g = cc in
        (sym same, λ inside. let yes' = inside_test w h (places_of tile) inside in cc)

    item : (tile : Tile) (bytes : List ℕ) → (judged_parts f w h before).item tile bytes →
        SpellsTile f w h before tile bytes × FitsTile w h tile
    item tile bytes (t, front, back, whole, spelled, (good, tile_is, none)) =
        let all : bytes ≡ front = alone bytes front back whole none in
        let fit : FitsTile w h t = fits t (are_inside w h (places_of t)) refl good in
        rw (tile_is, all) (spelled, fit)

    fault : (g : PaintFault) (bytes : List ℕ) → (judged_parts f w h before).fault g bytes →
        (tile_says f w h before).fault g bytes
    fault g bytes (inl bad) = inl bad
    fault g bytes (inr (t, front, back, whole, spelled, (bad, none))) =
        let all : bytes ≡ front = alone bytes front back whole none in
        let off = leaves t (are_inside w h (places_of t)) g refl bad in
        inr (off.0, record { tile = t; spelled = rw all spelled; leaves = off.1 })

    item_back : (tile : Tile) (bytes : List ℕ) → SpellsTile f w h before tile bytes × FitsTile w h tile →
        (judged_parts f w h before).item tile bytes
    item_back tile bytes (spelled, fit) =
        (tile, bytes, [], sym (append-nil bytes), spelled, (rw (inside_test w h (places_of tile) fit) refl, refl, refl))

    off : (tile : Tile) (b : Bool) → are_inside w h (places_of tile) ≡ b → (FitsTile w h tile → ⊥) → b ≡ false
    off tile true is never' = absurd (never' (inside_true w h (places_of tile) is))
    off tile false is never' = refl

    fault_back : (g : PaintFault) (bytes : List ℕ) → (tile_says f w h before).fault g bytes →
        (judged_parts f w h before).fault g bytes
    fault_back g bytes (inl bad) = inl bad
    fault_back g bytes (inr (is, s)) =
        let test : are_inside w h (places_of s.tile) ≡ false =
        off s.tile (are_inside w h (places_of s.tile)) refl s.leaves in
        inr (s.tile, bytes, [], sym (append-nil bytes), s.spelled, (rw (test, is) refl, refl))

-- the reading gives exactly the tiles and the faults that bytes say
pub tile_reads : (f : PixelFormat) (w h : ℕ) (before : List Tile) →
    Reads (tile_after f w h before) (tile_says f w h before)
tile_reads f w h before =
    same_reads (tile_after f w h before) (judged_parts f w h before) (tile_says f w h before) (tile_same f w h before)
    (then_reads (tile_layout f w h before) (λ tile. judged (tile_fault w h tile) tile)
    (layout_says f w h before) (λ tile. judged_says (tile_fault w h tile) tile) (layout_reads f w h before)
    (λ tile. judged_reads (tile_fault w h tile) tile))
