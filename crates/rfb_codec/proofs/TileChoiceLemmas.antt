-- The rule of Hextile has one choice for every block: a tile for each part of it.
use Rattle.std.proofs.Common.{◌≡◌, ◌≢◌, ℕ, zero, suc, ◌+◌, ◌*◌, ◌/◌, ◌%◌, ◌<◌, ◌≤◌, ◌⊎◌, List, [], ◌∷◌, length, map}
use Rattle.std.proofs.Common.{get_or, slice_index, None, arith, refl, sym, subst, ◌∙◌, inl, inr}
use Rattle.std.specs.List.{flat_map}
use Rattle.std.proofs.lemmas.Bool.{cases_lt, cases_eq}
use Rattle.std.proofs.lemmas.Nat.{div-mul-add, mod-mul-add}
use Rattle.rfb_pixel.specs.Format.{PixelFormat, pixel_bytes}
use Rattle.rfb_picture.specs.declared.rect.Rect.{Rect}
use Rattle.rfb_picture.specs.Grid.{Grid}
use Rattle.rfb_picture.proofs.GridLaws.{place_below}
use Rattle.rfb_codec.specs.Raw.{raw_length}
use Rattle.rfb_codec.specs.Choice.{IsPixelOf, IsBackground}
use Rattle.rfb_codec.specs.Tile.{Tile, RawTile, PlainTile, ColoredTile, rect_in}
use Rattle.rfb_codec.specs.Hextile.{tile_count, tile_part}
use Rattle.rfb_codec.specs.HextileRule.{Held, named_in, left_by, IsDrawn, IsRuleTile, HasPixelsOf, AreRuleTiles}
use Rattle.rfb_codec.specs.HextileRule.{tile_length}
use Rattle.rfb_codec.proofs.ChoiceLemmas.{Decided, first_hit, some_background, some_subs}
use Rattle.rfb_codec.proofs.HextileRuleLemmas.{raw_where_drawn_is_long}
use Rattle.rfb_codec.proofs.HextileTilesLemmas.{tile_some, one_tile}

-- ---- the pixels of a tile

-- the first n values
abbrev made : (ℕ → ℕ) → ℕ → List ℕ
made f zero = []
made f (suc n) = f 0 ∷ made (λ i. f (suc i)) n

length-made : (f : ℕ → ℕ) (n : ℕ) → length (made f n) ≡ n
length-made f zero = refl
length-made f (suc n) = let more = length-made (λ i. f (suc i)) n in omega (arith, more)

get_or-made : (f : ℕ → ℕ) (n i : ℕ) → i < n → get_or (made f n) i 0 ≡ f i
get_or-made f zero i l = absurd (omega (arith, l))
get_or-made f (suc n) zero l = refl
get_or-made f (suc n) (suc i) l = get_or-made (λ k. f (suc k)) n i (omega (arith, l))

some_pixels : (block : Grid ℕ) (tile : Rect) →
    (pixels : List ℕ) × (length pixels ≡ tile.h * tile.w) × HasPixelsOf block tile pixels
some_pixels block tile =
    let at : ℕ → ℕ = λ i. slice_index block.places ((tile.y + i / tile.w) * block.width + (tile.x + i % tile.w)) in (
      made at (tile.h * tile.w),
      length-made at (tile.h * tile.w),
      λ x y p q.
          let here = get_or-made at (tile.h * tile.w) (y * tile.w + x) (place_below tile.w tile.h x y p q) in
          rw (div-mul-add y tile.w x p, mod-mul-add y tile.w x p) at here,
    )

-- ---- one tile

decide_other : (a b : ℕ) → Decided (a ≢ b)
decide_other a b = elim (cases_eq a b) [ inl same ↦ inr (λ other. other same) | inr other ↦ inl other ]

decide_neither : (a b c : ℕ) → Decided ((a ≢ b) × (a ≢ c))
decide_neither a b c =
    elim (cases_eq a b) [
      | inl same ↦ inr (λ other. other.0 same)
      | inr first ↦ elim (cases_eq a c) [ inl same ↦ inr (λ other. other.1 same) | inr second ↦ inl (first, second) ]
    ]

module _ (w h : ℕ) (pixels : List ℕ) (held : Held) (whole : length pixels ≡ h * w) (some : 0 < length pixels) where
  -- two pixels are there and no third; the first is the background
  drawn_over : (b p q : ℕ) → IsBackground pixels b → b ≡ p → IsPixelOf pixels q → q ≢ p →
      ((i : ℕ) → i < length pixels → (slice_index pixels i ≡ p) ⊎ (slice_index pixels i ≡ q)) →
      (tile : Tile) × IsDrawn w h pixels held tile
  drawn_over b p q chosen same there differ both =
      let (subs, rule) = some_subs w h pixels b whole chosen.there in (
        PlainTile (named_in held.background b) (named_in held.foreground q) (map rect_in subs),
        inr (inl (record {
          background = b;
          foreground = q;
          subs = subs;
          chosen = chosen;
          there = there;
          differ = λ e. differ (e ∙ same);
          both = λ i l. elim (both i l) [ inl e ↦ inl (e ∙ sym same) | inr e ↦ inr e ];
          rule = rule;
          tile_is = refl;
        })),
      )

  -- two pixels are there, and no third
  drawn_of_two : (p q : ℕ) → IsPixelOf pixels p → IsPixelOf pixels q → q ≢ p →
      ((i : ℕ) → i < length pixels → (slice_index pixels i ≡ p) ⊎ (slice_index pixels i ≡ q)) →
      (tile : Tile) × IsDrawn w h pixels held tile
  drawn_of_two p q there there_too differ both =
      let (b, chosen) = some_background pixels some in
      elim (both chosen.there.0 chosen.there.1) [
        | inl is ↦ drawn_over b p q chosen (chosen.there.2 ∙ is) there_too differ both
        | inr is ↦
            drawn_over b q p chosen (chosen.there.2 ∙ is) there (λ e. differ (sym e))
            (λ i l. elim (both i l) [ inl e ↦ inr e | inr e ↦ inl e ])
      ]

  some_drawn : (tile : Tile) × IsDrawn w h pixels held tile
  some_drawn =
      let p = slice_index pixels 0 in
      elim (first_hit (λ i. slice_index pixels i ≢ p) (λ i. decide_other (slice_index pixels i) p) (length pixels)) [
        | inl none ↦ (
          PlainTile (named_in held.background p) None [],
          inl (record {
            background = p;
            all = λ i l.
                elim (cases_eq (slice_index pixels i) p) [ inl same ↦ same | inr other ↦ absurd (none i l other) ];
            tile_is = refl;
          }),
        )
        | inr second ↦
            let q = slice_index pixels second.0 in
            elim (first_hit (λ i. (slice_index pixels i ≢ p) × (slice_index pixels i ≢ q))
            (λ i. decide_neither (slice_index pixels i) p q) (length pixels)) [
              | inl none ↦
                  drawn_of_two p q (0, some, refl) (second.0, second.1, refl) second.2
                  (λ i l. elim (cases_eq (slice_index pixels i) p) [
                    | inl same ↦ inl same
                    | inr other ↦ elim (cases_eq (slice_index pixels i) q) [
                      | inl same ↦ inr same
                      | inr neither ↦ absurd (none i l (other, neither))
                    ]
                  ])
              | inr third ↦
                  let (b, chosen) = some_background pixels some in
                  let (subs, rule) = some_subs w h pixels b whole chosen.there in (
                    ColoredTile (named_in held.background b) subs,
                    inr (inr (record {
                      background = b;
                      subs = subs;
                      chosen = chosen;
                      more = record {
                        first = p;
                        second = q;
                        third = slice_index pixels third.0;
                        has_first = (0, some, refl);
                        has_second = (second.0, second.1, refl);
                        has_third = (third.0, third.1, refl);
                        differ = λ e. second.2 (sym e);
                        not_first = third.2.0;
                        not_second = third.2.1;
                      };
                      rule = rule;
                      tile_is = refl;
                    })),
                  )
            ]
      ]

  some_tile : (f : PixelFormat) → (tile : Tile) × IsRuleTile f w h pixels held tile
  some_tile f =
      let (drawn, is) = some_drawn in
      elim (cases_lt (tile_length f drawn) (1 + raw_length f w h)) [
        | inl less ↦ (drawn, inl (record { drawn = is; shorter = less }))
        | inr long ↦ (
          RawTile (flat_map (pixel_bytes f) pixels),
          inr (record { no_shorter = raw_where_drawn_is_long f w h pixels held drawn some is long; tile_is = refl }),
        )
      ]

-- ---- all tiles

module _ (f : PixelFormat) (block : Grid ℕ) where
  tiles_from : (count n : ℕ) (held : Held) → n + count ≤ tile_count block.width block.height →
      (tiles : List Tile) × (length tiles ≡ count) × AreRuleTiles f block n held tiles
  tiles_from zero n held within = ([], refl, tt)
  tiles_from (suc count) n held within =
      let part = tile_part block.width block.height n in
      let places = tile_some block.width block.height n (omega (arith, within)) in
      let corner = place_below part.w part.h 0 0 places.0 places.1 in
      let (pixels, size, value) = some_pixels block part in
      let (tile, is) = some_tile part.w part.h pixels held size (omega (arith, size, corner)) f in
      let (rest, number, others) = tiles_from count (n + 1) (left_by held tile) (omega (arith, within)) in (
        tile ∷ rest,
        omega (arith, number),
        (record { pixels = pixels; size = size; value = value; tile_is = is }, others),
      )

  pub some_tiles : (held : Held) →
      (tiles : List Tile) × (length tiles ≡ tile_count block.width block.height) × AreRuleTiles f block 0 held tiles
  some_tiles held = tiles_from (tile_count block.width block.height) 0 held (omega arith)

  pub same_tiles : (n : ℕ) (held : Held) (a b : List Tile) → n + length a ≤ tile_count block.width block.height →
      length a ≡ length b → AreRuleTiles f block n held a → AreRuleTiles f block n held b → a ≡ b
  same_tiles n held [] [] within as_many first second = refl
  same_tiles n held [] (u ∷ b) within as_many first second = absurd (omega (arith, as_many))
  same_tiles n held (t ∷ a) [] within as_many first second = absurd (omega (arith, as_many))
  same_tiles n held (t ∷ a) (u ∷ b) within as_many (here, first) (there, second) =
      let same = one_tile f block n held t u (omega (arith, within)) here there in
      let moved = subst (λ (v : Tile). AreRuleTiles f block (n + 1) (left_by held v) a) same first in
      let rest =
      same_tiles (n + 1) (left_by held u) a b (omega (arith, within)) (omega (arith, as_many)) moved second in
      λ i. same i ∷ rest i
