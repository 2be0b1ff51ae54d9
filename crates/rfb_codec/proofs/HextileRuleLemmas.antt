-- A tile by the rule of Hextile: there is one at most, how long it is, and when it is raw.
use Rattle.std.proofs.Common.{◌≡◌, ◌≢◌, ℕ, ◌+◌, ◌*◌, ◌/◌, ◌<◌, ◌≤◌}
use Rattle.std.proofs.Common.{◌⊎◌, inl, inr, List, [], ◌∷◌, ◌++◌, length, map}
use Rattle.std.proofs.Common.{min, slice_index, Option, Some, None, if◌then◌else◌, refl, sym, subst}
use Rattle.std.proofs.Common.{◌∙◌, ap, arith}
use Rattle.std.proofs.Math.Nat.{mul-le-mul_right}
use Rattle.std.specs.List.{flat_map}
use Rattle.std.proofs.lemmas.List.{length-map}
use Rattle.std.proofs.lemmas.Nat.{div_below}
use Rattle.std.proofs.lemmas.List.Folds.{flat_map-map}
use Rattle.rfb_pixel.specs.Format.{PixelFormat, size_of}
use Rattle.rfb_codec.specs.declared.subrect.Subrect.{Subrect}
use Rattle.rfb_codec.specs.declared.hextile.layout.TileLayout.{TileLayout}
use Rattle.rfb_codec.specs.declared.hextile.layout.TileLayout.TheVariants.{Raw, Plain, Colored}
use Rattle.rfb_codec.specs.declared.choice.palette.Palette.TheVariants.{One, Two}
use Rattle.rfb_codec.specs.Raw.{raw_length}
use Rattle.rfb_codec.specs.Choice.{IsPixelOf, places_of, IsBackground, AreRuleSubs}
use Rattle.rfb_codec.specs.Tile.{Tile, PlainTile, ColoredTile, rect_in}
use Rattle.rfb_codec.specs.HextileRule.{Held, named_in, IsOnePixel, IsTwoPixels, HasThird, IsManyPixels, IsDrawn}
use Rattle.rfb_codec.specs.HextileRule.{colour_length, parts_length, tile_length, IsRuleTile}
use Rattle.rfb_codec.specs.encoder.Background.{HasMore}
use Rattle.rfb_codec.specs.encoder.Cover.{IsGivenUp}
use Rattle.rfb_codec.specs.encoder.Palette.{HasPalette}
use Rattle.rfb_codec.specs.encoder.TileSpelling.{tile_of, mask_of, own_place, tile_bytes}
use Rattle.rfb_codec.specs.SentTile.{are_some, colour_bytes, place_bytes, counted_bytes, sent_as}
use Rattle.rfb_codec.proofs.PixelLemmas.{length-pixel_bytes}
use Rattle.rfb_codec.proofs.TileLengthLemmas.{length-spelled_plain, length-spelled_colored}
use Rattle.rfb_codec.proofs.PaletteLemmas.{two_counted}
use Rattle.rfb_codec.proofs.RuleCountLemmas.{same_background, same_subs, fewer, few_of, enough_subs, over_limit}

-- ---- pixels

-- of two pixels the more frequent is the background
pub one_background : (b : ℕ) (pixels : List ℕ) → 0 < length pixels → HasPalette (One b) pixels → IsBackground pixels b
one_background b pixels some each =
    let only : (other : ℕ) → IsPixelOf pixels other → b ≡ other = λ other is. sym (is.2 ∙ each is.0 is.1) in
    record {
      there = (0, some, sym (each 0 some));
      most = λ other is. let same = only other is in
          subst (λ o. places_of o pixels ≤ places_of b pixels) same (omega arith);
      least = λ other is tied. let same = only other is in omega (arith, same);
    }

-- of two the first
pub two_background : (b g : ℕ) (pixels : List ℕ) → HasPalette (Two b g) pixels → IsBackground pixels b
two_background b g pixels (has, other, both, more) = record {
  there = has;
  most = λ p there. elim (both there.0 there.1) [
    | inl e ↦ let same : p ≡ b = there.2 ∙ e in rw same (omega arith)
    | inr e ↦
        let same : p ≡ g = there.2 ∙ e in
        rw same (elim more [ inl less ↦ omega (arith, less) | inr tie ↦ omega (arith, tie.0) ])
  ];
  least = λ p there equal. elim (both there.0 there.1) [
    | inl e ↦ let same : p ≡ b = there.2 ∙ e in omega (arith, same)
    | inr e ↦
        let same : p ≡ g = there.2 ∙ e in
        let as_many : places_of g pixels ≡ places_of b pixels = rw same at equal in
        elim more [ inl less ↦ absurd (omega (arith, less, as_many)) | inr tie ↦ omega (arith, tie.1, same) ]
  ];
}

-- and the other is another
pub two_differ : (b g : ℕ) (pixels : List ℕ) → HasPalette (Two b g) pixels → g ≢ b
two_differ b g pixels (has, other, both, more) same =
    elim more [
      | inl less ↦
          let as_many : places_of g pixels ≡ places_of b pixels = rw same refl in
          absurd (omega (arith, less, as_many))
      | inr tie ↦ omega (arith, tie.1, same)
    ]

-- of two pixels at most half of the places need a subrectangle
half_subs : (w h b g : ℕ) (pixels : List ℕ) (subs : List Subrect) → length pixels ≡ h * w →
    HasPalette (Two b g) pixels → AreRuleSubs w h pixels b subs → 2 * length subs ≤ length pixels
half_subs w h b g pixels subs whole palette rule =
    let few = few_of w h pixels b subs rule.each whole in
    let apart = two_differ b g pixels palette in
    let both = two_counted b g pixels (λ same. apart (sym same)) palette.2 in
    elim palette.3 [
      | inl less ↦ omega (arith, few, both, less, whole)
      | inr tie ↦ omega (arith, few, both, tie.0, whole)
    ]

-- where all places have one of two pixels there is no third
no_third : (b g : ℕ) (pixels : List ℕ) →
    ((i : ℕ) → i < length pixels → (slice_index pixels i ≡ b) ⊎ (slice_index pixels i ≡ g)) → HasThird pixels → ⊥
no_third b g pixels both t =
    elim (each t.first t.has_first) [
      | inl f ↦ elim (each t.second t.has_second) [
        | inl s ↦ t.differ (f ∙ sym s)
        | inr s ↦ elim (each t.third t.has_third) [ inl u ↦ t.not_first (u ∙ sym f) | inr u ↦ t.not_second (u ∙ sym s) ]
      ]
      | inr f ↦ elim (each t.second t.has_second) [
        | inl s ↦ elim (each t.third t.has_third) [ inl u ↦ t.not_second (u ∙ sym s) | inr u ↦ t.not_first (u ∙ sym f) ]
        | inr s ↦ t.differ (f ∙ sym s)
      ]
    ]
  where
    each : (p : ℕ) → IsPixelOf pixels p → (p ≡ b) ⊎ (p ≡ g)
    each p there = elim (both there.0 there.1) [ inl e ↦ inl (there.2 ∙ e) | inr e ↦ inr (there.2 ∙ e) ]

-- nor a second where all have one
no_second : (b p q : ℕ) (pixels : List ℕ) → ((i : ℕ) → i < length pixels → slice_index pixels i ≡ b) →
    IsPixelOf pixels p → IsPixelOf pixels q → p ≢ q → ⊥
no_second b p q pixels all first second differ =
    differ ((first.2 ∙ all first.0 first.1) ∙ sym (second.2 ∙ all second.0 second.1))

-- ---- one tile

module _ (w h : ℕ) (pixels : List ℕ) (held : Held) where
  two_same : (t u : Tile) → IsTwoPixels w h pixels held t → IsTwoPixels w h pixels held u → t ≡ u
  two_same t u one two =
      let b : one.background ≡ two.background =
      same_background pixels one.background two.background one.chosen two.chosen in
      let g : one.foreground ≡ two.foreground =
      elim (two.both one.there.0 one.there.1) [
        | inl e ↦ absurd (one.differ ((one.there.2 ∙ e) ∙ sym b))
        | inr e ↦ one.there.2 ∙ e
      ] in
      let rule = subst (λ (p : ℕ). AreRuleSubs w h pixels p one.subs) b one.rule in
      let subs : one.subs ≡ two.subs = same_subs w h pixels two.background one.subs two.subs rule two.rule in
      one.tile_is ∙ ((λ i. PlainTile (named_in held.background (b i)) (named_in held.foreground (g i))
      (map rect_in (subs i))) ∙ sym two.tile_is)

  many_same : (t u : Tile) → IsManyPixels w h pixels held t → IsManyPixels w h pixels held u → t ≡ u
  many_same t u one two =
      let b : one.background ≡ two.background =
      same_background pixels one.background two.background one.chosen two.chosen in
      let rule = subst (λ (p : ℕ). AreRuleSubs w h pixels p one.subs) b one.rule in
      let subs : one.subs ≡ two.subs = same_subs w h pixels two.background one.subs two.subs rule two.rule in
      one.tile_is ∙ ((λ i. ColoredTile (named_in held.background (b i)) (subs i)) ∙ sym two.tile_is)

  one_same : (t u : Tile) → 0 < length pixels → IsOnePixel pixels held t → IsOnePixel pixels held u → t ≡ u
  one_same t u some one two =
      let b : one.background ≡ two.background = sym (one.all 0 some) ∙ two.all 0 some in
      one.tile_is ∙ ((λ i. PlainTile (named_in held.background (b i)) None []) ∙ sym two.tile_is)

  one_two : (t u : Tile) → IsOnePixel pixels held t → IsTwoPixels w h pixels held u → ⊥
  one_two t u one two =
      no_second one.background two.foreground two.background pixels one.all two.there two.chosen.there two.differ

  one_many : (t u : Tile) → IsOnePixel pixels held t → IsManyPixels w h pixels held u → ⊥
  one_many t u one many = no_second one.background many.more.first many.more.second pixels one.all many.more.has_first
      many.more.has_second many.more.differ

  two_many : (t u : Tile) → IsTwoPixels w h pixels held t → IsManyPixels w h pixels held u → ⊥
  two_many t u two many = no_third two.background two.foreground pixels two.both many.more

  pub drawn_same : (t u : Tile) → 0 < length pixels → IsDrawn w h pixels held t → IsDrawn w h pixels held u → t ≡ u
  drawn_same t u some (inl a) (inl b) = one_same t u some a b
  drawn_same t u some (inl a) (inr (inl b)) = absurd (one_two t u a b)
  drawn_same t u some (inl a) (inr (inr b)) = absurd (one_many t u a b)
  drawn_same t u some (inr (inl a)) (inl b) = absurd (one_two u t b a)
  drawn_same t u some (inr (inl a)) (inr (inl b)) = two_same t u a b
  drawn_same t u some (inr (inl a)) (inr (inr b)) = absurd (two_many t u a b)
  drawn_same t u some (inr (inr a)) (inl b) = absurd (one_many u t b a)
  drawn_same t u some (inr (inr a)) (inr (inl b)) = absurd (two_many u t b a)
  drawn_same t u some (inr (inr a)) (inr (inr b)) = many_same t u a b

  pub rule_same : (f : PixelFormat) (t u : Tile) → 0 < length pixels → IsRuleTile f w h pixels held t →
      IsRuleTile f w h pixels held u → t ≡ u
  rule_same f t u some (inl a) (inl b) = drawn_same t u some a.drawn b.drawn
  rule_same f t u some (inl a) (inr b) =
      let no = b.no_shorter t a.drawn in
      let less = a.shorter in
      absurd (omega (arith, no, less))
  rule_same f t u some (inr a) (inl b) =
      let no = a.no_shorter u b.drawn in
      let less = b.shorter in
      absurd (omega (arith, no, less))
  rule_same f t u some (inr a) (inr b) = a.tile_is ∙ sym b.tile_is

-- ---- its length

colour_is : (f : PixelFormat) (colour : Option ℕ) → colour_length f colour ≡ length (colour_bytes f colour)
colour_is f None = refl
colour_is f (Some colour) = sym (length-pixel_bytes f colour)

parts_are : (size : ℕ) (subs : List Subrect) →
    parts_length size subs ≡ (if are_some subs then 1 + length subs * size else 0)
parts_are size [] = refl
parts_are size (s ∷ subs) = refl

places_are : (subs : List Subrect) →
    parts_length 2 (map rect_in subs) ≡ (if are_some subs then 1 + length subs * 2 else 0)
places_are [] = refl
places_are (s ∷ subs) = let size = length-map subs rect_in in omega (arith, size)

pub tile_length_is : (f : PixelFormat) (layout : TileLayout) (pixels : List ℕ) (subs : List Subrect) →
    tile_length f (tile_of f layout pixels subs) ≡ length (tile_bytes f layout pixels subs)
tile_length_is f Raw pixels subs = omega arith
tile_length_is f (Plain background foreground) pixels subs =
    let all = length-spelled_plain f background foreground pixels subs in
    let first = colour_is f background in
    let second = colour_is f foreground in
    let list = places_are subs in
    omega (arith, all, first, second, list)
tile_length_is f (Colored background) pixels subs =
    let all = length-spelled_colored f background pixels subs in
    let first = colour_is f background in
    let list = parts_are (size_of f + 2) subs in
    omega (arith, all, first, list)

-- ---- its bytes

-- subrectangles of one pixel are sent as their places
places_sent : (subs : List Subrect) → counted_bytes own_place subs ≡ counted_bytes place_bytes (map rect_in subs)
places_sent [] = refl
places_sent (s ∷ subs) =
    let count : length (s ∷ subs) ≡ length (map rect_in (s ∷ subs)) = sym (length-map (s ∷ subs) rect_in) in
    let places : flat_map own_place (s ∷ subs) ≡ flat_map place_bytes (map rect_in (s ∷ subs)) =
    sym (flat_map-map place_bytes rect_in (s ∷ subs)) in
    λ i. count i ∷ places i

-- the bytes of a layout are those that its tile is sent as
pub sent_is : (f : PixelFormat) (layout : TileLayout) (pixels : List ℕ) (subs : List Subrect) →
    tile_bytes f layout pixels subs ≡ sent_as f (tile_of f layout pixels subs)
sent_is f Raw pixels subs = refl
sent_is f (Plain background foreground) pixels [] = refl
sent_is f (Plain background foreground) pixels (s ∷ subs) =
    ap (λ (places : List ℕ). mask_of (Plain background foreground) (s ∷ subs)
    ∷ (colour_bytes f background ++ (colour_bytes f foreground ++ places))) (places_sent (s ∷ subs))
sent_is f (Colored background) pixels subs = refl

-- ---- drawn tiles that are no shorter than raw

-- more subrectangles than that have at least the bytes of the pixels
long_parts : {A : Type 0} (size room : ℕ) (parts : List A) → 0 < size → room / size < length parts →
    1 + room ≤ parts_length size parts
long_parts size room [] some more = absurd (omega (arith, more))
long_parts size room (part ∷ parts) some more =
    let over = over_limit room size (room / size) (length (part ∷ parts)) some refl (omega (arith, more)) in
    omega (arith, over)

module _ (f : PixelFormat) (w h : ℕ) (pixels : List ℕ) (held : Held) (whole : length pixels ≡ h * w)
    (small : length pixels ≤ 256) where
  -- two pixels that would need too many subrectangles
  pub two_no_shorter : (b g limit : ℕ) (some : List Subrect) → HasPalette (Two b g) pixels →
      limit ≡ min 170 (raw_length f w h / 2) → IsGivenUp w h pixels b limit some →
      (drawn : Tile) → IsDrawn w h pixels held drawn → 1 + raw_length f w h ≤ tile_length f drawn
  two_no_shorter b g limit some palette is given drawn (inl one) =
      absurd (no_second one.background g b pixels one.all palette.1 palette.0 (two_differ b g pixels palette))
  two_no_shorter b g limit some palette is given drawn (inr (inl two)) =
      let same : two.background ≡ b =
      same_background pixels two.background b two.chosen (two_background b g pixels palette) in
      let rule = subst (λ (p : ℕ). AreRuleSubs w h pixels p two.subs) same two.rule in
      let more = fewer w h pixels b [] some two.subs given.x given.y given.column given.row given.each
      rule.each given.left rule.none in
      let few = half_subs w h b g pixels two.subs whole palette rule in
      let full = given.full in
      let size = length-map two.subs rect_in in
      let long = long_parts 2 (raw_length f w h) (map rect_in two.subs) (omega arith)
      (omega (arith, is, more, full, size, few, small)) in
      let length_is = ap (tile_length f) two.tile_is in
      omega (arith, long, length_is)
  two_no_shorter b g limit some palette is given drawn (inr (inr many)) =
      absurd (no_third b g pixels palette.2 many.more)

  -- as many as that, of six bytes or fewer each, fill the pixels' room
  few_by_size : size_of f ≤ 4 → raw_length f w h / (size_of f + 2) ≤ 170
  few_by_size four =
      let bytes : h * w * size_of f ≤ 256 * size_of f = mul-le-mul_right (size_of f) (omega (arith, small, whole)) in
      let less = div_below (raw_length f w h) (size_of f + 2) 171 (omega arith) (omega (arith, bytes, four)) in
      omega (arith, less)

  -- more, which need more subrectangles than that
  many_long : (limit : ℕ) → size_of f ≤ 4 → HasThird pixels →
      limit ≡ min 170 (raw_length f w h / (size_of f + 2)) →
      ((background : ℕ) (subs : List Subrect) → IsBackground pixels background →
      AreRuleSubs w h pixels background subs → limit + 1 ≤ length subs) →
      (drawn : Tile) → IsDrawn w h pixels held drawn → 1 + raw_length f w h ≤ tile_length f drawn
  many_long limit four third is more drawn (inl one) = absurd (no_second one.background third.first third.second pixels
      one.all third.has_first third.has_second third.differ)
  many_long limit four third is more drawn (inr (inl two)) =
      absurd (no_third two.background two.foreground pixels two.both third)
  many_long limit four third is more drawn (inr (inr many)) =
      let over = more many.background many.subs many.chosen many.rule in
      let long = long_parts (size_of f + 2) (raw_length f w h) many.subs (omega arith)
      (omega (arith, is, over, few_by_size four)) in
      let length_is = ap (tile_length f) many.tile_is in
      omega (arith, long, length_is)

  pub many_pixels_long : (limit : ℕ) → size_of f ≤ 4 → HasThird pixels →
      limit ≡ min 170 (raw_length f w h / (size_of f + 2)) →
      HasMore (limit + 1) pixels →
      (drawn : Tile) → IsDrawn w h pixels held drawn → 1 + raw_length f w h ≤ tile_length f drawn
  many_pixels_long limit four third is more = many_long limit four third is
      (λ background subs chosen rule. enough_subs w h pixels background subs (limit + 1) whole rule more)

  pub many_subs_long : (limit background : ℕ) (some : List Subrect) → size_of f ≤ 4 → HasThird pixels →
      limit ≡ min 170 (raw_length f w h / (size_of f + 2)) → IsBackground pixels background →
      IsGivenUp w h pixels background limit some → (drawn : Tile) → IsDrawn w h pixels held drawn →
      1 + raw_length f w h ≤ tile_length f drawn
  many_subs_long limit background some four third is chosen given =
      many_long limit four third is
      (λ other subs plain rule.
      let same : other ≡ background = same_background pixels other background plain chosen in
      let here = subst (λ (p : ℕ). AreRuleSubs w h pixels p subs) same rule in
      let more = fewer w h pixels background [] some subs given.x given.y given.column given.row given.each
      here.each given.left here.none in
      let full = given.full in
      omega (arith, more, full))

-- a tile that is drawn, and no shorter than raw: neither is any other
pub raw_where_drawn_is_long : (f : PixelFormat) (w h : ℕ) (pixels : List ℕ) (held : Held) (tile : Tile) →
    0 < length pixels → IsDrawn w h pixels held tile → 1 + raw_length f w h ≤ tile_length f tile →
    (drawn : Tile) → IsDrawn w h pixels held drawn → 1 + raw_length f w h ≤ tile_length f drawn
raw_where_drawn_is_long f w h pixels held tile some is long drawn other =
    let same = ap (tile_length f) (drawn_same w h pixels held tile drawn some is other) in
    omega (arith, same, long)

-- a tile has no more places than that
pub few_places : (w h : ℕ) (pixels : List ℕ) → w ≤ 16 → h ≤ 16 → length pixels ≡ h * w → length pixels ≤ 256
few_places w h pixels wide high whole =
    let rows : h * w ≤ 16 * w = mul-le-mul_right w high in
    omega (arith, rows, whole, wide)
