-- The tiles of a block one after another: what is spelled up to one of them, and all.
use Rattle.std.proofs.Common.{◌≡◌, ℕ, ◌+◌, ◌*◌, ◌/◌, ◌%◌, ◌<◌, inl, inr, List, [], ◌∷◌, ◌++◌, None, length, slice_index}
use Rattle.std.proofs.Common.{refl, sym, subst, ◌∙◌, ap, arith, length-append}
use Rattle.std.proofs.lemmas.Bool.{cases_lt}
use Rattle.std.specs.List.{flat_map}
use Rattle.std.proofs.lemmas.List.{get_or_default, flat_map_more}
use Rattle.rfb_pixel.specs.Format.{PixelFormat}
use Rattle.rfb_picture.specs.declared.rect.Rect.{Rect}
use Rattle.rfb_picture.specs.Grid.{Grid, IsGrid}
use Rattle.rfb_picture.proofs.GridLaws.{place_below}
use Rattle.rfb_wire.specs.stream.Prefix.{ListedAfter}
use Rattle.rfb_codec.specs.declared.subrect.Subrect.{Subrect}
use Rattle.rfb_codec.specs.declared.hextile.layout.TileLayout.{TileLayout}
use Rattle.rfb_codec.specs.declared.hextile.encode.carried.Carried.{Carried}
use Rattle.rfb_codec.specs.Tile.{Tile, tile_pixel, FitsTile, SpellsTile}
use Rattle.rfb_codec.specs.encoder.TileSpelling.{tile_of, tile_bytes}
use Rattle.rfb_codec.specs.SentTile.{sent_as}
use Rattle.rfb_codec.specs.Hextile.{across, tile_count, tile_width, tile_height, tile_at, SpellsNextTile}
use Rattle.rfb_codec.specs.Hextile.{pixel_of_tiles, CarriesColours}
use Rattle.rfb_codec.specs.HextileRule.{Held, nothing_held, left_by, IsRuleTile, IsRuleTileOf, HasPixelsOf}
use Rattle.rfb_codec.specs.HextileRule.{AreRuleTiles, tiles_length, StandsByRule}
use Rattle.rfb_codec.specs.encoder.Carried.{Remembers, Sends, held_of}
use Rattle.rfb_codec.proofs.CarriedLemmas.{carries_more}
use Rattle.rfb_codec.proofs.HextileRuleLemmas.{tile_length_is, sent_is}
use Rattle.rfb_codec.proofs.HextileTilesLemmas.{left_by_all, left_more, tiles_more, length_more}
use Rattle.rfb_codec.proofs.HextileEncodeLemmas.{listed_more, shown_before, shown_here, column_of, row_of_tiles}
use Rattle.rfb_codec.proofs.HextileEncodeLemmas.{in_tile, tile_below}

-- the first n tiles of a block, and what they leave
pub record SpelledUpTo (f : PixelFormat) (block : Grid ℕ) (n : ℕ) (carried : Carried) (bytes : List ℕ) : Type 0 where
  pub tiles : List Tile
  pub number : length tiles ≡ n
  pub spelled : ListedAfter (SpellsNextTile f block.width block.height) [] tiles bytes
  pub rule : CarriesColours [] tiles
  pub left : Remembers tiles carried
  pub rule_tiles : AreRuleTiles f block 0 nothing_held tiles
  pub held : left_by_all nothing_held tiles ≡ held_of carried
  pub length_is : tiles_length f tiles ≡ length bytes
  pub bytes_are : bytes ≡ flat_map (sent_as f) tiles
  pub shown : (x y : ℕ) → x < block.width → y < block.height → tile_at block.width x y < n →
      pixel_of_tiles f block.width tiles x y ≡ slice_index block.places (y * block.width + x)

-- none
pub spelled_none : (f : PixelFormat) (block : Grid ℕ) (carried : Carried) (bytes : List ℕ) → carried.background ≡ None →
    carried.foreground ≡ None → bytes ≡ [] → SpelledUpTo f block 0 carried bytes
spelled_none f block carried bytes background foreground none = record {
  tiles = [];
  number = refl;
  spelled = none;
  rule = tt;
  left = record { background = rw background tt; foreground = rw foreground tt };
  rule_tiles = tt;
  held = λ i. record { background = sym background i; foreground = sym foreground i };
  length_is = rw none refl;
  bytes_are = none;
  shown = λ x y p q below. absurd (omega arith);
}

-- one more
pub spelled_more : (f : PixelFormat) (block : Grid ℕ) (n : ℕ) (carried leaves : Carried) (bytes : List ℕ)
    (layout : TileLayout) (pixels : List ℕ) (subs : List Subrect) → SpelledUpTo f block n carried bytes →
    Sends f (tile_width block.width n) (tile_height block.width block.height n) layout pixels subs carried leaves →
    ((x y : ℕ) → x < tile_width block.width n → y < tile_height block.width block.height n →
    slice_index pixels (y * tile_width block.width n + x)
    ≡ slice_index block.places ((n / across block.width * 16 + y) * block.width + (n % across block.width * 16 + x))) →
    length pixels ≡ tile_height block.width block.height n * tile_width block.width n →
    IsRuleTile f (tile_width block.width n) (tile_height block.width block.height n) pixels (held_of carried)
    (tile_of f layout pixels subs) → held_of leaves ≡ left_by (held_of carried) (tile_of f layout pixels subs) →
    SpelledUpTo f block (n + 1) leaves (bytes ++ tile_bytes f layout pixels subs)
spelled_more f block n carried leaves bytes layout pixels subs old sends cut size rule leaves_is =
    let w = block.width in
    let t = tile_of f layout pixels subs in
    let more = tile_bytes f layout pixels subs in
    let sent = sends old.tiles old.left in
    let here : SpellsNextTile f w block.height old.tiles t more =
    subst (λ (k : ℕ). SpellsTile f (tile_width w k) (tile_height w block.height k) old.tiles t more
    × FitsTile (tile_width w k) (tile_height w block.height k) t) (sym old.number) (sent.spelled, sent.fits) in
    let tile : IsRuleTileOf f block n (held_of carried) t =
    record { pixels = pixels; size = size; value = cut; tile_is = rule } in
    let one : IsRuleTileOf f block (0 + length old.tiles) (left_by_all nothing_held old.tiles) t =
    subst (λ (h : Held). IsRuleTileOf f block (0 + length old.tiles) h t) (sym old.held)
    (let is : n ≡ 0 + length old.tiles = omega (arith, old.number) in
    subst (λ (k : ℕ). IsRuleTileOf f block k (held_of carried) t) is tile) in
    record {
      tiles = old.tiles ++ t ∷ [];
      number = length-append old.tiles (t ∷ []) ∙ ap (λ (k : ℕ). k + 1) old.number;
      spelled = listed_more (SpellsNextTile f w block.height) [] old.tiles t bytes more old.spelled here;
      rule = carries_more [] old.tiles t old.rule sent.keeps;
      left = sent.left;
      rule_tiles = tiles_more f block 0 nothing_held old.tiles t old.rule_tiles one;
      held = left_more nothing_held old.tiles t ∙ (ap (λ (h : Held). left_by h t) old.held ∙ sym leaves_is);
      length_is =
          let all = length_more f block old.tiles t in
          let last = tile_length_is f layout pixels subs in
          let both = length-append bytes more in
          let before = old.length_is in
          omega (arith, all, last, both, before);
      bytes_are =
          ap (λ (front : List ℕ). front ++ more) old.bytes_are
          ∙ ap (λ (last : List ℕ). flat_map (sent_as f) old.tiles ++ last) (sent_is f layout pixels subs)
          ∙ flat_map_more (sent_as f) [] old.tiles t;
      shown = λ x y p q below. elim (cases_lt (tile_at w x y) n) [
        | inl before ↦ shown_before f w old.tiles t x y (omega (arith, old.number)) ∙ old.shown x y p q before
        | inr from ↦
            let is : tile_at w x y ≡ n = omega arith in
            let column : n % across w ≡ x / 16 = ap (λ (k : ℕ). k % across w) (sym is) ∙ column_of w x y p in
            let row : n / across w ≡ y / 16 = ap (λ (k : ℕ). k / across w) (sym is) ∙ row_of_tiles w x y p in
            let across_it = in_tile (n % across w) w x column p in
            let down_it = in_tile (n / across w) block.height y row q in
            shown_here f w old.tiles t x y (is ∙ sym old.number)
            ∙ ap (λ (k : ℕ). tile_pixel f (tile_width w k) (old.tiles ++ t ∷ []) t (x % 16) (y % 16)) old.number
            ∙ sent.shown (x % 16) (y % 16) across_it.1 down_it.1
            ∙ cut (x % 16) (y % 16) across_it.1 down_it.1
            ∙ ap (λ (k : ℕ). slice_index block.places (k * w + (n % across w * 16 + x % 16))) down_it.0
            ∙ ap (λ (k : ℕ). slice_index block.places (y * w + k)) across_it.0
      ];
    }

-- the same of a tile, its size and its pixels that go by names of their own
pub spelled_next : (f : PixelFormat) (block : Grid ℕ) (n : ℕ) (carried leaves : Carried) (bytes : List ℕ)
    (layout : TileLayout) (pixels part : List ℕ) (subs : List Subrect) (tile : Rect) (w h width height : ℕ) →
    SpelledUpTo f block n carried bytes → width ≡ block.width → height ≡ block.height → tile.w ≡ tile_width width n →
    tile.h ≡ tile_height width height n → tile.x ≡ n % across width * 16 → tile.y ≡ n / across width * 16 → w ≡ tile.w →
    h ≡ tile.h → part ≡ pixels → Sends f w h layout part subs carried leaves → HasPixelsOf block tile pixels →
    length pixels ≡ tile.h * tile.w → IsRuleTile f w h part (held_of carried) (tile_of f layout part subs) →
    held_of leaves ≡ left_by (held_of carried) (tile_of f layout part subs) →
    SpelledUpTo f block (n + 1) leaves (bytes ++ tile_bytes f layout part subs)
spelled_next f block n carried leaves bytes layout pixels part subs tile w h width height old across_is down_is wide
    high column row w_is h_is part_is sends cut size rule leaves_is =
    let wide_is : tile.w ≡ tile_width block.width n = rw across_is at wide in
    let high_is : tile.h ≡ tile_height block.width block.height n = rw (across_is, down_is) at high in
    let column_is : tile.x ≡ n % across block.width * 16 = rw across_is at column in
    let row_is : tile.y ≡ n / across block.width * 16 = rw across_is at row in
    let all = spelled_more f block n carried leaves bytes layout pixels subs old
    (rw (w_is, wide_is, h_is, high_is, part_is) at sends)
    (rw (wide_is, high_is, column_is, row_is) at cut)
    (rw (wide_is, high_is) at size)
    (rw (w_is, wide_is, h_is, high_is, part_is) at rule)
    (rw part_is at leaves_is) in
    subst (λ (ps : List ℕ). SpelledUpTo f block (n + 1) leaves (bytes ++ tile_bytes f layout ps subs)) (sym part_is) all

-- all
pub spelled_all : (f : PixelFormat) (block : Grid ℕ) (carried : Carried) (bytes : List ℕ) → IsGrid block →
    SpelledUpTo f block (tile_count block.width block.height) carried bytes → StandsByRule f block bytes
spelled_all f block carried bytes whole all = record {
  stands = record {
    tiles = all.tiles;
    number = all.number;
    spelled = all.spelled;
    shows = λ x y d p q.
        let below = place_below block.width block.height x y p q in
        get_or_default block.places (y * block.width + x) d 0 (omega (arith, whole))
        ∙ sym (all.shown x y p q (tile_below block.width block.height x y p q));
  };
  carries = all.rule;
  rule = all.rule_tiles;
  bytes_are = all.bytes_are;
}
