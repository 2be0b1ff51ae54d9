-- Tiles of Hextile, found in the bytes that begin with them.
use Rattle.std.proofs.Common.{◌≡◌, ◌≢◌, bit_and, ℕ, zero, suc, ◌+◌, ◌-◌, ◌*◌, ◌<◌, ◌≤◌, nat_le, List, [], ◌∷◌, ◌++◌}
use Rattle.std.proofs.Common.{Bool, true, false, ◌&&◌, Option, Some, None, length, take, drop, map, slice_index, refl}
use Rattle.std.proofs.Common.{sym, subst, ◌∙◌, ap, arith, inl, inr, length-drop}
use Rattle.std.specs.Prelude.{MatchOption}
use Rattle.std.proofs.lemmas.List.{drop-drop, drop-take, get_or-take, get_or-drop}
use Rattle.std.proofs.lemmas.Bool.{cases_lt}
use Rattle.std.proofs.lemmas.Bool.Decides.{nat_tests}
use Rattle.rfb_pixel.specs.Format.{PixelFormat, size_of}
use Rattle.rfb_picture.specs.declared.rect.Rect.{Rect}
use Rattle.rfb_wire.specs.Fields.{u8_at}
use Rattle.rfb_wire.specs.stream.Prefix.{More, Got}
use Rattle.rfb_wire.specs.stream.Parts.{valued, optional, each}
use Rattle.rfb_wire.specs.RectStream.{is_on_screen}
use Rattle.rfb_wire.proofs.stream_laws.PartLaws.{piece_short}
use Rattle.rfb_codec.specs.declared.fault.PaintFault.{PaintFault}
use Rattle.rfb_codec.specs.declared.hextile.layout.TileLayout.{TileLayout}
use Rattle.rfb_codec.specs.declared.hextile.layout.TileLayout.TheVariants.{Plain, Colored}
use Rattle.rfb_codec.specs.declared.hextile.paint.tile_read.TileRead.{TileRead}
use Rattle.rfb_codec.specs.Tile.{Tile, has_bit, is_raw, background_specified, foreground_specified, any_subrects}
use Rattle.rfb_codec.specs.Tile.{subrects_colored, tile_colour, place_of, colored_of, counted, after_mask, rect_in}
use Rattle.rfb_codec.specs.Tile.{are_inside, mask_fault, places_of, tile_after}
use Rattle.rfb_codec.specs.decoder.TileRead.{values_in, tile_of_read, LiesIn, IsCount, places_from}

-- ---- values

module _ {A : Type 0} where
  -- a value whose bytes are there
  pub valued_got : (unit : ℕ) (value : List ℕ → A) (bytes : List ℕ) → unit ≤ length bytes →
      valued {F = PaintFault} unit value bytes ≡ Got (value (take unit bytes)) (drop unit bytes)
  valued_got unit value bytes enough =
      let whole : nat_le unit (length bytes) ≡ true = grind (arith, nat_tests) in
      rw whole refl

  pub valued_short : (unit : ℕ) (value : List ℕ → A) (bytes : List ℕ) → length bytes < unit →
      valued {F = PaintFault} unit value bytes ≡ More
  valued_short unit value bytes short = rw (piece_short {F = PaintFault} unit bytes short) refl

  -- `n` values, whose bytes are all there
  each_got : (unit : ℕ) (value : List ℕ → A) (n : ℕ) (before : List A) (bytes : List ℕ) → n * unit ≤ length bytes →
      each {F = PaintFault} n (λ _. valued unit value) before bytes
      ≡ Got (values_in value unit n bytes) (drop (n * unit) bytes)
  each_got unit value zero before bytes enough = let none : 0 * unit ≡ 0 = omega arith in rw none refl
  each_got unit value (suc n) before bytes enough =
      let first = valued_got unit value bytes (omega arith) in
      let left : length (drop unit bytes) ≡ length bytes - unit = length-drop unit bytes in
      let more =
      each_got unit value n (before ++ value (take unit bytes) ∷ []) (drop unit bytes) (omega (arith, left)) in
      let end : drop (n * unit) (drop unit bytes) ≡ drop (suc n * unit) bytes =
      drop-drop (n * unit) unit bytes ∙ ap (λ (k : ℕ). drop k bytes) (omega arith) in
      rw (first, more, end) refl

  each_short : (unit : ℕ) (value : List ℕ → A) (n : ℕ) (before : List A) (bytes : List ℕ) → length bytes < n * unit →
      each {F = PaintFault} n (λ _. valued unit value) before bytes ≡ More
  each_short unit value zero before bytes short = absurd (omega arith)
  each_short unit value (suc n) before bytes short = elim (cases_lt (length bytes) unit) [
    | inl first ↦ rw (valued_short unit value bytes first) refl
    | inr enough ↦
        let left : length (drop unit bytes) ≡ length bytes - unit = length-drop unit bytes in
        let more =
        each_short unit value n (before ++ value (take unit bytes) ∷ []) (drop unit bytes) (omega (arith, left)) in
        rw (valued_got unit value bytes enough, more) refl
  ]

-- after the byte that counts them, if there is one
counted_byte : (at : ℕ) (bytes : List ℕ) → at < length bytes →
    valued {F = PaintFault} 1 (u8_at 0) (drop at bytes) ≡ Got (slice_index bytes at) (drop (at + 1) bytes)
counted_byte at bytes within =
    let left : length (drop at bytes) ≡ length bytes - at = length-drop at bytes in
    let count : u8_at 0 (take 1 (drop at bytes)) ≡ slice_index bytes at =
    get_or-take 1 (drop at bytes) 0 0 (omega arith) ∙ get_or-drop at bytes 0 0
    ∙ ap (slice_index bytes) (omega arith) in
    let end : drop 1 (drop at bytes) ≡ drop (at + 1) bytes =
    drop-drop 1 at bytes ∙ ap (λ (k : ℕ). drop k bytes) (omega arith) in
    valued_got 1 (u8_at 0) (drop at bytes) (omega (arith, left)) ∙ rw (count, end) refl

module _ {A : Type 0} where
  pub counted_got : (any : Bool) (unit : ℕ) (value : List ℕ → A) (at : ℕ) (bytes : List ℕ) (count list : ℕ) →
      IsCount any at bytes count list → list + count * unit ≤ length bytes → counted any (valued unit value)
      (drop at bytes) ≡ Got (values_in value unit count (drop list bytes)) (drop (list + count * unit) bytes)
  counted_got false unit value at bytes count list is enough =
      let end : list + 0 * unit ≡ at = omega (arith, is.1) in
      rw is.0 (rw end refl)
  counted_got true unit value at bytes count list is enough =
      let left : length (drop list bytes) ≡ length bytes - list = length-drop list bytes in
      let first : valued {F = PaintFault} 1 (u8_at 0) (drop at bytes) ≡ Got count (drop list bytes) =
      counted_byte at bytes is.2 ∙ rw (is.0, is.1) refl in
      let all = each_got unit value count [] (drop list bytes) (omega (arith, left)) in
      let end : drop (count * unit) (drop list bytes) ≡ drop (list + count * unit) bytes =
      drop-drop (count * unit) list bytes in
      rw (first, all, end) refl

  pub counted_short : (any : Bool) (unit : ℕ) (value : List ℕ → A) (at : ℕ) (bytes : List ℕ) (count list : ℕ) →
      IsCount any at bytes count list → at ≤ length bytes → length bytes < list + count * unit →
      counted any (valued unit value) (drop at bytes) ≡ More
  counted_short false unit value at bytes count list is within short =
      let none : count * unit ≡ 0 = rw is.0 (omega arith) in
      absurd (omega (arith, is.1))
  counted_short true unit value at bytes count list is within short =
      let left : length (drop list bytes) ≡ length bytes - list = length-drop list bytes in
      let first : valued {F = PaintFault} 1 (u8_at 0) (drop at bytes) ≡ Got count (drop list bytes) =
      counted_byte at bytes is.2 ∙ rw (is.0, is.1) refl in
      let after_it : list ≤ length bytes = omega (arith, is.1, is.2) in
      let all = each_short unit value count [] (drop list bytes) (omega (arith, left)) in
      rw (first, all) refl

-- ---- bits of a mask

pub bit_clear : (value mask : ℕ) → bit_and mask value ≡ 0 → has_bit value mask ≡ false
bit_clear value mask e = rw e refl

pub bit_set : (value mask : ℕ) → bit_and mask value ≢ 0 → has_bit value mask ≡ true
bit_set value mask e = grind (arith, nat_tests)

-- ---- a tile after its mask

-- what is found of a tile that the bytes may not have whole
abbrev pub IsFound : PixelFormat → ℕ → ℕ → ℕ → List ℕ → Option TileRead → Type 0
IsFound f w h mask bytes result =
    MatchOption result (after_mask f w h mask (is_raw mask) (subrects_colored mask) (drop 1 bytes) ≡ More)
    (λ read. (after_mask f w h mask (is_raw mask) (subrects_colored mask) (drop 1 bytes)
    ≡ Got (tile_of_read f w h read bytes) (drop read.used bytes)) × LiesIn f w h read bytes)

-- it is reported where its bytes are there
abbrev pub IsWhole : TileLayout → ℕ → ℕ → ℕ → List ℕ → Option TileRead → Type 0
IsWhole layout list count used bytes result = MatchOption result (length bytes < used)
    (λ read. (read ≡ record { layout = layout; list = list; count = count; used = used }) × (used ≤ length bytes))

pub found_colored : (f : PixelFormat) (w h mask : ℕ) (bytes : List ℕ) (background : Option ℕ)
    (at count list used : ℕ) (result : Option TileRead) → is_raw mask ≡ false → subrects_colored mask ≡ true →
    optional (background_specified mask) (tile_colour f) (drop 1 bytes) ≡ Got background (drop at bytes) →
    at ≤ length bytes → 1 ≤ list → IsCount (any_subrects mask) at bytes count list → used ≡ list + count
    * (size_of f + 2) → IsWhole (Colored background) list count used bytes result → IsFound f w h mask bytes result
found_colored f w h mask bytes background at count list used None drawn colored first within some is end short =
    let all = counted_short (any_subrects mask) (size_of f + 2) (colored_of f) at bytes count list is within
    (omega (arith, short, end)) in
    rw (drawn, colored, first, all) refl
found_colored f w h mask bytes background at count list used (Some read) drawn colored first
    within some is end (same, enough) =
    let all = counted_got (any_subrects mask) (size_of f + 2) (colored_of f) at bytes count list is
    (omega (arith, enough, end)) in
    subst (λ (r : TileRead). (after_mask f w h mask (is_raw mask) (subrects_colored mask) (drop 1 bytes)
    ≡ Got (tile_of_read f w h r bytes) (drop r.used bytes)) × LiesIn f w h r bytes) (sym same)
    (rw (drawn, colored, first, all, end) refl, record { end = end; within = enough; some = some })

pub found_plain : (f : PixelFormat) (w h mask : ℕ) (bytes : List ℕ) (background foreground : Option ℕ)
    (middle at count list used : ℕ) (result : Option TileRead) → is_raw mask ≡ false → subrects_colored mask ≡ false →
    optional (background_specified mask) (tile_colour f) (drop 1 bytes) ≡ Got background (drop middle bytes) →
    optional (foreground_specified mask) (tile_colour f) (drop middle bytes) ≡ Got foreground (drop at bytes) →
    at ≤ length bytes → 1 ≤ list → IsCount (any_subrects mask) at bytes count list → used ≡ list + count * 2 →
    IsWhole (Plain background foreground) list count used bytes result → IsFound f w h mask bytes result
found_plain f w h mask bytes background foreground middle at count list used None drawn colored first
    second within some is end short =
    let all = counted_short (any_subrects mask) 2 place_of at bytes count list is within (omega (arith, short, end)) in
    rw (drawn, colored, first, second, all) refl
found_plain f w h mask bytes background foreground middle at count list used (Some read) drawn colored first second
    within some is end (same, enough) =
    let all = counted_got (any_subrects mask) 2 place_of at bytes count list is (omega (arith, enough, end)) in
    subst (λ (r : TileRead). (after_mask f w h mask (is_raw mask) (subrects_colored mask) (drop 1 bytes)
    ≡ Got (tile_of_read f w h r bytes) (drop r.used bytes)) × LiesIn f w h r bytes) (sym same)
    (rw (drawn, colored, first, second, all, end) refl, record { end = end; within = enough; some = some })

-- ---- places

-- the places of plain subrectangles, and those of coloured ones after their pixels
pub places_plain : (n : ℕ) (list : List ℕ) → values_in place_of 2 n list ≡ places_from 0 n list
places_plain zero list = refl
places_plain (suc n) list = rw (places_plain n (drop 2 list)) refl

pub places_colored : (f : PixelFormat) (n : ℕ) (list : List ℕ) →
    map rect_in (values_in (colored_of f) (size_of f + 2) n list) ≡ places_from (size_of f) n list
places_colored f zero list = refl
places_colored f (suc n) list =
    let here : drop (size_of f) (take (size_of f + 2) list) ≡ take 2 (drop (size_of f) list) =
    drop-take (size_of f) 2 list in
    rw (here, places_colored f n (drop (size_of f + 2) list)) refl

-- the place after `k` others
abbrev pub nth_place : ℕ → ℕ → List ℕ → Rect
nth_place skip k list = place_of (take 2 (drop (k * (skip + 2) + skip) list))

after_one : (skip k : ℕ) (list : List ℕ) → nth_place skip k (drop (skip + 2) list) ≡ nth_place skip (k + 1) list
after_one skip k list = ap (λ (ys : List ℕ). place_of (take 2 ys))
    (drop-drop (k * (skip + 2) + skip) (skip + 2) list ∙ ap (λ (n : ℕ). drop n list) (omega arith))

-- a further one is looked at after the others
pub inside_more : (w h skip n : ℕ) (list : List ℕ) →
    are_inside w h (places_from skip (suc n) list)
    ≡ (are_inside w h (places_from skip n list) && is_on_screen w h (nth_place skip n list))
inside_more w h skip zero list =
    let here = place_of (take 2 (drop skip list)) in
    let first : nth_place skip 0 list ≡ here =
    ap (λ (k : ℕ). place_of (take 2 (drop k list))) (omega arith) in
    subst (λ (r : Rect). (is_on_screen w h here && true) ≡ (true && is_on_screen w h r)) (sym first)
    (last (is_on_screen w h here))
  where
    last : (b : Bool) → (b && true) ≡ (true && b)
    last true = refl
    last false = refl
inside_more w h skip (suc n) list =
    let rest = drop (skip + 2) list in
    let here = is_on_screen w h (place_of (take 2 (drop skip list))) in
    let inside = are_inside w h (places_from skip n rest) in
    let later : nth_place skip n rest ≡ nth_place skip (suc n) list =
    after_one skip n list ∙ ap (λ (k : ℕ). nth_place skip k list) (omega arith) in
    ap (λ (b : Bool). here && b)
    (inside_more w h skip n rest ∙ ap (λ (r : Rect). inside && is_on_screen w h r) later)
    ∙ grouped here inside (is_on_screen w h (nth_place skip (suc n) list))
  where
    grouped : (a b c : Bool) → (a && (b && c)) ≡ ((a && b) && c)
    grouped true b c = refl
    grouped false b c = refl

-- ---- a tile from its mask on

-- a good mask, a whole tile, and subrectangles inside
pub tile_got : (f : PixelFormat) (w h : ℕ) (before : List Tile) (bytes : List ℕ) (mask : ℕ)
    (tile : Tile) (rest : List ℕ) → 1 ≤ length bytes → mask ≡ slice_index bytes 0 → mask_fault before mask ≡ None →
    after_mask f w h mask (is_raw mask) (subrects_colored mask) (drop 1 bytes) ≡ Got tile rest →
    are_inside w h (places_of tile) ≡ true → tile_after f w h before bytes ≡ Got tile rest
tile_got f w h before bytes mask tile rest some mask_is good found inside =
    let whole : nat_le 1 (length bytes) ≡ true = grind (arith, nat_tests) in
    let first : u8_at 0 (take 1 bytes) ≡ mask = get_or-take 1 bytes 0 0 (omega arith) ∙ sym mask_is in
    rw (whole, first, good, found, inside) refl
