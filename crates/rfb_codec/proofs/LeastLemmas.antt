-- Bytes of a tile that is not raw, fewer than it has at least: the tile waits for more.
use Rattle.std.proofs.Common.{◌≡◌, ℕ, ◌+◌, ◌-◌, ◌*◌, ◌<◌, ◌≤◌, nat_le, if◌then◌else◌, List, ◌++◌, Bool, true, false}
use Rattle.std.proofs.Common.{Option, Some, None, length, take, drop, slice_index, refl, sym, ◌∙◌, ap, arith, inl, inr}
use Rattle.std.proofs.Common.{length-drop, length-append}
use Rattle.std.proofs.lemmas.List.{drop-drop, get_or_append_left}
use Rattle.std.proofs.lemmas.Bool.{cases_lt}
use Rattle.std.proofs.lemmas.Bool.Decides.{nat_tests}
use Rattle.rfb_pixel.specs.Format.{PixelFormat, size_of, pixel_number}
use Rattle.rfb_wire.specs.Fields.{u8_at}
use Rattle.rfb_wire.specs.stream.Prefix.{More, Got}
use Rattle.rfb_wire.specs.stream.Parts.{valued, optional}
use Rattle.rfb_codec.specs.Tile.{is_raw, background_specified, foreground_specified, any_subrects, subrects_colored}
use Rattle.rfb_codec.specs.Tile.{tile_colour, place_of, colored_of, counted, after_mask}
use Rattle.rfb_codec.specs.decoder.TileRead.{sub_size, colour_size, colours_end, list_end, least_size}
use Rattle.rfb_codec.proofs.PaintTileLemmas.{valued_got, valued_short, counted_short}

-- ---- colours

colour_waits : (f : PixelFormat) (named : Bool) (at : ℕ) (xs : List ℕ) → at ≤ length xs →
    length xs < at + colour_size f named → optional named (tile_colour f) (drop at xs) ≡ More
colour_waits f false at xs within short = absurd (omega arith)
colour_waits f true at xs within short =
    let left : length (drop at xs) ≡ length xs - at = length-drop at xs in
    rw (valued_short (size_of f) (pixel_number f) (drop at xs) (omega (arith, left))) refl

colour_there : (f : PixelFormat) (named : Bool) (at : ℕ) (xs : List ℕ) →
    at + colour_size f named ≤ length xs → (colour : Option ℕ)
    × (optional named (tile_colour f) (drop at xs) ≡ Got colour (drop (at + colour_size f named) xs))
colour_there f false at xs enough = let same : at + 0 ≡ at = omega arith in (None, rw same refl)
colour_there f true at xs enough =
    let left : length (drop at xs) ≡ length xs - at = length-drop at xs in
    let end : drop (size_of f) (drop at xs) ≡ drop (at + size_of f) xs =
    drop-drop (size_of f) at xs ∙ ap (λ (n : ℕ). drop n xs) (omega arith) in (
      Some (pixel_number f (take (size_of f) (drop at xs))),
      rw (valued_got (size_of f) (pixel_number f) (drop at xs) (omega (arith, left)), end) refl,
    )

-- ---- what follows the mask

-- the list waits where the colours are there
colored_waits : (f : PixelFormat) (w h mask : ℕ) (xs : List ℕ) → is_raw mask ≡ false → subrects_colored mask ≡ true →
    1 ≤ length xs → (colours_end f mask true ≤ length xs →
    counted (any_subrects mask) (valued (size_of f + 2) (colored_of f)) (drop (colours_end f mask true) xs) ≡ More) →
    after_mask f w h mask (is_raw mask) (subrects_colored mask) (drop 1 xs) ≡ More
colored_waits f w h mask xs drawn colored some list = elim (cases_lt (length xs) (colours_end f mask true)) [
  | inl short ↦ rw (drawn, colored, colour_waits f (background_specified mask) 1 xs some short) refl
  | inr enough ↦
      let first = colour_there f (background_specified mask) 1 xs enough in
      rw (drawn, colored, first.1, list enough) refl
]

plain_waits : (f : PixelFormat) (w h mask : ℕ) (xs : List ℕ) → is_raw mask ≡ false →
    subrects_colored mask ≡ false → 1 ≤ length xs → (colours_end f mask false ≤ length xs →
    counted (any_subrects mask) (valued 2 place_of) (drop (colours_end f mask false) xs) ≡ More) →
    after_mask f w h mask (is_raw mask) (subrects_colored mask) (drop 1 xs) ≡ More
plain_waits f w h mask xs drawn colored some list =
    let middle = 1 + colour_size f (background_specified mask) in
    elim (cases_lt (length xs) middle) [
      | inl short ↦ rw (drawn, colored, colour_waits f (background_specified mask) 1 xs some short) refl
      | inr there ↦
          let first = colour_there f (background_specified mask) 1 xs there in
          elim (cases_lt (length xs) (colours_end f mask false)) [
            | inl short ↦
                rw (drawn, colored, first.1, colour_waits f (foreground_specified mask) middle xs there short) refl
            | inr enough ↦
                let second = colour_there f (foreground_specified mask) middle xs enough in
                rw (drawn, colored, first.1, second.1, list enough) refl
          ]
    ]

-- ---- the list

module _ {A : Type 0} where
  -- where its count is not there, or fewer parts than it says
  list_waits : (f : PixelFormat) (colored any : Bool) (value : List ℕ → A) (end : ℕ) (bytes more : List ℕ) →
      end ≤ length (bytes ++ more) → length (bytes ++ more) < (if any then list_end f colored end bytes else end) →
      counted any (valued (sub_size f colored) value) (drop end (bytes ++ more)) ≡ More
  list_waits f colored false value end bytes more there short = absurd (omega arith)
  list_waits f colored true value end bytes more there short = elim (cases_lt end (length bytes)) [
    | inr late ↦
        let test : nat_le (length bytes) end ≡ true = grind (arith, nat_tests) in
        let few : length (bytes ++ more) < end + 1 = rw test at short in
        let left : length (drop end (bytes ++ more)) ≡ length (bytes ++ more) - end = length-drop end (bytes ++ more) in
        rw (valued_short {A = ℕ} 1 (u8_at 0) (drop end (bytes ++ more)) (omega (arith, left, there))) refl
    | inl counted_is ↦
        let test : nat_le (length bytes) end ≡ false = grind (arith, nat_tests) in
        let few : length (bytes ++ more) < end + 1 + slice_index bytes end * sub_size f colored = rw test at short in
        let same : slice_index (bytes ++ more) end ≡ slice_index bytes end =
        get_or_append_left bytes more 0 end counted_is in
        let long = length-append bytes more in
        counted_short true (sub_size f colored) value end (bytes ++ more) (slice_index bytes end) (end + 1)
        (sym same, refl, omega (arith, long, counted_is)) there few
  ]

pub least_waits : (f : PixelFormat) (w h : ℕ) (bytes more : List ℕ) → 0 < length bytes →
    is_raw (slice_index bytes 0) ≡ false → length (bytes ++ more) < least_size f bytes →
    after_mask f w h (slice_index bytes 0) (is_raw (slice_index bytes 0)) (subrects_colored (slice_index bytes 0))
    (drop 1 (bytes ++ more)) ≡ More
least_waits f w h bytes more some drawn short = by (subrects_colored mask) refl
  where
    mask : ℕ
    mask = slice_index bytes 0

    first : 1 ≤ length (bytes ++ more)
    first = let long = length-append bytes more in omega (arith, long, some)

    by : (b : Bool) → subrects_colored mask ≡ b →
        after_mask f w h mask (is_raw mask) (subrects_colored mask) (drop 1 (bytes ++ more)) ≡ More
    by true e =
        let short' : length (bytes ++ more) < (if any_subrects mask then list_end f true (colours_end f mask true) bytes
        else colours_end f mask true) = rw e at short in
        colored_waits f w h mask (bytes ++ more) drawn e first (λ there. list_waits f true (any_subrects mask)
        (colored_of f) (colours_end f mask true) bytes more there short')
    by false e =
        let short' : length (bytes ++ more) < (if any_subrects mask
        then list_end f false (colours_end f mask false) bytes else colours_end f mask false) = rw e at short in
        plain_waits f w h mask (bytes ++ more) drawn e first (λ there. list_waits f false (any_subrects mask) place_of
        (colours_end f mask false) bytes more there short')
