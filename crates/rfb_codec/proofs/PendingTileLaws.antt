-- Pending bytes of Hextile's tiles, and how many they are at most.
use Rattle.std.proofs.Common.{◌≡◌, ℕ, zero, suc, ◌+◌, ◌*◌, ◌≤◌, ◌<◌, nat_le, Bool, true, false, List, [], ◌∷◌, ◌++◌}
use Rattle.std.proofs.Common.{Option, Some, None, length, refl, subst, ◌∙◌, ap, arith, append-nil, append_assoc, inl}
use Rattle.std.proofs.Common.{inr, length-append}
use Rattle.std.proofs.Math.Nat.{mod-lt}
use Rattle.std.proofs.lemmas.Bool.{cases_lt}
use Rattle.std.proofs.lemmas.Bool.Decides.{nat_tests}
use Rattle.rfb_pixel.specs.Format.{PixelFormat, IsFormat, size_of, pixel_number}
use Rattle.rfb_pixel.specs.FormatBytes.{AreBytes}
use Rattle.rfb_wire.specs.stream.Prefix.{Next, More, Got, Bad, Reading, ListedAfter}
use Rattle.rfb_wire.specs.stream.Parts.{valued, done, continue_with, judged, and_then, optional}
use Rattle.rfb_wire.proofs.stream_laws.PendingLaws.{counted_pending, pieces_within}
use Rattle.rfb_codec.specs.declared.fault.PaintFault.{PaintFault}
use Rattle.rfb_codec.specs.Tile.{Tile, is_raw, subrects_colored, background_specified, foreground_specified}
use Rattle.rfb_codec.specs.Tile.{any_subrects, mask_fault, tile_colour, counted, place_of, colored_of, PlainTile}
use Rattle.rfb_codec.specs.Tile.{ColoredTile, after_mask, tile_layout, tile_fault, tile_after}
use Rattle.rfb_codec.specs.Hextile.{tile_width, tile_height, SpellsNextTile}
use Rattle.rfb_codec.specs.Hextile.{next_tile}
use Rattle.rfb_codec.specs.PendingBytes.{tile_pending, after_tile, tiles_pending}
use Rattle.rfb_codec.proofs.TileLaws.{tile_reads}
use Rattle.rfb_codec.proofs.EnoughLaws.{bytes_after, Suffices, done_suffices, valued_suffices, then_suffices}
use Rattle.rfb_codec.proofs.EnoughLaws.{optional_suffices, counted_suffices}

-- ---- tiles

-- a raw tile's whole pixels are not pending, and its mask is not
pub raw_tile_pending : (f : PixelFormat) (mask count : ℕ) (pixels rest : List ℕ) → is_raw mask ≡ true →
    length pixels ≡ count * size_of f → length rest < size_of f → tile_pending f (mask ∷ (pixels ++ rest)) ≡ length rest
raw_tile_pending f mask count pixels rest raw whole less =
    rw raw (counted_pending (size_of f) count pixels rest whole less)

-- of another tile all is
pub drawn_tile_pending : (f : PixelFormat) (mask : ℕ) (rest : List ℕ) → is_raw mask ≡ false →
    tile_pending f (mask ∷ rest) ≡ length (mask ∷ rest)
drawn_tile_pending f mask rest drawn = rw drawn refl

-- after whole tiles it is what is pending of the next one, which waits
pub tiles_after : (f : PixelFormat) (w h left : ℕ) (before tiles : List Tile) (front rest : List ℕ) →
    ListedAfter (SpellsNextTile f w h) before tiles front → length tiles < left → next_tile f w h (before ++ tiles) rest
    ≡ More → tiles_pending f w h left before (front ++ rest) ≡ tile_pending f rest
tiles_after f w h zero before tiles front rest listed less waits = absurd (omega (arith, less))
tiles_after f w h (suc left) before [] front rest listed less waits =
    let here : next_tile f w h before rest ≡ More =
    subst (λ (ts : List Tile). next_tile f w h ts rest ≡ More) (append-nil before) waits in
    rw (listed, here) refl
tiles_after f w h (suc left) before (t ∷ tiles) front rest listed less waits =
    let n = length before in
    let first : next_tile f w h before (listed.0 ++ (listed.1 ++ rest)) ≡ Got t (listed.1 ++ rest) =
    (tile_reads f (tile_width w n) (tile_height w h n) before).only t listed.0 (listed.1 ++ rest) listed.3 in
    let others : tiles_pending f w h left (before ++ t ∷ []) (listed.1 ++ rest) ≡ tile_pending f rest =
    tiles_after f w h left (before ++ t ∷ []) tiles listed.1 rest listed.4 (omega (arith, less))
    (rw (append_assoc before (t ∷ []) tiles) waits) in
    rw (listed.2, append_assoc listed.0 listed.1 rest, first) others

-- ---- the bound

-- a pixel has four bytes at most
pub size_small : (f : PixelFormat) → IsFormat f → (0 < size_of f) × (size_of f ≤ 4)
size_small f is = (grind (arith, nat_tests, is.whole), grind (arith, nat_tests, is.whole))

-- a whole tile that is judged is not waited for
tile_judged : (f : PixelFormat) (w h : ℕ) (next : Next Tile PaintFault) →
    continue_with (λ tile. judged (tile_fault w h tile) tile) next ≡ More → next ≡ More
tile_judged f w h More e = refl
tile_judged f w h (Got tile rest) e = by (tile_fault w h tile) e
  where
    by : (fault : Option PaintFault) → judged fault tile rest ≡ More →
        ◌≡◌ {A = Next Tile PaintFault} (Got tile rest) More
    by None e = cc
    by (Some told) e = cc
tile_judged f w h (Bad fault) e = cc

mask_judged : (fault : Option PaintFault) (mask : ℕ) (rest : List ℕ) (k : ℕ → Reading Tile PaintFault) →
    continue_with k (judged fault mask rest) ≡ More → k mask rest ≡ More
mask_judged None mask rest k e = e
mask_judged (Some told) mask rest k e = cc

-- what comes after a mask
colour_suffices : (f : PixelFormat) (flag : Bool) → Suffices (size_of f) (optional flag (tile_colour f))
colour_suffices f flag =
    optional_suffices (size_of f) flag (tile_colour f) (valued_suffices (size_of f) (pixel_number f))

plain_suffices : (f : PixelFormat) (w h mask : ℕ) →
    Suffices (size_of f + (size_of f + (511 + 0))) (after_mask f w h mask false false)
plain_suffices f w h mask =
    then_suffices (size_of f) (size_of f + (511 + 0)) (optional (background_specified mask) (tile_colour f))
    (λ background. and_then (optional (foreground_specified mask) (tile_colour f)) (λ foreground. and_then
    (counted (any_subrects mask) (valued 2 place_of)) (λ places. done (PlainTile background foreground places))))
    (colour_suffices f (background_specified mask))
    (λ background. then_suffices (size_of f) (511 + 0) (optional (foreground_specified mask) (tile_colour f))
    (λ foreground. and_then (counted (any_subrects mask) (valued 2 place_of))
    (λ places. done (PlainTile background foreground places)))
    (colour_suffices f (foreground_specified mask))
    (λ foreground. then_suffices 511 0 (counted (any_subrects mask) (valued 2 place_of))
    (λ places. done (PlainTile background foreground places))
    (counted_suffices 2 (any_subrects mask) (valued 2 place_of) (valued_suffices 2 place_of))
    (λ places. done_suffices (PlainTile background foreground places))))

colored_suffices : (f : PixelFormat) (w h mask : ℕ) →
    Suffices (size_of f + ((1 + 255 * (size_of f + 2)) + 0)) (after_mask f w h mask false true)
colored_suffices f w h mask =
    then_suffices (size_of f) ((1 + 255 * (size_of f + 2)) + 0) (optional (background_specified mask) (tile_colour f))
    (λ background. and_then (counted (any_subrects mask) (valued (size_of f + 2) (colored_of f)))
    (λ subs. done (ColoredTile background subs)))
    (colour_suffices f (background_specified mask))
    (λ background. then_suffices (1 + 255 * (size_of f + 2)) 0 (counted (any_subrects mask)
    (valued (size_of f + 2) (colored_of f))) (λ subs. done (ColoredTile background subs))
    (counted_suffices (size_of f + 2) (any_subrects mask) (valued (size_of f + 2) (colored_of f))
    (valued_suffices (size_of f + 2) (colored_of f)))
    (λ subs. done_suffices (ColoredTile background subs)))

after_below : (f : PixelFormat) (w h mask : ℕ) (colored : Bool) (rest : List ℕ) → IsFormat f → AreBytes rest →
    after_mask f w h mask false colored rest ≡ More → length rest ≤ 1534
after_below f w h mask false rest format are waits =
    let small = size_small f format in
    elim (cases_lt (length rest) 1535) [
      | inl less ↦ omega (arith, less)
      | inr more ↦ let r = plain_suffices f w h mask rest are (omega (arith, small, more)) in let got = r.got in cc
    ]
after_below f w h mask true rest format are waits =
    let small = size_small f format in
    elim (cases_lt (length rest) 1535) [
      | inl less ↦ omega (arith, less)
      | inr more ↦ let r = colored_suffices f w h mask rest are (omega (arith, small, more)) in let got = r.got in cc
    ]

-- a tile that waits
tile_below : (f : PixelFormat) (w h : ℕ) (before : List Tile) (bytes : List ℕ) → IsFormat f → AreBytes bytes →
    tile_after f w h before bytes ≡ More → tile_pending f bytes ≤ 1535
tile_below f w h before [] format are waits = omega arith
tile_below f w h before (mask ∷ rest) format are waits = by (is_raw mask) refl
  where
    after_same : after_mask f w h mask (is_raw mask) (subrects_colored mask) rest ≡ More
    after_same =
        let some : nat_le 1 (length (mask ∷ rest)) ≡ true = grind (arith, nat_tests) in
        let layout = tile_judged f w h (tile_layout f w h before (mask ∷ rest)) waits in
        mask_judged (mask_fault before mask) mask rest
        (λ m. after_mask f w h m (is_raw m) (subrects_colored m)) (rw some at layout)

    by : (raw : Bool) → is_raw mask ≡ raw → tile_pending f (mask ∷ rest) ≤ 1535
    by true e =
        let small = size_small f format in
        let less = mod-lt (length rest) small.0 in
        rw e (omega (arith, small, less))
    by false e =
        let here : after_mask f w h mask false (subrects_colored mask) rest ≡ More = rw e at after_same in
        let less = after_below f w h mask (subrects_colored mask) rest format (bytes_after (mask ∷ []) rest are) here in
        rw e (omega (arith, less))

pub tiles_below : (f : PixelFormat) (w h left : ℕ) (before : List Tile) (bytes : List ℕ) → IsFormat f → AreBytes bytes →
    tiles_pending f w h left before bytes ≤ 1535
tiles_below f w h zero before bytes format are = omega arith
tiles_below f w h (suc left) before bytes format are =
    by (λ tile rest later. tiles_below f w h left (before ++ tile ∷ []) rest format later)
    (next_tile f w h before bytes) refl
  where
    by : ((tile : Tile) (rest : List ℕ) → AreBytes rest → tiles_pending f w h left (before ++ tile ∷ []) rest ≤ 1535) →
        (next : Next Tile PaintFault) → next_tile f w h before bytes ≡ next →
        after_tile (tile_pending f bytes) (λ tile rest. tiles_pending f w h left (before ++ tile ∷ []) rest) next ≤ 1535
    by later More e =
        tile_below f (tile_width w (length before)) (tile_height w h (length before)) before bytes format are e
    by later (Got tile rest) e =
        let one = (tile_reads f (tile_width w (length before)) (tile_height w h (length before)) before).found
        bytes tile rest e in
        later tile rest (bytes_after one.0 rest (subst (λ (ys : List ℕ). AreBytes ys) one.1 are))
    by later (Bad fault) e = omega arith

-- ---- no more are pending than came

tile_within : (f : PixelFormat) (bytes : List ℕ) → tile_pending f bytes ≤ length bytes
tile_within f [] = omega arith
tile_within f (mask ∷ rest) = by (is_raw mask) refl
  where
    by : (raw : Bool) → is_raw mask ≡ raw → tile_pending f (mask ∷ rest) ≤ length (mask ∷ rest)
    by true e = let less = pieces_within (size_of f) rest in rw e (omega (arith, less))
    by false e = rw e (omega arith)

pub tiles_within : (f : PixelFormat) (w h left : ℕ) (before : List Tile) (bytes : List ℕ) →
    tiles_pending f w h left before bytes ≤ length bytes
tiles_within f w h zero before bytes = omega arith
tiles_within f w h (suc left) before bytes =
    by (λ tile rest. tiles_within f w h left (before ++ tile ∷ []) rest) (next_tile f w h before bytes) refl
  where
    by : ((tile : Tile) (rest : List ℕ) → tiles_pending f w h left (before ++ tile ∷ []) rest ≤ length rest) →
        (next : Next Tile PaintFault) → next_tile f w h before bytes ≡ next →
        after_tile (tile_pending f bytes) (λ tile rest. tiles_pending f w h left (before ++ tile ∷ []) rest) next
        ≤ length bytes
    by later More e = tile_within f bytes
    by later (Got tile rest) e =
        let one = (tile_reads f (tile_width w (length before)) (tile_height w h (length before)) before).found
        bytes tile rest e in
        let all : length bytes ≡ length one.0 + length rest = ap length one.1 ∙ length-append one.0 rest in
        let less = later tile rest in
        omega (arith, all, less)
    by later (Bad fault) e = omega arith
