-- The bytes that a painter keeps are those that are pending of its data.
use Rattle.std.proofs.Common.{◌≡◌, ℕ, zero, suc, ◌+◌, ◌-◌, ◌*◌, ◌%◌, ◌<◌, ◌≤◌, nat_lt, List, [], ◌∷◌, ◌++◌, true, false}
use Rattle.std.proofs.Common.{if◌then◌else◌, length, drop, refl, sym, ◌∙◌, ap, append-nil, append_assoc, arith}
use Rattle.std.proofs.Common.{length-append}
use Rattle.std.proofs.lemmas.Nat.{mod-mul-add}
use Rattle.std.proofs.lemmas.Bool.Decides.{nat_tests}
use Rattle.std.proofs.Math.Seq.{drop-append_seam}
use Rattle.rfb_pixel.specs.declared.colour.Colour.{Colour}
use Rattle.rfb_pixel.specs.Format.{PixelFormat, size_of}
use Rattle.rfb_picture.specs.declared.rect.Rect.{Rect}
use Rattle.rfb_picture.specs.Grid.{Grid}
use Rattle.rfb_wire.specs.stream.Prefix.{More, Got, Listed, ListedAfter}
use Rattle.rfb_wire.specs.stream.PendingBytes.{in_pieces}
use Rattle.rfb_codec.specs.declared.subrect.Subrect.{Subrect}
use Rattle.rfb_codec.specs.declared.painter.stage.Stage.{Stage}
use Rattle.rfb_codec.specs.declared.painter.stage.Stage.TheVariants.{BeforeSource, Copied, InPixels, BeforeHead}
use Rattle.rfb_codec.specs.declared.painter.stage.Stage.TheVariants.{InSubrects, InTiles, InRawTile}
use Rattle.rfb_codec.specs.Rre.{SpellsInside}
use Rattle.rfb_codec.specs.Tile.{Tile}
use Rattle.rfb_codec.specs.Hextile.{tile_count, tile_width, tile_height, SpellsNextTile}
use Rattle.rfb_codec.specs.Hextile.{next_tile}
use Rattle.rfb_codec.specs.PendingBytes.{tile_pending, tiles_pending, data_pending}
use Rattle.rfb_codec.specs.Front.{NoSource, TheSource, SomePixels, NoHead, SomeParts, SomeTiles, SomeOfRaw}
use Rattle.rfb_codec.specs.Front.{SpellsPixels, BeginsTile, ShowsFront}
use Rattle.rfb_codec.specs.Stage.{StandsAt, encoding_at, places_before}
use Rattle.rfb_codec.proofs.TileLaws.{tile_reads}
use Rattle.rfb_codec.proofs.TakeTileLemmas.{begun}
use Rattle.rfb_codec.proofs.TileFaultLemmas.{raw_waits}
use Rattle.rfb_codec.proofs.VerdictLemmas.{fewer_bytes}

short_is : (n m k : ℕ) → n < m → (if nat_lt n m then n else k) ≡ n
short_is n m k below = let on : nat_lt n m ≡ true = grind (arith, nat_tests) in rw on refl

long_is : (n m k : ℕ) → m ≤ n → (if nat_lt n m then n else k) ≡ k
long_is n m k past = let off : nat_lt n m ≡ false = grind (arith, nat_tests) in rw off refl

-- of pixels those after the whole ones
pixels_pending : (f : PixelFormat) (all count : ℕ) (pixels pending body : List ℕ) →
    SpellsPixels f all count pixels pending body → in_pieces (size_of f) body ≡ length pending
pixels_pending f all count pixels pending body s =
    let size = s.size in
    let long : length body ≡ count * size_of f + length pending =
    ap length s.whole ∙ length-append pixels pending ∙ omega (arith, size) in
    ap (λ (n : ℕ). n % size_of f) long ∙ mod-mul-add count (size_of f) (length pending) s.short

listed_length : (f : PixelFormat) (w h : ℕ) (subs : List Subrect) (list : List ℕ) →
    Listed (SpellsInside f w h) subs list → length list ≡ length subs * (size_of f + 8)
listed_length f w h [] list listed = ap length listed ∙ omega arith
listed_length f w h (s ∷ subs) list (front, back, whole, one, more) =
    let first = one.0.size in
    let rest = listed_length f w h subs back more in
    ap length whole ∙ length-append front back ∙ omega (arith, first, rest)

-- after whole tiles those of the next
after_tiles : (f : PixelFormat) (w h left more : ℕ) (before tiles : List Tile) (front rest : List ℕ) →
    ListedAfter (SpellsNextTile f w h) before tiles front → left ≡ length tiles + more →
    tiles_pending f w h left before (front ++ rest) ≡ tiles_pending f w h more (before ++ tiles) rest
after_tiles f w h left more before [] front rest listed number =
    let same : left ≡ more = omega (arith, number) in
    rw (same, listed) (ap (λ (all : List Tile). tiles_pending f w h more all rest) (sym (append-nil before)))
after_tiles f w h zero more before (t ∷ tiles) front rest listed number = absurd (omega (arith, number))
after_tiles f w h (suc left) more before (t ∷ tiles) front rest (one, back, whole, spelled, others) number =
    let got : next_tile f w h before (one ++ (back ++ rest)) ≡ Got t (back ++ rest) = (tile_reads f
    (tile_width w (length before)) (tile_height w h (length before)) before).only t one (back ++ rest) spelled in
    let here : front ++ rest ≡ one ++ (back ++ rest) =
    ap (λ (ys : List ℕ). ys ++ rest) whole ∙ append_assoc one back rest in
    let later = after_tiles f w h left more (before ++ t ∷ []) tiles back rest others (omega (arith, number)) in
    rw (here, got) (later
    ∙ ap (λ (all : List Tile). tiles_pending f w h more all rest) (append_assoc before (t ∷ []) tiles))

tile_waits : (f : PixelFormat) (w h more : ℕ) (tiles : List Tile) (rest : List ℕ) → 0 < more →
    next_tile f w h tiles rest ≡ More → tiles_pending f w h more tiles rest ≡ tile_pending f rest
tile_waits f w h zero tiles rest some waits = absurd (omega arith)
tile_waits f w h (suc more) tiles rest some waits = rw waits refl

begun_pending : (f : PixelFormat) (w h : ℕ) (tiles : List Tile) (pending : List ℕ) → BeginsTile f w h tiles pending →
    tile_pending f pending ≡ length pending
begun_pending f w h tiles [] begins = refl
begun_pending f w h tiles (mask ∷ rest) begins = rw begins.1 refl

none_pending : (f : PixelFormat) (w h more : ℕ) (tiles : List Tile) (pending : List ℕ) → more ≡ tile_count w h
    - length tiles → BeginsTile f w h tiles pending → tiles_pending f w h more tiles pending ≡ length pending
none_pending f w h zero tiles [] number begins = refl
none_pending f w h zero tiles (mask ∷ rest) number begins =
    let fewer = begins.0 in
    absurd (omega (arith, number, fewer))
none_pending f w h (suc more) tiles pending number begins =
    tile_waits f w h (suc more) tiles pending (omega arith) (begun f w h tiles pending begins)
    ∙ begun_pending f w h tiles pending begins

few_tiles : (f : PixelFormat) (w h : ℕ) (tiles : List Tile) (pending : List ℕ) → BeginsTile f w h tiles pending →
    length tiles ≤ tile_count w h
few_tiles f w h tiles [] begins = begins
few_tiles f w h tiles (mask ∷ rest) begins = let fewer = begins.0 in omega (arith, fewer)

pub kept_is_pending : (f : PixelFormat) (rect : Rect) (stage : Stage)
    (pending : List ℕ) (now before : Grid Colour) (body : List ℕ) → StandsAt f rect stage pending now before body →
    data_pending f rect (encoding_at stage) body ≡ length pending
unfolding data_pending
kept_is_pending f rect BeforeSource pending now before body s =
    rw s.spelled.0 (short_is (length pending) 4 0 s.spelled.1)
kept_is_pending f rect (Copied x y) pending now before body s =
    let size = s.spelled.1.size in
    long_is (length body) 4 0 (omega (arith, size)) ∙ sym (ap length s.spelled.0)
kept_is_pending f rect (InPixels at) pending now before body (pixels, s) =
    pixels_pending f _ _ pixels pending body s.spelled
kept_is_pending f rect BeforeHead pending now before body s =
    rw s.spelled.0 (short_is (length pending) (4 + size_of f) _ s.spelled.1)
kept_is_pending f rect (InSubrects left) pending now before body (background, subs, s) =
    let p = s.spelled in
    let head = p.head_is.size in
    let list = listed_length f rect.w rect.h subs p.list p.listed in
    let long : length body ≡ length p.head + length (p.list ++ pending) =
    ap length p.whole ∙ length-append p.head (p.list ++ pending) in
    let rest : drop (4 + size_of f) body ≡ p.list ++ pending =
    ap (drop (4 + size_of f)) p.whole ∙ ap (λ (n : ℕ). drop n (p.head ++ (p.list ++ pending))) (sym head)
    ∙ drop-append_seam p.head (p.list ++ pending) in
    let count : length (p.list ++ pending) ≡ length subs * (size_of f + 8) + length pending =
    length-append p.list pending ∙ omega (arith, list) in
    long_is (length body) (4 + size_of f) _ (omega (arith, long, head))
    ∙ ap (in_pieces (size_of f + 8)) rest
    ∙ ap (λ (n : ℕ). n % (size_of f + 8)) count ∙ mod-mul-add (length subs) (size_of f + 8) (length pending) p.short
kept_is_pending f rect (InTiles tile seen) pending now before body (tiles, number, sees, s) =
    let p = s.spelled in
    let few = few_tiles f rect.w rect.h tiles pending p.begins in
    let more = tile_count rect.w rect.h - length tiles in
    let all : tile_count rect.w rect.h ≡ length tiles + more = omega (arith, few) in
    rw p.whole (after_tiles f rect.w rect.h (tile_count rect.w rect.h) more [] tiles p.front pending p.spelled all
    ∙ none_pending f rect.w rect.h more tiles pending refl p.begins)
kept_is_pending f rect (InRawTile tile seen at) pending now before body (tiles, pixels, number, sees, s) =
    let p = s.spelled in
    let w = tile_width rect.w (length tiles) in
    let h = tile_height rect.w rect.h (length tiles) in
    let fewer = p.fewer in
    let more = tile_count rect.w rect.h - length tiles in
    let all : tile_count rect.w rect.h ≡ length tiles + more = omega (arith, fewer) in
    let short = fewer_bytes f (h * w) _ pixels pending p.back p.some p.left in
    let waits = raw_waits f rect.w rect.h tiles (p.mask ∷ p.back) p.mask (omega arith) refl p.raw short in
    let raw : tile_pending f (p.mask ∷ p.back) ≡ in_pieces (size_of f) p.back = rw p.raw refl in
    rw p.whole (after_tiles f rect.w rect.h (tile_count rect.w rect.h) more [] tiles p.front
    (p.mask ∷ p.back) p.spelled all
    ∙ tile_waits f rect.w rect.h more tiles (p.mask ∷ p.back) (omega (arith, fewer)) waits ∙ raw
    ∙ pixels_pending f _ _ pixels pending p.back p.some)

-- what they stand for is shown
pub stands_shows : (f : PixelFormat) (rect : Rect) (stage : Stage)
    (pending : List ℕ) (now before : Grid Colour) (body : List ℕ) → StandsAt f rect stage pending now before body →
    ShowsFront f rect (encoding_at stage) before body pending now
stands_shows f rect BeforeSource pending now before body s =
    record { front = NoSource; encoding_is = refl; shown_is = s }
stands_shows f rect (Copied x y) pending now before body s = record {
  front = TheSource x y;
  encoding_is = refl;
  shown_is = s;
}
stands_shows f rect (InPixels at) pending now before body (pixels, s) =
    record { front = SomePixels (places_before rect.w at) pixels; encoding_is = refl; shown_is = s }
stands_shows f rect BeforeHead pending now before body s = record { front = NoHead; encoding_is = refl; shown_is = s }
stands_shows f rect (InSubrects left) pending now before body (background, subs, s) =
    record { front = SomeParts (length subs + left) background subs; encoding_is = refl; shown_is = s }
stands_shows f rect (InTiles tile seen) pending now before body (tiles, number, sees, s) =
    record { front = SomeTiles tiles; encoding_is = refl; shown_is = s }
stands_shows f rect (InRawTile tile seen at) pending now before body (tiles, pixels, number, sees, s) =
    record {
      front = SomeOfRaw tiles (places_before (tile_width rect.w tile) at) pixels;
      encoding_is = refl;
      shown_is = s;
    }
