-- Pending bytes of a rectangle's data and of all that a server sends, and how many they are at most.
use Rattle.std.proofs.Common.{◌≡◌, ℕ, zero, suc, ◌+◌, ◌*◌, ◌≤◌, ◌<◌, List, [], ◌++◌, length, take, drop, sym, subst}
use Rattle.std.proofs.Common.{◌∙◌, ap, arith, append-nil, inl, inr, take-append-drop}
use Rattle.std.proofs.lemmas.List.{take_at, length-take-le}
use Rattle.std.proofs.Math.Nat.{mod-lt}
use Rattle.std.proofs.lemmas.Bool.{cases_lt}
use Rattle.rfb_pixel.specs.Format.{PixelFormat, IsFormat, size_of}
use Rattle.rfb_pixel.specs.FormatBytes.{AreBytes}
use Rattle.rfb_picture.specs.declared.rect.Rect.{Rect}
use Rattle.rfb_wire.specs.declared.encoding.Encoding.{Encoding}
use Rattle.rfb_wire.specs.declared.encoding.Encoding.TheVariants.{Raw, CopyRect, Rre, Hextile}
use Rattle.rfb_wire.specs.declared.rect_head.RectHead.{RectHead}
use Rattle.rfb_wire.specs.Fields.{s32_at}
use Rattle.rfb_wire.specs.stream.Prefix.{More, Got, Listed, ListedAfter}
use Rattle.rfb_wire.specs.RectHead.{SpellsRectHead, IsOnScreen}
use Rattle.rfb_wire.specs.RectStream.{rect_head, rect_head_of, rect_of, head_fault, encoding_of}
use Rattle.rfb_wire.specs.stream.PendingBytes.{in_pieces, after_piece}
use Rattle.rfb_wire.specs.MessagePieces.{server_piece_size, server_pending, rect_pending}
use Rattle.rfb_wire.specs.ServerHead.{server_head_size}
use Rattle.rfb_wire.proofs.stream_laws.PendingLaws.{counted_pending, pieces_pending, piece_pending, past_piece}
use Rattle.rfb_wire.proofs.stream_laws.PendingLaws.{pieces_within, piece_within, piece_below, message_within}
use Rattle.rfb_wire.proofs.PendingLaws.{server_pending_below}
use Rattle.rfb_codec.specs.declared.subrect.Subrect.{Subrect}
use Rattle.rfb_codec.specs.Rre.{SpellsRreHead, SpellsInside}
use Rattle.rfb_codec.specs.Tile.{Tile}
use Rattle.rfb_codec.specs.Hextile.{tile_count, SpellsNextTile}
use Rattle.rfb_codec.specs.Hextile.{next_tile}
use Rattle.rfb_codec.specs.UpdateStream.{UpdatePoint}
use Rattle.rfb_codec.specs.PendingBytes.{tile_pending, data_pending, pending_after_head, next_pending, update_pending}
use Rattle.rfb_wire.proofs.stream_laws.RepeatLaws.{checked_reads}
use Rattle.rfb_wire.proofs.RectStreamLaws.{rect_head_reads}
use Rattle.rfb_codec.proofs.EnoughLaws.{bytes_dropped}
use Rattle.rfb_codec.proofs.PendingTileLaws.{tiles_after, size_small, tiles_below, tiles_within}

-- ---- data

pub raw_pending : (f : PixelFormat) (rect : Rect) (count : ℕ) (front rest : List ℕ) → length front ≡ count * size_of f →
    length rest < size_of f → data_pending f rect Raw (front ++ rest) ≡ length rest
unfolding data_pending
raw_pending f rect count front rest whole less = counted_pending (size_of f) count front rest whole less

pub source_pending : (f : PixelFormat) (rect : Rect) (bytes : List ℕ) → length bytes < 4 →
    data_pending f rect CopyRect bytes ≡ length bytes
unfolding data_pending
source_pending f rect bytes less = piece_pending 4 (λ rest. 0) bytes less

pub rre_head_pending : (f : PixelFormat) (rect : Rect) (bytes : List ℕ) → length bytes < 4 + size_of f →
    data_pending f rect Rre bytes ≡ length bytes
unfolding data_pending
rre_head_pending f rect bytes less = piece_pending (4 + size_of f) (in_pieces (size_of f + 8)) bytes less

pub subrects_pending : (f : PixelFormat) (rect : Rect) (count background : ℕ) (subs : List Subrect) (head list
    rest : List ℕ) → SpellsRreHead f count background head → Listed (SpellsInside f rect.w rect.h) subs list →
    length rest < size_of f + 8 → data_pending f rect Rre (head ++ (list ++ rest)) ≡ length rest
unfolding data_pending
subrects_pending f rect count background subs head list rest head_is listed less =
    past_piece (4 + size_of f) (in_pieces (size_of f + 8)) head (list ++ rest) head_is.size
    ∙ pieces_pending (SpellsInside f rect.w rect.h) (size_of f + 8) (λ s bytes is. is.0.size) subs list rest listed less

pub hextile_pending : (f : PixelFormat) (rect : Rect) (tiles : List Tile) (front rest : List ℕ) →
    ListedAfter (SpellsNextTile f rect.w rect.h) [] tiles front → length tiles < tile_count rect.w rect.h →
    next_tile f rect.w rect.h tiles rest ≡ More → data_pending f rect Hextile (front ++ rest) ≡ tile_pending f rest
unfolding data_pending
hextile_pending f rect tiles front rest listed less waits =
    tiles_after f rect.w rect.h (tile_count rect.w rect.h) [] tiles front rest listed less waits

-- ---- the bound

pieces_below : (size most : ℕ) (bytes : List ℕ) → 0 < size → size ≤ suc most → in_pieces size bytes ≤ most
pieces_below size most bytes some small = let less = mod-lt (length bytes) some in omega (arith, less, small)

pub data_pending_below : (f : PixelFormat) (rect : Rect) (encoding : Encoding) (bytes : List ℕ) → IsFormat f →
    AreBytes bytes → data_pending f rect encoding bytes ≤ 1535
unfolding data_pending
data_pending_below f rect Raw bytes format are =
    let small = size_small f format in
    pieces_below (size_of f) 1535 bytes small.0 (omega (arith, small))
data_pending_below f rect CopyRect bytes format are =
    piece_below 1535 4 (λ rest. 0) (omega arith) (λ rest. omega arith) bytes
data_pending_below f rect Rre bytes format are =
    let small = size_small f format in
    piece_below 1535 (4 + size_of f) (in_pieces (size_of f + 8)) (omega (arith, small))
    (λ rest. pieces_below (size_of f + 8) 1535 rest (omega arith) (omega (arith, small))) bytes
data_pending_below f rect Hextile bytes format are =
    tiles_below f rect.w rect.h (tile_count rect.w rect.h) [] bytes format are

-- ---- no more are pending than came

pub data_pending_within : (f : PixelFormat) (rect : Rect) (encoding : Encoding) (bytes : List ℕ) →
    data_pending f rect encoding bytes ≤ length bytes
unfolding data_pending
data_pending_within f rect Raw bytes = pieces_within (size_of f) bytes
data_pending_within f rect CopyRect bytes = piece_within 4 (λ rest. 0) (λ rest. omega arith) bytes
data_pending_within f rect Rre bytes =
    piece_within (4 + size_of f) (in_pieces (size_of f + 8)) (λ rest. pieces_within (size_of f + 8) rest) bytes
data_pending_within f rect Hextile bytes = tiles_within f rect.w rect.h (tile_count rect.w rect.h) [] bytes

-- ---- the stream

-- the head that twelve bytes spell is the one that they are read as
head_of : (width height : ℕ) (head : RectHead) (front : List ℕ) → SpellsRectHead head front →
    IsOnScreen width height head.rect → rect_head_of front ≡ head
unfolding rect_head
head_of width height head front head_is on =
    let read : rect_head width height (front ++ []) ≡ Got head [] =
    (rect_head_reads width height).only head front [] (head_is, on) in
    let one = (checked_reads 12 (λ bytes. head_fault width height (s32_at 8 bytes) (encoding_of (s32_at 8 bytes))
    (rect_of bytes)) rect_head_of).found (front ++ []) head [] read in
    let same : front ≡ one.0 = sym (append-nil front) ∙ one.1 ∙ append-nil one.0 in
    ap rect_head_of same ∙ sym one.2.2

pub message_pending_next : (p : UpdatePoint) (bytes : List ℕ) → p.left ≡ 0 →
    update_pending p bytes ≡ server_pending bytes
unfolding update_pending
message_pending_next p bytes none = ap (λ (left : ℕ). next_pending p.form left bytes) none

-- a head that is not whole
pub short_head_pending : (p : UpdatePoint) (bytes : List ℕ) → 0 < p.left → length bytes < 12 →
    update_pending p bytes ≡ length bytes
unfolding update_pending
short_head_pending p bytes some less = by p.left some
  where
    by : (left : ℕ) → 0 < left → next_pending p.form left bytes ≡ length bytes
    by zero none = absurd (omega (arith, none))
    by (suc left) some = piece_pending 12 (pending_after_head p.form (rect_head_of (take 12 bytes))) bytes less

-- after a head it is what is pending of the data
pub data_pending_next : (p : UpdatePoint) (head : RectHead) (front after_it : List ℕ) → 0 < p.left →
    SpellsRectHead head front → IsOnScreen p.width p.height head.rect →
    update_pending p (front ++ after_it) ≡ pending_after_head p.form head after_it
unfolding update_pending
data_pending_next p head front after_it some head_is on = by p.left some
  where
    same : rect_head_of (take 12 (front ++ after_it)) ≡ head
    same = ap rect_head_of (take_at front after_it 12 head_is.size) ∙ head_of p.width p.height head front head_is on

    by : (left : ℕ) → 0 < left → next_pending p.form left (front ++ after_it) ≡ pending_after_head p.form head after_it
    by zero none = absurd (omega (arith, none))
    by (suc left) some =
        subst (λ (h : RectHead). rect_pending (pending_after_head p.form h) (front ++ after_it)
        ≡ pending_after_head p.form head after_it) (sym same)
        (past_piece 12 (pending_after_head p.form head) front after_it head_is.size)

pub update_pending_below : (p : UpdatePoint) (bytes : List ℕ) → IsFormat p.form → AreBytes bytes →
    update_pending p bytes ≤ 1535
unfolding update_pending
update_pending_below p bytes format are = by p.left
  where
    below : (head : RectHead) → rect_pending (pending_after_head p.form head) bytes ≤ 1535
    below head = elim (cases_lt (length bytes) 12) [
      | inl less ↦ rw (piece_pending 12 (pending_after_head p.form head) bytes less) (omega (arith, less))
      | inr more ↦
          let short : length (take 12 bytes) ≡ 12 = length-take-le 12 bytes more in
          let whole : take 12 bytes ++ drop 12 bytes ≡ bytes = take-append-drop 12 bytes in
          let after' : after_piece 12 (pending_after_head p.form head) (take 12 bytes ++ drop 12 bytes)
          ≡ pending_after_head p.form head (drop 12 bytes) =
          past_piece 12 (pending_after_head p.form head) (take 12 bytes) (drop 12 bytes) short in
          let same : rect_pending (pending_after_head p.form head) bytes
          ≡ pending_after_head p.form head (drop 12 bytes) =
          subst (λ (ys : List ℕ). after_piece 12 (pending_after_head p.form head) ys
          ≡ pending_after_head p.form head (drop 12 bytes)) whole after' in
          rw same (data_pending_below p.form head.rect head.encoding (drop 12 bytes) format
          (bytes_dropped 12 bytes are))
    ]

    by : (left : ℕ) → next_pending p.form left bytes ≤ 1535
    by zero = let few = server_pending_below bytes in omega (arith, few)
    by (suc left) = below (rect_head_of (take 12 bytes))

pub update_pending_within : (p : UpdatePoint) (bytes : List ℕ) → update_pending p bytes ≤ length bytes
unfolding update_pending
update_pending_within p bytes = by p.left
  where
    by : (left : ℕ) → next_pending p.form left bytes ≤ length bytes
    by zero = message_within server_head_size server_piece_size bytes
    by (suc left) =
        let head = rect_head_of (take 12 bytes) in
        piece_within 12 (pending_after_head p.form head)
        (λ rest. data_pending_within p.form head.rect head.encoding rest) bytes
