-- The reading of a rectangle's data is what bytes say under its head, in both directions.
use Rattle.std.proofs.Common.{◌≡◌, ℕ, List, Bool, true, false, Option, Some, None, length, if◌then◌else◌, refl, sym}
use Rattle.std.proofs.Common.{subst}
use Rattle.rfb_pixel.specs.Format.{PixelFormat}
use Rattle.rfb_picture.specs.declared.rect.Rect.{Rect}
use Rattle.rfb_picture.specs.Grid.{Grid}
use Rattle.rfb_wire.specs.declared.encoding.Encoding.{Encoding}
use Rattle.rfb_wire.specs.declared.encoding.Encoding.TheVariants.{Raw, CopyRect, Rre, Hextile}
use Rattle.rfb_wire.specs.Fields.{u16_at}
use Rattle.rfb_wire.specs.stream.Prefix.{Reading, Says, Reads, Same}
use Rattle.rfb_wire.specs.stream.Parts.{renamed}
use Rattle.rfb_wire.specs.RectHead.{IsOnScreen}
use Rattle.rfb_wire.specs.RectStream.{is_on_screen}
use Rattle.rfb_wire.proofs.stream_laws.PartLaws.{same_reads}
use Rattle.rfb_wire.proofs.stream_laws.RepeatLaws.{checked_says, checked_reads, renamed_says, renamed_reads}
use Rattle.rfb_wire.proofs.RectStreamLaws.{on_true, on_test, off_test}
use Rattle.rfb_codec.specs.declared.fault.PaintFault.{PaintFault}
use Rattle.rfb_codec.specs.declared.fault.PaintFault.TheVariants.{SourceOutside}
use Rattle.rfb_codec.specs.Raw.{raw}
use Rattle.rfb_codec.specs.Rre.{rre}
use Rattle.rfb_codec.specs.Hextile.{hextile}
use Rattle.rfb_codec.specs.RectData.{RectData, Pixels, Source, SpellsSource, moved_to, SpellsData, FaultsData}
use Rattle.rfb_codec.specs.RectData.{data_says, source_fault, source_rect, source, rect_data}
use Rattle.rfb_codec.proofs.RawLaws.{raw_says, raw_reads}
use Rattle.rfb_codec.proofs.RreLaws.{rre_says, rre_reads}
use Rattle.rfb_codec.proofs.HextileLaws.{hextile_says, hextile_reads}

-- ---- Raw, RRE and Hextile

-- the data are the pixels of a block
abbrev pixels_say : Says (Grid ℕ) PaintFault → Says RectData PaintFault
pixels_say s = renamed_says (λ block. Pixels block) (λ fault. fault) s

-- where bytes say data exactly as they say a block of pixels, the reading of the block gives the data
pixels_read : (p : Reading (Grid ℕ) PaintFault) (s : Says (Grid ℕ) PaintFault) (t : Says RectData PaintFault) →
    Reads p s → ((block : Grid ℕ) (bytes : List ℕ) → s.item block bytes → t.item (Pixels block) bytes) →
    ((block : Grid ℕ) (bytes : List ℕ) → t.item (Pixels block) bytes → s.item block bytes) →
    ((x y : ℕ) (bytes : List ℕ) → t.item (Source x y) bytes → ⊥) →
    ((g : PaintFault) (bytes : List ℕ) → s.fault g bytes → t.fault g bytes) →
    ((g : PaintFault) (bytes : List ℕ) → t.fault g bytes → s.fault g bytes) →
    Reads (renamed (λ block. Pixels block) (λ fault. fault) p) t
pixels_read p s t reads to back none fault_to fault_back =
    same_reads (renamed (λ block. Pixels block) (λ fault. fault) p) (pixels_say s) t (record {
      item = item;
      fault = λ g bytes told. rw told.1 (fault_to told.0 bytes told.2);
      item_back = item_back;
      fault_back = λ g bytes told. (g, refl, fault_back g bytes told);
    }) (renamed_reads (λ block. Pixels block) (λ fault. fault) p s reads)
  where
    item : (a : RectData) (bytes : List ℕ) → (pixels_say s).item a bytes → t.item a bytes
    item (Pixels block) bytes (k, is, stands) = let same : block ≡ k = cc in to block bytes (rw same stands)
    item (Source x y) bytes (k, is, stands) = cc

    item_back : (a : RectData) (bytes : List ℕ) → t.item a bytes → (pixels_say s).item a bytes
    item_back (Pixels block) bytes stands = (block, refl, back block bytes stands)
    item_back (Source x y) bytes told = absurd (none x y bytes told)

-- ---- CopyRect

-- four bytes spell the source that they are
source_spelled : (bytes : List ℕ) → length bytes ≡ 4 → SpellsSource (u16_at 0 bytes) (u16_at 2 bytes) bytes
source_spelled bytes size = record { size = size; x_is = refl; y_is = refl }

source_same : (f : PixelFormat) (width height : ℕ) (rect : Rect) →
    Same (checked_says 4 (λ bytes. source_fault width height (source_rect rect bytes))
    (λ bytes. Source (u16_at 0 bytes) (u16_at 2 bytes))) (data_says f width height rect CopyRect)
source_same f width height rect = record { item = item; fault = fault; item_back = item_back; fault_back = fault_back }
  where
    inside : (r : Rect) (b : Bool) → is_on_screen width height r ≡ b →
        ◌≡◌ {A = Option PaintFault} (if b then None else Some SourceOutside) None → IsOnScreen width height r
    inside r true is e = on_true width height r is
    inside r false is e = cc

    outside : (r : Rect) (b : Bool) (fault : PaintFault) → is_on_screen width height r ≡ b →
        ◌≡◌ {A = Option PaintFault} (if b then None else Some SourceOutside) (Some fault) →
        (fault ≡ SourceOutside) × (IsOnScreen width height r → ⊥)
    outside r true fault is e = cc
    outside r false fault is e =
        let same : SourceOutside ≡ fault = cc in
        (sym same, λ on. let yes' = on_test width height r on in cc)

    item : (a : RectData) (bytes : List ℕ) → (length bytes ≡ 4) × (source_fault width height (source_rect rect bytes)
        ≡ None) × (a ≡ Source (u16_at 0 bytes) (u16_at 2 bytes)) → SpellsData f width height rect CopyRect a bytes
    item a bytes (
      size,
      good,
      same,
    ) = subst (λ (b : RectData). SpellsData f width height rect CopyRect b bytes) (sym same) (
      source_spelled bytes size,
      inside (source_rect rect bytes) (is_on_screen width height (source_rect rect bytes)) refl good,
    )

    fault : (g : PaintFault) (bytes : List ℕ) →
        (length bytes ≡ 4) × (source_fault width height (source_rect rect bytes) ≡ Some g) →
        FaultsData f width height rect CopyRect g bytes
    fault g bytes (size, told) =
        let off = outside (source_rect rect bytes) (is_on_screen width height (source_rect rect bytes)) g refl told in
        (off.0, record { x = u16_at 0 bytes; y = u16_at 2 bytes; spelled = source_spelled bytes size; outside = off.1 })

    item_back : (a : RectData) (bytes : List ℕ) → SpellsData f width height rect CopyRect a bytes → (length bytes ≡ 4)
        × (source_fault width height (source_rect rect bytes) ≡ None) × (a ≡ Source (u16_at 0 bytes) (u16_at 2 bytes))
    item_back (Pixels block) bytes none = absurd none
    item_back (Source x y) bytes (spelled, on) =
        let test : is_on_screen width height (source_rect rect bytes) ≡ true =
        rw (spelled.x_is, spelled.y_is) (on_test width height (moved_to x y rect) on) in
        (spelled.size, rw test refl, rw (spelled.x_is, spelled.y_is) refl)

    fault_back : (g : PaintFault) (bytes : List ℕ) → FaultsData f width height rect CopyRect g bytes →
        (length bytes ≡ 4) × (source_fault width height (source_rect rect bytes) ≡ Some g)
    fault_back g bytes (is, told) =
        let off : is_on_screen width height (moved_to told.x told.y rect) ≡ false = off_test width height
        (moved_to told.x told.y rect) (is_on_screen width height (moved_to told.x told.y rect)) refl told.outside in
        let test : is_on_screen width height (source_rect rect bytes) ≡ false =
        rw (told.spelled.x_is, told.spelled.y_is) off in
        (told.spelled.size, rw (test, is) refl)

-- the reading gives exactly the data and the faults that bytes say
pub rect_data_reads : (f : PixelFormat) (width height : ℕ) (rect : Rect) (encoding : Encoding) →
    Reads (rect_data f width height rect encoding) (data_says f width height rect encoding)
unfolding rect_data
rect_data_reads f width height rect Raw =
    pixels_read (raw f rect.w rect.h) (raw_says f rect.w rect.h) (data_says f width height rect Raw)
    (raw_reads f rect.w rect.h) (λ block bytes stands. stands) (λ block bytes stands. stands)
    (λ x y bytes none. none) (λ g bytes told. told) (λ g bytes told. told)
rect_data_reads f width height rect CopyRect = same_reads (source width height rect) (checked_says 4
    (λ bytes. source_fault width height (source_rect rect bytes)) (λ bytes. Source (u16_at 0 bytes) (u16_at 2 bytes)))
    (data_says f width height rect CopyRect) (source_same f width height rect) (checked_reads 4
    (λ bytes. source_fault width height (source_rect rect bytes)) (λ bytes. Source (u16_at 0 bytes) (u16_at 2 bytes)))
rect_data_reads f width height rect Rre =
    pixels_read (rre f rect.w rect.h) (rre_says f rect.w rect.h) (data_says f width height rect Rre)
    (rre_reads f rect.w rect.h) (λ block bytes stands. stands) (λ block bytes stands. stands)
    (λ x y bytes none. none) (λ g bytes told. told) (λ g bytes told. told)
rect_data_reads f width height rect Hextile =
    pixels_read (hextile f rect.w rect.h) (hextile_says f rect.w rect.h) (data_says f width height rect Hextile)
    (hextile_reads f rect.w rect.h) (λ block bytes stands. stands) (λ block bytes stands. stands)
    (λ x y bytes none. none) (λ g bytes told. told) (λ g bytes told. told)
