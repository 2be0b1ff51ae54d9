-- The reading of Raw is what bytes stand for, in both directions.
use Rattle.std.proofs.Common.{◌≡◌, ℕ, List, length, sym, subst}
use Rattle.rfb_pixel.specs.Format.{PixelFormat}
use Rattle.rfb_picture.specs.Grid.{Grid}
use Rattle.rfb_wire.specs.stream.Prefix.{Says, Reads, Same}
use Rattle.rfb_wire.specs.stream.Parts.{valued}
use Rattle.rfb_wire.proofs.stream_laws.PartLaws.{same_reads}
use Rattle.rfb_wire.proofs.stream_laws.RepeatLaws.{valued_says, valued_reads}
use Rattle.rfb_codec.specs.declared.fault.PaintFault.{PaintFault}
use Rattle.rfb_codec.specs.Pixels.{IsSized, Shows, drawn}
use Rattle.rfb_codec.specs.Raw.{raw_length, raw_pixel, StandsRaw, raw}
use Rattle.rfb_codec.proofs.PixelLaws.{sized-drawn, shows-drawn, drawn_is}

-- what bytes say of a block of that size
abbrev pub raw_says : PixelFormat → ℕ → ℕ → Says (Grid ℕ) PaintFault
raw_says f w h = record { item = λ block bytes. IsSized w h block × StandsRaw f block bytes; fault = λ _ _. ⊥ }

-- bytes of the length of a block stand for the block that is drawn of them
pub raw_stands : (f : PixelFormat) (w h : ℕ) (bytes : List ℕ) → length bytes ≡ raw_length f w h →
    StandsRaw f (drawn w h (raw_pixel f w bytes)) bytes
raw_stands f w h bytes size =
    let sized = sized-drawn w h (raw_pixel f w bytes) in
    record {
      size = rw (sized.width_is, sized.height_is) size;
      shows = subst (λ (n : ℕ). Shows (drawn w h (raw_pixel f w bytes)) (raw_pixel f n bytes)) (sym sized.width_is)
          (shows-drawn w h (raw_pixel f w bytes));
    }

raw_same : (f : PixelFormat) (w h : ℕ) →
    Same (valued_says (raw_length f w h) (λ bytes. drawn w h (raw_pixel f w bytes))) (raw_says f w h)
raw_same f w h = record {
  item = λ block bytes told. subst (λ (g : Grid ℕ). IsSized w h g × StandsRaw f g bytes) (sym told.1)
      (sized-drawn w h (raw_pixel f w bytes), raw_stands f w h bytes told.0);
  fault = λ fault bytes none. none;
  item_back = item_back;
  fault_back = λ fault bytes none. none;
}
  where
    item_back : (block : Grid ℕ) (bytes : List ℕ) → IsSized w h block × StandsRaw f block bytes →
        (length bytes ≡ raw_length f w h) × (block ≡ drawn w h (raw_pixel f w bytes))
    item_back block bytes (sized, stands) = (
      rw (sized.width_is, sized.height_is) at stands.size,
      drawn_is w h (raw_pixel f w bytes) block sized
          (subst (λ (n : ℕ). Shows block (raw_pixel f n bytes)) sized.width_is stands.shows),
    )

-- the reading gives exactly the blocks that bytes stand for
pub raw_reads : (f : PixelFormat) (w h : ℕ) → Reads (raw f w h) (raw_says f w h)
unfolding raw
raw_reads f w h =
    same_reads (valued (raw_length f w h) (λ bytes. drawn w h (raw_pixel f w bytes)))
    (valued_says (raw_length f w h) (λ bytes. drawn w h (raw_pixel f w bytes))) (raw_says f w h) (raw_same f w h)
    (valued_reads (raw_length f w h) (λ bytes. drawn w h (raw_pixel f w bytes)))
