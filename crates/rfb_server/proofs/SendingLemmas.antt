-- A rectangle's head and the data after it are the rectangle.
use Rattle.std.proofs.Common.{◌≡◌, ℕ, Bool, true, false, inl, List, ◌++◌, refl, ◌∙◌, arith, append_assoc, length-append}
use Rattle.std.specs.Bool.{OnTrue}
use Rattle.rfb_pixel.specs.Format.{PixelFormat}
use Rattle.rfb_picture.specs.declared.rect.Rect.{Rect}
use Rattle.rfb_picture.specs.Grid.{Grid}
use Rattle.rfb_wire.specs.declared.encoding.Encoding.{Encoding}
use Rattle.rfb_wire.specs.RectHead.{SpellsRectHead}
use Rattle.rfb_codec.specs.RectData.{Pixels, SpellsData}
use Rattle.rfb_codec.specs.Codec.{Appends}
use Rattle.rfb_codec.specs.ByRule.{StandsIn, GivesUp}
use Rattle.rfb_server.specs.update.Rectangle.{AppendsIn, SendsRect}

pub coded_in : (stands : PixelFormat → Grid ℕ → List ℕ → Type 0) (f : PixelFormat) (rect : Rect) (encoding : Encoding)
    (block : Grid ℕ) (old mid new head : List ℕ) →
    ((width height : ℕ) (bytes : List ℕ) → stands f block bytes →
    SpellsData f width height rect encoding (Pixels block) bytes) →
    ((bytes : List ℕ) → stands f block bytes → StandsIn encoding f block bytes) →
    mid ≡ old ++ head → SpellsRectHead (record { rect = rect; encoding = encoding }) head →
    Appends stands f block mid new → AppendsIn f rect encoding block old new
coded_in stands f rect encoding block old mid new head reads rule e spelled appends =
    record {
      bytes = head ++ appends.0;
      appended = appends.1 ∙ (rw e (append_assoc old head appends.0));
      coded = record {
        head = head;
        body = appends.0;
        whole = refl;
        head_is = spelled;
        body_is = λ width height. reads width height appends.0 appends.2;
        by_rule = rule appends.0 appends.2;
        short = rw (length-append head appends.0, spelled.size) (omega (arith, appends.3));
      };
    }

-- a codec that answers true has sent it
pub sent_coded : (result : Bool) (f : PixelFormat) (rect : Rect) (encoding given : Encoding) (block : Grid ℕ)
    (old new : List ℕ) → result ≡ true → encoding ≡ given →
    OnTrue result (AppendsIn f rect given block old new) → OnTrue result (GivesUp given f block → ⊥) →
    SendsRect f rect encoding block old new
sent_coded true f rect encoding given block old new e is sent taken = rw is (inl (taken, sent))
sent_coded false f rect encoding given block old new e is sent taken = absurd cc
