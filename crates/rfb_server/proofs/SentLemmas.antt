-- A rectangle that is sent, for the session that sends it.
use Rattle.std.proofs.Common.{◌≡◌, ℕ, ◌+◌, ◌-◌, ◌*◌, ◌<◌, ◌≤◌, ◌&&◌, ◌||◌, Bool, true, false, List, ◌++◌, length}
use Rattle.std.proofs.Common.{Option, Some, None, if◌then◌else◌, refl, subst, ◌∙◌, arith, inl, inr, length-append}
use Rattle.rfb_pixel.specs.declared.colour.Colour.{Colour}
use Rattle.rfb_pixel.specs.Format.{PixelFormat, size_of}
use Rattle.rfb_picture.specs.declared.rect.Rect.{Rect}
use Rattle.rfb_picture.specs.Rect.{contains}
use Rattle.rfb_picture.specs.Grid.{Grid, IsGrid, Holds, at_or}
use Rattle.rfb_picture.specs.Box.{is_in, IsTight, IsBox}
use Rattle.rfb_picture.specs.Area.{Places, asked_at, whole_at}
use Rattle.rfb_picture.proofs.GridLaws.{contains_true}
use Rattle.rfb_wire.specs.declared.encoding.Encoding.{Encoding}
use Rattle.rfb_wire.specs.declared.encoding.Encoding.TheVariants.{Raw}
use Rattle.rfb_codec.specs.Codec.{PacksRect}
use Rattle.rfb_codec.specs.ByRule.{GivesUp}
use Rattle.rfb_codec.specs.Pixels.{IsSized}
use Rattle.rfb_codec.specs.Raw.{raw_length}
use Rattle.rfb_codec.specs.Effect.{IsAlike, IsRecorded}
use Rattle.rfb_server.specs.declared.session.Session.{Session}
use Rattle.rfb_server.specs.Request.{wanted_at, differs}
use Rattle.rfb_server.specs.session.Marks.{AreAlike}
use Rattle.rfb_server.specs.KnownScreen.{IsCaughtUp, Follows}
use Rattle.rfb_server.specs.update.Needs.{needs_of}
use Rattle.rfb_server.specs.Composition.{may_send, IsForPixels}
use Rattle.rfb_server.specs.Encodings.{preferred}
use Rattle.rfb_server.specs.update.Rectangle.{AppendsIn, SendsRect}
use Rattle.rfb_server.specs.update.Sends.{SendsPixels, AppendsPixels, may_need}
use Rattle.rfb_server.proofs.NeedingLemmas.{needed_marked}
use Rattle.rfb_server.proofs.SendsLemmas.{noted_at}

-- a record that has taken the pixels of the screen has caught up as much as before
pub caught_sent : (screen : Grid Colour) (known now : Grid (Option ℕ)) (area : Places) (form : PixelFormat)
    (marks : Grid Bool) (rect : Rect) (block : Grid ℕ) →
    AreAlike known area marks → IsAlike known now → PacksRect form screen rect block → IsRecorded rect block known now →
    IsCaughtUp screen known area form marks → IsCaughtUp screen now area form marks
caught_sent screen known now area form marks rect block alike size packed noted caught = record {
  right = λ x y p q e.
      let wide : x < now.width = rw (← size.columns, ← alike.marks_wide) p in
      let high : y < now.height = rw (← size.rows, ← alike.marks_high) q in
      noted_at screen form rect block known now x y packed noted wide high
      ∙ by (contains rect x y) x y (caught.right x y p q e);
  not_whole = caught.not_whole;
}
  where
    by : (here : Bool) (x y : ℕ) → at_or known x y None ≡ Some (wanted_at screen form x y) →
        (if here then Some (wanted_at screen form x y) else at_or known x y None) ≡ Some (wanted_at screen form x y)
    by true x y old = refl
    by false x y old = old

-- what was appended, in the encoding or in Raw
pub appends_pixels : (screen : Grid Colour) (form : PixelFormat) (encodings : List Encoding) (rect : Rect)
    (encoding : Encoding) (block : Grid ℕ) (known now : Grid (Option ℕ)) (before after : List ℕ) →
    encoding ≡ preferred encodings → may_send encodings encoding ≡ true → IsSized rect.w rect.h block →
    PacksRect form screen rect block → IsRecorded rect block known now → IsGrid now → IsAlike known now →
    SendsRect form rect encoding block before after →
    (bytes : List ℕ) × (after ≡ before ++ bytes) × SendsPixels screen form encodings rect known now bytes
appends_pixels screen form encodings rect encoding block known now before after first may sized packed
    noted whole alike sends = by sends
  where
    made : (k : Encoding) (a : AppendsIn form rect k block before after) → may_send encodings k ≡ true →
        IsForPixels form encodings block k → SendsPixels screen form encodings rect known now a.bytes
    made k a allowed chosen = record {
      block = block;
      encoding = k;
      sized = sized;
      packed = packed;
      coded = a.coded;
      may_be_sent = allowed;
      chosen = chosen;
      noted = noted;
      whole = whole;
      alike = alike;
    }

    by : SendsRect form rect encoding block before after →
        (bytes : List ℕ) × (after ≡ before ++ bytes) × SendsPixels screen form encodings rect known now bytes
    by (inl (kept, a)) = (
      a.bytes,
      a.appended,
      made encoding a may (inl (first, subst (λ (k : Encoding). GivesUp k form block → ⊥) first kept)),
    )
    by (inr (up, a)) = (
      a.bytes,
      a.appended,
      made Raw a refl (inr (refl, subst (λ (k : Encoding). GivesUp k form block) first up)),
    )

-- how long it is
pub length_sent : (screen : Grid Colour) (rect : Rect) (old new : Session) (before after : List ℕ) →
    AppendsPixels screen rect old new before after →
    length after ≤ length before + 12 + raw_length old.format rect.w rect.h
length_sent screen rect old new before after a =
    let sized = a.sent.sized in
    let short : length a.bytes ≤ 12 + rect.h * rect.w * size_of old.format =
    rw (← sized.width_is, ← sized.height_is) a.sent.coded.short in
    rw (a.appended, length-append before a.bytes) (omega (arith, short))

-- the edges of a rectangle of places that need sending are marked and asked
pub tight_marked : (screen : Grid Colour) (session : Session) (cell rect : Rect) →
    Follows screen session → Holds session.known cell →
    IsBox (needs_of screen session) cell rect → IsTight (may_need session.marks session.area) rect
tight_marked screen session cell rect about held box =
    let (j0, c0, m0) = box.tight.left in
    let (j1, c1, m1) = box.tight.right in
    let (i2, c2, m2) = box.tight.top in
    let (i3, c3, m3) = box.tight.bottom in
    record {
      some = box.tight.some;
      left = (j0, c0, marked rect.x j0 c0 m0);
      right = (j1, c1, marked (rect.x + rect.w - 1) j1 c1 m1);
      top = (i2, c2, marked i2 rect.y c2 m2);
      bottom = (i3, c3, marked i3 (rect.y + rect.h - 1) c3 m3);
    }
  where
    both : (mark asked need : Bool) → mark ≡ true → (asked && need) ≡ true → (mark && asked) ≡ true
    both true true need m e = refl
    both true false need m e = absurd cc
    both false asked need m e = absurd cc

    marked : (x y : ℕ) → contains rect x y ≡ true → needs_of screen session x y ≡ true →
        may_need session.marks session.area x y ≡ true
    marked x y c m =
        let (a, b, d, e) = contains_true rect x y c in
        both (is_in session.marks x y) (asked_at session.area x y) (whole_at session.area x y
        || differs (wanted_at screen session.format x y) (at_or session.known x y None))
        (needed_marked screen session x y about (omega (arith, box.within, held)) (omega (arith, box.within, held)) m) m
