-- A source, RRE's head and its subrectangles, taken at their last bytes.
use Rattle.std.proofs.Common.{◌≡◌, ℕ, ◌+◌, ◌-◌, ◌<◌, ◌==◌, nat_lt, true, false, List, [], ◌∷◌, ◌++◌, length}
use Rattle.std.proofs.Common.{take, drop, refl, sym, subst, ◌∙◌, ap, append-nil, append_assoc, arith}
use Rattle.std.proofs.Common.{length-append, length-take-le}
use Rattle.std.proofs.lemmas.Bool.Decides.{nat_tests}
use Rattle.byteorder.specs.Endian.{big_number}
use Rattle.rfb_pixel.specs.declared.colour.Colour.{Colour}
use Rattle.rfb_pixel.specs.Format.{PixelFormat, size_of, colour_of, pixel_number}
use Rattle.rfb_picture.specs.declared.rect.Rect.{Rect}
use Rattle.rfb_picture.specs.Grid.{Grid, IsGrid, filled}
use Rattle.rfb_picture.proofs.GridLaws.{whole_before}
use Rattle.rfb_wire.specs.declared.encoding.Encoding.{Encoding}
use Rattle.rfb_wire.specs.declared.encoding.Encoding.TheVariants.{CopyRect, Rre}
use Rattle.rfb_wire.specs.stream.Prefix.{Bad}
use Rattle.rfb_wire.specs.RectHead.{IsOnScreen}
use Rattle.rfb_wire.specs.Fields.{u16_at}
use Rattle.rfb_wire.proofs.stream_laws.RepeatLaws.{listed_from, listed_to}
use Rattle.rfb_codec.specs.declared.subrect.Subrect.{Subrect}
use Rattle.rfb_codec.specs.declared.fault.PaintFault.{PaintFault}
use Rattle.rfb_codec.specs.declared.fault.PaintFault.TheVariants.{SubrectOutside, SourceOutside}
use Rattle.rfb_codec.specs.declared.painter.stage.Stage.TheVariants.{BeforeSource, InSubrects}
use Rattle.rfb_codec.specs.Rre.{SpellsInside, subrect_of}
use Rattle.rfb_codec.specs.RectData.{FaultsData, moved_to, rect_data}
use Rattle.rfb_codec.specs.Front.{NoSource, NoHead, SomeParts, Shows}
use Rattle.rfb_codec.specs.decoder.Step.{moved_into, IsRefusedWith}
use Rattle.rfb_codec.specs.Stage.{StandsAt}
use Rattle.rfb_codec.proofs.HextileEncodeLemmas.{listed_more}
use Rattle.rfb_pixel.proofs.FormatLaws.{pixel_number-take}
use Rattle.rfb_codec.proofs.PaintRreLemmas.{over_filled}
use Rattle.rfb_codec.proofs.RreLaws.{subrect_spelled}
use Rattle.rfb_codec.proofs.RectDataLaws.{rect_data_reads}
use Rattle.rfb_codec.proofs.VerdictLemmas.{refused_with, stage_waits}

-- ---- a fault

-- of data whose bytes say that they end in it
data_bad : (f : PixelFormat) (rect : Rect) (encoding : Encoding) (before : Grid Colour)
    (body : List ℕ) (fault : PaintFault) → FaultsData f before.width before.height rect encoding fault body →
    rect_data f before.width before.height rect encoding body ≡ Bad fault
data_bad f rect encoding before body fault said =
    subst (λ (ys : List ℕ). rect_data f before.width before.height rect encoding ys ≡ Bad fault) (append-nil body)
    ((rect_data_reads f before.width before.height rect encoding).blames fault body [] said)

-- bytes before the last
front_short : (k n : ℕ) (pending bytes xs : List ℕ) → xs ≡ pending ++ take (k + 1) bytes → k < length bytes →
    length xs ≡ n + 1 → length (pending ++ take k bytes) ≡ n
front_short k n pending bytes xs is within size =
    let a : length (take (k + 1) bytes) ≡ k + 1 = length-take-le (k + 1) bytes (omega arith) in
    let b : length (take k bytes) ≡ k = length-take-le k bytes (omega arith) in
    let c : length pending + length (take (k + 1) bytes) ≡ n + 1 =
    sym (length-append pending (take (k + 1) bytes)) ∙ ap length (sym is) ∙ size in
    length-append pending (take k bytes) ∙ omega (arith, a, b, c)

-- ---- CopyRect

pub source_refused : (f : PixelFormat) (rect : Rect) (pending bytes xs : List ℕ) (used k x y : ℕ)
    (now before : Grid Colour) (body : List ℕ) → Shows f rect NoSource pending now before body →
    k < length bytes → xs ≡ pending ++ take (k + 1) bytes → length xs ≡ 4 → u16_at 0 xs ≡ x → u16_at 2 xs ≡ y →
    (IsOnScreen now.width now.height (moved_to x y rect) → ⊥) → used ≡ k + 1 →
    IsRefusedWith f rect CopyRect before body bytes (record { used = used; fault = SourceOutside }) now
source_refused f rect pending bytes xs used k x y now before body s within is size x_is y_is off last =
    let whole : body ++ take (k + 1) bytes ≡ xs = ap (λ (ys : List ℕ). ys ++ take (k + 1) bytes) s.spelled.0 ∙ sym is in
    let off' : IsOnScreen before.width before.height (moved_to x y rect) → ⊥ =
    subst (λ (g : Grid Colour). IsOnScreen g.width g.height (moved_to x y rect) → ⊥) s.shows off in
    let short = front_short k 3 pending bytes xs is within size in
    let shown : Shows f rect NoSource (pending ++ take k bytes) now before
    (body ++ take k bytes) = record {
      spelled = (
        ap (λ (ys : List ℕ). ys ++ take k bytes) s.spelled.0,
        omega
            (arith, short),
      );
      shows = s.shows;
    } in
    let waits = stage_waits f rect BeforeSource (pending ++ take k bytes) now before (body ++ take k bytes) refl
    (let three = short in grind (arith, nat_tests)) shown in
    let bad = data_bad f rect CopyRect before xs SourceOutside (
      refl,
      record { x = x; y = y; spelled = record { size = size; x_is = x_is; y_is = y_is }; outside = off' },
    ) in
    refused_with NoSource k pending within shown waits (rw whole bad) last

-- ---- RRE

-- the head at its last byte
pub head_taken : (f : PixelFormat) (rect : Rect) (pending more xs rest : List ℕ) (count part background : ℕ)
    (old new before : Grid Colour) (body : List ℕ) → xs ≡ pending ++ more → length xs ≡ 4 + size_of f →
    rest ≡ [] → count ≡ big_number 4 xs → part ≡ size_of f → background ≡ pixel_number f (take part (drop 4 xs)) →
    new ≡ filled rect (colour_of f background) old → Shows f rect NoHead pending old before body →
    StandsAt f rect (InSubrects count) rest new before (body ++ more)
head_taken f rect pending more xs rest count part background old new before body is size none count_is
    part_is background_is drawn s =
    let whole : body ++ more ≡ xs = ap (λ (ys : List ℕ). ys ++ more) s.spelled.0 ∙ sym is in
    let number : length {A = Subrect} [] + count ≡ count = omega arith in
    let background' : pixel_number f (drop 4 xs) ≡ background =
    sym (pixel_number-take f (drop 4 xs) part (omega arith)) ∙ sym background_is in (
      background,
      [],
      rw (number, none) (record {
        spelled = record {
          head = xs;
          list = [];
          whole = whole ∙ sym (append-nil xs);
          head_is = record { size = size; count_is = sym count_is; background_is = background' };
          listed = refl;
          few = omega arith;
          short = omega arith;
          ended = λ e. refl;
        };
        shows = drawn ∙ ap (filled rect (colour_of f background)) s.shows;
      }),
    )

-- the data with one subrectangle more
pub subrect_taken : (f : PixelFormat) (rect : Rect) (left less : ℕ)
    (pending more xs rest : List ℕ) (old new before : Grid Colour) (body : List ℕ) → 0 < left → less ≡ left - 1 →
    xs ≡ pending ++ more → length xs ≡ size_of f + 8 → rest ≡ [] → IsOnScreen rect.w rect.h (subrect_of f xs).rect →
    IsGrid old → new ≡ filled (moved_into rect (subrect_of f xs).rect) (colour_of f (subrect_of f xs).pixel) old →
    StandsAt f rect (InSubrects left) pending old before body →
    StandsAt f rect (InSubrects less) rest new before (body ++ more)
subrect_taken f rect left less pending more xs rest old new before body some less_is is size none on
    whole drawn (background, subs, s) =
    let one = subrect_of f xs in
    let p = s.spelled in
    let long : length (subs ++ one ∷ []) ≡ length subs + 1 = length-append subs (one ∷ []) in
    let number : length (subs ++ one ∷ []) + less ≡ length subs + left = omega (arith, long, less_is) in
    let bytes_are : body ++ more ≡ p.head ++ ((p.list ++ xs) ++ []) =
    ap (λ (ys : List ℕ). ys ++ more) p.whole ∙ append_assoc p.head (p.list ++ pending) more
    ∙ ap (λ (ys : List ℕ). p.head ++ ys) (append_assoc p.list pending more ∙ ap (λ (ys : List ℕ). p.list ++ ys) (sym is)
    ∙ sym (append-nil (p.list ++ xs))) in
    let listed = listed_from (SpellsInside f rect.w rect.h) [] (subs ++ one ∷ []) (p.list ++ xs)
    (listed_more (λ (_ : List Subrect). SpellsInside f rect.w rect.h) [] subs one p.list xs
    (listed_to (SpellsInside f rect.w rect.h) [] subs p.list p.listed) (subrect_spelled f xs size, on)) in
    let whole' : IsGrid before = whole_before _ before (subst (λ (g : Grid Colour). IsGrid g) s.shows whole) in (
      background,
      subs ++ one ∷ [],
      rw (number, none) (record {
        spelled = record {
          head = p.head;
          list = p.list ++ xs;
          whole = bytes_are;
          head_is = p.head_is;
          listed = listed;
          few = omega (arith, long);
          short = omega arith;
          ended = λ e. refl;
        };
        shows = drawn ∙ ap (filled (moved_into rect one.rect) (colour_of f one.pixel)) s.shows
            ∙ over_filled f rect background subs one before whole' on;
      }),
    )

-- bytes of the next one
pub subrect_waits : (f : PixelFormat) (rect : Rect)
    (left : ℕ) (pending more xs : List ℕ) (now before : Grid Colour) (body : List ℕ) → 0 < left → xs ≡ pending ++ more →
    length xs < size_of f + 8 → StandsAt f rect (InSubrects left) pending now before body →
    StandsAt f rect (InSubrects left) xs now before (body ++ more)
subrect_waits f rect left pending more xs now before body some is short (background, subs, s) =
    let p = s.spelled in (
      background,
      subs,
      record {
        spelled = record {
          head = p.head;
          list = p.list;
          whole = ap (λ (ys : List ℕ). ys ++ more) p.whole ∙ append_assoc p.head (p.list ++ pending) more
              ∙ ap (λ (ys : List ℕ). p.head ++ ys)
              (append_assoc p.list pending more ∙ ap (λ (ys : List ℕ). p.list ++ ys) (sym is));
          head_is = p.head_is;
          listed = p.listed;
          few = p.few;
          short = short;
          ended = λ e. absurd (omega arith);
        };
        shows = s.shows;
      },
    )

-- one that leaves the rectangle
pub subrect_refused : (f : PixelFormat) (rect : Rect) (left used k : ℕ) (pending bytes xs : List ℕ)
    (now before : Grid Colour) (body : List ℕ) → 0 < left → k < length bytes → xs ≡ pending ++ take
    (k + 1) bytes → length xs ≡ size_of f + 8 → (IsOnScreen rect.w rect.h (subrect_of f xs).rect → ⊥) →
    StandsAt f rect (InSubrects left) pending now before body → used ≡ k + 1 →
    IsRefusedWith f rect Rre before body bytes (record { used = used; fault = SubrectOutside }) now
unfolding subrect_waits
subrect_refused f rect left used k pending bytes xs now before body some within is size off (background, subs, s) last =
    let p = s.spelled in
    let whole : body ++ take (k + 1) bytes ≡ p.head ++ (p.list ++ xs) =
    ap (λ (ys : List ℕ). ys ++ take (k + 1) bytes) p.whole
    ∙ append_assoc p.head (p.list ++ pending) (take (k + 1) bytes)
    ∙ ap (λ (ys : List ℕ). p.head ++ ys)
    (append_assoc p.list pending (take (k + 1) bytes) ∙ ap (λ (ys : List ℕ). p.list ++ ys) (sym is)) in
    let short = front_short k (size_of f + 7) pending bytes xs is within (size ∙ omega arith) in
    let stands = subrect_waits f rect left pending (take k bytes) (pending ++ take k bytes) now before body some refl
    (omega (arith, short)) (background, subs, s) in
    let waits = stage_waits f rect (InSubrects left) (pending ++ take k bytes) now before (body ++ take k bytes)
    (is_some left some) (few (length (pending ++ take k bytes)) (size_of f + 8) (omega (arith, short))) stands in
    let bad = data_bad f rect Rre before (p.head ++ (p.list ++ xs)) SubrectOutside (
      refl,
      record {
        count = length subs + left;
        background = background;
        subs = subs;
        outside = subrect_of f xs;
        head = p.head;
        list = p.list;
        last = xs;
        whole = refl;
        head_is = p.head_is;
        fewer = omega arith;
        listed = p.listed;
        last_is = subrect_spelled f xs size;
        leaves = off;
      },
    ) in
    refused_with (SomeParts (length subs + left) stands.0 stands.1) k pending within stands.2 waits (rw whole bad) last
  where
    is_some : (n : ℕ) → 0 < n → (n == 0) ≡ false
    is_some n e = grind (arith, nat_tests)

    few : (n m : ℕ) → n < m → nat_lt n m ≡ true
    few n m e = grind (arith, nat_tests)
