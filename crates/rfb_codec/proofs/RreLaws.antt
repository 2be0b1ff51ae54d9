-- The reading of RRE is what bytes stand for, in both directions, and its fault is that of the first
-- subrectangle that leaves the rectangle.
use Rattle.std.proofs.Common.{◌≡◌, ℕ, ◌+◌, inl, inr, List, [], ◌∷◌, ◌++◌, Bool, true, false, Option, Some, None, length}
use Rattle.std.proofs.Common.{if◌then◌else◌, refl, sym, subst, ◌∙◌, ap, append-nil}
use Rattle.rfb_pixel.specs.Format.{PixelFormat, size_of}
use Rattle.rfb_picture.specs.declared.rect.Rect.{Rect}
use Rattle.rfb_picture.specs.Rect.{contains}
use Rattle.rfb_picture.specs.Grid.{Grid}
use Rattle.rfb_wire.specs.stream.Prefix.{Says, Reads, Same, Listed}
use Rattle.rfb_wire.specs.stream.Parts.{done, and_then, valued, many}
use Rattle.rfb_wire.specs.RectHead.{IsOnScreen}
use Rattle.rfb_wire.specs.RectStream.{is_on_screen}
use Rattle.rfb_wire.proofs.stream_laws.PartLaws.{alone, done_says, done_reads, then_says, then_reads, same_reads}
use Rattle.rfb_wire.proofs.stream_laws.RepeatLaws.{valued_says, valued_reads, checked_says, checked_reads, many_says}
use Rattle.rfb_wire.proofs.stream_laws.RepeatLaws.{many_reads}
use Rattle.rfb_wire.proofs.RectStreamLaws.{on_true, on_test, off_test}
use Rattle.rfb_codec.specs.declared.subrect.Subrect.{Subrect}
use Rattle.rfb_codec.specs.declared.fault.PaintFault.{PaintFault}
use Rattle.rfb_codec.specs.declared.fault.PaintFault.TheVariants.{SubrectOutside}
use Rattle.rfb_codec.specs.Pixels.{IsSized, drawn}
use Rattle.rfb_codec.specs.Rre.{pixel_at, SpellsRreHead, SpellsSubrect, SpellsInside, StandsRre, LeavesAtEnd}
use Rattle.rfb_codec.specs.Rre.{subrect_of, subrect_fault, subrect, RreHead, rre_head_of, rre}
use Rattle.rfb_codec.proofs.PixelLaws.{sized-drawn, shows-drawn, drawn_is}

-- ---- what a background and subrectangles show

-- of the subrectangles that hold a place the last one wins
pub pixel_at-last : (b : ℕ) (subs : List Subrect) (s : Subrect) (x y : ℕ) →
    pixel_at b (subs ++ s ∷ []) x y ≡ (if contains s.rect x y then s.pixel else pixel_at b subs x y)
pixel_at-last b [] s x y = refl
pixel_at-last b (t ∷ subs) s x y = pixel_at-last (if contains t.rect x y then t.pixel else b) subs s x y

-- ---- a subrectangle

-- what bytes say of one in a rectangle of that size
abbrev pub subrect_says : PixelFormat → ℕ → ℕ → Says Subrect PaintFault
subrect_says f w h = record {
  item = SpellsInside f w h;
  fault =
      λ fault bytes. (fault ≡ SubrectOutside) × ((s : Subrect) × SpellsSubrect f s bytes × (IsOnScreen w h s.rect → ⊥));
}

-- bytes of its length spell the subrectangle that they are
pub subrect_spelled : (f : PixelFormat) (bytes : List ℕ) → length bytes ≡ size_of f + 8 →
    SpellsSubrect f (subrect_of f bytes) bytes
subrect_spelled f bytes size = record {
  size = size;
  pixel_is = refl;
  rect_is = record { x_position = refl; y_position = refl; width = refl; height = refl };
}

-- and no other
pub subrect_is : (f : PixelFormat) (s : Subrect) (bytes : List ℕ) → SpellsSubrect f s bytes → s ≡ subrect_of f bytes
subrect_is f s bytes spelled = λ i. record {
  pixel = sym spelled.pixel_is i;
  rect = record {
    x = sym spelled.rect_is.x_position i;
    y = sym spelled.rect_is.y_position i;
    w = sym spelled.rect_is.width i;
    h = sym spelled.rect_is.height i;
  };
}

subrect_same : (f : PixelFormat) (w h : ℕ) → Same
    (checked_says (size_of f + 8) (λ bytes. subrect_fault w h (subrect_of f bytes)) (subrect_of f)) (subrect_says f w h)
subrect_same f w h = record { item = item; fault = fault; item_back = item_back; fault_back = fault_back }
  where
    inside : (r : Rect) (b : Bool) → is_on_screen w h r ≡ b →
        ◌≡◌ {A = Option PaintFault} (if b then None else Some SubrectOutside) None → IsOnScreen w h r
    inside r true is e = on_true w h r is
    inside r false is e = cc

    outside : (r : Rect) (b : Bool) (fault : PaintFault) →
        is_on_screen w h r ≡ b → ◌≡◌ {A = Option PaintFault} (if b then None else Some SubrectOutside) (Some fault) →
        (fault ≡ SubrectOutside) × (IsOnScreen w h r → ⊥)
    outside r true fault is e = cc
    outside r false fault is e =
        let same : SubrectOutside ≡ fault = cc in
        (sym same, λ on. let yes' = on_test w h r on in cc)

    item : (s : Subrect) (bytes : List ℕ) → (length bytes ≡ size_of f + 8)
        × (subrect_fault w h (subrect_of f bytes) ≡ None) × (s ≡ subrect_of f bytes) → SpellsInside f w h s bytes
    item s bytes (size, good, same) = subst (λ (t : Subrect). SpellsInside f w h t bytes) (sym same) (
      subrect_spelled f bytes size,
      inside (subrect_of f bytes).rect (is_on_screen w h (subrect_of f bytes).rect) refl good,
    )

    fault : (g : PaintFault) (bytes : List ℕ) → (length bytes ≡ size_of f + 8)
        × (subrect_fault w h (subrect_of f bytes) ≡ Some g) → (subrect_says f w h).fault g bytes
    fault g bytes (size, bad) =
        let told = outside (subrect_of f bytes).rect (is_on_screen w h (subrect_of f bytes).rect) g refl bad in
        (told.0, (subrect_of f bytes, subrect_spelled f bytes size, told.1))

    item_back : (s : Subrect) (bytes : List ℕ) → SpellsInside f w h s bytes →
        (length bytes ≡ size_of f + 8) × (subrect_fault w h (subrect_of f bytes) ≡ None) × (s ≡ subrect_of f bytes)
    item_back s bytes (spelled, on) =
        let same = subrect_is f s bytes spelled in
        let test : is_on_screen w h (subrect_of f bytes).rect ≡ true =
        subst (λ (t : Subrect). is_on_screen w h t.rect ≡ true) same (on_test w h s.rect on) in
        (spelled.size, rw test refl, same)

    fault_back : (g : PaintFault) (bytes : List ℕ) → (subrect_says f w h).fault g bytes →
        (length bytes ≡ size_of f + 8) × (subrect_fault w h (subrect_of f bytes) ≡ Some g)
    fault_back g bytes (is, (s, spelled, off)) =
        let same = subrect_is f s bytes spelled in
        let test : is_on_screen w h (subrect_of f bytes).rect ≡ false = subst (λ (t : Subrect). is_on_screen w h t.rect
        ≡ false) same (off_test w h s.rect (is_on_screen w h s.rect) refl off) in
        (spelled.size, rw (test, is) refl)

pub subrect_reads : (f : PixelFormat) (w h : ℕ) → Reads (subrect f w h) (subrect_says f w h)
subrect_reads f w h =
    same_reads (subrect f w h) (checked_says (size_of f + 8) (λ bytes. subrect_fault w h (subrect_of f bytes))
    (subrect_of f)) (subrect_says f w h) (subrect_same f w h)
    (checked_reads (size_of f + 8) (λ bytes. subrect_fault w h (subrect_of f bytes)) (subrect_of f))

-- ---- the whole data

-- what bytes say of a block of that size
abbrev pub rre_says : PixelFormat → ℕ → ℕ → Says (Grid ℕ) PaintFault
rre_says f w h = record {
  item = λ block bytes. IsSized w h block × StandsRre f block bytes;
  fault = λ fault bytes. (fault ≡ SubrectOutside) × LeavesAtEnd f w h bytes;
}

-- the subrectangles after a head
abbrev list_says : PixelFormat → ℕ → ℕ → RreHead → Says (Grid ℕ) PaintFault
list_says f w h head = then_says (many_says head.count (subrect_says f w h))
    (λ subs. done_says (drawn w h (pixel_at head.background subs)))

abbrev rre_parts : PixelFormat → ℕ → ℕ → Says (Grid ℕ) PaintFault
rre_parts f w h = then_says (valued_says (4 + size_of f) (rre_head_of f)) (list_says f w h)

-- the parts' reading of a block
pub rre_stands : (f : PixelFormat) (w h : ℕ) (background : ℕ) (subs : List Subrect) (head list : List ℕ) →
    SpellsRreHead f (length subs) background head → Listed (SpellsInside f w h) subs list →
    StandsRre f (drawn w h (pixel_at background subs)) (head ++ list)
rre_stands f w h background subs head list head_is listed =
    let block = drawn w h (pixel_at background subs) in
    let sized = sized-drawn w h (pixel_at background subs) in
    record {
      background = background;
      subs = subs;
      head = head;
      list = list;
      whole = refl;
      head_is = head_is;
      listed = rw (sized.width_is, sized.height_is) listed;
      shows = shows-drawn w h (pixel_at background subs);
    }

rre_same : (f : PixelFormat) (w h : ℕ) → Same (rre_parts f w h) (rre_says f w h)
rre_same f w h = record { item = item; fault = fault; item_back = item_back; fault_back = fault_back }
  where
    item : (block : Grid ℕ) (bytes : List ℕ) → (rre_parts f w h).item block bytes →
        IsSized w h block × StandsRre f block bytes
    item block bytes
        (told, front, back, whole, (size, is), (subs, list, none, split, (count, listed), (drawn_is', empty))) =
        let all : back ≡ list = alone back list none split empty in
        let is_head : SpellsRreHead f told.count told.background front =
        rw is (record { size = size; count_is = refl; background_is = refl }) in
        let head_is : SpellsRreHead f (length subs) told.background front =
        subst (λ (n : ℕ). SpellsRreHead f n told.background front) (sym count) is_head in
        let stands : StandsRre f (drawn w h (pixel_at told.background subs)) (front ++ list) =
        rre_stands f w h told.background subs front list head_is listed in
        let same : bytes ≡ front ++ list = whole ∙ ap (λ (ys : List ℕ). front ++ ys) all in
        rw (drawn_is', same) (sized-drawn w h (pixel_at told.background subs), stands)

    fault : (g : PaintFault) (bytes : List ℕ) → (rre_parts f w h).fault g bytes →
        (g ≡ SubrectOutside) × LeavesAtEnd f w h bytes
    fault g bytes (inl none) = absurd none
    fault g bytes (inr (
      told,
      front,
      back,
      whole,
      (size, is),
      inl (subs, list, last, fewer, split, listed, (is_outside, (outside, spelled, leaves))),
    )) =
        let is_head : SpellsRreHead f told.count told.background front =
        rw is (record { size = size; count_is = refl; background_is = refl }) in (
          is_outside,
          record {
            count = told.count;
            background = told.background;
            subs = subs;
            outside = outside;
            head = front;
            list = list;
            last = last;
            whole = whole ∙ ap (λ (ys : List ℕ). front ++ ys) split;
            head_is = is_head;
            fewer = fewer;
            listed = listed;
            last_is = spelled;
            leaves = leaves;
          },
        )
    fault g bytes (inr (told, front, back, whole, is, inr none)) = absurd none.5

    item_back : (block : Grid ℕ) (bytes : List ℕ) → IsSized w h block × StandsRre f block bytes →
        (rre_parts f w h).item block bytes
    item_back block bytes (sized, s) =
        let head : RreHead = record { count = length s.subs; background = s.background } in
        let head_is : head ≡ rre_head_of f s.head =
        λ i. record { count = sym s.head_is.count_is i; background = sym s.head_is.background_is i } in
        let listed : Listed (SpellsInside f w h) s.subs s.list = rw (sized.width_is, sized.height_is) at s.listed in (
          head,
          s.head,
          s.list,
          s.whole,
          (s.head_is.size, head_is),
          (
            s.subs,
            s.list,
            [],
            sym (append-nil s.list),
            (refl, listed),
            (
              drawn_is w h (pixel_at s.background s.subs) block sized s.shows,
              refl,
            ),
          ),
        )

    fault_back : (g : PaintFault) (bytes : List ℕ) → (g ≡ SubrectOutside) × LeavesAtEnd f w h bytes →
        (rre_parts f w h).fault g bytes
    fault_back g bytes (is, s) =
        let head : RreHead = record { count = s.count; background = s.background } in
        let head_is : head ≡ rre_head_of f s.head =
        λ i. record { count = sym s.head_is.count_is i; background = sym s.head_is.background_is i } in
        inr (
          head,
          s.head,
          s.list ++ s.last,
          s.whole,
          (s.head_is.size, head_is),
          inl (s.subs, s.list, s.last, s.fewer, refl, s.listed, (is, (s.outside, s.last_is, s.leaves))),
        )

-- the reading gives exactly the blocks and the faults that bytes say
pub rre_reads : (f : PixelFormat) (w h : ℕ) → Reads (rre f w h) (rre_says f w h)
unfolding rre
rre_reads f w h =
    same_reads (and_then (valued (4 + size_of f) (rre_head_of f)) (λ head. and_then (many head.count (subrect f w h))
    (λ subs. done (drawn w h (pixel_at head.background subs))))) (rre_parts f w h) (rre_says f w h) (rre_same f w h)
    (then_reads (valued (4 + size_of f) (rre_head_of f))
    (λ head. and_then (many head.count (subrect f w h)) (λ subs. done (drawn w h (pixel_at head.background subs))))
    (valued_says (4 + size_of f) (rre_head_of f)) (list_says f w h) (valued_reads (4 + size_of f) (rre_head_of f))
    (λ head. then_reads (many head.count (subrect f w h)) (λ subs. done (drawn w h (pixel_at head.background subs)))
    (many_says head.count (subrect_says f w h)) (λ subs. done_says (drawn w h (pixel_at head.background subs)))
    (many_reads head.count (subrect f w h) (subrect_says f w h) (subrect_reads f w h))
    (λ subs. done_reads (drawn w h (pixel_at head.background subs)))))
