-- The reading of a rectangle's head is what RFC 6143 section 7.6.1 says of its
-- bytes, in both directions.
use Rattle.std.proofs.Common.{◌≡◌, ℕ, zero, suc, ℤ, negsuc, ◌+◌, ◌&&◌, nat_le, Bool, true, false, List, Option, Some}
use Rattle.std.proofs.Common.{None, length, take, refl, sym, subst, ◌∙◌, ap, arith}
use Rattle.std.specs.Prelude.{pos}
use Rattle.std.proofs.lemmas.Bool.Decides.{nat_tests}
use Rattle.std.proofs.lemmas.List.{take_all}
use Rattle.rfb_picture.specs.declared.rect.Rect.{Rect}
use Rattle.rfb_wire.specs.declared.encoding.Encoding.{Encoding}
use Rattle.rfb_wire.specs.declared.encoding.Encoding.TheVariants.{Raw, CopyRect, Rre, Hextile}
use Rattle.rfb_wire.specs.declared.rect_head.RectHead.{RectHead}
use Rattle.rfb_wire.specs.declared.fault.WireFault.{WireFault}
use Rattle.rfb_wire.specs.declared.fault.WireFault.TheVariants.{UnknownMessage, UnknownEncoding, RectOutside}
use Rattle.rfb_wire.specs.Fields.{s32_at}
use Rattle.rfb_wire.specs.Encoding.{number_of, IsNoEncoding}
use Rattle.rfb_wire.specs.stream.Prefix.{Reads, Same}
use Rattle.rfb_wire.specs.RectHead.{SpellsRectHead, IsOnScreen, IsRectFault}
use Rattle.rfb_wire.specs.RectStream.{rect_head_says, encoding_numbered, encoding_of, rect_of, is_on_screen, head_fault}
use Rattle.rfb_wire.specs.RectStream.{or_raw, rect_head_of, rect_head}
use Rattle.rfb_wire.proofs.stream_laws.PartLaws.{same_reads}
use Rattle.rfb_wire.proofs.stream_laws.RepeatLaws.{checked_says, checked_reads}

-- ---- encodings

numbered : (n : ℕ) (e : Encoding) → encoding_numbered n ≡ Some e → number_of e ≡ pos n
numbered zero e is = let same : Raw ≡ e =
    cc in subst (λ (k : Encoding). number_of k ≡ pos 0) same refl
numbered (suc zero) e is = let same : CopyRect ≡ e =
    cc in subst (λ (k : Encoding). number_of k ≡ pos 1) same refl
numbered (suc (suc zero)) e is = let same : Rre ≡ e =
    cc in subst (λ (k : Encoding). number_of k ≡ pos 2) same refl
numbered (suc (suc (suc zero))) e is = cc
numbered (suc (suc (suc (suc zero)))) e is = cc
numbered (suc (suc (suc (suc (suc zero))))) e is = let same : Hextile ≡ e =
    cc in subst (λ (k : Encoding). number_of k ≡ pos 5) same refl
numbered (suc (suc (suc (suc (suc (suc n)))))) e is = cc

-- an encoding that was found has the number
pub encoding_is : (number : ℤ) (e : Encoding) → encoding_of number ≡ Some e → number_of e ≡ number
encoding_is (pos n) e is = numbered n e is
encoding_is (negsuc n) e is = cc

-- an encoding is found by its number
pub encoding_back : (e : Encoding) → encoding_of (number_of e) ≡ Some e
encoding_back Raw = refl
encoding_back CopyRect = refl
encoding_back Rre = refl
encoding_back Hextile = refl

-- where none is found, none has the number
no_encoding : (number : ℤ) → encoding_of number ≡ None → IsNoEncoding number
no_encoding number none e is = let found : encoding_of number ≡ Some e =
    subst (λ (k : ℤ). encoding_of k ≡ Some e) is (encoding_back e) in cc

none_found : (number : ℤ) (told : Option Encoding) → encoding_of number ≡ told →
    IsNoEncoding number → told ≡ None
none_found number None is none = refl
none_found number (Some e) is none = absurd (none e (encoding_is number e is))

-- ---- places

pub on_true : (width height : ℕ) (r : Rect) → is_on_screen width height r ≡ true →
    IsOnScreen width height r
on_true width height r is = by (nat_le (r.x + r.w) width) (nat_le (r.y + r.h) height) refl refl is
  where
    by : (a b : Bool) → nat_le (r.x + r.w) width ≡ a → nat_le (r.y + r.h) height ≡ b →
        (a && b) ≡ true → IsOnScreen width height r
    by true true a b e = (grind (arith, nat_tests), grind (arith, nat_tests))
    by true false a b e = cc
    by false d a b e = cc

pub on_test : (width height : ℕ) (r : Rect) → IsOnScreen width height r →
    is_on_screen width height r ≡ true
on_test width height r on =
    let across : nat_le (r.x + r.w) width ≡ true = let h = on.0 in grind (arith, nat_tests) in
    let down : nat_le (r.y + r.h) height ≡ true = let h = on.1 in grind (arith, nat_tests) in
    rw (across, down) refl

pub off_test : (width height : ℕ) (r : Rect) (b : Bool) → is_on_screen width height r ≡ b →
    (IsOnScreen width height r → ⊥) → b ≡ false
off_test width height r true is off = absurd (off (on_true width height r is))
off_test width height r false is off = refl

-- ---- heads

-- a rectangle is the one that bytes begin with
same_rect : (head : RectHead) (bytes : List ℕ) → SpellsRectHead head bytes →
    rect_of bytes ≡ head.rect
same_rect head bytes s =
    λ i. record {
      x = s.rect_is.x_position i;
      y = s.rect_is.y_position i;
      w = s.rect_is.width i;
      h = s.rect_is.height i;
    }

-- bytes with an encoding spell the head that they are
spelled : (bytes : List ℕ) (e : Encoding) → length bytes ≡ 12 →
    encoding_of (s32_at 8 bytes) ≡ Some e →
    SpellsRectHead (record { rect = rect_of bytes; encoding = e }) bytes
spelled bytes e size is =
    record {
      size = size;
      rect_is = record { x_position = refl; y_position = refl; width = refl; height = refl };
      encoding_is = sym (encoding_is (s32_at 8 bytes) e is);
    }

head_same : (width height : ℕ) →
    Same (checked_says 12
    (λ bytes. head_fault width height (s32_at 8 bytes) (encoding_of (s32_at 8 bytes))
    (rect_of bytes)) rect_head_of) (rect_head_says width height)
head_same width height = record {
  item = λ head bytes h.
      good head bytes (encoding_of (s32_at 8 bytes)) (is_on_screen width height (rect_of bytes)) h.0
      refl refl h.1 h.2;
  fault = λ f bytes h. (
    h.0,
    bad f bytes (encoding_of (s32_at 8 bytes)) (is_on_screen width height (rect_of bytes))
        h.0 refl refl h.1,
  );
  item_back = item_back;
  fault_back = λ f bytes h. (h.0, fault_back f bytes h.0 h.1);
}
  where
    good : (head : RectHead) (bytes : List ℕ) (told : Option Encoding) (on : Bool) →
        length bytes ≡ 12 → encoding_of (s32_at 8 bytes) ≡ told →
        is_on_screen width height (rect_of bytes) ≡ on →
        head_fault width height (s32_at 8 bytes) told (rect_of bytes) ≡ None →
        head ≡ record { rect = rect_of bytes; encoding = or_raw told } →
        SpellsRectHead head bytes × IsOnScreen width height head.rect
    good head bytes None on size is place e same = cc
    good head bytes (Some enc) true size is place e same =
        subst (λ (k : RectHead). SpellsRectHead k bytes × IsOnScreen width height k.rect) (sym same)
        (spelled bytes enc size is, on_true width height (rect_of bytes) place)
    good head bytes (Some enc) false size is place e same =
        let told : head_fault width height (s32_at 8 bytes) (Some enc) (rect_of bytes)
        ≡ Some RectOutside = rw place refl in cc

    bad : (f : WireFault) (bytes : List ℕ) (told : Option Encoding) (on : Bool) →
        length bytes ≡ 12 → encoding_of (s32_at 8 bytes) ≡ told →
        is_on_screen width height (rect_of bytes) ≡ on →
        head_fault width height (s32_at 8 bytes) told (rect_of bytes) ≡ Some f →
        IsRectFault width height f bytes
    bad f bytes None on size is place e =
        let same : UnknownEncoding (s32_at 8 bytes) ≡ f = cc in
        subst (λ (k : WireFault). IsRectFault width height k bytes) same
        (omega (arith, size), refl, no_encoding (s32_at 8 bytes) is)
    bad f bytes (Some enc) true size is place e =
        let told : head_fault width height (s32_at 8 bytes) (Some enc) (rect_of bytes) ≡ None =
        rw place refl in cc
    bad f bytes (Some enc) false size is place e =
        let told : head_fault width height (s32_at 8 bytes) (Some enc) (rect_of bytes)
        ≡ Some RectOutside = rw place refl in
        let same : RectOutside ≡ f = cc in
        let whole : take 12 bytes ≡ bytes = take_all 12 bytes (omega (arith, size)) in
        subst (λ (k : WireFault). IsRectFault width height k bytes) same (record {
          head = record { rect = rect_of bytes; encoding = enc };
          spelled = rw whole (spelled bytes enc size is);
          outside = λ on. let yes' = on_test width height (rect_of bytes) on in cc;
        })

    item_back : (head : RectHead) (bytes : List ℕ) →
        SpellsRectHead head bytes × IsOnScreen width height head.rect →
        (length bytes ≡ 12)
        × (head_fault width height (s32_at 8 bytes) (encoding_of (s32_at 8 bytes))
        (rect_of bytes) ≡ None) × (head ≡ rect_head_of bytes)
    item_back head bytes (s, on) =
        let found : encoding_of (s32_at 8 bytes) ≡ Some head.encoding =
        ap encoding_of s.encoding_is ∙ encoding_back head.encoding in
        let rect = same_rect head bytes s in
        let place : is_on_screen width height (rect_of bytes) ≡ true =
        subst (λ (r : Rect). is_on_screen width height r ≡ true) (sym rect)
        (on_test width height head.rect on) in
        let encoding : or_raw (encoding_of (s32_at 8 bytes)) ≡ head.encoding = ap or_raw found in (
          s.size,
          rw (found, place) refl,
          λ i. record { rect = sym rect i; encoding = sym encoding i },
        )

    fault_back : (f : WireFault) (bytes : List ℕ) → length bytes ≡ 12 →
        IsRectFault width height f bytes →
        head_fault width height (s32_at 8 bytes) (encoding_of (s32_at 8 bytes)) (rect_of bytes)
        ≡ Some f
    fault_back (UnknownMessage first) bytes size h = absurd h
    fault_back (UnknownEncoding number) bytes size (enough, is, none) =
        let told : encoding_of (s32_at 8 bytes) ≡ None =
        none_found (s32_at 8 bytes) (encoding_of (s32_at 8 bytes)) refl
        (subst (λ (k : ℤ). IsNoEncoding k) (sym is) none) in
        rw told (ap (λ (k : ℤ). Some (UnknownEncoding k)) is)
    fault_back RectOutside bytes size h =
        let whole : take 12 bytes ≡ bytes = take_all 12 bytes (omega (arith, size)) in
        let s : SpellsRectHead h.head bytes =
        subst (λ (zs : List ℕ). SpellsRectHead h.head zs) whole h.spelled in
        let found : encoding_of (s32_at 8 bytes) ≡ Some h.head.encoding =
        ap encoding_of s.encoding_is ∙ encoding_back h.head.encoding in
        let rect = same_rect h.head bytes s in
        let place : is_on_screen width height (rect_of bytes) ≡ false =
        subst (λ (r : Rect). is_on_screen width height r ≡ false) (sym rect)
        (off_test width height h.head.rect (is_on_screen width height h.head.rect) refl
        h.outside) in
        rw (found, place) refl

-- the reading gives exactly the heads and the faults that twelve bytes are
pub rect_head_reads : (width height : ℕ) →
    Reads (rect_head width height) (rect_head_says width height)
unfolding rect_head
rect_head_reads width height =
    same_reads (rect_head width height)
    (checked_says 12
    (λ bytes. head_fault width height (s32_at 8 bytes) (encoding_of (s32_at 8 bytes))
    (rect_of bytes)) rect_head_of) (rect_head_says width height)
    (head_same width height)
    (checked_reads 12
    (λ bytes. head_fault width height (s32_at 8 bytes)
    (encoding_of (s32_at 8 bytes)) (rect_of bytes)) rect_head_of)
