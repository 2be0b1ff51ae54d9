-- The readings of what a tile is made of: pixels, places, and counted parts.
use Rattle.std.proofs.Common.{◌≡◌, ℕ, ◌+◌, ◌-◌, ◌/◌, ◌%◌, ◌<◌, inl, inr, List, [], Bool, true, false, length, drop}
use Rattle.std.proofs.Common.{refl, sym, subst, ◌∙◌, arith, length-drop}
use Rattle.std.proofs.lemmas.Nat.{div-mul-add, mod-mul-add, div-add-mod', mod_below}
use Rattle.rfb_pixel.specs.Format.{PixelFormat, size_of, pixel_number}
use Rattle.rfb_picture.specs.declared.rect.Rect.{Rect}
use Rattle.rfb_wire.specs.Fields.{u8_at}
use Rattle.rfb_wire.specs.stream.Prefix.{Reading, Says, Reads, Same}
use Rattle.rfb_wire.specs.stream.Parts.{valued, many}
use Rattle.rfb_wire.proofs.stream_laws.PartLaws.{done_says, done_reads, then_says, then_reads, same_reads}
use Rattle.rfb_wire.proofs.stream_laws.RepeatLaws.{valued_says, valued_reads, many_says, many_reads}
use Rattle.rfb_codec.specs.declared.subrect.Subrect.{Subrect}
use Rattle.rfb_codec.specs.declared.fault.PaintFault.{PaintFault}
use Rattle.rfb_codec.specs.Tile.{SpellsPixel, SpellsPlace, SpellsColored, CountedIf, tile_colour, place_of, colored_of}
use Rattle.rfb_codec.specs.Tile.{counted}

-- nothing is refused
abbrev pub never : PaintFault → List ℕ → Type 0
never fault bytes = ⊥

-- ---- pixels and places

abbrev pub pixel_says : PixelFormat → Says ℕ PaintFault
pixel_says f = record { item = SpellsPixel f; fault = never }

pub pixel_reads : (f : PixelFormat) → Reads (tile_colour f) (pixel_says f)
pixel_reads f = same_reads (tile_colour f) (valued_says (size_of f) (pixel_number f)) (pixel_says f) same
    (valued_reads (size_of f) (pixel_number f))
  where
    same : Same (valued_says (size_of f) (pixel_number f)) (pixel_says f)
    same = record {
      item = λ pixel bytes told. record { size = told.0; pixel_is = sym told.1 };
      fault = λ fault bytes none. none;
      item_back = λ pixel bytes spelled. (spelled.size, sym spelled.pixel_is);
      fault_back = λ fault bytes none. none;
    }

-- two bytes spell the place that they are
pub place_spelled : (bytes : List ℕ) → length bytes ≡ 2 → SpellsPlace (place_of bytes) bytes
place_spelled bytes size =
    let first = u8_at 0 bytes in
    let second = u8_at 1 bytes in
    record {
      size = size;
      position_is = sym (div-add-mod' first 16);
      size_is =
          let a : second / 16 + 1 - 1 ≡ second / 16 = omega arith in
          let b : second % 16 + 1 - 1 ≡ second % 16 = omega arith in
          rw (a, b) (sym (div-add-mod' second 16));
      low = mod_below first 16 (omega arith);
      wide = omega arith;
      high = omega arith;
      short = let l = mod_below second 16 (omega arith) in omega (arith, l);
    }

-- and no other
pub place_is : (place : Rect) (bytes : List ℕ) → SpellsPlace place bytes → place ≡ place_of bytes
place_is place bytes s =
    let low : place.h - 1 < 16 = omega (arith, s.short, s.high) in
    let x : u8_at 0 bytes / 16 ≡ place.x = rw s.position_is (div-mul-add place.x 16 place.y s.low) in
    let y : u8_at 0 bytes % 16 ≡ place.y = rw s.position_is (mod-mul-add place.x 16 place.y s.low) in
    let w : u8_at 1 bytes / 16 ≡ place.w - 1 = rw s.size_is (div-mul-add (place.w - 1) 16 (place.h - 1) low) in
    let h : u8_at 1 bytes % 16 ≡ place.h - 1 = rw s.size_is (mod-mul-add (place.w - 1) 16 (place.h - 1) low) in
    let wide : place.w ≡ u8_at 1 bytes / 16 + 1 = omega (arith, w, s.wide) in
    let high : place.h ≡ u8_at 1 bytes % 16 + 1 = omega (arith, h, s.high) in
    λ i. record { x = sym x i; y = sym y i; w = wide i; h = high i }

abbrev place_says : Says Rect PaintFault
place_says = record { item = SpellsPlace; fault = never }

pub place_reads : Reads {F = PaintFault} (valued 2 place_of) place_says
place_reads = same_reads (valued 2 place_of) (valued_says 2 place_of) place_says same (valued_reads 2 place_of)
  where
    same : Same (valued_says 2 place_of) place_says
    same = record {
      item = λ place bytes told. subst (λ (r : Rect). SpellsPlace r bytes) (sym told.1) (place_spelled bytes told.0);
      fault = λ fault bytes none. none;
      item_back = λ place bytes spelled. (spelled.size, place_is place bytes spelled);
      fault_back = λ fault bytes none. none;
    }

-- the bytes less a pixel's
length-after_pixel : (f : PixelFormat) (bytes : List ℕ) → length bytes ≡ size_of f + 2 →
    length (drop (size_of f) bytes) ≡ 2
length-after_pixel f bytes size = rw length-drop (omega (arith, size))

abbrev colored_says : PixelFormat → Says Subrect PaintFault
colored_says f = record { item = SpellsColored f; fault = never }

pub colored_reads : (f : PixelFormat) → Reads (valued (size_of f + 2) (colored_of f)) (colored_says f)
colored_reads f = same_reads (valued (size_of f + 2) (colored_of f)) (valued_says (size_of f + 2) (colored_of f))
    (colored_says f) same (valued_reads (size_of f + 2) (colored_of f))
  where
    is : (s : Subrect) (bytes : List ℕ) → SpellsColored f s bytes → s ≡ colored_of f bytes
    is s bytes spelled =
        let place = place_is s.rect (drop (size_of f) bytes) spelled.place_is in
        λ i. record { pixel = sym spelled.pixel_is i; rect = place i }

    same : Same (valued_says (size_of f + 2) (colored_of f)) (colored_says f)
    same = record {
      item = λ s bytes told. subst (λ (t : Subrect). SpellsColored f t bytes) (sym told.1) (record {
        size = told.0;
        pixel_is = refl;
        place_is = place_spelled (drop (size_of f) bytes) (length-after_pixel f bytes told.0);
      });
      fault = λ fault bytes none. none;
      item_back = λ s bytes spelled. (spelled.size, is s bytes spelled);
      fault_back = λ fault bytes none. none;
    }

-- ---- counted parts

module _ {A : Type 0} where
  -- parts where none is refused
  abbrev calm : (A → List ℕ → Type 0) → Says A PaintFault
  calm R = record { item = R; fault = never }

  abbrev pub counted_says : Bool → (A → List ℕ → Type 0) → Says (List A) PaintFault
  counted_says flag R = record { item = CountedIf flag R; fault = never }

  pub counted_reads : (flag : Bool) (p : Reading A PaintFault) (R : A → List ℕ → Type 0) → Reads p (calm R) →
      Reads (counted flag p) (counted_says flag R)
  counted_reads false p R reads =
      same_reads (counted false p) (done_says []) (counted_says false R) same (done_reads [])
    where
      same : Same (done_says []) (counted_says false R)
      same = record {
        item = λ items bytes told. told;
        fault = λ fault bytes none. none;
        item_back = λ items bytes told. told;
        fault_back = λ fault bytes none. none;
      }
  counted_reads true p R reads =
      same_reads (counted true p) (then_says (valued_says 1 (u8_at 0)) (λ count. many_says count (calm R)))
      (counted_says true R) same
      (then_reads (valued 1 (u8_at 0)) (λ count. many count p) (valued_says 1 (u8_at 0))
      (λ count. many_says count (calm R)) (valued_reads 1 (u8_at 0)) (λ count. many_reads count p (calm R) reads))
    where
      same : Same (then_says (valued_says 1 (u8_at 0)) (λ count. many_says count (calm R))) (counted_says true R)
      same = record {
        item = λ items bytes told. record {
          head = told.1;
          list = told.2;
          whole = told.3;
          one = told.4.0;
          count_is = sym told.4.1 ∙ sym told.5.0;
          listed = told.5.1;
        };
        fault = λ fault bytes told. elim told [ inl none ↦ none | inr w ↦ w.5.6 ];
        item_back = λ items bytes s. (length items, s.head, s.list, s.whole, (s.one, sym s.count_is), (refl, s.listed));
        fault_back = λ fault bytes none. absurd none;
      }
