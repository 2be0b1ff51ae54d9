-- The fault of a mask that a decoder finds is the one that its bits and the tiles before it show.
use Rattle.std.proofs.Common.{◌≡◌, ℕ, zero, suc, ◌*◌, ◌<◌, ◌==◌, not, ◌&&◌, Bool, true, false, List, [], ◌∷◌, Option}
use Rattle.std.proofs.Common.{Some, None, bit_and, if◌then◌else◌, refl, subst, ◌∙◌, ap, arith}
use Rattle.std.proofs.lemmas.Bool.Decides.{nat_tests}
use Rattle.std.proofs.lemmas.Nat.Bits.{and_pow, bit_at-lt}
use Rattle.std.specs.Int.{bit_at}
use Rattle.rfb_codec.specs.declared.fault.PaintFault.{PaintFault}
use Rattle.rfb_codec.specs.declared.fault.PaintFault.TheVariants.{SubrectOutside, NoBackground, NoForeground}
use Rattle.rfb_codec.specs.declared.fault.PaintFault.TheVariants.{BothColourBits, SourceOutside}
use Rattle.rfb_codec.specs.Tile.{Tile, has_bit, is_raw, background_specified, foreground_specified, any_subrects}
use Rattle.rfb_codec.specs.Tile.{subrects_colored, background_of, foreground_of, later, last_of, is_missing, mask_fault}
use Rattle.rfb_codec.specs.MaskFaults.{IsSet, IsClear, raw_bit, background_bit, foreground_bit, subrects_bit}
use Rattle.rfb_codec.specs.MaskFaults.{colored_bit, NoneSpecifies, LacksBackground, IsMaskFault}

-- ---- bits

-- a test of a bit, in words of the bit
record Tells (bit value mask : ℕ) : Type 0 where
  set : has_bit value mask ≡ true → IsSet bit mask
  clear : has_bit value mask ≡ false → IsClear bit mask
  set_back : IsSet bit mask → has_bit value mask ≡ true
  clear_back : IsClear bit mask → has_bit value mask ≡ false

tells : (bit value mask : ℕ) → bit_and mask value ≡ bit_at mask bit * value → 0 < value → Tells bit value mask
tells bit value mask is some =
    let low = bit_at-lt mask bit in
    record {
      set = λ e. by (bit_at mask bit) (bit_and mask value) is low e;
      clear = λ e. by_clear (bit_at mask bit) (bit_and mask value) is low e;
      set_back = λ e. back (bit_at mask bit) (bit_and mask value) is e;
      clear_back = λ e. back_clear (bit_at mask bit) (bit_and mask value) is e;
    }
  where
    by : (b word : ℕ) → word ≡ b * value → b < 2 → not (word == 0) ≡ true → b ≡ 1
    by zero word is low e =
        let none : word ≡ 0 = omega (arith, is) in
        let off : not (word == 0) ≡ false = rw none refl in
        cc
    by (suc b) word is low e = omega (arith, low)

    by_clear : (b word : ℕ) → word ≡ b * value → b < 2 → not (word == 0) ≡ false → b ≡ 0
    by_clear zero word is low e = refl
    by_clear (suc b) word is low e =
        let one : b ≡ 0 = omega (arith, low) in
        let same : word ≡ value = is ∙ ap (λ (k : ℕ). suc k * value) one ∙ omega arith in
        let on : not (word == 0) ≡ true = rw same (grind (arith, nat_tests)) in cc

    back : (b word : ℕ) → word ≡ b * value → b ≡ 1 → not (word == 0) ≡ true
    back b word is one =
        let same : word ≡ value = is ∙ ap (λ (k : ℕ). k * value) one ∙ omega arith in
        rw same (grind (arith, nat_tests))

    back_clear : (b word : ℕ) → word ≡ b * value → b ≡ 0 → not (word == 0) ≡ false
    back_clear b word is none = let same : word ≡ 0 = is ∙ ap (λ (k : ℕ). k * value) none ∙ omega arith in rw same refl

raw_tells : (mask : ℕ) → Tells raw_bit 1 mask
raw_tells mask = tells raw_bit 1 mask (and_pow mask 0) (omega arith)

background_tells : (mask : ℕ) → Tells background_bit 2 mask
background_tells mask = tells background_bit 2 mask (and_pow mask 1) (omega arith)

foreground_tells : (mask : ℕ) → Tells foreground_bit 4 mask
foreground_tells mask = tells foreground_bit 4 mask (and_pow mask 2) (omega arith)

subrects_tells : (mask : ℕ) → Tells subrects_bit 8 mask
subrects_tells mask = tells subrects_bit 8 mask (and_pow mask 3) (omega arith)

colored_tells : (mask : ℕ) → Tells colored_bit 16 mask
colored_tells mask = tells colored_bit 16 mask (and_pow mask 4) (omega arith)

-- ---- colours

none_later : (l c : Option ℕ) → is_missing (later l c) ≡ true → (is_missing l ≡ true) × (c ≡ None)
none_later None None e = (refl, refl)
none_later None (Some x) e = cc
none_later (Some x) c e = cc

later_none : (l c : Option ℕ) → is_missing l ≡ true → c ≡ None → is_missing (later l c) ≡ true
later_none None c e is = rw is refl
later_none (Some x) c e is = cc

none_specified : (colour : Tile → Option ℕ) (tiles : List Tile) → is_missing (last_of colour tiles) ≡ true →
    NoneSpecifies colour tiles
none_specified colour [] e = tt
none_specified colour (t ∷ tiles) e = (
  (none_later (last_of colour tiles) (colour t) e).1,
  none_specified colour tiles (none_later (last_of colour tiles) (colour t) e).0,
)

specified_none : (colour : Tile → Option ℕ) (tiles : List Tile) → NoneSpecifies colour tiles →
    is_missing (last_of colour tiles) ≡ true
specified_none colour [] none = refl
specified_none colour (t ∷ tiles) (here, more) =
    later_none (last_of colour tiles) (colour t) (specified_none colour tiles more) here

-- ---- the order of the tests

abbrev fault_by : Bool → Bool → Bool → Bool → Bool → Bool → Option PaintFault
fault_by raw lacks foreground colored some none =
    if raw then None else
    if lacks then Some NoBackground else
    if foreground && colored then Some BothColourBits else
    if some && (not foreground && (not colored && none)) then Some NoForeground else None

abbrev Shows : Bool → Bool → Bool → Bool → Bool → Bool → PaintFault → Type 0
Shows raw lacks foreground colored some none NoBackground = (raw ≡ false) × (lacks ≡ true)
Shows raw lacks foreground colored some none BothColourBits =
    (raw ≡ false) × (lacks ≡ false) × (foreground ≡ true) × (colored ≡ true)
Shows raw lacks foreground colored some none NoForeground =
    (raw ≡ false) × (lacks ≡ false) × (some ≡ true) × (foreground ≡ false) × (colored ≡ false) × (none ≡ true)
Shows raw lacks foreground colored some none SubrectOutside = ⊥
Shows raw lacks foreground colored some none SourceOutside = ⊥

shows : (raw lacks foreground colored some none : Bool) (fault : PaintFault) →
    fault_by raw lacks foreground colored some none ≡ Some fault → Shows raw lacks foreground colored some none fault
shows true lacks foreground colored some none fault e = cc
shows false true foreground colored some none fault e =
    let same : NoBackground ≡ fault = cc in subst (Shows false true foreground colored some none) same (refl, refl)
shows false false true true some none fault e =
    let same : BothColourBits ≡ fault = cc in
    subst (Shows false false true true some none) same (refl, refl, refl, refl)
shows false false true false true none fault e = cc
shows false false true false false none fault e = cc
shows false false false true true none fault e = cc
shows false false false true false none fault e = cc
shows false false false false true true fault e =
    let same : NoForeground ≡ fault = cc in
    subst (Shows false false false false true true) same (refl, refl, refl, refl, refl, refl)
shows false false false false true false fault e = cc
shows false false false false false none fault e = cc

shown : (raw lacks foreground colored some none : Bool) (fault : PaintFault) →
    Shows raw lacks foreground colored some none fault → fault_by raw lacks foreground colored some none ≡ Some fault
shown raw lacks foreground colored some none NoBackground (r, l) = rw (r, l) refl
shown raw lacks foreground colored some none BothColourBits (r, l, f, c) = rw (r, l, f, c) refl
shown raw lacks foreground colored some none NoForeground (r, l, s, f, c, n) = rw (r, l, s, f, c, n) refl
shown raw lacks foreground colored some none SubrectOutside none' = absurd none'
shown raw lacks foreground colored some none SourceOutside none' = absurd none'

-- ---- together

module _ (before : List Tile) (mask : ℕ) where
  abbrev lacks : Bool
  lacks = not (background_specified mask) && is_missing (last_of background_of before)

  lacks_it : is_raw mask ≡ false → lacks ≡ true → LacksBackground before mask
  lacks_it r l = by (background_specified mask) (is_missing (last_of background_of before)) refl refl l
    where
      by : (b m : Bool) → background_specified mask ≡ b → is_missing (last_of background_of before) ≡ m →
          (not b && m) ≡ true → LacksBackground before mask
      by true m b_is m_is e = cc
      by false false b_is m_is e = cc
      by false true b_is m_is e = record {
        drawn = (raw_tells mask).clear r;
        unnamed = (background_tells mask).clear b_is;
        none = none_specified background_of before m_is;
      }

  it_lacks : LacksBackground before mask → lacks ≡ true
  it_lacks h =
      let b = (background_tells mask).clear_back h.unnamed in
      let m = specified_none background_of before h.none in
      rw (b, m) refl

  lacks_not : is_raw mask ≡ false → (LacksBackground before mask → ⊥) → lacks ≡ false
  lacks_not r off = by lacks refl
    where
      by : (l : Bool) → lacks ≡ l → l ≡ false
      by true e = absurd (off (lacks_it r e))
      by false e = refl

  not_lacking : lacks ≡ false → LacksBackground before mask → ⊥
  not_lacking l h = let on = it_lacks h in cc

  -- the fault that is found is one
  pub mask_shows : (fault : PaintFault) → mask_fault before mask ≡ Some fault → IsMaskFault before mask fault
  mask_shows fault e = by fault (shows (is_raw mask) lacks (foreground_specified mask) (subrects_colored mask)
      (any_subrects mask) (is_missing (last_of foreground_of before)) fault e)
    where
      by : (f : PaintFault) → Shows (is_raw mask) lacks (foreground_specified mask) (subrects_colored mask)
          (any_subrects mask) (is_missing (last_of foreground_of before)) f → IsMaskFault before mask f
      by NoBackground (r, l) = lacks_it r l
      by BothColourBits (r, l, f, c) = (
        record {
          drawn = (raw_tells mask).clear r;
          foreground = (foreground_tells mask).set f;
          colored = (colored_tells mask).set c;
        },
        not_lacking l,
      )
      by NoForeground (r, l, s, f, c, n) = (
        record {
          drawn = (raw_tells mask).clear r;
          subrects = (subrects_tells mask).set s;
          plain = (colored_tells mask).clear c;
          unnamed = (foreground_tells mask).clear f;
          none = none_specified foreground_of before n;
        },
        not_lacking l,
      )
      by SubrectOutside h = h
      by SourceOutside h = h

  -- and one that is there is found
  pub mask_shown : (fault : PaintFault) → IsMaskFault before mask fault → mask_fault before mask ≡ Some fault
  mask_shown fault h = shown (is_raw mask) lacks (foreground_specified mask) (subrects_colored mask) (any_subrects mask)
      (is_missing (last_of foreground_of before)) fault (by fault h)
    where
      by : (f : PaintFault) → IsMaskFault before mask f → Shows (is_raw mask) lacks (foreground_specified mask)
          (subrects_colored mask) (any_subrects mask) (is_missing (last_of foreground_of before)) f
      by NoBackground h = ((raw_tells mask).clear_back h.drawn, it_lacks h)
      by BothColourBits (h, off) =
          let r = (raw_tells mask).clear_back h.drawn in
          (r, lacks_not r off, (foreground_tells mask).set_back h.foreground, (colored_tells mask).set_back h.colored)
      by NoForeground (h, off) =
          let r = (raw_tells mask).clear_back h.drawn in (
            r,
            lacks_not r off,
            (subrects_tells mask).set_back h.subrects,
            (foreground_tells mask).clear_back h.unnamed,
            (colored_tells mask).clear_back h.plain,
            specified_none foreground_of before h.none,
          )
      by SubrectOutside h = h
      by SourceOutside h = h

-- a mask without any of them is good
pub mask_good : (before : List Tile) (mask : ℕ) → ((fault : PaintFault) → IsMaskFault before mask fault → ⊥) →
    mask_fault before mask ≡ None
mask_good before mask none = by (mask_fault before mask) refl
  where
    by : (told : Option PaintFault) → mask_fault before mask ≡ told → told ≡ None
    by None e = refl
    by (Some fault) e = absurd (none fault (mask_shows before mask fault e))

pub good_mask : (before : List Tile) (mask : ℕ) → mask_fault before mask ≡ None → (fault : PaintFault) →
    IsMaskFault before mask fault → ⊥
good_mask before mask good fault h = let told = mask_shown before mask fault h in cc
