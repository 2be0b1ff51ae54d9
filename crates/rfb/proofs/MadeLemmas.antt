-- The ends of a script meet the premises of the world's theorem.
use Rattle.std.proofs.Common.{◌≡◌, ◌≤◌, ◌<◌, ◌+◌, ◌^◌, ◌*◌, ◌∙◌, ◌&&◌, ◌||◌, nat_le, Bool, true, ℕ, List, [], ◌∷◌}
use Rattle.std.proofs.Common.{Option, Some, None, ap, sym, refl, subst, inl, inr, length, map, arith}
use Rattle.std.proofs.lemmas.Bool.Decides.{nat_tests}
use Rattle.std.proofs.lemmas.Nat.{mul-le}
use Rattle.rfb_pixel.specs.Channel.{IsField}
use Rattle.rfb_pixel.specs.declared.channel.Channel.{Channel}
use Rattle.rfb_pixel.specs.Format.{IsApart, IsFormat, IsPixelSize, PixelFormat, bgr233, rgb565, rgb101010}
use Rattle.rfb_pixel.proofs.FormatLaws.{rgb888-is_format}
use Rattle.rfb_wire.specs.declared.encoding.Encoding.{Encoding}
use Rattle.rfb_session.specs.InFlight.{AreMade}
use Rattle.rfb.specs.declared.script.line.Numbered.{Numbered}
use Rattle.rfb_session.specs.declared.language.screen.Screen.{Screen as Size}
use Rattle.rfb.specs.declared.script.line.Wants.{Wants}
use Rattle.rfb.specs.ScriptRun.{encodings_of, ends_of, format_of}
use Rattle.rfb.specs.Script.{AreScript, AskForAll}
use Rattle.rfb_session.specs.language.Words.{IsFormatWord, name_of}

-- whether a field lies in a pixel, and whether one of two lies above the other
fits : ℕ → Channel → Bool
fits bits c = nat_le 1 c.width && (nat_le c.width 16 && nat_le (c.shift + c.width) bits)

parts : Channel → Channel → Bool
parts a b = nat_le (a.shift + a.width) b.shift || nat_le (b.shift + b.width) a.shift

fits-field : (bits : ℕ) (c : Channel) → fits bits c ≡ true → IsField bits c
unfolding fits
fits-field bits c is = (grind (arith, nat_tests, is), grind (arith, nat_tests, is), grind (arith, nat_tests, is))

parts-apart : (a b : Channel) → parts a b ≡ true → IsApart a b
unfolding parts
parts-apart a b is = λ i here there. grind (arith, nat_tests, is, here, there)

-- a format, by these tests
format_of_tests : (f : PixelFormat) → IsPixelSize f.bits_per_pixel → nat_le f.depth f.bits_per_pixel ≡ true →
    (fits f.bits_per_pixel f.red && (fits f.bits_per_pixel f.green && fits f.bits_per_pixel f.blue)) ≡ true →
    (parts f.red f.green && (parts f.red f.blue && parts f.green f.blue)) ≡ true → IsFormat f
format_of_tests f whole deep fields apart = record {
  whole = whole;
  deep = grind (arith, nat_tests, deep);
  red = fits-field f.bits_per_pixel f.red (grind (arith, fields));
  green = fits-field f.bits_per_pixel f.green (grind (arith, fields));
  blue = fits-field f.bits_per_pixel f.blue (grind (arith, fields));
  red_green = parts-apart f.red f.green (grind (arith, apart));
  red_blue = parts-apart f.red f.blue (grind (arith, apart));
  green_blue = parts-apart f.green f.blue (grind (arith, apart));
}

rgb565-is_format : IsFormat rgb565
unfolding fits parts
rgb565-is_format = format_of_tests rgb565 refl refl refl refl

bgr233-is_format : IsFormat bgr233
unfolding fits parts
bgr233-is_format = format_of_tests bgr233 refl refl refl refl

rgb101010-is_format : IsFormat rgb101010
unfolding fits parts
rgb101010-is_format = format_of_tests rgb101010 refl refl refl refl

-- what a name stands for is a format
named : (word : List ℕ) (form : PixelFormat) → IsFormatWord word form → IsFormat form
named word form (inl is) = subst (λ (f : PixelFormat). IsFormat f) (sym is.1) rgb888-is_format
named word form (inr (inl is)) = subst (λ (f : PixelFormat). IsFormat f) (sym is.1) rgb565-is_format
named word form (inr (inr (inl is))) = subst (λ (f : PixelFormat). IsFormat f) (sym is.1) bgr233-is_format
named word form (inr (inr (inr is))) = subst (λ (f : PixelFormat). IsFormat f) (sym is.1) rgb101010-is_format

format_made : (n : ℕ) (lines : List (List ℕ)) (wants : Option Wants) (steps : List Numbered) →
    AskForAll n lines wants steps → IsFormat (format_of wants)
format_made n lines None steps asks = rgb888-is_format
format_made n lines (Some wants) steps asks =
    named asks.first_is.2.0 wants.format asks.first_is.2.3

names_length : (encodings : List Encoding) → length (map name_of encodings) ≡ length encodings
names_length [] = refl
names_length (e ∷ encodings) = omega (arith, names_length encodings)

few_made : (n : ℕ) (lines : List (List ℕ)) (wants : Option Wants) (steps : List Numbered) →
    AskForAll n lines wants steps → length (encodings_of wants) < 2 ^ 16
few_made n lines None steps asks = omega arith
few_made n lines (Some wants) steps asks =
    let are = asks.first_is.2.4 in
    let size = ap (λ (l : List (List ℕ)). length l) are.0 ∙ names_length wants.encodings.items in
    omega (arith, size, are.2)

pub made : (lines : List (List ℕ)) (size : Size) (wants : Option Wants) (steps : List Numbered) →
    AreScript lines size wants steps → AreMade (ends_of size wants)
made lines size wants steps script =
    let all : size.width * size.height ≤ 4096 * 4096 =
    mul-le size.width size.height 4096 4096 size.wide.1 size.high.1 in
    record {
      setup = record {
        admitted = (omega (arith, size.wide), omega (arith, size.high), all);
        width_fits = omega (arith, size.wide);
        height_fits = omega (arith, size.high);
        name_fits = omega arith;
      };
      form = format_made _ script.later wants steps script.later_are;
      few = few_made _ script.later wants steps script.later_are;
    }
