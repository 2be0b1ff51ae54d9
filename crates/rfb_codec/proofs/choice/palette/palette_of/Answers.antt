use Rattle.std.proofs.Common.{◌<◌, ◌-◌, ◌⊎◌, inl, inr, arith, length, refl, sym, slice_index}
use Rattle.rfb_codec.proofs.PaletteLemmas.{AreTwo, first_is_more, second_is_more}
use Rattle.rfb_codec.proofs.choice.palette.palette_of.Goals.{After-leads}
use Rattle.rfb_codec.proofs.choice.palette.palette_of.Goals as goal

swapped : {A B : Type 0} → A ⊎ B → B ⊎ A
swapped (inl a) = inr a
swapped (inr b) = inl b

pub returns-then-has_other : goal.returns-then-has_other
returns-then-has_other c =
    let pixels = c.args.pixels.now in
    let start = c.run_of-start.result in
    let within : start < length pixels = omega (arith, c.run_of-start.ensures.within, c.if-start-pixels.false) in
    let other = c.if-has_other.ensures.other in
    record {
      first = slice_index pixels 0;
      second = slice_index pixels start;
      third = slice_index pixels other.0;
      has_first = (0, c.requires.some, refl);
      has_second = (start, within, refl);
      has_third = (other.0, other.1, refl);
      differ = λ same. c.run_of-start.ensures.other within (sym same);
      not_first = other.2;
      not_second = other.3;
    }

-- where no place has another, each has one of two
two : (c : After-leads) → AreTwo c.args.pixels.now (slice_index c.args.pixels.now 0)
    (slice_index c.args.pixels.now c.run_of-start.result) (length c.args.pixels.now - c.places_of-seconds.result)
    c.places_of-seconds.result
two c =
    let within : c.run_of-start.result < length c.args.pixels.now =
    omega (arith, c.run_of-start.ensures.within, c.if-start-pixels.false) in
    record {
      has_first = (0, c.requires.some, refl);
      has_second = (c.run_of-start.result, within, refl);
      differ = λ same. c.run_of-start.ensures.other within (sym same);
      each = c.if-has_other.ensures.none;
      counted = c.places_of-seconds.ensures.value;
      both = omega (arith, c.places_of-seconds.ensures.few);
    }

pub returns-then-leads : goal.returns-then-leads
returns-then-leads c =
    let it = two (goal.at.returns-then-leads c).After-leads in
    (it.has_first, it.has_second, it.each, first_is_more it c.if-leads.ensures.yes)

pub returns-else-leads : goal.returns-else-leads
returns-else-leads c =
    let it = two (goal.at.returns-else-leads c).After-leads in
    (it.has_second, it.has_first, λ i below. swapped (it.each i below), second_is_more it c.if-leads.ensures.no)
