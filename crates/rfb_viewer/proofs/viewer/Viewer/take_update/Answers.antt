use Rattle.std.proofs.Common.{◌≡◌, ◌∙◌, ◌-◌, Some, true, length, take, drop, refl, sym, ap}
use Rattle.std.proofs.Math.Bool.{Bool-set}
use Rattle.std.proofs.lemmas.List.{take_rest}
use Rattle.rfb_pixel.specs.declared.colour.Colour.{Colour}
use Rattle.rfb_picture.specs.Grid.{Grid}
use Rattle.rfb_viewer.specs.steps.Sound.{is_sound}
use Rattle.rfb_viewer.proofs.WholeUpdateLemmas.{IsWhole, update_taken}
use Rattle.rfb_viewer.proofs.viewer.Viewer.take_update.Goals as goal

same : (a b : Grid Colour) → Some a ≡ Some b → a ≡ b
same a b e = cc

pub returns-clause-whole : goal.returns-clause-whole
returns-clause-whole c =
    let old = c.args.self.now in
    let bytes = c.args.bytes.now in
    let front = c.in-Some-eq1-default.front in
    let middle = c.in-Got.middle in
    let size = c.in-Some-whole_size.size in
    let head = c.in-Got.head in
    let picture = c.in-Some.picture in
    let one : c.in-Some-eq1-default.field-0-0 ≡ 1 = c.in-Some-eq1-default.field-0-0-test in
    let rest = take (length bytes - front) (drop front bytes) in
    let body = take (length rest - middle) (drop middle rest) in
    let got = rw (c.width-width.ensures.value, c.height-height.ensures) at c.in-Got.ensures.got in
    let screen : c.in-Some-picture.picture ≡ picture = same c.in-Some-picture.picture picture
    (sym c.in-Some-picture.is ∙ c.in-Some.is) in
    let is : IsWhole old bytes rest body front middle size c.in-Head.part head picture = record {
      was = c.in-Head.is;
      empty = c.in-Some-eq1-default.ensures.none;
      shown = c.in-Some.is;
      whole = c.width-width.ensures.whole;
      front_in = c.in-Some-eq1-default.ensures.within;
      front_is = rw one at c.in-Some-eq1-default.ensures.spelled;
      rest_is = take_rest bytes front;
      middle_in = got.0;
      middle_is = got.1;
      on_screen = got.2;
      body_is = take_rest rest middle;
      raw = c.in-Some-whole_size.ensures.raw;
      some = c.in-Some-whole_size.ensures.some;
      size_is = c.in-Some-whole_size.ensures.size;
      size_in = c.in-Some-whole_size.ensures.within;
    } in
    update_taken old bytes rest body front middle size c.in-Head.part head picture is _ c.paint_pixels.new.picture
    (rw screen at c.paint_pixels.ensures.value) refl refl refl refl c.join.ensures refl refl refl refl

pub returns-in_default-whole_size-clause-kept : goal.returns-in_default-whole_size-clause-kept
returns-in_default-whole_size-clause-kept c =
    let old = c.args.self.now in
    λ none. ap (λ (sound : is_sound old.hello old.progress old.picture ≡ true). record old { sound = sound })
    (Bool-set _ _ _ old.sound)
