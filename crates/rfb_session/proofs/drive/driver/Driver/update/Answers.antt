use Rattle.std.proofs.Common.{◌∙◌, Option, true, refl, ap, sym, subst}
use Rattle.rfb_pixel.specs.declared.colour.Colour.{Colour}
use Rattle.rfb_picture.specs.declared.rect.Rect.{Rect}
use Rattle.rfb_picture.specs.Grid.{Grid}
use Rattle.rfb_viewer.specs.Damage.{damage_of}
use Rattle.rfb_session.specs.drive.driver.Driver.{Asks, ShowsOrChanges}
use Rattle.rfb_session.specs.drive.driver.Sight.{whole_of}
use Rattle.rfb_session.proofs.DriverLemmas.{none_some, same_some}
use Rattle.rfb_session.proofs.drive.driver.Driver.update.Goals as goal

pub returns-in_default : goal.returns-in_default
returns-in_default g c = record {
  viewer = c.damage-damage.new.self;
  keeps = record {
    stands = c.damage-damage.ensures.stands;
    picture = c.damage-damage.ensures.picture;
    rest = c.damage-damage.ensures.keeps;
  };
  shows = λ screen is. absurd (none_some screen (c.in_default.ensures.value ∙ c.damage-damage.ensures.picture ∙ is));
  blank = λ none. refl;
}

pub returns : goal.returns
returns g c =
    let old = c.args.self.now in
    let damage = c.damage-damage.ensures in
    let mid = c.show_or_change.new.self in
    let seen = c.in-Some.picture.now in
    let viewed = record old { viewer = c.damage-damage.new.self } in
    record {
      viewer = c.damage-damage.new.self;
      keeps = record { stands = damage.stands; picture = damage.picture; rest = damage.keeps };
      shows = λ screen is.
          let same = same_some seen screen (c.in-Some.ensures.value ∙ damage.picture ∙ is) in
          let whole = c.whole_of-whole.ensures ∙ ap (λ (s : Grid Colour). whole_of s) same in (
            mid,
            subst (λ (r : Rect). ShowsOrChanges old.is_shown r (damage_of old.viewer) viewed mid) whole
                (subst (λ (d : Option Rect). ShowsOrChanges old.is_shown c.whole_of-whole.result d viewed mid)
                damage.value
                c.show_or_change.ensures),
            subst (λ (r : Rect). Asks true r mid c.ask.new.self) whole c.ask.ensures,
          );
      blank = λ none. absurd (none_some seen (sym (c.in-Some.ensures.value ∙ damage.picture ∙ none)));
    }
