use Rattle.std.proofs.Common.{◌∙◌, Some, refl, sym, ap}
use Rattle.rfb_picture.specs.declared.rect.Rect.{Rect}
use Rattle.rfb_viewer.specs.Damage.{rect_of_damage}
use Rattle.rfb_viewer.proofs.StepLemmas.{made_so}
use Rattle.rfb_viewer.proofs.CallLemmas.{same_stands}
use Rattle.rfb_viewer.proofs.DamageFeedLemmas.{damage_is}
use Rattle.rfb_viewer.proofs.viewer.Viewer.damage.Goals as goal

pub returns-in-None-clause-told : goal.returns-in-None-clause-told
returns-in-None-clause-told c = λ viewing s prefix stands.
    ap rect_of_damage (sym c.in-None.is ∙ c.damage_now-damage.ensures)
    ∙ damage_is viewing c.args.self.now s prefix stands

pub returns-in-None-clause-stands : goal.returns-in-None-clause-stands
returns-in-None-clause-stands c = λ viewing s prefix stands.
    same_stands viewing c.args.self.now _ s prefix (made_so refl refl refl refl) stands

pub returns-in-Some-clause-told : goal.returns-in-Some-clause-told
returns-in-Some-clause-told c = λ viewing s prefix stands.
    ap (λ (r : Rect). Some r) c.rect.ensures ∙ ap rect_of_damage (sym c.in-Some.is ∙ c.damage_now-damage.ensures)
    ∙ damage_is viewing c.args.self.now s prefix stands

pub returns-in-Some-clause-stands : goal.returns-in-Some-clause-stands
returns-in-Some-clause-stands c = λ viewing s prefix stands.
    same_stands viewing c.args.self.now _ s prefix (made_so refl refl refl refl) stands
