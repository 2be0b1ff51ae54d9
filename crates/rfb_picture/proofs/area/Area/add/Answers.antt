use Rattle.std.proofs.Common.{true, false, ap, ◌∙◌, ◌||◌, sym, refl, inl, inr}
use Rattle.rfb_picture.specs.Area.{Places}
use Rattle.rfb_picture.proofs.AreaLemmas.{noted-added, either, is_whole_rect}
use Rattle.rfb_picture.proofs.area.Area.add.Goals as goal

pub invariant_of-self : goal.invariant_of-self
invariant_of-self c =
    let inside = c.self.inside in
    rw (c.add.ensures.value, c.add-then-whole.ensures.value)
    (noted-added c.args.rect true (record { asked = inside.asked; whole = inside.whole }) inside.is_all
    inside.is_plain (inside.is_all || c.eq-is_all.result) false c.self.invariant
    (λ e. elim (either inside.is_all c.eq-is_all.result e) [
      | inl was ↦ inl was
      | inr is ↦ inr (is_whole_rect c.args.rect c.whole.result c.width.result c.height.result inside.asked.width
          inside.asked.height (sym c.eq-is_all.ensures ∙ is) c.whole.ensures
          (c.width.ensures.value ∙ sym (ap (λ (a : Places). a.asked.width) c.self.view_is))
          (c.height.ensures ∙ sym (ap (λ (a : Places). a.asked.height) c.self.view_is)))
    ]) (λ e. absurd cc))

pub invariant_of-self-else-whole : goal.invariant_of-self-else-whole
invariant_of-self-else-whole c =
    let inside = c.self.inside in
    rw (c.add.ensures.value)
    (noted-added c.args.rect false (record { asked = inside.asked; whole = inside.whole }) inside.is_all
    inside.is_plain (inside.is_all || c.eq-is_all.result) inside.is_plain c.self.invariant
    (λ e. elim (either inside.is_all c.eq-is_all.result e) [
      | inl was ↦ inl was
      | inr is ↦ inr (is_whole_rect c.args.rect c.whole.result c.width.result c.height.result inside.asked.width
          inside.asked.height (sym c.eq-is_all.ensures ∙ is) c.whole.ensures
          (c.width.ensures.value ∙ sym (ap (λ (a : Places). a.asked.width) c.self.view_is))
          (c.height.ensures ∙ sym (ap (λ (a : Places). a.asked.height) c.self.view_is)))
    ]) (λ e. (e, refl)))
