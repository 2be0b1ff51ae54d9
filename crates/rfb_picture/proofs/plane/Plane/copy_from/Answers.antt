use Rattle.std.proofs.Common.{◌≡◌, arith, length}
use Rattle.std.proofs.lemmas.Grind.{common_steps}
use Rattle.std.proofs.lemmas.List.{with_items_is}
use Rattle.rfb_picture.proofs.PlaneLemmas.{same_across, same_length}
use Rattle.rfb_picture.proofs.plane.Plane.copy_from.Goals as goal

pub copy_from_slice-requires : goal.copy_from_slice-requires
copy_from_slice-requires c =
    let same = same_length _ _ _ c.self.inside.words.items.items _ _ _ c.other.inside.words.items.items
    c.self.invariant.sound c.other.invariant.sound (rw (← c.self.view_is, ← c.other.view_is) at c.requires.width)
    (rw (← c.self.view_is, ← c.other.view_is) at c.requires.height) in
    omega (arith, same)

pub returns : goal.returns
returns c =
    let wide : c.self.inside.width ≡ c.other.inside.width =
    rw (← c.self.view_is, ← c.other.view_is) at c.requires.width in
    let high : c.self.inside.height ≡ c.other.inside.height =
    rw (← c.self.view_is, ← c.other.view_is) at c.requires.height in
    let across =
    same_across c.self.inside.width c.self.inside.height c.self.inside.across
    c.self.inside.words.items.items c.other.inside.height c.other.inside.across
    c.other.inside.words.items.items c.self.invariant.sound (rw wide c.other.invariant.sound) in
    let len : length c.copy_from_slice.new.self ≡ c.self.inside.words.items.len = omega arith in
    rw (
      with_items_is c.self.inside.words.items c.copy_from_slice.new.self len,
      c.copy_from_slice.ensures.after,
      c.deref.ensures.value,
      wide,
      high,
      across,
    ) c.other.view_is

pub invariant_of-self : goal.invariant_of-self
invariant_of-self c = grind (arith, common_steps)
