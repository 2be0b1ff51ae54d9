use Rattle.std.proofs.Common.{refl}
use Rattle.rfb_picture.proofs.AreaLemmas.{noted-no_places, none_whole_is}
use Rattle.rfb_picture.proofs.area.Area.clear.Goals.{then-not-self, else-not-self}
use Rattle.rfb_picture.proofs.area.Area.clear.Goals as goal

pub invariant_of-self : goal.invariant_of-self
invariant_of-self c = elim c.if-not-self.branch [
  | then-not-self w ↦
      rw (
        w.self-inside-is,
        c.clear.ensures.value,
        w.clear-then-not-self.ensures.value,
        c.self.invariant.area.wide,
        c.self.invariant.area.high,
      )
      (noted-no_places c.self.inside.asked.width c.self.inside.asked.height)
  | else-not-self w ↦
      rw (
        w.self-inside-is,
        c.clear.ensures.value,
        none_whole_is _ c.self.invariant.area (c.self.invariant.none_whole w.if-not-self.false),
      )
      (noted-no_places c.self.inside.asked.width c.self.inside.asked.height)
]

pub returns-clause-value : goal.returns-clause-value
returns-clause-value c = elim c.if-not-self.branch [
  | then-not-self w ↦
      rw (
        ← c.self.view_is,
        w.self-inside-is,
        c.clear.ensures.value,
        w.clear-then-not-self.ensures.value,
        c.self.invariant.area.wide,
        c.self.invariant.area.high,
      )
      refl
  | else-not-self w ↦
      rw (
        ← c.self.view_is,
        w.self-inside-is,
        c.clear.ensures.value,
        none_whole_is _ c.self.invariant.area (c.self.invariant.none_whole w.if-not-self.false),
      )
      refl
]
