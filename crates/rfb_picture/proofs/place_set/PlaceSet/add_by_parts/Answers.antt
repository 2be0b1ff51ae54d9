use Rattle.rfb_picture.proofs.PartLemmas.{filled-parts}
use Rattle.rfb_picture.proofs.place_set.PlaceSet.add_by_parts.Goals as goal

pub returns-clause-value : goal.returns-clause-value
returns-clause-value c =
    rw (
      c.add_part-5.ensures.value,
      c.add_part-4.ensures.value,
      c.add_part-3.ensures.value,
      c.add_part-2.ensures.value,
      c.add_cells.ensures.value,
    )
    (filled-parts c.args.self.now c.args.rect c.parts_of-parts.result c.width.ensures.whole
    c.parts_of-parts.ensures.all)
