use Rattle.std.proofs.Common.{sym, subst, Option}
use Rattle.rfb_pixel.specs.declared.colour.Colour.{Colour}
use Rattle.rfb_picture.specs.Grid.{Grid}
use Rattle.rfb_viewer.specs.ShownPieces.{Shows}
use Rattle.rfb_viewer.proofs.LendLemmas.{shows_at}
use Rattle.rfb_viewer.proofs.viewer.Viewer.picture.Goals as goal

pub returns-clause-shows : goal.returns-clause-shows
returns-clause-shows c = λ viewing s prefix now.
    let v = c.args.self.now in
    subst (λ (g : Option (Grid Colour)). Shows s prefix g) (sym c.as_ref.ensures.value)
    (shows_at viewing v v.progress s.point s.picture prefix now.progress_is)
