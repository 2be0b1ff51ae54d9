use Rattle.std.proofs.Common.{◌+◌, ◌*◌, ◌∙◌, refl, arith}
use Rattle.rfb_session.proofs.NearLemmas.{read_inside}
use Rattle.rfb_session.proofs.LookingLemmas.{place_found, row_found}
use Rattle.rfb_session.proofs.drive.driver.looking.unlike_at.Goals as goal

pub overflow_add-y : goal.overflow_add-y
overflow_add-y c =
    let low = row_found c.args.likeness c.args.screen.now c.args.wanted.now c.args.found c.width.ensures.whole
    c.requires.fits c.requires.differs in
    omega (arith, low, c.requires.fits.1)

pub at-requires-clause-row : goal.at-requires-clause-row
at-requires-clause-row c =
    let low = row_found c.args.likeness c.args.screen.now c.args.wanted.now c.args.found c.width.ensures.whole
    c.requires.fits c.requires.differs in
    omega (arith, low, c.requires.fits.1)

pub index-requires : goal.index-requires
index-requires c =
    let low = place_found c.args.likeness c.args.screen.now c.args.wanted.now c.args.found c.width.ensures.whole
    c.requires.fits c.requires.differs in
    rw (c.from.ensures, c.from-2.ensures, c.from-3.ensures) (omega (arith, low, c.args.wanted.now.whole))

pub returns : goal.returns
returns c = record {
  fits = c.requires.fits;
  found = c.args.found;
  differs = c.requires.differs;
  count = refl;
  x = refl;
  y = refl;
  shown = c.at.ensures;
  expected = λ d.
      let wanted = c.args.wanted.now in
      let low = place_found c.args.likeness c.args.screen.now wanted c.args.found c.width.ensures.whole
      c.requires.fits c.requires.differs in
      let same = read_inside wanted.places.items (c.args.found.y * wanted.width + c.args.found.x) c.index.result.now d
      (omega (arith, low, wanted.whole)) in
      c.index.ensures ∙ rw (c.from.ensures, c.from-2.ensures, c.from-3.ensures) same;
}
