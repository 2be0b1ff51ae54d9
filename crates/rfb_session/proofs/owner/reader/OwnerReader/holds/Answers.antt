use Rattle.std.proofs.Common.{arith, refl}
use Rattle.std.proofs.lemmas.Bool.Decides.{nat_tests}
use Rattle.rfb_session.proofs.owner.reader.OwnerReader.holds.Goals as goal

pub returns : goal.returns
returns c = (
  λ same. (c.in-Some.screen, c.in-Some.is, (grind (arith, nat_tests), grind (arith, nat_tests))),
  λ lies. refl,
)
