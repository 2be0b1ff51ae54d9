use Rattle.std.proofs.Common.{refl, arith, take}
use Rattle.std.proofs.lemmas.Grind.{common_steps}
use Rattle.rfb_session.specs.netpbm.Places.{colours_of}
use Rattle.rfb_session.proofs.netpbm.places.read_piece.Goals as goal

pub returns-then-count-len-clause-refused : goal.returns-then-count-len-clause-refused
returns-then-count-len-clause-refused g c = (
  refl,
  take c.in_ok-count.count c.read_up_to.new.buffer,
  c.in_ok-count.ensures.bytes,
  c.in_ok-count.ensures.end (grind (arith, common_steps)),
  grind (arith, common_steps),
)

pub returns-clause-more : goal.returns-clause-more
returns-clause-more g c =
    let seen = take c.in_ok-count.count c.read_up_to.new.buffer in (
      colours_of c.args.sample seen,
      grind (arith, common_steps),
      record {
        seen = seen;
        came = c.in_ok-count.ensures.bytes;
        size = grind (arith, common_steps);
        are = refl;
      },
    )
