use Rattle.std.proofs.Common.{refl, arith}
use Rattle.std.proofs.lemmas.Bool.Decides.{nat_tests}
use Rattle.rfb_codec.proofs.raw.walk.take_run.Goals as goal

pub returns : goal.returns
returns c =
    let walked = c.take_pixels-used.ensures in
    record {
      some = walked.some;
      used = walked.used;
      reaches = record {
        sound = grind (arith, nat_tests);
        same = refl;
        goes_on = λ before body stands.
            let r = walked.goes_on before body (stands.0, stands.1.spelled, stands.1.shows) in
            (r.0, record { spelled = r.1; shows = r.2 });
        width = walked.width;
        height = walked.height;
      };
    }
