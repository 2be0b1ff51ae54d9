use Rattle.std.proofs.Common.{refl, ap, rules}
use Rattle.rfb_server.specs.session.Ended.{progress_at}
use Rattle.rfb_server.specs.Late.{entered}
use Rattle.rfb_server.proofs.GreetLemmas.{greets}
use Rattle.rfb_server.proofs.EndingLemmas.{greets_end}
use Rattle.rfb_server.proofs.EnteringLemmas.{not_done}
use Rattle.rfb_server.proofs.late.entrance.Entrance.greet.Goals as goal

pub returns-in-Ok-clause-takes : goal.returns-in-Ok-clause-takes
returns-in-Ok-clause-takes c = record {
  taken = record { used = search rules; all = search rules; some = search rules };
  fed = λ serving screen. rw c.event_of.ensures
      (greets serving screen (entered c.args.self.now) _ _ c.in-Ok.fed.event (ap progress_at c.in_default.is)
      (record {
        setup = c.in-Ok.ensures.setup;
        goes = λ e. ap progress_at c.in_default.is;
        done = λ closed. absurd (not_done c.args.self.now.hello c.feed.new.self _ c.in-Ok.fed.used
            (c.requires.fewer c.in_default.is) c.in-Ok.ensures.used c.in-Ok.ensures.left closed);
        encodings = refl;
        rest = search rules;
      })
      (c.in-Ok.ensures.fed serving.hello));
}

pub returns-in-Err-clause-kept : goal.returns-in-Err-clause-kept
returns-in-Err-clause-kept c =
    rw c.of_hello-fault.ensures
    (greets_end (entered c.args.self.now) c.args.bytes.now c.in-Err.fault
    (ap progress_at c.in_default.is) (λ serving. c.in-Err.ensures.fault serving.hello))
