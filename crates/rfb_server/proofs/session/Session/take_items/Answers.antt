use Rattle.std.proofs.Common.{◌≡◌, ◌∙◌, refl, [], not, None, length, take, arith}
use Rattle.std.proofs.lemmas.List.{take_all}
use Rattle.rfb_hello.specs.ServerEnd.{as_reply}
use Rattle.rfb_server.proofs.FeedingLemmas.{up_asked}
use Rattle.rfb_server.proofs.MessageLemmas.{request_taken}
use Rattle.rfb_server.proofs.SliceLemmas.{step_fed}
use Rattle.rfb_server.proofs.session.Session.take_items.Goals as goal

pub returns-in-Some-clause-fed : goal.returns-in-Some-clause-fed
returns-in-Some-clause-fed c =
    let bytes = c.args.bytes.now in
    let alone = c.in-Some.ensures in
    let asked = c.request.ensures.asked in
    let all : take (length bytes) bytes ≡ bytes = take_all (length bytes) bytes (omega arith) in
    rw all (step_fed c.args.self.now c.request.new.self bytes None
    (λ _ serving screen. request_taken serving screen c.args.self.now c.request.new.self c.request.new.self
    (as_reply []) bytes c.in-Some.incremental c.in-Some.rect alone.0 alone.1 asked c.request.ensures.caught_up
    (record {
      hello = refl;
      progress = asked.setting.progress ∙ alone.0;
      encodings = refl;
      rest = record {
        text_limit = refl;
        format = refl;
        known = refl;
        area = refl;
        marks = refl;
        hints = refl;
        claim = refl;
      };
    })))

pub returns-in-Some-clause-up : goal.returns-in-Some-clause-up
returns-in-Some-clause-up c =
    up_asked c.in-Some.rect (not c.in-Some.incremental) c.args.self.now c.request.new.self c.request.ensures.asked
    c.request.ensures.caught_up
