use Rattle.std.proofs.Common.{◌≡◌, Bool, Result, Ok, Some, true, false, refl, sym, ap, ◌∙◌}
use Rattle.rfb_pixel.specs.Format.{PixelFormat}
use Rattle.rfb_picture.specs.Area.{Places}
use Rattle.rfb_server.specs.Model.{notes_in}
use Rattle.rfb_session.specs.Latest.{noted}
use Rattle.rfb_session.proofs.ComposedLemmas.{idle_not_due, idle_over, composed_over, composed_does, idle_does}
use Rattle.rfb_session.proofs.ComposedLemmas.{asks_noted}
use Rattle.rfb_session.proofs.link.Link.compose.Goals as goal

pub returns-then-not-composed : goal.returns-then-not-composed
returns-then-not-composed c =
    let over = idle_over c.args.screen.now c.args.self.now _ c.of_composed.result
    (c.in_ok-composed.ensures.idle c.if-not-composed.true) c.begin.ensures.same refl refl
    c.of_composed.ensures.composed in
    record {
      bytes = over;
      does = idle_does c.args.screen.now c.args.self.now _ c.of_composed.result over
          c.of_composed.ensures.moved c.of_composed.ensures.refused c.of_composed.ensures.composed;
      hints = record {
        spent = λ did. absurd (apart (sym did ∙ c.of_composed.ensures.composed));
        kept = λ not. c.in_ok-composed.ensures.hints c.if-not-composed.true;
      };
      taken = c.of_composed.ensures.refused;
      tells = (c.of_composed.ensures.moved, c.of_composed.ensures.refused);
      follows = c.send_update.ensures.follows;
      idle = λ none. refl;
      due = tt;
      failed = λ some. refl;
    }
  where
    apart : true ≡ false → ⊥
    apart e = cc

pub returns-clause-does : goal.returns-clause-does
returns-clause-does c =
    let screen = c.args.screen.now in
    let old = c.args.self.now in
    composed_does screen old _ c.of_composed-2.result
    (composed_over screen old _ c.of_composed-2.result
    (c.in_ok-composed.ensures.composed c.if-not-composed.false)
    (c.note.ensures.noted
    ∙ ap (λ (a : Places). noted screen a (Some c.format.result))
    (asks_noted old c.asked.result.now c.begin.new.self.asked c.asked.ensures.value
    c.asked.ensures.columns c.asked.ensures.rows c.begin.ensures.asked)
    ∙ ap (λ (f : PixelFormat). noted screen (notes_in old.session).area (Some f)) c.format.ensures)
    c.in_ok-composed.ensures.appended
    (λ failed. absurd (apart _ _ refl (c.in_ok-composed.ensures.failed failed) c.if-not-composed.false))
    refl refl c.of_composed-2.ensures.composed)
    c.of_composed-2.ensures.moved c.of_composed-2.ensures.refused c.of_composed-2.ensures.composed
  where
    apart : {E : Type 0} (r : Result Bool E) (b : Bool) → r ≡ Ok b → r ≡ Ok false → b ≡ true → ⊥
    apart r b is none did = cc

pub returns-in_err-composed-clause-idle : goal.returns-in_err-composed-clause-idle
returns-in_err-composed-clause-idle c = λ idle.
    absurd (idle_not_due c.args.screen.now c.args.self.now c.in_err-composed.ensures.due idle)
