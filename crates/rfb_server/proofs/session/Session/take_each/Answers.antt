use Rattle.std.proofs.Common.{rules, ◌≡◌, ◌∙◌, sym, refl, ◌≤◌, length, drop, length-drop, None, arith}
use Rattle.std.proofs.lemmas.List.{take_rest}
use Rattle.rfb_wire.proofs.stream_laws.FeedLaws.{fed_more, runs_out_later}
use Rattle.rfb_server.specs.Server.{server}
use Rattle.rfb_server.specs.Model.{SessionStandsFor, notes_in}
use Rattle.rfb_server.specs.Failed.{EndsAt}
use Rattle.rfb_server.proofs.ServerLaws.{server_machine}
use Rattle.rfb_server.proofs.FeedingLemmas.{up_same, up_then}
use Rattle.rfb_server.proofs.SliceLemmas.{session_starts, none_told, some_told}
use Rattle.rfb_server.proofs.PlaceLemmas.{placed_later}
use Rattle.rfb_server.proofs.session.Session.take_each.Goals as goal

pub loop-used-init : goal.loop-used-init
loop-used-init c =
    record {
      within = omega arith;
      going = c.requires.going;
      up = up_same c.args.self.now _ refl (search rules);
      fed = session_starts c.args.self.now;
    }

pub returns-in-Err : goal.returns-in-Err
returns-in-Err c =
    let rest = take_rest c.args.bytes.now c.loop-used.used in
    let flaw = c.in-Err.flaw in
    record {
      used = tt;
      all = tt;
      some = tt;
      fed = tt;
      up = up_then c.args.self.now c.loop-used.self c.take.new.self c.loop-used.invariant.up c.take.ensures.up;
      ends = λ serving screen. runs_out_later (server serving) (server_machine serving)
          (EndsAt serving flaw.fault screen (notes_in c.take.new.self)) (SessionStandsFor serving screen)
          c.args.self.now c.loop-used.self c.loop-used.used c.args.bytes.now (c.loop-used.invariant.fed serving screen)
          (rw rest at (c.in-Err.ensures.ends serving screen));
      fails = c.in-Err.ensures.fails;
      place = placed_later flaw.fault c.args.self.now c.loop-used.self c.loop-used.used flaw.used c.args.bytes.now
          (omega (arith, c.loop-used.invariant.within)) c.loop-used.invariant.fed (rw rest at c.in-Err.ensures.place);
    }

pub returns-then-is_some : goal.returns-then-is_some
returns-then-is_some c =
    let rest = take_rest c.args.bytes.now c.loop-used.used in
    let fed = c.in-Ok.fed in
    let within : fed.used ≤ length (drop c.loop-used.used c.args.bytes.now) = rw rest at c.in-Ok.ensures.used.1 in
    record {
      used = omega (arith, length-drop c.loop-used.used c.args.bytes.now, within, c.loop-used.invariant.within);
      all = λ none. absurd (some_told fed.event (sym c.is_some.ensures ∙ c.if-is_some.true) none);
      some = λ any. omega (arith, c.in-Ok.ensures.used.0);
      fed = λ serving screen. fed_more (server serving) (server_machine serving) (SessionStandsFor serving screen)
          c.args.self.now c.loop-used.self c.take.new.self c.loop-used.used fed.used c.args.bytes.now _
          (c.loop-used.invariant.fed serving screen) (rw rest at (c.in-Ok.ensures.fed serving screen));
      up = up_then c.args.self.now c.loop-used.self c.take.new.self c.loop-used.invariant.up c.take.ensures.up;
      ends = tt;
      fails = tt;
      place = tt;
    }

pub loop-used-preserved : goal.loop-used-preserved
loop-used-preserved c =
    let rest = take_rest c.args.bytes.now c.loop-used.used in
    let fed = c.in-Ok.fed in
    let within : fed.used ≤ length (drop c.loop-used.used c.args.bytes.now) = rw rest at c.in-Ok.ensures.used.1 in
    let none : fed.event ≡ None = none_told fed.event (sym c.is_some.ensures ∙ c.if-is_some.false) in
    record {
      within = omega (arith, length-drop c.loop-used.used c.args.bytes.now, within, c.loop-used.invariant.within);
      going = c.in-Ok.ensures.going;
      up = up_then c.args.self.now c.loop-used.self c.take.new.self c.loop-used.invariant.up c.take.ensures.up;
      fed = λ serving screen. fed_more (server serving) (server_machine serving) (SessionStandsFor serving screen)
          c.args.self.now c.loop-used.self c.take.new.self c.loop-used.used fed.used c.args.bytes.now None
          (c.loop-used.invariant.fed serving screen) (rw (rest, none) at (c.in-Ok.ensures.fed serving screen));
    }

pub loop-used-smaller-else-is_some-2 : goal.loop-used-smaller-else-is_some-2
loop-used-smaller-else-is_some-2 c = grind arith

pub loop-used-preserved-else-is_some-2 : goal.loop-used-preserved-else-is_some-2
loop-used-preserved-else-is_some-2 c = grind arith
