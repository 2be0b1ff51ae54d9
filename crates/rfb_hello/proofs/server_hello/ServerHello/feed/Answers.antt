use Rattle.std.proofs.Common.{◌≡◌, ◌∙◌, sym, ◌≤◌, length, drop, length-drop, None, arith}
use Rattle.std.proofs.lemmas.List.{take_rest}
use Rattle.std.proofs.lemmas.Result.{err_from_is_err_and}
use Rattle.rfb_wire.proofs.stream_laws.FeedLaws.{fed_more, refused_later}
use Rattle.rfb_hello.specs.ServerEnd.{server_end}
use Rattle.rfb_hello.specs.ServerModel.{StandsFor}
use Rattle.rfb_hello.proofs.ServerHelloLemmas.{none_told, some_told, server_machine}
use Rattle.rfb_hello.proofs.server_hello.ServerHello.feed.Goals as goal

pub returns-in_err-n : goal.returns-in_err-n
returns-in_err-n c =
    let p = err_from_is_err_and c.from_residual.result c.from_residual.ensures.1 in
    let began = c.loop-used.invariant.began in
    let rest = take_rest c.args.bytes.now c.loop-used.used in
    rw (p.1, p.2) (record {
      used = tt;
      all = tt;
      some = tt;
      fed = tt;
      setup = c.in_err-n.ensures.setup ∙ c.loop-used.invariant.setup;
      left = tt;
      fault = λ setup. refused_later (server_end setup) (server_machine setup) (StandsFor setup) c.args.self.now
          c.loop-used.self c.loop-used.used c.args.bytes.now c.in_err-n.field-0.0 (c.loop-used.invariant.fed setup)
          (rw rest at (c.in_err-n.ensures.fault setup));
      fails = c.in_err-n.ensures.fails;
      failed = λ f h. absurd cc;
    })

pub returns-then-is_some : goal.returns-then-is_some
returns-then-is_some c =
    let began = c.loop-used.invariant.began in
    let rest = take_rest c.args.bytes.now c.loop-used.used in
    let within : c.in_ok-n.n ≤ length (drop c.loop-used.used c.args.bytes.now) = rw rest at c.in_ok-n.ensures.used.1 in
    record {
      used = omega (arith, length-drop c.loop-used.used c.args.bytes.now, within, c.loop-used.invariant.within);
      all = λ none. absurd (some_told c.in_ok-n.event (sym c.is_some.ensures ∙ c.if-is_some.true) none);
      some = λ is any. omega (arith, c.in_ok-n.ensures.used.0);
      fed = λ setup. fed_more (server_end setup) (server_machine setup) (StandsFor setup)
          c.args.self.now c.loop-used.self c.take.new.self c.loop-used.used c.in_ok-n.n c.args.bytes.now c.in_ok-n.event
          (c.loop-used.invariant.fed setup) (rw rest at (c.in_ok-n.ensures.fed setup));
      setup = c.in_ok-n.ensures.setup ∙ c.loop-used.invariant.setup;
      left = omega (arith, c.in_ok-n.ensures.left, c.loop-used.invariant.left);
      fault = tt;
      fails = tt;
      failed = λ f h. absurd cc;
    }

pub loop-used-preserved : goal.loop-used-preserved
loop-used-preserved c =
    let rest = take_rest c.args.bytes.now c.loop-used.used in
    let within : c.in_ok-n.n ≤ length (drop c.loop-used.used c.args.bytes.now) = rw rest at c.in_ok-n.ensures.used.1 in
    let none : c.in_ok-n.event ≡ None = none_told c.in_ok-n.event (sym c.is_some.ensures ∙ c.if-is_some.false) in
    record {
      within = omega (arith, length-drop c.loop-used.used c.args.bytes.now, within, c.loop-used.invariant.within);
      began = c.loop-used.invariant.began;
      going = c.in_ok-n.ensures.going;
      stays_open = λ _. c.in_ok-n.ensures.open none;
      setup = c.in_ok-n.ensures.setup ∙ c.loop-used.invariant.setup;
      left = omega (arith, c.in_ok-n.ensures.left, c.loop-used.invariant.left);
      fed = λ setup. fed_more (server_end setup) (server_machine setup) (StandsFor setup)
          c.args.self.now c.loop-used.self c.take.new.self c.loop-used.used c.in_ok-n.n c.args.bytes.now None
          (c.loop-used.invariant.fed setup) (rw (rest, none) at (c.in_ok-n.ensures.fed setup));
    }
