use Rattle.std.proofs.Common.{arith, length, [], refl, sym, ap, ◌∙◌}
use Rattle.rfb_hello.specs.Version.{version_text}
use Rattle.rfb_hello.specs.ServerEnd.{ServerSetup}
use Rattle.rfb_server.specs.Server.{first_server}
use Rattle.rfb_server.specs.Model.{with_screen}
use Rattle.rfb_session.proofs.ShareFitLemmas.{fresh_fits, nowhere, version_size, greets_twelve}
use Rattle.rfb_session.proofs.share.seat.ShareSeat.new.Goals as goal

pub invariant_of-result : goal.invariant_of-result
invariant_of-result c =
    let fresh = c.requires.fresh in
    let greets = greets_twelve c.append.new.kept c.new-kept.result.items c.greeting.result
    fresh.0.hello.offer c.append.ensures.items c.new-kept.ensures
    (c.greeting.ensures fresh.0 nowhere (with_screen nowhere (first_server fresh.0)) []
    (fresh.2 nowhere)) in
    let twelve = ap (λ xs. length xs) greets ∙ version_size fresh.0.hello.offer in
    record {
      within = omega arith;
      few = omega (arith, twelve);
      roomy = ∣ fresh_fits c.args.session c.append.new.kept fresh twelve ∣₁;
    }

pub returns : goal.returns
returns c =
    let fresh = c.requires.fresh in
    record {
      session_is = refl;
      greets = greets_twelve c.append.new.kept c.new-kept.result.items c.greeting.result
          fresh.0.hello.offer c.append.ensures.items c.new-kept.ensures
          (c.greeting.ensures fresh.0 nowhere (with_screen nowhere (first_server fresh.0)) []
          (fresh.2 nowhere))
          ∙ ap (λ (setup : ServerSetup). version_text setup.offer) (sym (fresh.2 nowhere).setup_is);
      memory = refl;
    }
