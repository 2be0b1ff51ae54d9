use Rattle.std.proofs.Common.{ap, sym, refl, ◌∙◌, rules}
use Rattle.rfb_picture.proofs.GridLaws.{width-uniform, height-uniform}
use Rattle.rfb_hello.proofs.StandingLaws.{server_stands}
use Rattle.rfb_server.proofs.ClaimLemmas.{nothing_claimed}
use Rattle.rfb_server.proofs.EnteringLemmas.{alike_untouched, caught_untouched}
use Rattle.rfb_server.proofs.late.entrance.Entrance.new.Goals as goal

pub invariant_of-result : goal.invariant_of-result
invariant_of-result c = record {
  alike = alike_untouched c.args.setup.width c.args.setup.height c.requires.sides.0 c.requires.sides.1;
  partial = (server_stands _ c.new.result _ _ c.new.ensures).1;
  sixteen = ap (λ b. b.capacity) c.in_ok-hints.ensures;
}

pub returns : goal.returns
returns c = record {
  stands = λ screen. search rules;
  follows = λ screen whole wide high. record {
    whole = whole;
    alike = record {
      columns = wide ∙ sym (width-uniform _ _ _);
      rows = high ∙ sym (height-uniform _ _ _);
    };
    caught_up = caught_untouched c.args.setup.width c.args.setup.height screen _ _ _;
    claimed = nothing_claimed _ _ _ _ refl;
  };
  hints = search rules;
}
