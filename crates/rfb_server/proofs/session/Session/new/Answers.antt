use Rattle.std.proofs.Common.{ap, sym, refl, ◌∙◌}
use Rattle.rfb_picture.proofs.GridLaws.{whole-changed, whole-uniform}
use Rattle.rfb_picture.proofs.AreaLaws.{area-no_places}
use Rattle.rfb_hello.proofs.StandingLaws.{server_stands}
use Rattle.rfb_server.proofs.ClaimLemmas.{nothing_claimed}
use Rattle.rfb_server.proofs.MarksLemmas.{in_all, caught_unseen}
use Rattle.rfb_server.proofs.session.Session.new.Goals as goal

pub invariant_of-result : goal.invariant_of-result
invariant_of-result c =
    let fresh = c.in_ok-places.ensures in
    record {
      alike = record {
        known_whole = rw fresh.known_is (whole-uniform _ _ _);
        area_is = rw fresh.area_is (area-no_places _ _);
        marks_whole = rw fresh.marked.value (whole-changed _ _ (whole-uniform _ _ _));
        area_wide = fresh.area_wide ∙ sym fresh.known_wide;
        area_high = fresh.area_high ∙ sym fresh.known_high;
        marks_wide = fresh.marked.columns ∙ sym fresh.known_wide;
        marks_high = fresh.marked.rows ∙ sym fresh.known_high;
        columns = rw fresh.known_wide c.requires.columns;
        rows = rw fresh.known_high c.requires.rows;
      };
      partial = (server_stands _ c.new-2.result _ _ c.new-2.ensures).1;
      sixteen = ap (λ b. b.capacity) c.in_ok-hints.ensures;
    }

pub returns-clause-follows : goal.returns-clause-follows
returns-clause-follows c = λ screen whole wide high.
    let fresh = c.in_ok-places.ensures in
    record {
      whole = whole;
      alike = record { columns = wide ∙ sym fresh.known_wide; rows = high ∙ sym fresh.known_high };
      caught_up = caught_unseen screen _ _ _ _ (λ x y p q.
          rw fresh.marked.value
          (in_all c.args.width c.args.height x y (rw fresh.marked.columns at p) (rw fresh.marked.rows at q)));
      claimed = nothing_claimed _ _ _ _ refl;
    }
