use Rattle.std.proofs.Common.{◌+◌, Bool, subst}
use Rattle.rfb_picture.specs.Grid.{Grid}
use Rattle.rfb_picture.specs.Box.{is_in, IsClear}
use Rattle.rfb_picture.specs.Places.{AllMarked}
use Rattle.rfb_picture.proofs.GridLaws.{contains_true}
use Rattle.rfb_server.proofs.session.Session.is_free.Goals as goal

pub returns-in-None-clause-free : goal.returns-in-None-clause-free
returns-in-None-clause-free c =
    let to = c.args.to in
    let clear : IsClear (is_in c.args.self.now.area.whole) c.args.to.x (c.args.to.x + c.args.to.w) c.args.to.y
    (c.args.to.y + c.args.to.h) =
    subst (λ (g : Grid Bool). IsClear (is_in g) c.args.to.x (c.args.to.x + c.args.to.w) c.args.to.y
    (c.args.to.y + c.args.to.h)) c.whole.ensures c.in-None.ensures in
    record {
      asked = subst (λ (g : Grid Bool). AllMarked (is_in g) c.args.to) c.asked.ensures
          (c.has_all.ensures.0 c.if-not-has_all.false);
      not_whole = λ x y inside. let (a, b, d, e) = contains_true to x y inside in clear x y a b d e;
      marked = c.has_all-else-not-has_all.ensures.0 c.if-not-has_all-2.false;
    }
