use Rattle.std.proofs.Common.{Option, subst, Some}
use Rattle.rfb_pixel.specs.declared.colour.Colour.{Colour}
use Rattle.rfb_picture.specs.Grid.{Grid}
use Rattle.rfb_viewer.specs.Damage.{damage_of, IsSameOutside}
use Rattle.rfb_viewer.specs.Model.{picture_of}
use Rattle.rfb_session.specs.Mirrors.{seen_by}
use Rattle.rfb_session.proofs.MirrorLemmas.{same_outside, feed_shows, feed_stands, fails_at}
use Rattle.rfb_session.proofs.share.mirror.Mirror.feed.Goals as goal

pub invariant_of-self : goal.invariant_of-self
invariant_of-self c =
    let s = c.args.self.now in
    let e = c.feed.ensures in
    record {
      shown = (feed_shows s.viewer c.feed.new.self c.args.bytes.now c.feed.result s.shown s.stands e.failed e.fed
          e.picture).0;
      stands = feed_stands s.viewer c.feed.new.self c.args.bytes.now c.feed.result s.stands e.failed e.fed e.fails;
    }

pub returns-clause-fails : goal.returns-clause-fails
returns-clause-fails c =
    let s = c.args.self.now in
    let e = c.feed.ensures in
    fails_at s.viewer c.feed.new.self c.args.bytes.now c.feed.result e.fails e.failed e.fault e.memory e.picture
    e.damaged e.unmoved e.reason e.place e.made

pub returns-clause-outside : goal.returns-clause-outside
returns-clause-outside c =
    let s = c.args.self.now in
    let e = c.feed.ensures in
    let shown = feed_shows s.viewer c.feed.new.self c.args.bytes.now c.feed.result s.shown s.stands e.failed e.fed
    e.picture in
    subst (λ (o : Option (Grid Colour)). IsSameOutside (damage_of c.feed.new.self) (Some (seen_by s.viewer)) o)
    shown.0 (subst (λ (o : Option (Grid Colour)).
    IsSameOutside (damage_of c.feed.new.self) o (picture_of c.feed.new.self)) s.shown
    (same_outside s.viewer c.feed.new.self c.feed.result s.stands e.outside e.failed))

pub returns-clause-columns : goal.returns-clause-columns
returns-clause-columns c =
    let s = c.args.self.now in
    let e = c.feed.ensures in
    (feed_shows s.viewer c.feed.new.self c.args.bytes.now c.feed.result s.shown s.stands e.failed e.fed e.picture).1

pub returns-clause-rows : goal.returns-clause-rows
returns-clause-rows c =
    let s = c.args.self.now in
    let e = c.feed.ensures in
    (feed_shows s.viewer c.feed.new.self c.args.bytes.now c.feed.result s.shown s.stands e.failed e.fed e.picture).2
