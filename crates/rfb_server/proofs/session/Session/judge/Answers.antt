use Rattle.std.proofs.Common.{Bool, true, false}
use Rattle.std.specs.Bool.{OnTrue, OnFalse}
use Rattle.rfb_pixel.specs.declared.colour.Colour.{Colour}
use Rattle.rfb_picture.specs.Grid.{Grid, Holds}
use Rattle.rfb_codec.specs.RectData.{moved_to}
use Rattle.rfb_server.specs.declared.hint.Hint.{Hint}
use Rattle.rfb_server.specs.declared.session.Session.{Session}
use Rattle.rfb_server.specs.KnownScreen.{Follows}
use Rattle.rfb_server.specs.Record.{AreKnown}
use Rattle.rfb_server.specs.UsedHints.{move_of}
use Rattle.rfb_server.specs.update.Copies.{IsFree, IsUseful}
use Rattle.rfb_server.specs.update.Gains.{HasMoreRight}
use Rattle.rfb_server.specs.update.Sends.{state_of}
use Rattle.rfb_server.proofs.CountLemmas.{gain_is, gain_only}
use Rattle.rfb_server.proofs.session.Session.judge.Goals as goal

module _ (screen : Grid Colour) (s : Session) (hint : Hint) (about : Follows screen s) where
  -- what lies on the screen lies in the record
  target : Holds screen hint.to → Holds s.known hint.to
  target on = (rw (← about.alike.columns) on.0, rw (← about.alike.rows) on.1)

  source : Holds screen (moved_to hint.sx hint.sy hint.to) →
      Holds s.known (moved_to hint.sx hint.sy hint.to)
  source on = (rw (← about.alike.columns) on.0, rw (← about.alike.rows) on.1)

  -- a copy of known places over free ones is useful if it leaves more of them right
  useful_by : (gain : Bool) → Holds screen hint.to →
      Holds screen (moved_to hint.sx hint.sy hint.to) →
      AreKnown s.known (moved_to hint.sx hint.sy hint.to) → IsFree s hint.to →
      OnTrue gain (HasMoreRight screen s hint) → OnTrue gain (IsUseful screen s hint)
  useful_by false on from known free more = tt
  useful_by true on from known free more = record {
    gain = record {
      on_screen = on;
      source_on_screen = from;
      source_known = known;
      more_right = gain_is (state_of screen s) (move_of hint) s.alike.known_whole (target on)
          (source from) more;
    };
    free = free;
  }

  -- and only if
  useless_by : (gain : Bool) → OnFalse gain (HasMoreRight screen s hint → ⊥) →
      OnFalse gain (IsUseful screen s hint → ⊥)
  useless_by true no_more = tt
  useless_by false no_more = λ useful.
      no_more (gain_only (state_of screen s) (move_of hint) s.alike.known_whole
      (target useful.gain.on_screen) (source useful.gain.source_on_screen) useful.gain.more_right)

pub returns-in-Some-clause-useful : goal.returns-in-Some-clause-useful
returns-in-Some-clause-useful c =
    useful_by c.args.screen.now c.args.self.now c.args.hint c.requires.about
    c.judge_claimed.result.gain (c.holds.ensures.0 c.if-not-holds.false)
    (c.holds-else-not-holds.ensures.0 c.if-not-holds-2.false) c.if-not-knows.ensures.known
    c.if-not-is_free.ensures.free c.judge_claimed.ensures.more

pub returns-in-Some-clause-useless : goal.returns-in-Some-clause-useless
returns-in-Some-clause-useless c =
    useless_by c.args.screen.now c.args.self.now c.args.hint c.requires.about
    c.judge_claimed.result.gain c.judge_claimed.ensures.no_more

pub returns-in_default-clause-useful : goal.returns-in_default-clause-useful
returns-in_default-clause-useful c =
    useful_by c.args.screen.now c.args.self.now c.args.hint c.requires.about
    c.judge_all.result.gain (c.holds.ensures.0 c.if-not-holds.false)
    (c.holds-else-not-holds.ensures.0 c.if-not-holds-2.false) c.if-not-knows.ensures.known
    c.if-not-is_free.ensures.free c.judge_all.ensures.more

pub returns-in_default-clause-useless : goal.returns-in_default-clause-useless
returns-in_default-clause-useless c =
    useless_by c.args.screen.now c.args.self.now c.args.hint c.requires.about
    c.judge_all.result.gain c.judge_all.ensures.no_more
