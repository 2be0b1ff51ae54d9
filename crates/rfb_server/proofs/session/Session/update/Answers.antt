use Rattle.std.proofs.Common.{refl}
use Rattle.rfb_server.proofs.UnclaimedLemmas.{follows_unclaimed, enough_unclaimed, limits_unclaimed}
use Rattle.rfb_server.proofs.UpdateLemmas.{composed_same}
use Rattle.rfb_server.proofs.session.Session.update.Goals as goal

pub update_by-requires-clause-about : goal.update_by-requires-clause-about
update_by-requires-clause-about c =
    follows_unclaimed c.args.screen.now c.args.self.now _ refl refl refl refl refl refl c.requires.about

pub update_by-requires-clause-claimed : goal.update_by-requires-clause-claimed
update_by-requires-clause-claimed c = c.requires.about.claimed

pub update_by-requires-clause-room : goal.update_by-requires-clause-room
update_by-requires-clause-room c = (
  c.requires.room.0,
  enough_unclaimed c.args.self.now _ _ _ _ refl refl refl refl c.requires.room.1,
  c.requires.room.2,
)

pub update_by-requires-clause-limits : goal.update_by-requires-clause-limits
update_by-requires-clause-limits c = limits_unclaimed c.args.self.now _ _ _ refl refl refl c.requires.limits

pub returns-then-update_by-clause-composed : goal.returns-then-update_by-clause-composed
returns-then-update_by-clause-composed c =
    composed_same c.args.screen.now c.args.self.now _ c.update_by.new.self
    c.args.out.now.items c.update_by.new.out.items
    (record {
      setting = record { hello = refl; progress = refl; text_limit = refl; format = refl; encodings = refl };
      known = refl;
      area = refl;
    })
    refl c.if-update_by.ensures.composed
