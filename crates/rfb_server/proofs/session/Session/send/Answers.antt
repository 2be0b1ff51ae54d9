use Rattle.std.proofs.Common.{sym, ◌∙◌, arith}
use Rattle.std.proofs.lemmas.Grind.{common_steps}
use Rattle.rfb_codec.specs.Effect.{IsAlike}
use Rattle.rfb_server.proofs.ClaimLemmas.{nothing_claimed}
use Rattle.rfb_server.proofs.SentLemmas.{caught_sent, appends_pixels}
use Rattle.rfb_server.proofs.session.Session.send.Goals as goal

pub returns-clause-about : goal.returns-clause-about
returns-clause-about c =
    let s = c.args.self.now in
    let size : IsAlike s.known c.take.new.self =
    record { columns = sym c.take.ensures.width; rows = sym c.take.ensures.height } in
    let about = c.requires.about in
    record {
      whole = about.whole;
      alike = record { columns = about.alike.columns ∙ size.columns; rows = about.alike.rows ∙ size.rows };
      caught_up = caught_sent c.args.screen.now s.known c.take.new.self s.area s.format s.marks c.args.rect
          c.take.new.block s.alike size c.take.ensures.packed c.take.ensures.recorded about.caught_up;
      claimed = nothing_claimed _ _ _ _ c.requires.unclaimed;
    }

pub returns-clause-sent : goal.returns-clause-sent
returns-clause-sent c =
    let s = c.args.self.now in
    let size : IsAlike s.known c.take.new.self =
    record { columns = sym c.take.ensures.width; rows = sym c.take.ensures.height } in
    let a = appends_pixels c.args.screen.now s.format s.encodings c.args.rect c.preferred-encoding.result
    c.take.new.block s.known c.take.new.self c.args.out.now.items c.append_rect.new.out.items
    c.preferred-encoding.ensures.first c.preferred-encoding.ensures.sendable c.take.ensures.sized c.take.ensures.packed
    c.take.ensures.recorded c.take.ensures.whole size c.append_rect.ensures.sent in
    record { bytes = a.0; appended = a.1; sent = a.2 }

pub returns-clause-len : goal.returns-clause-len
returns-clause-len c = grind (arith, common_steps)
