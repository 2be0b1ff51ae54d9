use Rattle.std.proofs.Common.{arith}
use Rattle.rfb_server.proofs.SentLemmas.{tight_marked}
use Rattle.rfb_server.proofs.QuietLemmas.{quiet_sent}
use Rattle.rfb_server.proofs.session.Session.send_cell.Goals as goal

pub send-requires-clause-room : goal.send-requires-clause-room
send-requires-clause-room c =
    let s = c.args.self.now in
    let box = c.in-Some.ensures in
    let tight = tight_marked c.args.screen.now s c.args.cell c.in-Some.rect c.requires.about c.requires.held box in
    omega (
      arith,
      c.requires.room.1 c.in-Some.rect tight box.within.0 box.within.1 box.within.2 box.within.3,
      c.requires.room.2,
    )

pub returns-clause-sent : goal.returns-clause-sent
returns-clause-sent c = (c.in-Some.rect, c.in-Some.ensures, c.send.ensures.sent)

pub returns-clause-len : goal.returns-clause-len
returns-clause-len c = λ cost is.
    let s = c.args.self.now in
    let box = c.in-Some.ensures in
    let tight = tight_marked c.args.screen.now s c.args.cell c.in-Some.rect c.requires.about c.requires.held box in
    omega (arith, is c.in-Some.rect tight box.within.0 box.within.1 box.within.2 box.within.3, c.send.ensures.len)

pub returns-clause-quiet : goal.returns-clause-quiet
returns-clause-quiet c =
    let s = c.args.self.now in
    let sent = c.send.ensures.sent in
    quiet_sent c.args.screen.now s c.send.new.self c.in-Some.rect c.args.quiet.now _ _
    c.send.ensures.kept sent c.requires.quiet
