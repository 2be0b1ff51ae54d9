use Rattle.rfb_server.proofs.TakenOverLemmas.{leaves_all, sends_too, taken_known}
use Rattle.rfb_server.proofs.session.Session.take_over.Goals as goal

pub take_shown-requires-clause-columns : goal.take_shown-requires-clause-columns
take_shown-requires-clause-columns c =
    let sent = c.requires.sent in
    (leaves_all c.args.screen.now c.args.self.now sent.was c.args.sent.now sent.before sent.after c.requires.follows
    sent.twins sent.sends).width

pub take_shown-requires-clause-rows : goal.take_shown-requires-clause-rows
take_shown-requires-clause-rows c =
    let sent = c.requires.sent in
    (leaves_all c.args.screen.now c.args.self.now sent.was c.args.sent.now sent.before sent.after c.requires.follows
    sent.twins sent.sends).height

pub take_shown-requires-clause-shown : goal.take_shown-requires-clause-shown
take_shown-requires-clause-shown c =
    let sent = c.requires.sent in
    (leaves_all c.args.screen.now c.args.self.now sent.was c.args.sent.now sent.before sent.after c.requires.follows
    sent.twins sent.sends).shown

pub returns-clause-sends : goal.returns-clause-sends
returns-clause-sends c = λ was before after twins sends.
    sends_too c.args.screen.now c.args.self.now was c.args.sent.now before after c.requires.follows twins sends
    c.take_shown.new.self c.take_shown.ensures.taken

pub returns-clause-known : goal.returns-clause-known
returns-clause-known c =
    let sent = c.requires.sent in
    taken_known c.args.screen.now c.args.self.now sent.was c.args.sent.now sent.before sent.after c.requires.follows
    sent.twins sent.sends c.take_shown.new.self c.take_shown.ensures.taken
