use Rattle.std.proofs.Common.{sym}
use Rattle.rfb_server.proofs.MessageLemmas.{format_taken, format_refused, list_begins, request_taken, key_told}
use Rattle.rfb_server.proofs.MessageLemmas.{pointer_told}
use Rattle.rfb_server.proofs.FeedingLemmas.{up_begun, up_format, up_then}
use Rattle.rfb_server.proofs.session.Session.take_message.Goals as goal

pub returns-in-Ok-clause-steps : goal.returns-in-Ok-clause-steps
returns-in-Ok-clause-steps c = λ part unit was spelled _ serving screen.
    format_taken serving screen c.args.self.now c.set_format.new.self c.begin_message.new.self part unit
    c.in-SetPixelFormat.bytes c.in-Ok.format was
    (rw c.in-SetPixelFormat.is at spelled) c.in-Ok.ensures.found (sym c.in-Ok.ensures.fault)
    c.set_format.ensures.format c.set_format.ensures.caught_up c.begin_message.ensures

pub returns-in-Ok-clause-up : goal.returns-in-Ok-clause-up
returns-in-Ok-clause-up c =
    let old = c.args.self.now in
    let mid = c.set_format.new.self in
    up_then old mid c.begin_message.new.self
    (up_format c.in-Ok.format old mid c.set_format.ensures.format c.set_format.ensures.caught_up)
    (up_begun mid c.begin_message.new.self c.begin_message.ensures)

pub returns-in-Err-clause-steps : goal.returns-in-Err-clause-steps
returns-in-Err-clause-steps c = λ part unit was spelled _ serving screen.
    rw (c.fail.ensures.value, c.of_format.ensures)
    (format_refused serving screen c.args.self.now c.fail.new.self part unit
    c.in-SetPixelFormat.bytes c.in-Err.fault was
    (rw c.in-SetPixelFormat.is at spelled) (sym c.in-Err.ensures.fault))

pub returns-in-SetEncodings-clause-steps : goal.returns-in-SetEncodings-clause-steps
returns-in-SetEncodings-clause-steps c = λ part unit was spelled _ serving screen.
    list_begins serving screen c.args.self.now c.begin_list.new.self part unit c.in-SetEncodings.count was
    (rw c.in-SetEncodings.is at spelled) c.begin_list.ensures

pub returns-in-Request-clause-steps : goal.returns-in-Request-clause-steps
returns-in-Request-clause-steps c = λ part unit was spelled _ serving screen.
    request_taken serving screen c.args.self.now c.request.new.self c.begin_message-in-Request.new.self part unit
    c.in-Request.incremental c.in-Request.rect was
    (rw c.in-Request.is at spelled) c.request.ensures.asked c.request.ensures.caught_up
    c.begin_message-in-Request.ensures

pub returns-in-Key-clause-steps : goal.returns-in-Key-clause-steps
returns-in-Key-clause-steps c = λ part unit was spelled _ serving screen.
    key_told serving screen c.args.self.now c.begin_message-in-Key.new.self part unit c.in-Key.down c.in-Key.key was
    (rw c.in-Key.is at spelled) c.begin_message-in-Key.ensures

pub returns-in-Pointer-clause-steps : goal.returns-in-Pointer-clause-steps
returns-in-Pointer-clause-steps c = λ part unit was spelled _ serving screen.
    pointer_told serving screen c.args.self.now c.begin_message-in-Pointer.new.self part unit c.in-Pointer.buttons
    c.in-Pointer.x c.in-Pointer.y was
    (rw c.in-Pointer.is at spelled) c.begin_message-in-Pointer.ensures

pub returns-in-CutText-clause-steps : goal.returns-in-CutText-clause-steps
returns-in-CutText-clause-steps c =
    λ part unit was spelled. c.begin_text.ensures.steps part unit was (rw c.in-CutText.is at spelled)

pub returns-in-CutText-clause-memory : goal.returns-in-CutText-clause-memory
returns-in-CutText-clause-memory c =
    λ part unit was spelled. c.begin_text.ensures.memory part unit was (rw c.in-CutText.is at spelled)
