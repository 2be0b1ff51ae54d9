-- Each kind of event, from what its call and its queue promise.
use Rattle.std.proofs.Common.{◌≡◌, ℕ, List, None, refl, sym, subst, IfOk, OnErr, length}
use Rattle.rfb_pixel.specs.declared.colour.Colour.{Colour}
use Rattle.rfb_picture.specs.Grid.{Holds, filled, copied, with_row}
use Rattle.rfb_server.specs.Hints.{hints_of, with_hint}
use Rattle.rfb_server.specs.Model.{HoldsBoth, row_from, screen_of}
use Rattle.rfb_viewer.specs.Calls.{call_refusal, request_refusal, format_refusal, requested, formatted}
use Rattle.rfb_viewer.specs.Messages.{format_message, encodings_message, request_message, key_message, pointer_message}
use Rattle.rfb_viewer.specs.Messages.{text_message}
use Rattle.arrayvec.specs.ArrayVec.{ArrayVec}
use Rattle.rfb_wire.specs.declared.encoding.Encoding.{Encoding}
use Rattle.rfb_session.specs.declared.event.Event.{Event}
use Rattle.rfb_session.proofs.DrawnLaws.{held_or_not, both_held_or_not}
use Rattle.rfb.specs.declared.loopback.ends.Ends.{Ends}
use Rattle.rfb.specs.Loopback.{AsksMemory, DrawsOn, TakesEvent}
use Rattle.rfb.proofs.EndsLemmas.{always_ok, always_err, draws_on, call_taken, message_taken, text_sends, asks}
use Rattle.rfb.proofs.EndsLemmas.{text_asks}
use Rattle.rfb.proofs.loopback.ends.Ends.take.Goals as goal

pub returns-in-Fill-clause-takes : goal.returns-in-Fill-clause-takes
returns-in-Fill-clause-takes c =
    let old = c.args.self.now in
    let new : Ends = record old { server = c.fill.new.self } in
    subst (λ (event : Event). TakesEvent old event c.of_drawing.result new) (sym c.in-Fill.is)
    (draws_on (Holds (screen_of old.server) c.in-Fill.rect)
    (filled c.in-Fill.rect c.in-Fill.colour (screen_of old.server))
    (hints_of old.server) old new c.fill.result c.of_drawing.result
    (held_or_not c.in-Fill.rect (screen_of old.server)) c.fill.ensures.refused c.fill.ensures.kept
    c.fill.ensures.drawn (always_ok c.fill.result _ c.fill.ensures.hints) c.of_drawing.ensures refl)

pub returns-in-Put-clause-takes : goal.returns-in-Put-clause-takes
returns-in-Put-clause-takes c =
    let old = c.args.self.now in
    let new : Ends = record old { server = c.put.new.self } in
    let row = c.deref.result.now in
    subst (λ (event : Event). TakesEvent old event c.of_drawing-in-Put.result new)
    (sym c.in-Put.is)
    (subst (λ (colours : List Colour). DrawsOn
    (Holds (screen_of old.server) (row_from c.in-Put.x c.in-Put.y (length colours)))
    (with_row c.in-Put.x c.in-Put.y colours (screen_of old.server)) (hints_of old.server) old
    c.of_drawing-in-Put.result new) c.deref.ensures.value
    (draws_on (Holds (screen_of old.server) (row_from c.in-Put.x c.in-Put.y (length row)))
    (with_row c.in-Put.x c.in-Put.y row (screen_of old.server)) (hints_of old.server) old new
    c.put.result c.of_drawing-in-Put.result
    (held_or_not (row_from c.in-Put.x c.in-Put.y (length row)) (screen_of old.server))
    c.put.ensures.refused c.put.ensures.kept c.put.ensures.drawn
    (always_ok c.put.result _ c.put.ensures.hints) c.of_drawing-in-Put.ensures refl))

pub returns-in-Copy-clause-takes : goal.returns-in-Copy-clause-takes
returns-in-Copy-clause-takes c =
    let old = c.args.self.now in
    let new : Ends = record old { server = c.copy.new.self } in
    subst (λ (event : Event). TakesEvent old event c.of_drawing-in-Copy.result new) (sym c.in-Copy.is)
    (draws_on (HoldsBoth (screen_of old.server) c.in-Copy.rect c.in-Copy.sx c.in-Copy.sy)
    (copied c.in-Copy.rect c.in-Copy.sx c.in-Copy.sy (screen_of old.server))
    (hints_of old.server) old new c.copy.result c.of_drawing-in-Copy.result
    (both_held_or_not c.in-Copy.rect c.in-Copy.sx c.in-Copy.sy (screen_of old.server)) c.copy.ensures.refused
    c.copy.ensures.kept
    c.copy.ensures.drawn (always_ok c.copy.result _ c.copy.ensures.hints) c.of_drawing-in-Copy.ensures refl)

pub returns-in-Hint-clause-takes : goal.returns-in-Hint-clause-takes
returns-in-Hint-clause-takes c =
    let old = c.args.self.now in
    let new : Ends = record old { server = c.hint.new.self } in
    subst (λ (event : Event). TakesEvent old event c.of_drawing-in-Hint.result new) (sym c.in-Hint.is)
    (draws_on (HoldsBoth (screen_of old.server) c.in-Hint.rect c.in-Hint.sx c.in-Hint.sy)
    (screen_of old.server)
    (with_hint (record { to = c.in-Hint.rect; sx = c.in-Hint.sx; sy = c.in-Hint.sy }) (hints_of old.server)) old new
    c.hint.result c.of_drawing-in-Hint.result
    (both_held_or_not c.in-Hint.rect c.in-Hint.sx c.in-Hint.sy (screen_of old.server)) c.hint.ensures.refused
    c.hint.ensures.kept
    c.hint.ensures.hinted c.hint.ensures.hints c.of_drawing-in-Hint.ensures refl)

pub returns-in-Request-clause-takes : goal.returns-in-Request-clause-takes
returns-in-Request-clause-takes c =
    let old = c.args.self.now in
    let new : Ends = record old { viewer = c.request-called.new.self; to_server = c.send.new.to_server } in
    subst (λ (event : Event). IfOk c.send.result (λ refused. TakesEvent old event refused new))
    (sym c.in-Request.is)
    (call_taken (λ (m : List ℕ). m) (λ s prefix. request_refusal s c.in-Request.rect)
    (request_message c.in-Request.incremental c.in-Request.rect) old new c.request-called.result c.send.result
    (record {
      sent = c.request-called.ensures.sent;
      refusal = c.request-called.ensures.refusal;
      failed = c.request-called.ensures.failed;
      kept = c.request-called.ensures.refused;
    })
    (record {
      taken = c.send.ensures.taken;
      sent = c.send.ensures.sent;
      refused = c.send.ensures.refused;
    })
    c.send.ensures.kept refl requested c.request-called.ensures.stands c.request-called.ensures.picture)

pub returns-in-Request-clause-stopped : goal.returns-in-Request-clause-stopped
returns-in-Request-clause-stopped c =
    subst (λ (event : Event). OnErr c.send.result (AsksMemory c.args.self.now event))
    (sym c.in-Request.is)
    (asks (λ s prefix. request_refusal s c.in-Request.rect) c.args.self.now.viewer c.request-called.result c.send.result
    c.request-called.ensures.refusal c.request-called.ensures.failed c.send.ensures.refused)

pub returns-in-SetFormat-clause-takes : goal.returns-in-SetFormat-clause-takes
returns-in-SetFormat-clause-takes c =
    let old = c.args.self.now in
    let new : Ends =
    record old { viewer = c.set_format-called.new.self; to_server = c.send-in-SetFormat.new.to_server } in
    subst (λ (event : Event). IfOk c.send-in-SetFormat.result (λ refused. TakesEvent old event refused new))
    (sym c.in-SetFormat.is)
    (call_taken (λ (m : List ℕ). m) (λ s prefix. format_refusal s prefix)
    (format_message c.in-SetFormat.format) old new c.set_format-called.result c.send-in-SetFormat.result
    (record {
      sent = c.set_format-called.ensures.sent;
      refusal = c.set_format-called.ensures.refusal;
      failed = c.set_format-called.ensures.failed;
      kept = c.set_format-called.ensures.refused;
    })
    (record {
      taken = c.send-in-SetFormat.ensures.taken;
      sent = c.send-in-SetFormat.ensures.sent;
      refused = c.send-in-SetFormat.ensures.refused;
    })
    c.send-in-SetFormat.ensures.kept refl (formatted c.in-SetFormat.format) c.set_format-called.ensures.stands
    c.set_format-called.ensures.picture)

pub returns-in-SetFormat-clause-stopped : goal.returns-in-SetFormat-clause-stopped
returns-in-SetFormat-clause-stopped c =
    subst (λ (event : Event). OnErr c.send-in-SetFormat.result (AsksMemory c.args.self.now event))
    (sym c.in-SetFormat.is)
    (asks (λ s prefix. format_refusal s prefix) c.args.self.now.viewer c.set_format-called.result
    c.send-in-SetFormat.result
    c.set_format-called.ensures.refusal c.set_format-called.ensures.failed c.send-in-SetFormat.ensures.refused)

pub returns-in-SetEncodings-clause-takes : goal.returns-in-SetEncodings-clause-takes
returns-in-SetEncodings-clause-takes c =
    let old = c.args.self.now in
    let new : Ends = record old { to_server = c.send_list.new.to_server } in
    subst (λ (event : Event). IfOk c.send_list.result (λ refused. TakesEvent old event refused new))
    (sym c.in-SetEncodings.is)
    (message_taken (λ (m : ArrayVec ℕ). m.items) (λ s prefix. call_refusal s)
    (encodings_message c.in-SetEncodings.encodings.items) old new c.set_encodings-called.result c.send_list.result
    (record {
      sent = subst (λ (list : List Encoding). IfOk c.set_encodings-called.result
          (λ bytes. bytes.items ≡ encodings_message list)) c.copy_of.ensures c.set_encodings-called.ensures.sent;
      refusal = c.set_encodings-called.ensures.refusal;
      failed = c.set_encodings-called.ensures.failed;
      kept = always_err c.set_encodings-called.result _ refl;
    })
    (record {
      taken = c.send_list.ensures.taken;
      sent = c.send_list.ensures.sent;
      refused = c.send_list.ensures.refused;
    })
    c.send_list.ensures.kept refl refl)

pub returns-in-SetEncodings-clause-stopped : goal.returns-in-SetEncodings-clause-stopped
returns-in-SetEncodings-clause-stopped c =
    subst (λ (event : Event). OnErr c.send_list.result (AsksMemory c.args.self.now event))
    (sym c.in-SetEncodings.is)
    (asks (λ s prefix. call_refusal s) c.args.self.now.viewer c.set_encodings-called.result c.send_list.result
    c.set_encodings-called.ensures.refusal c.set_encodings-called.ensures.failed c.send_list.ensures.refused)

pub returns-in-Key-clause-takes : goal.returns-in-Key-clause-takes
returns-in-Key-clause-takes c =
    let old = c.args.self.now in
    let new : Ends = record old { to_server = c.send-in-Key.new.to_server } in
    subst (λ (event : Event). IfOk c.send-in-Key.result (λ refused. TakesEvent old event refused new))
    (sym c.in-Key.is)
    (message_taken (λ (m : List ℕ). m) (λ s prefix. call_refusal s)
    (key_message c.in-Key.down c.in-Key.key) old new c.key.result c.send-in-Key.result
    (record {
      sent = c.key.ensures.sent;
      refusal = c.key.ensures.refusal;
      failed = c.key.ensures.failed;
      kept = always_err c.key.result _ refl;
    })
    (record {
      taken = c.send-in-Key.ensures.taken;
      sent = c.send-in-Key.ensures.sent;
      refused = c.send-in-Key.ensures.refused;
    })
    c.send-in-Key.ensures.kept refl refl)

pub returns-in-Key-clause-stopped : goal.returns-in-Key-clause-stopped
returns-in-Key-clause-stopped c =
    subst (λ (event : Event). OnErr c.send-in-Key.result (AsksMemory c.args.self.now event))
    (sym c.in-Key.is)
    (asks (λ s prefix. call_refusal s) c.args.self.now.viewer c.key.result c.send-in-Key.result
    c.key.ensures.refusal c.key.ensures.failed c.send-in-Key.ensures.refused)

pub returns-in-Pointer-clause-takes : goal.returns-in-Pointer-clause-takes
returns-in-Pointer-clause-takes c =
    let old = c.args.self.now in
    let new : Ends = record old { to_server = c.send-in-Pointer.new.to_server } in
    subst (λ (event : Event). IfOk c.send-in-Pointer.result (λ refused. TakesEvent old event refused new))
    (sym c.in-Pointer.is)
    (message_taken (λ (m : List ℕ). m) (λ s prefix. call_refusal s)
    (pointer_message c.in-Pointer.buttons c.in-Pointer.x c.in-Pointer.y) old new
    c.pointer-called.result c.send-in-Pointer.result
    (record {
      sent = c.pointer-called.ensures.sent;
      refusal = c.pointer-called.ensures.refusal;
      failed = c.pointer-called.ensures.failed;
      kept = always_err c.pointer-called.result _ refl;
    })
    (record {
      taken = c.send-in-Pointer.ensures.taken;
      sent = c.send-in-Pointer.ensures.sent;
      refused = c.send-in-Pointer.ensures.refused;
    })
    c.send-in-Pointer.ensures.kept refl refl)

pub returns-in-Pointer-clause-stopped : goal.returns-in-Pointer-clause-stopped
returns-in-Pointer-clause-stopped c =
    subst (λ (event : Event). OnErr c.send-in-Pointer.result (AsksMemory c.args.self.now event))
    (sym c.in-Pointer.is)
    (asks (λ s prefix. call_refusal s) c.args.self.now.viewer c.pointer-called.result c.send-in-Pointer.result
    c.pointer-called.ensures.refusal c.pointer-called.ensures.failed c.send-in-Pointer.ensures.refused)

pub returns-in-CutText-clause-takes : goal.returns-in-CutText-clause-takes
returns-in-CutText-clause-takes c =
    let old = c.args.self.now in
    let new : Ends = record old { to_server = c.cut_text.new.to_server } in
    subst (λ (event : Event). IfOk c.cut_text.result (λ refused. TakesEvent old event refused new))
    (sym c.in-CutText.is)
    (text_sends (λ s prefix. call_refusal s) (text_message c.in-CutText.text.items) old new
    c.cut_text.result c.cut_text.ensures.told c.cut_text.ensures.failed c.cut_text.ensures.kept
    c.cut_text.ensures.sent refl refl)

pub returns-in-CutText-clause-stopped : goal.returns-in-CutText-clause-stopped
returns-in-CutText-clause-stopped c =
    subst (λ (event : Event). OnErr c.cut_text.result (AsksMemory c.args.self.now event))
    (sym c.in-CutText.is)
    (text_asks (λ s prefix. call_refusal s) c.args.self.now.viewer c.cut_text.result
    c.cut_text.ensures.failed c.cut_text.ensures.stopped)

pub returns-in_ok-compose-in-Compose-clause-takes : goal.returns-in_ok-compose-in-Compose-clause-takes
returns-in_ok-compose-in-Compose-clause-takes c =
    let old = c.args.self.now in
    let new : Ends = record old { server = c.compose.new.server; to_viewer = c.compose.new.to_viewer } in
    subst (λ (event : Event). TakesEvent old event None new) (sym c.in-Compose.is)
    (refl, c.in_ok-compose-in-Compose.ensures, refl)

pub returns-in_err-compose-in-Compose-clause-stopped : goal.returns-in_err-compose-in-Compose-clause-stopped
returns-in_err-compose-in-Compose-clause-stopped c =
    subst (λ (event : Event). OnErr c.from_residual.result (AsksMemory c.args.self.now event))
    (sym c.in-Compose.is) (always_err c.from_residual.result (Unit {0}) tt)
