use Rattle.std.proofs.Common.{ℕ, List, Some, sym, ap}
use Rattle.rfb_server.specs.declared.session.Session.{Session}
use Rattle.rfb_server.specs.Hints.{hints_in}
use Rattle.rfb_session.proofs.EventCallLemmas.{request_event, format_event, encodings_event}
use Rattle.rfb_session.proofs.EventCallLemmas.{key_event, pointer_event, text_event}
use Rattle.rfb_session.proofs.HubSeatLemmas.{over, seat_called, seat_happens, delivered_happens, not_sole, not_refused}
use Rattle.rfb_session.proofs.hub.seat.HubSeat.happen.Goals as goal

pub returns-in_ok-call-in-Request-clause-does : goal.returns-in_ok-call-in-Request-clause-does
returns-in_ok-call-in-Request-clause-does c =
    let ok = c.in_ok-call-in-Request in
    seat_called c.args.screen.now c.args.self.now _ _ _ ok.field-0 c.alone.result _
    c.in-Request.is (request_event _ _) c.alone.ensures.told c.alone.ensures.sole ok.ensures.bytes
    ok.ensures.does ok.ensures.tells (ap (λ (s : Session). hints_in s) ok.ensures.session)
    ok.ensures.kept

pub returns-in_ok-call-in-SetFormat-clause-does : goal.returns-in_ok-call-in-SetFormat-clause-does
returns-in_ok-call-in-SetFormat-clause-does c =
    let ok = c.in_ok-call-in-SetFormat in
    seat_called c.args.screen.now c.args.self.now _ _ _ ok.field-0 c.alone-in-SetFormat.result _
    c.in-SetFormat.is (format_event _) c.alone-in-SetFormat.ensures.told c.alone-in-SetFormat.ensures.sole
    ok.ensures.bytes
    ok.ensures.does ok.ensures.tells (ap (λ (s : Session). hints_in s) ok.ensures.session)
    ok.ensures.kept

pub returns-in_ok-call-in-SetEncodings-clause-does : goal.returns-in_ok-call-in-SetEncodings-clause-does
returns-in_ok-call-in-SetEncodings-clause-does c =
    let ok = c.in_ok-call-in-SetEncodings in
    seat_called c.args.screen.now c.args.self.now _ _ _ ok.field-0 c.alone-in-SetEncodings.result _
    c.in-SetEncodings.is (encodings_event _) c.alone-in-SetEncodings.ensures.told
    c.alone-in-SetEncodings.ensures.sole ok.ensures.bytes
    ok.ensures.does ok.ensures.tells (ap (λ (s : Session). hints_in s) ok.ensures.session)
    ok.ensures.kept

pub returns-in_ok-call-in-Key-clause-does : goal.returns-in_ok-call-in-Key-clause-does
returns-in_ok-call-in-Key-clause-does c =
    let ok = c.in_ok-call-in-Key in
    seat_called c.args.screen.now c.args.self.now _ _ _ ok.field-0 c.alone-in-Key.result _
    c.in-Key.is (key_event _ _) c.alone-in-Key.ensures.told c.alone-in-Key.ensures.sole ok.ensures.bytes
    ok.ensures.does ok.ensures.tells (ap (λ (s : Session). hints_in s) ok.ensures.session)
    ok.ensures.kept

pub returns-in_ok-call-in-Pointer-clause-does : goal.returns-in_ok-call-in-Pointer-clause-does
returns-in_ok-call-in-Pointer-clause-does c =
    let ok = c.in_ok-call-in-Pointer in
    seat_called c.args.screen.now c.args.self.now _ _ _ ok.field-0 c.alone-in-Pointer.result _
    c.in-Pointer.is (pointer_event _ _ _) c.alone-in-Pointer.ensures.told c.alone-in-Pointer.ensures.sole
    ok.ensures.bytes
    ok.ensures.does ok.ensures.tells (ap (λ (s : Session). hints_in s) ok.ensures.session)
    ok.ensures.kept

pub returns-in_ok-call-in-CutText-clause-does : goal.returns-in_ok-call-in-CutText-clause-does
returns-in_ok-call-in-CutText-clause-does c =
    let ok = c.in_ok-call-in-CutText in
    seat_called c.args.screen.now c.args.self.now _ _ _ ok.field-0 c.alone-in-CutText.result _
    c.in-CutText.is (text_event _ _ (ap (λ (t : List ℕ). Some t)
    (sym c.deref.ensures.value))) c.alone-in-CutText.ensures.told c.alone-in-CutText.ensures.sole ok.ensures.bytes
    ok.ensures.does ok.ensures.tells (ap (λ (s : Session). hints_in s) ok.ensures.session)
    ok.ensures.kept

pub returns-in_ok-compose-in-Compose-clause-does : goal.returns-in_ok-compose-in-Compose-clause-does
returns-in_ok-compose-in-Compose-clause-does c =
    let ok = c.in_ok-compose-in-Compose in
    seat_happens c.args.screen.now c.args.self.now _ _ ok.field-0 c.alone-in-Compose.result _ c.in-Compose.is
    c.alone-in-Compose.ensures.told ok.ensures.bytes ok.ensures.tells ok.ensures.does tt
    (ok.ensures.hints.spent, ok.ensures.hints.kept) c.alone-in-Compose.ensures.sole
    (not_sole c.alone-in-Compose.result ok.field-0 c.alone-in-Compose.ensures.sole)
    (not_refused ok.field-0 _ _ ok.ensures.taken)

pub returns-in_ok-move_to_viewer-in-ToViewer-clause-does : goal.returns-in_ok-move_to_viewer-in-ToViewer-clause-does
returns-in_ok-move_to_viewer-in-ToViewer-clause-does c =
    let ok = c.in_ok-move_to_viewer-in-ToViewer in
    seat_happens c.args.screen.now c.args.self.now _ _ ok.field-0 c.alone-in-ToViewer.result _ c.in-ToViewer.is
    c.alone-in-ToViewer.ensures.told ok.ensures.arrives.bytes ok.ensures.arrives.tells
    (over _ _ _ _ _ ok.ensures.arrives.does) ok.ensures.arrives.lost
    (ap (λ (s : Session). hints_in s) ok.ensures.session) c.alone-in-ToViewer.ensures.sole
    (not_sole c.alone-in-ToViewer.result ok.field-0 c.alone-in-ToViewer.ensures.sole)
    (not_refused ok.field-0 _ _ ok.ensures.arrives.taken)

pub returns-in-ToServer-clause-does : goal.returns-in-ToServer-clause-does
returns-in-ToServer-clause-does c =
    let to = c.deliver_to_session in
    delivered_happens c.args.screen.now c.args.self.now _ _ to.result _ c.in-ToServer.is
    to.ensures.arrives (λ d. to.ensures.hints) to.ensures.sole
