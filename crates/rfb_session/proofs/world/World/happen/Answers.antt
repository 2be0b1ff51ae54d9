use Rattle.std.proofs.Common.{ℕ, List, Some, inl, inr, refl, sym, ap}
use Rattle.rfb_server.specs.Strokes.{Fill as OneFill, Put as OnePut, Copy as OneCopy, Hint as OneHint}
use Rattle.std.proofs.lemmas.Result.{IfOk-weaker}
use Rattle.rfb_server.specs.declared.session.Session.{Session}
use Rattle.rfb_server.specs.Hints.{hints_in}
use Rattle.rfb_session.proofs.CalledLemmas.{no_refusal}
use Rattle.rfb_session.proofs.DrawnLemmas.{same_hints}
use Rattle.rfb_session.proofs.EventCallLemmas.{request_event, format_event, encodings_event}
use Rattle.rfb_session.proofs.EventCallLemmas.{key_event, pointer_event, text_event}
use Rattle.rfb_session.proofs.HappeningLemmas.{drawing_happens, call_happens, call_is_sure, arrived_happens}
use Rattle.rfb_session.proofs.HappeningLemmas.{composed_happens, is_sure, nothing_over}
use Rattle.rfb_session.proofs.world.World.happen.Goals as goal

pub returns-in-Fill-clause-happens : goal.returns-in-Fill-clause-happens
returns-in-Fill-clause-happens c =
    let d = c.drawn.ensures in
    drawing_happens c.args.self.now _ _ _ c.drawn.result (OneFill c.in-Fill.rect c.in-Fill.colour) c.in-Fill.is d
    (λ e n m step. step) (λ e n refused. record { moved = d.moved; refused = refused; composed = d.composed })
    d.acts (d.moved, d.composed) tt (same_hints c.args.self.now _ c.drawn.result _ d refl)

pub returns-in-Put-clause-happens : goal.returns-in-Put-clause-happens
returns-in-Put-clause-happens c =
    let d = rw c.deref.ensures.value at c.drawn-in-Put.ensures in
    drawing_happens c.args.self.now _ _ _ c.drawn-in-Put.result
    (OnePut c.in-Put.x c.in-Put.y c.in-Put.row.items) c.in-Put.is d
    (λ e n m step. step) (λ e n refused. record { moved = d.moved; refused = refused; composed = d.composed })
    d.acts (d.moved, d.composed) tt (same_hints c.args.self.now _ c.drawn-in-Put.result _ d refl)

pub returns-in-Copy-clause-happens : goal.returns-in-Copy-clause-happens
returns-in-Copy-clause-happens c =
    let d = c.drawn-in-Copy.ensures in
    drawing_happens c.args.self.now _ _ _ c.drawn-in-Copy.result
    (OneCopy c.in-Copy.rect c.in-Copy.sx c.in-Copy.sy) c.in-Copy.is d
    (λ e n m step. step) (λ e n refused. record { moved = d.moved; refused = refused; composed = d.composed })
    d.acts (d.moved, d.composed) tt (same_hints c.args.self.now _ c.drawn-in-Copy.result _ d refl)

pub returns-in-Hint-clause-happens : goal.returns-in-Hint-clause-happens
returns-in-Hint-clause-happens c =
    let d = c.drawn-in-Hint.ensures in
    drawing_happens c.args.self.now _ _ _ c.drawn-in-Hint.result
    (OneHint c.in-Hint.rect c.in-Hint.sx c.in-Hint.sy) c.in-Hint.is d
    (λ e n m step. elim step [ inl made ↦ made.1 | inr refused ↦ refused.1 ])
    (λ e n refused. record { moved = d.moved; refused = refused; composed = d.composed })
    d.acts (d.moved, d.composed) tt d.hints

pub returns-in-Request-clause-happens : goal.returns-in-Request-clause-happens
returns-in-Request-clause-happens c =
    let call = c.call in
    call_happens c.args.self.now _ _ _ _ call.result c.in-Request.is (request_event _ _)
    call.ensures.does call.ensures.bytes call.ensures.tells
    (ap (λ (s : Session). hints_in s) call.ensures.session) refl refl

pub returns-in-Request-clause-sure : goal.returns-in-Request-clause-sure
returns-in-Request-clause-sure c =
    call_is_sure c.args.self.now _ _ _ c.call.result c.in-Request.is (request_event _ _)
    c.call.ensures.spared

pub returns-in-SetFormat-clause-happens : goal.returns-in-SetFormat-clause-happens
returns-in-SetFormat-clause-happens c =
    let call = c.call-in-SetFormat in
    call_happens c.args.self.now _ _ _ _ call.result c.in-SetFormat.is (format_event _)
    call.ensures.does call.ensures.bytes call.ensures.tells
    (ap (λ (s : Session). hints_in s) call.ensures.session) refl refl

pub returns-in-SetFormat-clause-sure : goal.returns-in-SetFormat-clause-sure
returns-in-SetFormat-clause-sure c =
    call_is_sure c.args.self.now _ _ _ c.call-in-SetFormat.result c.in-SetFormat.is (format_event _)
    c.call-in-SetFormat.ensures.spared

pub returns-in-SetEncodings-clause-happens : goal.returns-in-SetEncodings-clause-happens
returns-in-SetEncodings-clause-happens c =
    let call = c.call-in-SetEncodings in
    call_happens c.args.self.now _ _ _ _ call.result c.in-SetEncodings.is (encodings_event _)
    call.ensures.does call.ensures.bytes call.ensures.tells
    (ap (λ (s : Session). hints_in s) call.ensures.session) refl refl

pub returns-in-SetEncodings-clause-sure : goal.returns-in-SetEncodings-clause-sure
returns-in-SetEncodings-clause-sure c =
    call_is_sure c.args.self.now _ _ _ c.call-in-SetEncodings.result c.in-SetEncodings.is (encodings_event _)
    c.call-in-SetEncodings.ensures.spared

pub returns-in-Key-clause-happens : goal.returns-in-Key-clause-happens
returns-in-Key-clause-happens c =
    let call = c.call-in-Key in
    call_happens c.args.self.now _ _ _ _ call.result c.in-Key.is (key_event _ _)
    call.ensures.does call.ensures.bytes call.ensures.tells
    (ap (λ (s : Session). hints_in s) call.ensures.session) refl refl

pub returns-in-Key-clause-sure : goal.returns-in-Key-clause-sure
returns-in-Key-clause-sure c =
    call_is_sure c.args.self.now _ _ _ c.call-in-Key.result c.in-Key.is (key_event _ _)
    c.call-in-Key.ensures.spared

pub returns-in-Pointer-clause-happens : goal.returns-in-Pointer-clause-happens
returns-in-Pointer-clause-happens c =
    let call = c.call-in-Pointer in
    call_happens c.args.self.now _ _ _ _ call.result c.in-Pointer.is (pointer_event _ _ _)
    call.ensures.does call.ensures.bytes call.ensures.tells
    (ap (λ (s : Session). hints_in s) call.ensures.session) refl refl

pub returns-in-Pointer-clause-sure : goal.returns-in-Pointer-clause-sure
returns-in-Pointer-clause-sure c =
    call_is_sure c.args.self.now _ _ _ c.call-in-Pointer.result c.in-Pointer.is (pointer_event _ _ _)
    c.call-in-Pointer.ensures.spared

pub returns-in-CutText-clause-happens : goal.returns-in-CutText-clause-happens
returns-in-CutText-clause-happens c =
    let call = c.call-in-CutText in
    call_happens c.args.self.now _ _ _ _ call.result c.in-CutText.is (text_event _ _ (ap (λ (t : List ℕ). Some t)
    (sym c.deref-in-CutText.ensures.value)))
    call.ensures.does call.ensures.bytes call.ensures.tells
    (ap (λ (s : Session). hints_in s) call.ensures.session) refl refl

pub returns-in-CutText-clause-sure : goal.returns-in-CutText-clause-sure
returns-in-CutText-clause-sure c =
    call_is_sure c.args.self.now _ _ _ c.call-in-CutText.result c.in-CutText.is (text_event _ _ (ap (λ
    (t : List ℕ). Some t) (sym c.deref-in-CutText.ensures.value)))
    c.call-in-CutText.ensures.spared

pub returns-in-ToServer-clause-happens : goal.returns-in-ToServer-clause-happens
returns-in-ToServer-clause-happens c =
    arrived_happens c.args.self.now _ _ _ c.move_to_server.result c.in-ToServer.is
    c.move_to_server.ensures.arrives (λ told bytes. (refl, bytes)) (λ told. c.move_to_server.ensures.hints)
    refl refl

pub returns-in-ToServer-clause-sure : goal.returns-in-ToServer-clause-sure
returns-in-ToServer-clause-sure c =
    is_sure c.args.self.now _ _ c.move_to_server.result c.in-ToServer.is (λ drawing. absurd drawing)
    (λ refused. absurd (no_refusal refused.2 refused.5)) c.move_to_server.ensures.dropped (λ none. absurd none)

pub returns-in-ToViewer-clause-happens : goal.returns-in-ToViewer-clause-happens
returns-in-ToViewer-clause-happens c =
    arrived_happens c.args.self.now _ _ _ c.move_to_viewer.result c.in-ToViewer.is
    c.move_to_viewer.ensures.arrives (λ told bytes. (refl, bytes))
    (λ told. ap (λ (s : Session). hints_in s) c.move_to_viewer.ensures.session) refl refl

pub returns-in-ToViewer-clause-sure : goal.returns-in-ToViewer-clause-sure
returns-in-ToViewer-clause-sure c =
    is_sure c.args.self.now _ _ c.move_to_viewer.result c.in-ToViewer.is (λ drawing. absurd drawing)
    (λ refused. absurd (no_refusal refused.2 refused.5)) c.move_to_viewer.ensures.dropped (λ none. absurd none)

pub returns-in-Compose-clause-happens : goal.returns-in-Compose-clause-happens
returns-in-Compose-clause-happens c =
    composed_happens c.args.self.now _ _ c.compose.result c.in-Compose.is c.compose.ensures.does
    (IfOk-weaker c.compose.result _ _ (λ told bytes. (refl, bytes)) c.compose.ensures.bytes) c.compose.ensures.tells
    (IfOk-weaker c.compose.result _ _ (λ told spends. (spends.spent, spends.kept)) c.compose.ensures.hints)
    refl refl

pub returns-in-Compose-clause-sure : goal.returns-in-Compose-clause-sure
returns-in-Compose-clause-sure c =
    is_sure c.args.self.now _ _ c.compose.result c.in-Compose.is (λ drawing. absurd drawing)
    (λ refused. absurd (no_refusal refused.2 refused.5)) (λ lost. absurd lost)
    (λ none. c.compose.ensures.idle (nothing_over c.args.self.now none))
