-- What a relay does once the handshake of its server's viewer is done.
use Rattle.std.proofs.Common.{◌≡◌, ◌++◌, ◌∙◌, ◌⊎◌, ℕ}
use Rattle.std.proofs.Common.{List, true, false, Option, Some, None}
use Rattle.std.proofs.Common.{Result, Ok, Err, OnOk, sym, ap, subst}
use Rattle.std.proofs.Common.{append_assoc}
use Rattle.std.specs.Result.{is_err}
use Rattle.rfb_picture.specs.Rect.{rect}
use Rattle.rfb_picture.specs.declared.rect.Rect.{Rect}
use Rattle.rfb_wire.specs.ClientMessage.{FramebufferUpdateRequest, SpellsClientMessage}
use Rattle.rfb_viewer.specs.declared.viewer.Viewer.{Viewer}
use Rattle.rfb_viewer.specs.declared.fault.CallFault.{CallFault}
use Rattle.rfb_viewer.specs.Call.{append_refusal_of}
use Rattle.rfb_viewer.specs.Calls.{request_refusal, requested}
use Rattle.rfb_viewer.specs.Model.{StandsFor}
use Rattle.rfb_viewer.specs.Viewer.{Viewing, ViewerState}
use Rattle.rfb_viewer.specs.Messages.{request_message}
use Rattle.rfb_viewer.specs.declared.fault.AppendFault.{AppendFault}
use Rattle.rfb_session.specs.declared.console.Console.{Console}
use Rattle.rfb_session.specs.declared.console.Outcome.TheVariants.{NoMemory}
use Rattle.rfb_session.specs.declared.relay.Relay.{Relay}
use Rattle.rfb_session.specs.console.Console.{KeepsSide}
use Rattle.rfb_session.specs.LinkBytes.{IsCalled}
use Rattle.rfb_session.specs.relay.Calls.{Queues, Queued, NoRoom, TakesRequest}
use Rattle.rfb_session.specs.relay.Doors.{KeepsButName, KeepsButWaits, KeepsDeskBy}
use Rattle.rfb_session.specs.relay.Server.{BadSize, Begins, Begun}
use Rattle.rfb_session.specs.relay.Server.{NoRoomToAsk}

pub ok_of : {A E : Type 0} (r : Result A E) (P : Type 0) → is_err r ≡ false → OnOk r P → P
ok_of (Ok a) P none p = p
ok_of (Err e) P none p = absurd (true_not none)
  where
    true_not : true ≡ false → ⊥
    true_not e = cc e

-- a call that was made was not refused
taken_so : (r : Result (Unit {0}) AppendFault) (o : Option CallFault) → is_err r ≡ false →
    append_refusal_of r ≡ o → None ≡ o
taken_so (Ok made) o none is = is
taken_so (Err fault) o none is = absurd (no none)
  where
    no : true ≡ false → ⊥
    no e = cc e

-- it takes the request
pub takes_request : (now asked : Viewer) (area whole : Rect) (r : Result (Unit {0}) AppendFault) → area ≡ whole →
    is_err r ≡ false → ((viewing : Viewing) (s : ViewerState) (prefix : List ℕ) → StandsFor viewing now s prefix →
    append_refusal_of r ≡ request_refusal s area) →
    SpellsClientMessage (FramebufferUpdateRequest false area) (request_message false area) →
    IsCalled (λ s. requested s) now asked → TakesRequest false whole now asked
takes_request now asked area whole r same none refusal spelled called = record {
  taken = λ viewing s prefix stands.
      taken_so r _ none (refusal viewing s prefix stands ∙ ap (λ (a : Rect). request_refusal s a) same);
  spelled = subst (λ (a : Rect). SpellsClientMessage (FramebufferUpdateRequest false a) (request_message false a))
      same spelled;
  noted = called.stands;
}

module _ {S : Type 0} where
  named_desk : (old named new : Relay S) → KeepsButName old named → KeepsDeskBy named new → KeepsDeskBy old new
  named_desk old named new keeps by = record {
    desk = by.desk ∙ ap (λ (c : Console S). c.desk) keeps.console;
    goes_on = subst (λ (c : Console S). (new.console.outcome ≡ c.outcome)
        ⊎ (new.console.outcome ≡ Some NoMemory)) keeps.console by.goes_on;
    side = subst (λ (c : Console S). KeepsSide c new.console) keeps.console by.side;
  }

  pub begins_named : (old named : Relay S) (now : Viewer) (reply : List ℕ) (width height : ℕ) (new : Relay S) →
      KeepsButName old named → Begins named now reply width height new → Begins old now reply width height new
  begins_named old named now reply width height new keeps (Begun asked stands noted) =
      Begun asked (record {
        coming = stands.coming;
        waits = subst (λ (l : List ℕ). Queues l (reply ++ request_message false (rect 0 0 width height))
            new.to_server new.console.outcome) keeps.waits stands.waits;
        presence = stands.presence ∙ keeps.presence;
        keeps = named_desk old named new keeps stands.keeps;
      }) noted
  begins_named old named now reply width height new keeps (BadSize size mid queues presence by loses) =
      BadSize size mid (subst (λ (l : List ℕ). Queues l reply mid.to_server mid.console.outcome) keeps.waits queues)
      (presence ∙ keeps.presence) (named_desk old named mid keeps by) loses
  begins_named old named now reply width height new keeps (NoRoomToAsk ends) = NoRoomToAsk ends

  -- it answers, and asks for the whole screen after that
  pub begun_so : (old mid : Relay S) (now asked : Viewer) (reply : List ℕ) (width height : ℕ) (new : Relay S) →
      Queues old.to_server reply mid.to_server mid.console.outcome → KeepsDeskBy old mid → KeepsButWaits old mid →
      new.to_server ≡ mid.to_server ++ request_message false (rect 0 0 width height) → new.coming ≡ Some asked →
      new.presence ≡ mid.presence → new.console ≡ mid.console →
      TakesRequest false (rect 0 0 width height) now asked → Begins old now reply width height new
  begun_so old mid now asked reply width height new (NoRoom same ends) keeps waits sent coming gone console takes =
      NoRoomToAsk (ap (λ (c : Console S). c.outcome) console ∙ ends)
  begun_so old mid now asked reply width height new (Queued is) keeps waits sent coming gone console takes =
      Begun asked (record {
        coming = coming;
        waits = Queued (sent ∙ ap (λ (l : List ℕ). l ++ request_message false (rect 0 0 width height)) is
            ∙ append_assoc old.to_server reply (request_message false (rect 0 0 width height)));
        presence = gone ∙ waits.presence;
        keeps = subst (λ (c : Console S). (c.desk ≡ old.console.desk)
            × ((c.outcome ≡ old.console.outcome) ⊎ (c.outcome ≡ Some NoMemory)) × KeepsSide old.console c
            → KeepsDeskBy old new) (sym console)
            (λ one. record {
              desk = ap (λ (c : Console S). c.desk) console ∙ one.0;
              goes_on = subst (λ (c : Console S). (c.outcome ≡ old.console.outcome) ⊎
                  (c.outcome ≡ Some NoMemory))
                  (sym console) one.1;
              side = subst (λ (c : Console S). KeepsSide old.console c) (sym console) one.2;
            }) (rw console (keeps.desk, keeps.goes_on, keeps.side));
      }) takes
