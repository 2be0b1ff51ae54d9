-- What the calls of a relay's server's viewer send, where that is past its handshake.
use Rattle.std.proofs.Common.{◌≡◌, ◌<◌, ◌++◌, ◌∙◌, ℕ, Bool, true, false, List}
use Rattle.std.proofs.Common.{Option, Some, None}
use Rattle.std.proofs.Common.{Result, Ok, Err, refl, sym, ap, subst, append-nil}
use Rattle.rfb_wire.specs.stream.Sequel.{Second}
use Rattle.rfb_codec.specs.UpdateStream.{UpdatePoint}
use Rattle.rfb_viewer.specs.declared.call.Call.{Call}
use Rattle.rfb_viewer.specs.declared.fault.AppendFault.{AppendFault}
use Rattle.rfb_viewer.specs.declared.fault.AppendFault.TheVariants.{Refused as RefusedCall, NoMemory as NoRoomFor}
use Rattle.rfb_viewer.specs.declared.fault.CallFault.{CallFault}
use Rattle.rfb_viewer.specs.declared.viewer.Viewer.{Viewer}
use Rattle.rfb_viewer.specs.Call.{called, is_noted, message_bytes, refusal_for}
use Rattle.rfb_viewer.specs.Calls.{call_refused, requested}
use Rattle.rfb_viewer.specs.Messages.{request_message}
use Rattle.rfb_viewer.specs.ServerBytes.{ServerAt}
use Rattle.rfb_viewer.specs.Model.{StandsFor}
use Rattle.rfb_viewer.specs.Viewer.{Viewing, ViewerState}
use Rattle.rfb_session.specs.declared.console.Outcome.{Outcome}
use Rattle.rfb_session.specs.declared.console.Outcome.TheVariants.{NoMemory}
use Rattle.rfb_session.specs.declared.console.desk.Desk.{Desk}
use Rattle.rfb_session.specs.declared.share.Share.{Share}
use Rattle.rfb_session.specs.Mirrors.{MakesCall}
use Rattle.rfb_session.specs.Share.{seat_in, viewer_of}
use Rattle.rfb_session.specs.ShareWaiters.{SomeAsked}
use Rattle.rfb_session.specs.relay.Calls.{Asks, Passes, NoDesk, Made, ended_by}
use Rattle.rfb_session.specs.relay.Desk.{AsksFrom, NobodyWaits, SomeWait, CallsShare, NoViewer, Calls, ask_call}
use Rattle.rfb_session.specs.relay.Desk.{whole_of}
use Rattle.rfb_session.specs.relay.Sent.{bytes_in}
use Rattle.rfb_session.proofs.HopCallLemmas.{plain_refusal}
use Rattle.rfb_session.proofs.HopEndLemmas.{one_viewer}
use Rattle.rfb_session.proofs.ConsoleMoveLemmas.{none_some}
use Rattle.rfb_session.proofs.RelaySendLemmas.{busy_for, not_busy, screen_sized}

-- ---- a call

-- it is taken, and its message waits; or it is refused, and nothing has changed; or there is no memory for it
pub data CallMade (viewing : Viewing) (v : Viewer) (s : ViewerState) (prefix : List ℕ) (call : Call) (a b : Share)
    (result : Result (Unit {0}) AppendFault) (old new : List ℕ) : Type 0 where
  Taken : (w : Viewer) → viewer_of b ≡ Some w → StandsFor viewing w (called call s) prefix →
      (is_noted call ≡ false → w ≡ v) → refusal_for s prefix call ≡ None →
      ((k : ℕ) → seat_in b k ≡ seat_in a k) → new ≡ old ++ message_bytes call →
      CallMade viewing v s prefix call a b result old new
  Kept : (fault : CallFault) → refusal_for s prefix call ≡ Some fault → viewer_of b ≡ Some v → new ≡ old →
      CallMade viewing v s prefix call a b result old new
  NoRoom : result ≡ Err NoRoomFor → CallMade viewing v s prefix call a b result old new

pub call_made : (viewing : Viewing) (v : Viewer) (s : ViewerState) (prefix : List ℕ) (call : Call) (a b : Share)
    (result : Result (Unit {0}) AppendFault) (old new : List ℕ) → viewer_of a ≡ Some v →
    StandsFor viewing v s prefix → CallsShare a call old result new b →
    CallMade viewing v s prefix call a b result old new
call_made viewing v s prefix call a b result old new there stands (NoViewer none same kept is) =
    absurd (none_some (viewer_of a) v none there)
call_made viewing v s prefix call a b result old new there stands (Calls was is makes) =
    by result refl
    (subst (λ (x : Viewer). MakesCall x call old result new makes.now) (one_viewer (viewer_of a) was v is there)
    makes.makes)
  where
    by : (r : Result (Unit {0}) AppendFault) → result ≡ r → MakesCall v call old result new makes.now →
        CallMade viewing v s prefix call a b result old new
    by (Ok done) is m =
        let n : MakesCall v call old (Ok done) new makes.now =
        subst (λ (x : Result (Unit {0}) AppendFault). MakesCall v call old x new makes.now) is m in
        Taken makes.now makes.is_there (n.stands viewing s prefix stands) n.unnoted
        (sym (n.refusal viewing s prefix stands)) makes.seats n.sent
    by (Err (RefusedCall fault)) is m =
        let n : MakesCall v call old (Err (RefusedCall fault)) new makes.now =
        subst (λ (x : Result (Unit {0}) AppendFault). MakesCall v call old x new makes.now) is m in
        Kept fault (sym (n.refusal viewing s prefix stands))
        (makes.is_there ∙ ap (λ (x : Viewer). Some x) n.refused) n.kept
    by (Err NoRoomFor) is m = NoRoom is

-- where there is no memory all ends
ends_not : (result : Result (Unit {0}) AppendFault) (before ends : Option Outcome) → result ≡ Err NoRoomFor →
    ends ≡ ended_by result before → ends ≡ None → ⊥
ends_not result before ends is by goes =
    none_some ends NoMemory goes (by ∙ ap (λ (r : Result (Unit {0}) AppendFault). ended_by r before) is)

-- ---- requests

-- the server was not asked, and nobody waits or a request is outstanding; or once, where some viewer waits and no
-- request was outstanding
pub data AskedSo (viewing : Viewing) (v : Viewer) (s : ViewerState) (prefix : List ℕ) (a : Desk) (b : Option Desk)
    (old new : List ℕ) : Type 0 where
  Unasked : (d : Desk) → b ≡ Some d → viewer_of d.share ≡ Some v → new ≡ old →
      (SomeAsked d.share → s.outstanding ≡ true) → AskedSo viewing v s prefix a b old new
  Once : SomeAsked a.share → s.outstanding ≡ false → (d : Desk) → b ≡ Some d → (w : Viewer) →
      viewer_of d.share ≡ Some w → StandsFor viewing w (requested s) prefix →
      ((k : ℕ) → seat_in d.share k ≡ seat_in a.share k) →
      new ≡ old ++ request_message true (whole_of a.share) → AskedSo viewing v s prefix a b old new

asked_from : (viewing : Viewing) (v : Viewer) (s : ViewerState) (prefix : List ℕ) (p : UpdatePoint) (a d : Desk)
    (b : Option Desk) (asked : Result (Unit {0}) AppendFault) (old new : List ℕ) (ends : Option Outcome) →
    viewer_of a.share ≡ Some v → StandsFor viewing v s prefix → s.point ≡ Second p → 0 < p.width → 0 < p.height →
    b ≡ Some d → ends ≡ ended_by asked None → ends ≡ None → AsksFrom a asked old new d →
    AskedSo viewing v s prefix a b old new
asked_from viewing v s prefix p a d b asked old new ends there stands at columns rows is by_it goes
    (NobodyWaits none ok kept same) =
    Unasked d is (ap (λ (x : Desk). viewer_of x.share) same ∙ there) kept
    (λ wait. absurd (none (subst (λ (x : Desk). SomeAsked x.share) same wait)))
asked_from viewing v s prefix p a d b asked old new ends there stands at columns rows is by_it goes
    (SomeWait some calls) =
    by (call_made viewing v s prefix (ask_call a.share) a.share d.share asked old new there stands calls.share)
  where
    by : CallMade viewing v s prefix (ask_call a.share) a.share d.share asked old new →
        AskedSo viewing v s prefix a b old new
    by (Taken w now stood unnoted taken seats sent) =
        Once some (not_busy s.point p s.outstanding (whole_of a.share) at taken) d is w now stood seats sent
    by (Kept fault refused same kept) =
        let size = screen_sized viewing a.share v s prefix p there stands at in
        Unasked d is same kept
        (λ wait. busy_for s.point p s.outstanding _ _ fault at size.0 size.1 columns rows refused)
    by (NoRoom ran) = absurd (ends_not asked None ends ran by_it goes)

pub asked_so : (viewing : Viewing) (v : Viewer) (s : ViewerState) (prefix : List ℕ) (p : UpdatePoint) (shown : Bool)
    (ended : Option Outcome) (x b : Option Desk) (a : Desk) (old new : List ℕ) (ends : Option Outcome) →
    viewer_of a.share ≡ Some v → StandsFor viewing v s prefix → s.point ≡ Second p → 0 < p.width → 0 < p.height →
    shown ≡ true → ended ≡ None → x ≡ Some a → ends ≡ None → Asks shown ended x b old new ends →
    AskedSo viewing v s prefix a b old new
asked_so viewing v s prefix p shown ended x b a old new ends there stands at columns rows up on is goes asks =
    let one : Asks true None (Some a) b old new ends =
    subst (λ (o : Option Desk). Asks true None o b old new ends) is
    (subst (λ (o : Option Outcome). Asks true o x b old new ends) on
    (subst (λ (t : Bool). Asks t ended x b old new ends) up asks)) in
    asked_from viewing v s prefix p a one.0 b one.1 old new ends there stands at columns rows one.2 one.4 goes one.3

-- where the picture is not shown nothing is asked
pub asks_none : (shown : Bool) (ended : Option Outcome) (x b : Option Desk) (old new : List ℕ)
    (ends : Option Outcome) → shown ≡ false → Asks shown ended x b old new ends → (new ≡ old) × (ends ≡ ended)
asks_none shown ended x b old new ends off asks =
    let one = subst (λ (t : Bool). Asks t ended x b old new ends) off asks in (one.1, one.2)

-- ---- what viewers do

-- where all goes on after it, all went on before it
pub passes_on : (message : Option (List ℕ)) (x b : Option Desk) (old new : List ℕ) (before ends : Option Outcome) →
    Passes message x b old new before ends → ends ≡ None → before ≡ None
passes_on None x b old new before ends passes goes = sym passes.2 ∙ goes
passes_on (Some message) x b old new before ends (NoDesk none is kept same) goes = sym same ∙ goes
passes_on (Some message) x b old new before ends (Made call is plain d e result was now calls by_it) goes =
    by result refl
  where
    by : (r : Result (Unit {0}) AppendFault) → result ≡ r → before ≡ None
    by (Ok done) same = sym (by_it ∙ ap (λ (q : Result (Unit {0}) AppendFault). ended_by q before) same) ∙ goes
    by (Err (RefusedCall fault)) same =
        sym (by_it ∙ ap (λ (q : Result (Unit {0}) AppendFault). ended_by q before) same) ∙ goes
    by (Err NoRoomFor) same = absurd (ends_not result before ends same by_it goes)

plain_taken : (s : ViewerState) (prefix : List ℕ) (p : UpdatePoint) (call : Call) (fault : CallFault) →
    s.point ≡ Second p → is_noted call ≡ false → refusal_for s prefix call ≡ Some fault → ⊥
plain_taken s prefix p call fault at plain refused =
    none_some (call_refused s.point) fault (ap (λ (x : ServerAt). call_refused x) at)
    (sym (plain_refusal s prefix call plain) ∙ refused)

-- the message waits, and the viewer is as it was
pub passed_so : (viewing : Viewing) (v : Viewer) (s : ViewerState) (prefix : List ℕ) (p : UpdatePoint)
    (message : Option (List ℕ)) (x b : Option Desk) (a : Desk) (old new : List ℕ) (before ends : Option Outcome) →
    viewer_of a.share ≡ Some v → StandsFor viewing v s prefix → s.point ≡ Second p → x ≡ Some a → ends ≡ None →
    Passes message x b old new before ends →
    (d : Desk) × (b ≡ Some d) × (viewer_of d.share ≡ Some v) × (new ≡ old ++ bytes_in message)
passed_so viewing v s prefix p None x b a old new before ends there stands at is goes passes =
    (a, passes.0 ∙ is, there, passes.1 ∙ sym (append-nil old))
passed_so viewing v s prefix p (Some message) x b a old new before ends there stands at is goes
    (NoDesk none off kept same) = absurd (none_some x a none is)
passed_so viewing v s prefix p (Some message) x b a old new before ends there stands at is goes
    (Made call bytes plain d e result was now calls by_it) =
    by (call_made viewing v s prefix call d.share e.share result old new
    (ap (λ (y : Desk). viewer_of y.share) same ∙ there) stands calls.share)
  where
    same : d ≡ a
    same = let one = was in let two = is in cc

    by : CallMade viewing v s prefix call d.share e.share result old new →
        (d : Desk) × (b ≡ Some d) × (viewer_of d.share ≡ Some v) × (new ≡ old ++ message)
    by (Taken w is_there stood unnoted taken seats sent) =
        (e, now, is_there ∙ ap (λ (y : Viewer). Some y) (unnoted plain), sent ∙ ap (λ (l : List ℕ). old ++ l) bytes)
    by (Kept fault refused kept unsent) = absurd (plain_taken s prefix p call fault at plain refused)
    by (NoRoom ran) = absurd (ends_not result before ends ran by_it goes)
