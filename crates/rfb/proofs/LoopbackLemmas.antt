-- A script over a connection, from its parts.
use Rattle.std.proofs.Common.{◌≡◌, ◌≢◌, ap, refl, subst, ℕ, [], ◌++◌, List, take, Option, Some, None, IfSome, OnOk}
use Rattle.std.proofs.Common.{OnErr, Result, Ok, Err, ◌⊎◌, inl, inr}
use Rattle.std.specs.Io.KnownBytes.{Appends}
use Rattle.std.proofs.KnownBytes.{Appends-nil}
use Rattle.rfb_wire.specs.stream.End.{FedBy, RefusedBy, RunsOutBy}
use Rattle.rfb_viewer.specs.declared.event.ViewerEvent.{ViewerEvent}
use Rattle.rfb_viewer.specs.declared.fault.ViewerFault.{ViewerFault}
use Rattle.rfb_viewer.specs.declared.fault.ViewerFault.TheVariants.{NoMemory}
use Rattle.rfb_viewer.specs.declared.viewer.Viewer.{Viewer}
use Rattle.rfb_viewer.specs.Failed.{KeepsPicture, KeepsReason}
use Rattle.rfb_viewer.specs.Model.{StandsFor, fault_of}
use Rattle.rfb_viewer.specs.Told.{seen}
use Rattle.rfb_viewer.specs.Viewer.{AsksMemory, Viewing, viewer}
use Rattle.rfb_session.specs.InFlight.{viewer_reply}
use Rattle.rfb_session.specs.ViewerActs.{ends_told, viewer_driven}
use Rattle.rfb_session.proofs.EngineRunLaws.{ran_fed, ran_none}
use Rattle.rfb.specs.declared.fault.Fault.{Fault}
use Rattle.rfb.specs.declared.script.line.Numbered.{Numbered}
use Rattle.rfb_session.specs.declared.language.screen.Screen.{Screen}
use Rattle.rfb.specs.declared.script.line.Wants.{Wants}
use Rattle.rfb.specs.Delivery.{IsFed, IsFedUntil}
use Rattle.rfb.specs.Loopback.{LeavesSomePicture, WritesSomePicture}
use Rattle.rfb.specs.Recording.{BeginsPicture, WritesPicture}
use Rattle.rfb.specs.Script.{AreScript, AreSomeScript, lines_of}

pub some_picture : (viewer : Viewer) (before after : Option (List ℕ)) (r : Result (Unit {0}) Fault) →
    OnOk r (WritesPicture viewer before after) → OnOk r (WritesSomePicture before after)
some_picture viewer before after (Ok done) wrote = (viewer, wrote)
some_picture viewer before after (Err fault) wrote = tt

pub leaves_some_picture : {W : Type 0} (contents : W → Option (List ℕ)) (viewer : Viewer) (old new : W)
    (r : Result (Unit {0}) Fault) →
    OnErr r ((new ≡ old) ⊎ BeginsPicture viewer (contents old) (contents new)) →
    OnErr r (LeavesSomePicture (contents old) (contents new))
leaves_some_picture contents viewer old new (Ok done) left = tt
leaves_some_picture contents viewer old new (Err fault) (inl same) = inl (ap contents same)
leaves_some_picture contents viewer old new (Err fault) (inr begun) = inr (viewer, begun)

-- what was read after nothing is what there was to read
pub some_script : (read : Option (List ℕ)) (empty all : List ℕ) (size : Screen) (wants : Option Wants)
    (steps : List Numbered) → empty ≡ [] → IfSome read (λ text. all ≡ empty ++ text) →
    AreScript (lines_of all) size wants steps → IfSome read (λ text. AreSomeScript (lines_of text))
some_script None empty all size wants steps e is said = tt
some_script (Some text) empty all size wants steps e is said =
    let same : all ≡ text = rw e at is in
    (size, wants, steps, rw (← same) said)

-- ---- bytes that a viewer is fed

-- one call, which took some bytes
pub call_fed : (old new : Viewer) (bytes : List ℕ) (used : ℕ) (event : Option ViewerEvent)
    (before after : Option (List ℕ)) (answer : List ℕ) →
    ((viewing : Viewing) → FedBy (viewer viewing) (StandsFor viewing) old (take used bytes) (seen event) new) →
    answer ≡ viewer_reply (seen event) → Appends before after answer →
    IsFed old (take used bytes) before after new
call_fed old new bytes used event before after answer fed is wrote = record {
  sent = viewer_reply (seen event);
  updates = ends_told (seen event);
  runs = ran_fed viewer_driven old new (take used bytes) (seen event) fed;
  wrote = subst (λ (l : List ℕ). Appends before after l) is wrote;
}

-- and one at which it ended
pub call_fed_until : (old new : Viewer) (bytes : List ℕ) (before : Option (List ℕ)) (fault : ViewerFault) →
    fault_of new ≡ Some fault →
    (fault ≢ NoMemory → (viewing : Viewing) → RefusedBy (viewer viewing) (StandsFor viewing) old bytes fault) →
    (fault ≡ NoMemory → (viewing : Viewing) →
    RunsOutBy (viewer viewing) (AsksMemory viewing) (StandsFor viewing) old bytes) →
    (fault_of old ≡ None → KeepsPicture fault old bytes new) →
    (fault_of old ≡ None → KeepsReason fault old bytes new) → IsFedUntil old bytes before before fault new
call_fed_until old new bytes before fault fails refused starved picture reason = record {
  fed = [];
  slice = bytes;
  sent = [];
  updates = 0;
  last = old;
  bytes_are = refl;
  runs = ran_none viewer_driven old;
  wrote = Appends-nil before;
  ends = record { fails = fails; refused = refused; starved = starved; picture = picture; reason = reason };
}
