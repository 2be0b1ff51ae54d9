-- What the command that plays a script has read and written, of either kind.
use Rattle.std.proofs.Common.{◌≡◌, ◌⊎◌, Bool, true, false, sym, ◌∙◌, inl, inr, IfSome}
use Rattle.std.proofs.Common.{Option, Some, None, List, ℕ, []}
use Rattle.std.proofs.Common.{◌++◌}
use Rattle.rfb_pixel.specs.declared.colour.Colour.{Colour}
use Rattle.rfb_picture.specs.Grid.{Grid}
use Rattle.rfb_session.specs.declared.hub.Hub.{Hub}
use Rattle.rfb_session.specs.Devices.{AppendsBeginning}
use Rattle.rfb_session.specs.Hub.{shown_in}
use Rattle.rfb_session.specs.HubSteps.{HubPlayed}
use Rattle.std.specs.Io.KnownBytes.{Appends}
use Rattle.rfb.specs.declared.fault.Failure.{Failure}
use Rattle.rfb.specs.declared.fault.Failure.TheVariants.{BadLine, Undone, Fault, Engine, Picture}
use Rattle.rfb.specs.declared.script.hub.hub_step.HubNumbered.{HubNumbered}
use Rattle.rfb_session.specs.declared.language.screen.Screen.{Screen as Size}
use Rattle.rfb.specs.Plays.{FailsAt, FailsAtAny, FailsIn, HubPlayedTo, LeavesScript, PlaysAny, PlaysScript}
use Rattle.rfb.specs.HubRun.{hub_events}
use Rattle.rfb.specs.HubScript.{AreHubScript, BeginHub, IsFirstBadInHub, IsWithoutShow}
use Rattle.rfb.specs.HubScript.{StopsReadingAny, StopsReadingHub}
use Rattle.rfb.specs.Script.{IsFirstBad, IsWithoutScreen, StopsAt, StopsReading, lines_of}

-- where reading stops at bad lines alone, and at faults, what was read after nothing is what there was to read
fails_in : (Stops : List (List ℕ) → Failure → Type 0) →
    ((lines : List (List ℕ)) (failure : Failure) → Stops lines failure → (Bad : ℕ → Type 0) × StopsAt Bad failure) →
    (read : Option (List ℕ)) (empty all : List ℕ) (failure : Failure) → empty ≡ [] →
    IfSome read (λ text. all ≡ empty ++ text) → Stops (lines_of all) failure → FailsIn Stops read failure
fails_in Stops bad None empty all (BadLine n) e is stops = tt
fails_in Stops bad (Some text) empty all (BadLine n) e is stops =
    let same : all ≡ text = rw e at is in rw (← same) stops
fails_in Stops bad read empty all (Fault fault) e is stops = tt
fails_in Stops bad read empty all (Undone n why) e is stops = absurd (bad (lines_of all) (Undone n why) stops).1
fails_in Stops bad read empty all (Engine fault) e is stops = absurd (bad (lines_of all) (Engine fault) stops).1
fails_in Stops bad read empty all (Picture flaw) e is stops = absurd (bad (lines_of all) (Picture flaw) stops).1

pub fails_any : (read : Option (List ℕ)) (empty all : List ℕ) (failure : Failure) → empty ≡ [] →
    IfSome read (λ text. all ≡ empty ++ text) → StopsReadingAny (lines_of all) failure → FailsAtAny read failure
fails_any read empty all failure e is stops = fails_in StopsReadingAny bad read empty all failure e is stops
  where
    bad : (lines : List (List ℕ)) (failure : Failure) → StopsReadingAny lines failure →
        (Bad : ℕ → Type 0) × StopsAt Bad failure
    bad lines failure (inl stops) = ((λ n. IsFirstBadInHub lines n ⊎ IsWithoutShow lines n), stops.1)
    bad lines failure (inr stops) = ((λ n. IsFirstBad lines n ⊎ IsWithoutScreen lines n), stops.1)

-- the same of a script that is no hub's
pub fails_plain : (read : Option (List ℕ)) (empty all : List ℕ) (failure : Failure) → empty ≡ [] →
    IfSome read (λ text. all ≡ empty ++ text) → StopsReading (lines_of all) failure → FailsAt read failure
fails_plain read empty all failure e is stops =
    fails_in StopsReading (λ lines failure stops. ((λ n. IsFirstBad lines n ⊎ IsWithoutScreen lines n), stops)) read
    empty all failure e is stops

pub stops_hub : (lines : List (List ℕ)) (failure : Failure) (b : Bool) → (b ≡ true → BeginHub lines)
    × (BeginHub lines → b ≡ true) → b ≡ true → StopsReadingHub lines failure → StopsReadingAny lines failure
stops_hub lines failure b kind is stops = inl (kind.0 is, stops)

pub stops_plain : (lines : List (List ℕ)) (failure : Failure) (b : Bool) → (b ≡ true → BeginHub lines)
    × (BeginHub lines → b ≡ true) → b ≡ false → StopsReading lines failure → StopsReadingAny lines failure
stops_plain lines failure b kind is stops = inr (λ begins. let e : true ≡ false = sym (kind.1 begins) ∙ is in cc, stops)

hub_played : (read : Option (List ℕ)) (empty all : List ℕ) (size : Size) (steps : List HubNumbered) (shown : ℕ)
    (hub : Hub) (picture : Grid Colour) →
    empty ≡ [] → IfSome read (λ text. all ≡ empty ++ text) → AreHubScript (lines_of all) size steps shown →
    HubPlayed size.width size.height (hub_events steps) hub → shown_in hub shown ≡ Some picture →
    IfSome read (λ text. PlaysAny text picture)
hub_played None empty all size steps shown hub picture e is said played seen = tt
hub_played (Some text) empty all size steps shown hub picture e is said played seen =
    let same : all ≡ text = rw e at is in
    inr (record {
      size = size;
      steps = steps;
      shown = shown;
      is_script = rw (← same) said;
      hub = hub;
      is_played = played;
      is_shown = seen;
    })

pub hub_plays : (read before after : Option (List ℕ)) (empty all : List ℕ) (size : Size)
    (steps : List HubNumbered) (shown : ℕ) →
    empty ≡ [] → IfSome read (λ text. all ≡ empty ++ text) → AreHubScript (lines_of all) size steps shown →
    HubPlayedTo (Appends before after) size steps shown → PlaysScript read before after
hub_plays read before after empty all size steps shown none is said played = record {
  picture = played.2.0;
  played = hub_played read empty all size steps shown played.0 played.2.0 none is said played.1 played.2.1;
  written = played.2.2;
}

pub hub_left : (read before after : Option (List ℕ)) (empty all : List ℕ) (size : Size)
    (steps : List HubNumbered) (shown : ℕ) →
    empty ≡ [] → IfSome read (λ text. all ≡ empty ++ text) → AreHubScript (lines_of all) size steps shown →
    (after ≡ before) ⊎ HubPlayedTo (AppendsBeginning before after) size steps shown → LeavesScript read before after
hub_left read before after empty all size steps shown none is said (inl same) = inl same
hub_left read before after empty all size steps shown none is said (inr played) = inr (record {
  picture = played.2.0;
  played = hub_played read empty all size steps shown played.0 played.2.0 none is said played.1 played.2.1;
  written = played.2.2;
})
