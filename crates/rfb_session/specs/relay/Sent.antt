-- What a relay sends its server, and in which order.
use Rattle.std.specs.Prelude.{◌≡◌, ◌<◌, ℕ, Bool, true, false, List, [], ◌∷◌, ◌++◌}
use Rattle.std.specs.Prelude.{Option, Some, None}
use Rattle.rfb_picture.specs.Rect.{rect}
use Rattle.rfb_wire.specs.stream.Sequel.{First, Second}
use Rattle.rfb_codec.specs.UpdateStream.{UpdatePoint}
use Rattle.rfb_viewer.specs.declared.event.ViewerEvent.{ViewerEvent}
use Rattle.rfb_viewer.specs.declared.event.ViewerEvent.TheVariants as Said
use Rattle.rfb_viewer.specs.declared.viewer.Viewer.{Viewer}
use Rattle.rfb_viewer.specs.Messages.{request_message}
use Rattle.rfb_viewer.specs.ServerBytes.{ServerAt}
use Rattle.rfb_viewer.specs.Model.{StandsFor}
use Rattle.rfb_viewer.specs.Viewer.{Viewing, ViewerState}
use Rattle.rfb_session.specs.declared.share.event.SeatEvent.{SeatEvent}
use Rattle.rfb_session.specs.declared.share.event.SeatEvent.TheVariants.{Ready, Key, Pointer, CutText}
use Rattle.rfb_session.specs.relay.Calls.{passed}

-- ---- what is sent

-- an answer of the handshake; a request for the whole screen of this size, RFC 6143 section 7.5.3, or for what has
-- changed of it; what the viewer of a seat did, sections 7.5.4 to 7.5.6. And beside these, where an update of the
-- server's is whole, for which nothing is sent
pub data Sent : Type 0 where
  Answer : (bytes : List ℕ) → Sent
  Ask : (incremental : Bool) → (width height : ℕ) → Sent
  Pass : (seat : ℕ) → (event : SeatEvent) → Sent
  Updated : Sent

-- the bytes of a message, if there is one
abbrev pub bytes_in : Option (List ℕ) → List ℕ
bytes_in None = []
bytes_in (Some message) = message

abbrev pub bytes_of : Sent → List ℕ
bytes_of (Answer bytes) = bytes
bytes_of (Ask incremental width height) = request_message incremental (rect 0 0 width height)
bytes_of (Pass seat event) = bytes_in (passed false (Some event))
bytes_of Updated = []

-- those of all, one after the other
abbrev pub all_bytes : List Sent → List ℕ
all_bytes [] = []
all_bytes (one ∷ more) = bytes_of one ++ all_bytes more

-- what was sent by several things
abbrev pub all_sent : List (List Sent) → List Sent
all_sent [] = []
all_sent (sent ∷ more) = sent ++ all_sent more

-- to what a server's viewer reports before its picture is shown: its answer, and after the last of these a request
-- for the whole screen
abbrev pub answers_to : Option ViewerEvent → List Sent
answers_to None = []
answers_to (Some (Said.Reply reply)) = Answer reply.items ∷ []
answers_to (Some (Said.Ready reply width height name name_length)) =
    Answer reply.items ∷ Ask false width height ∷ []
answers_to (Some Said.UpdateDone) = Updated ∷ []
answers_to (Some Said.Bell) = []
answers_to (Some (Said.CutText kept text_length)) = []
answers_to (Some Said.ColourMapSkipped) = []

-- once its picture is shown nothing is answered, and an update that is whole is marked as before
abbrev pub updates_in : Option ViewerEvent → List Sent
updates_in None = []
updates_in (Some (Said.Reply reply)) = []
updates_in (Some (Said.Ready reply width height name name_length)) = []
updates_in (Some Said.UpdateDone) = Updated ∷ []
updates_in (Some Said.Bell) = []
updates_in (Some (Said.CutText kept text_length)) = []
updates_in (Some Said.ColourMapSkipped) = []

-- of what the viewer of a seat did: a key, a pointer or a text, unless viewers are muted
abbrev pub passes_of : Bool → ℕ → Option SeatEvent → List Sent
passes_of muted k None = []
passes_of muted k (Some (Ready shared)) = []
passes_of true k (Some (Key down key)) = []
passes_of false k (Some (Key down key)) = Pass k (Key down key) ∷ []
passes_of true k (Some (Pointer buttons x y)) = []
passes_of false k (Some (Pointer buttons x y)) = Pass k (Pointer buttons x y) ∷ []
passes_of true k (Some (CutText kept text_length)) = []
passes_of false k (Some (CutText kept text_length)) = Pass k (CutText kept text_length) ∷ []

-- ---- in which order

-- answers alone
abbrev pub AreAnswers : List Sent → Type 0
AreAnswers [] = Unit {0}
AreAnswers (Answer bytes ∷ more) = AreAnswers more
AreAnswers (Ask incremental width height ∷ more) = ⊥
AreAnswers (Pass seat event ∷ more) = ⊥
AreAnswers (Updated ∷ more) = ⊥

-- whether a request is outstanding after these, where one was before them or none: a whole update answers it
abbrev pub out_after : Bool → List Sent → Bool
out_after out [] = out
out_after out (Answer bytes ∷ more) = out_after out more
out_after out (Ask incremental width height ∷ more) = out_after true more
out_after out (Pass seat event ∷ more) = out_after out more
out_after out (Updated ∷ more) = out_after false more

-- requests for what has changed of a screen, each where none is outstanding, and what viewers did, unless they only
-- view
abbrev pub AreDoings : Bool → UpdatePoint → Bool → List Sent → Type 0
AreDoings view_only p out [] = Unit {0}
AreDoings view_only p out (Answer bytes ∷ more) = ⊥
AreDoings view_only p out (Ask incremental width height ∷ more) =
    (incremental ≡ true) × (width ≡ p.width) × (height ≡ p.height) × (out ≡ false) × AreDoings view_only p true more
AreDoings view_only p out (Pass seat event ∷ more) = (view_only ≡ false) × AreDoings view_only p out more
AreDoings view_only p out (Updated ∷ more) = AreDoings view_only p false more

-- the answers of a handshake. Once it is done, on a screen that has a place, a request for the whole of it comes after
-- them, which is outstanding. Once the picture is shown, doings come after that
abbrev pub IsInOrder : Bool → Bool → ServerAt → Bool → List Sent → Type 0
IsInOrder view_only true (First point) out sent = ⊥
IsInOrder view_only false (First point) out sent = AreAnswers sent
IsInOrder view_only false (Second p) out sent =
    (answers : List Sent) × AreAnswers answers × (sent ≡ answers ++ Ask false p.width p.height ∷ [])
    × (0 < p.width) × (0 < p.height) × (out ≡ true)
IsInOrder view_only true (Second p) out sent =
    (answers : List Sent) × (doings : List Sent) × AreAnswers answers × AreDoings view_only p true doings
    × (sent ≡ answers ++ Ask false p.width p.height ∷ doings) × (0 < p.width) × (0 < p.height)
    × (out ≡ out_after true doings)

-- a request is outstanding at a viewer, or none is
abbrev pub HasOut : Viewer → Bool → Type 0
HasOut viewer out =
    (viewing : Viewing) (s : ViewerState) (prefix : List ℕ) → StandsFor viewing viewer s prefix →
    s.outstanding ≡ out
