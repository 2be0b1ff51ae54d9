-- What a viewer that has failed keeps: the reason that its server gave, and the picture as it was
-- made before the fault.
use Rattle.std.specs.Prelude.{◌≡◌, ◌≢◌, ℕ, ◌<◌, ◌≤◌, List, [], ◌++◌, length, Option, Some, ◌⊎◌}
use Rattle.rfb_pixel.specs.declared.colour.Colour.{Colour}
use Rattle.rfb_picture.specs.Grid.{Grid}
use Rattle.rfb_wire.specs.declared.rect_head.RectHead.{RectHead}
use Rattle.rfb_wire.specs.stream.Prefix.{Bad}
use Rattle.rfb_wire.specs.stream.Sequel.{First, Second}
use Rattle.rfb_wire.specs.stream.End.{RunsOutBy}
use Rattle.rfb_codec.specs.declared.fault.PaintFault.{PaintFault}
use Rattle.rfb_codec.specs.Painter.{AwaitsData}
use Rattle.rfb_codec.specs.Stage.{IsRefused}
use Rattle.rfb_codec.specs.UpdateStream.{UpdatePoint}
use Rattle.rfb_hello.specs.KeptText.{KeptText}
use Rattle.rfb_hello.specs.declared.viewer_hello.progress.Cause.{Cause}
use Rattle.rfb_hello.specs.declared.viewer_hello.progress.Cause.TheVariants.{Refused as RefusedCause}
use Rattle.rfb_hello.specs.declared.viewer_hello.progress.Cause.TheVariants.{SecurityFailed as FailedCause}
use Rattle.rfb_hello.specs.ViewerModel.{IsReasonKept, reason_of as reason_in}
use Rattle.rfb_viewer.specs.declared.fault.ViewerFault.{ViewerFault}
use Rattle.rfb_viewer.specs.declared.fault.ViewerFault.TheVariants.{Refused, SecurityFailed, NoMemory}
use Rattle.rfb_viewer.specs.declared.viewer.Viewer.{Viewer}
use Rattle.rfb_viewer.specs.ServerBytes.{ServerAt, server_bytes}
use Rattle.rfb_viewer.specs.Viewer.{Viewing, ViewerState, viewer, AsksMemory}
use Rattle.rfb_viewer.specs.Model.{StandsFor, picture_of, reason_of}

-- from each state and prefix that it stood for, the bytes lead through whole items, which gave no
-- event, to such bytes of the next one
abbrev pub LeadsTo : (Viewing → ViewerState → List ℕ → Type 0) → Viewer → List ℕ → Type 0
LeadsTo There old bytes =
    (viewing : Viewing) → RunsOutBy (viewer viewing) (There viewing) (StandsFor viewing) old bytes

-- ---- reasons

-- a reason of `n` bytes is whole at the last of these, and this is kept of its text
abbrev pub IsReasonAt : ℕ → Cause → ℕ → KeptText → ServerAt → List ℕ → Type 0
IsReasonAt limit cause n kept (First point) bytes = IsReasonKept limit cause n kept point bytes
IsReasonAt limit cause n kept (Second p) bytes = ⊥

abbrev pub LeadsToReason : Cause → ℕ → KeptText → Viewer → List ℕ → Type 0
LeadsToReason cause n kept old bytes =
    LeadsTo (λ viewing s front. IsReasonAt viewing.hello.text_limit cause n kept s.point front)
    old bytes

-- it keeps nothing
abbrev pub KeepsNone : Viewer → Viewer → Type 0
KeepsNone old new =
    (viewing : Viewing) (s : ViewerState) (prefix : List ℕ) → StandsFor viewing old s prefix →
    reason_of new ≡ []

-- after a fault: the bytes have led to the last one of a reason, where one was given, and the
-- viewer keeps the first bytes of its text; without a reason it keeps nothing
abbrev pub KeepsReason : ViewerFault → Viewer → List ℕ → Viewer → Type 0
KeepsReason (Refused n) old bytes new = LeadsToReason RefusedCause n (reason_in new.hello) old bytes
KeepsReason (SecurityFailed n) old bytes new =
    LeadsToReason FailedCause n (reason_in new.hello) old bytes
KeepsReason fault old bytes new = KeepsNone old new

-- ---- the picture

-- the bytes are a rectangle's head and data, which are at fault, and the whole pieces before the
-- one at fault are shown
pub record ShowsUntil (p : UpdatePoint) (bytes : List ℕ) (before now : Grid Colour) : Type 0 where
  pub head : RectHead
  pub front : List ℕ
  pub body : List ℕ
  pub unit : List ℕ
  pub fault : PaintFault
  pub bytes_are : bytes ≡ front ++ (body ++ unit)
  pub awaits : AwaitsData p head front before
  pub refused : IsRefused p.form head.rect head.encoding before body unit fault now

-- what is stored is the picture, up to the end of a rectangle's head; of its data it shows those
-- pieces
abbrev pub ShowsLast : ServerAt → Option (Grid Colour) → List ℕ → Option (Grid Colour) → Type 0
ShowsLast (First point) picture bytes stored = stored ≡ picture
ShowsLast (Second p) picture bytes stored =
    ((0 < p.left → length bytes ≤ 12) × (stored ≡ picture))
    ⊎ ((before now : Grid Colour) × (picture ≡ Some before) × (stored ≡ Some now)
    × ShowsUntil p bytes before now)

-- the viewer ends at these bytes, by a fault of theirs or because it asks for memory there; what is
-- stored shows what came before
pub record EndsAt (viewing : Viewing) (fault : ViewerFault) (stored : Option (Grid Colour))
    (s : ViewerState) (bytes : List ℕ) : Type 0 where
  pub bad : fault ≢ NoMemory →
      (server_bytes viewing.form viewing.hello).next s.point bytes ≡ Bad fault
  pub asks : fault ≡ NoMemory → AsksMemory viewing s bytes
  pub shows : ShowsLast s.point s.picture bytes stored

-- after a fault: the bytes have led there, and the picture of the state there, with the items
-- before it, is what is shown so
abbrev pub KeepsPicture : ViewerFault → Viewer → List ℕ → Viewer → Type 0
KeepsPicture fault old bytes new =
    LeadsTo (λ viewing s front. EndsAt viewing fault (picture_of new) s front) old bytes
