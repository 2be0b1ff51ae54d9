-- What a server sends is read by its grammar, and a viewer is a machine over it.
use Rattle.std.proofs.Common.{◌≡◌, ℕ, List, Option, None, refl}
use Rattle.rfb_pixel.specs.declared.colour.Colour.{Colour}
use Rattle.rfb_pixel.specs.Format.{PixelFormat}
use Rattle.rfb_picture.specs.Grid.{Grid}
use Rattle.rfb_wire.specs.stream.Grammar.{IsSpelled, IsGrammar}
use Rattle.rfb_wire.specs.stream.End.{IsMachine}
use Rattle.rfb_wire.proofs.stream_laws.GrammarLaws.{spelled_grammar}
use Rattle.rfb_wire.proofs.stream_laws.SequelLaws.{sequel_spelled}
use Rattle.rfb_codec.specs.UpdateStream.{update_says}
use Rattle.rfb_codec.proofs.UpdateStreamLaws.{update_spelled}
use Rattle.rfb_hello.specs.ServerHandshake.{server_item_says}
use Rattle.rfb_hello.specs.ViewerEnd.{ViewerSetup}
use Rattle.rfb_hello.proofs.ServerStreamLaws.{server_handshake_spelled}
use Rattle.rfb_viewer.specs.declared.viewer.Viewer.{Viewer}
use Rattle.rfb_viewer.specs.declared.viewer.progress.Progress.{Progress}
use Rattle.rfb_viewer.specs.declared.viewer.progress.Progress.TheVariants.{Handshake, Head, RectHead, Data, Colours}
use Rattle.rfb_viewer.specs.declared.viewer.progress.Progress.TheVariants.{CutText, Failed}
use Rattle.rfb_viewer.specs.ServerBytes.{ServerAt, server_two, server_bytes, server_bytes_say}
use Rattle.rfb_viewer.specs.Viewer.{Viewing, ViewerState, viewer}
use Rattle.rfb_viewer.specs.Progress.{ProgressStandsFor, fault_in}
use Rattle.rfb_viewer.specs.Model.{StandsFor, fault_of}

pub server_bytes_spelled : (form : PixelFormat) (setup : ViewerSetup) →
    IsSpelled (server_bytes form setup) (server_bytes_say form setup)
server_bytes_spelled form setup =
    sequel_spelled (server_two form setup) (server_item_says setup.max_places) update_says
    (server_handshake_spelled setup.limit setup.max_places) update_spelled

pub server_bytes_laws : (form : PixelFormat) (setup : ViewerSetup) → IsGrammar (server_bytes form setup)
server_bytes_laws form setup =
    spelled_grammar (server_bytes form setup) (server_bytes_say form setup) (server_bytes_spelled form setup)

pub viewer_machine : (viewing : Viewing) → IsMachine (viewer viewing)
viewer_machine viewing = record { laws = server_bytes_laws viewing.form viewing.hello; past = λ s i. refl }

going : (viewing : Viewing) (viewer : Viewer) (progress : Progress) (point : ServerAt)
    (picture : Option (Grid Colour)) (prefix : List ℕ) →
    ProgressStandsFor viewing viewer progress point picture prefix → fault_in progress ≡ None
going viewing viewer Handshake point picture prefix stands = refl
going viewing viewer (Head bytes) point picture prefix stands = refl
going viewing viewer (RectHead more head) point picture prefix stands = refl
going viewing viewer (Data more painter) point picture prefix stands = refl
going viewing viewer (Colours more) point picture prefix stands = refl
going viewing viewer (CutText text_length more kept) point picture prefix stands = refl
going viewing viewer (Failed fault) point picture prefix stands = absurd stands

-- a viewer that stands for a state and a prefix has not failed
pub viewer_going : (viewing : Viewing) (viewer : Viewer) (s : ViewerState) (prefix : List ℕ) →
    StandsFor viewing viewer s prefix → fault_of viewer ≡ None
viewer_going viewing viewer s prefix stands =
    going viewing viewer viewer.progress s.point s.picture prefix stands.progress_is
