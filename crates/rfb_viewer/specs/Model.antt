-- What a `Viewer` stands for: a state, and the bytes that came of the server's next item, fewer
-- than it has. Between two items what it stores is the picture; of a rectangle under way it shows
-- the whole pieces that came.
use Rattle.std.specs.Prelude.{◌≡◌, ℕ, Bool, true, false, List, Option}
use Rattle.rfb_pixel.specs.declared.colour.Colour.{Colour}
use Rattle.rfb_pixel.specs.Format.{PixelFormat}
use Rattle.rfb_picture.specs.Grid.{Grid}
use Rattle.rfb_wire.specs.declared.encoding.Encoding.{Encoding}
use Rattle.rfb_hello.specs.declared.version.Version.{Version}
use Rattle.rfb_hello.specs.ViewerEnd.{ViewerSetup}
use Rattle.rfb_hello.specs.declared.offered.Offered.{Offered}
use Rattle.rfb_hello.specs.Offer.{offered_of as offered_in}
use Rattle.rfb_hello.specs.ViewerModel.{setup_of, reason_of as reason_in}
use Rattle.rfb_viewer.specs.declared.fault.ViewerFault.{ViewerFault}
use Rattle.rfb_viewer.specs.declared.viewer.Viewer.{Viewer}
use Rattle.rfb_viewer.specs.declared.viewer.progress.Request.{Request}
use Rattle.rfb_viewer.specs.declared.viewer.progress.Request.TheVariants.{Answered, Outstanding}
use Rattle.rfb_viewer.specs.Viewer.{Viewing, ViewerState}
use Rattle.rfb_viewer.specs.Progress.{ProgressStandsFor, fault_in}

-- what a viewer is made with
abbrev pub viewing_with : PixelFormat → List Encoding → Version → Bool → ℕ → ℕ → Viewing
viewing_with form encodings limit shared max_places text_limit = record {
  hello = record {
    limit = limit;
    shared = shared;
    max_places = max_places;
    text_limit = text_limit;
  };
  form = form;
  encodings = encodings;
}

abbrev pub is_outstanding : Request → Bool
is_outstanding Answered = false
is_outstanding Outstanding = true

-- a viewer stands for a state and a prefix
pub record StandsFor (viewing : Viewing) (viewer : Viewer) (s : ViewerState)
    (prefix : List ℕ) : Type 0 where
  pub setup_is : setup_of viewer.hello ≡ viewing.hello
  pub limit_is : viewer.text_limit ≡ viewing.hello.text_limit
  pub encodings_are : viewer.encodings.items ≡ viewing.encodings
  pub outstanding_is : s.outstanding ≡ is_outstanding viewer.request
  pub progress_is : ProgressStandsFor viewing viewer viewer.progress s.point s.picture prefix

-- ---- what is known of a viewer, whether it has failed or not

-- what it shows, once there is a screen
abbrev pub picture_of : Viewer → Option (Grid Colour)
picture_of viewer = viewer.picture

-- the fault that it has failed with, if it has
abbrev pub fault_of : Viewer → Option ViewerFault
fault_of viewer = fault_in viewer.progress

-- what is kept of the reason that the server gave
abbrev pub reason_of : Viewer → List ℕ
reason_of viewer = (reason_in viewer.hello).bytes

-- the security types that the server has offered
abbrev pub offered_of : Viewer → Offered
offered_of viewer = offered_in viewer.hello

-- how many bytes it has used in all
abbrev pub taken_of : Viewer → ℕ
taken_of viewer = viewer.taken

-- what it was made with, but for the format, which calls change
pub record Making : Type 0 where
  pub hello : ViewerSetup
  pub encodings : List Encoding
  pub text_limit : ℕ

abbrev pub making_of : Viewer → Making
making_of viewer =
    record {
      hello = setup_of viewer.hello;
      encodings = viewer.encodings.items;
      text_limit = viewer.text_limit;
    }

-- beside what it shows: its fault, the server's reason and types, what it was made with and its count
-- of bytes are as they were
pub record KeepsRest (old new : Viewer) : Type 0 where
  pub fault : fault_of new ≡ fault_of old
  pub reason : reason_of new ≡ reason_of old
  pub offered : offered_of new ≡ offered_of old
  pub made : making_of new ≡ making_of old
  pub taken : taken_of new ≡ taken_of old
