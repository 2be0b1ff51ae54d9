-- How far a link is at all times: in a step of the handshake, or after it by who has the one request that can be
-- outstanding.
use Rattle.std.proofs.Common.{◌≡◌, ℕ, true, false, List, [], ◌∷◌, map, Option, Some, None, ◌∙◌}
use Rattle.rfb_pixel.specs.declared.colour.Colour.{Colour}
use Rattle.rfb_picture.specs.Grid.{Grid, IsGrid}
use Rattle.rfb_wire.specs.stream.Sequel.{First, Second}
use Rattle.rfb_codec.specs.UpdateStream.{UpdatePoint}
use Rattle.rfb_hello.specs.declared.version.Version.{Version}
use Rattle.rfb_hello.specs.declared.version.Version.TheVariants.{V37, V38}
use Rattle.rfb_hello.specs.ClientHandshake.{AwaitsVersion as AwaitsClientVersion, AwaitsChoice}
use Rattle.rfb_hello.specs.ClientHandshake.{AwaitsInit as AwaitsClientInit, ProtocolVersion as ClientVersion}
use Rattle.rfb_hello.specs.ClientHandshake.{SecurityType, ClientInit, after_version}
use Rattle.rfb_hello.specs.ServerHandshake.{ServerPoint, AwaitsVersion, AwaitsSecurity, AwaitsResult, AwaitsInit}
use Rattle.rfb_hello.specs.ServerHandshake.{AwaitsName, ProtocolVersion, SecurityResult, Name}
use Rattle.rfb_hello.specs.ServerAnswers.{types_asked, init_asked}
use Rattle.rfb_server.specs.ClientBytes.{ClientAt, FromClient}
use Rattle.rfb_viewer.specs.ServerBytes.{FromServer}
use Rattle.rfb_viewer.specs.Viewer.{ViewerState}
use Rattle.rfb_session.specs.Link.{Ends, SessionState, Composing, LinkState}
use Rattle.rfb_session.specs.Headline.{IsUnknown}
use Rattle.rfb_session.proofs.QueueLemmas.{AreMere, AreLater, AskOnce, form_after, IsRest, IsUnasked}

-- a link but for the bytes of items that have been moved
pub record Core : Type 0 where
  pub session : SessionState
  pub viewer : ViewerState
  pub to_server : List FromClient
  pub to_viewer : List FromServer
  pub latest : Option Composing

abbrev pub core : LinkState → Core
core l = record {
  session =
      l.session;
  viewer = l.viewer;
  to_server = l.to_server;
  to_viewer = l.to_viewer;
  latest = l.latest;
}

-- the viewer's picture has the size that the server gives
pub record HasPicture (e : Ends) (c : Core) : Type 0 where
  pub picture : Grid Colour
  pub picture_is : c.viewer.picture ≡ Some picture
  pub whole : IsGrid picture
  pub wide : picture.width ≡ e.serving.hello.width
  pub high : picture.height ≡ e.serving.hello.height

-- in the handshake: both points, and both queues; nothing is asked, known or composed yet
pub record Stands (c : Core) (sp : ClientAt) (vp : ServerPoint) (ts : List FromClient)
    (tv : List FromServer) : Type 0 where
  pub session_at : c.session.point ≡ sp
  pub viewer_at : c.viewer.point ≡ First vp
  pub quiet : c.viewer.outstanding ≡ false
  pub to_server_is : c.to_server ≡ ts
  pub to_viewer_is : c.to_viewer ≡ tv
  pub unasked : IsUnasked c.session.area
  pub unknown : IsUnknown c.session.known
  pub none_yet : c.latest ≡ None

-- after it: both between messages, or the viewer inside an update
pub record Meets (e : Ends) (c : Core) (p : UpdatePoint) : Type 0 where
  pub session_at : c.session.point ≡ Second tt
  pub viewer_at : c.viewer.point ≡ Second p
  pub wide : p.width ≡ e.serving.hello.width
  pub high : p.height ≡ e.serving.hello.height
  pub picture : HasPicture e c

-- no request is anywhere
pub record Idles (c : Core) (p : UpdatePoint) : Type 0 where
  pub quiet : c.viewer.outstanding ≡ false
  pub none : c.to_viewer ≡ []
  pub between : p.left ≡ 0
  pub unasked : IsUnasked c.session.area
  pub later : AreLater c.to_server
  pub formed : form_after c.session.form c.to_server ≡ p.form

-- a request is in flight to the server
pub record Asks (c : Core) (p : UpdatePoint) : Type 0 where
  pub busy : c.viewer.outstanding ≡ true
  pub none : c.to_viewer ≡ []
  pub between : p.left ≡ 0
  pub unasked : IsUnasked c.session.area
  pub once : AskOnce c.to_server
  pub formed : form_after c.session.form c.to_server ≡ p.form

-- the server has it
pub record Awaits (c : Core) (p : UpdatePoint) : Type 0 where
  pub busy : c.viewer.outstanding ≡ true
  pub none : c.to_viewer ≡ []
  pub between : p.left ≡ 0
  pub mere : AreMere c.to_server
  pub formed : c.session.form ≡ p.form

-- its update is in flight to the viewer
pub record Sends (c : Core) (p : UpdatePoint) : Type 0 where
  pub busy : c.viewer.outstanding ≡ true
  pub unasked : IsUnasked c.session.area
  pub mere : AreMere c.to_server
  pub formed : c.session.form ≡ p.form
  pub rest : IsRest p c.to_viewer

abbrev pub shared_init : Ends → List FromClient
shared_init e = First (ClientInit e.viewing.hello.shared) ∷ []

pub data Phase (e : Ends) (c : Core) : Type 0 where
  Greeting : Stands c (First AwaitsClientVersion) AwaitsVersion []
      (First (ProtocolVersion e.serving.hello.offer) ∷ []) → Phase e c
  Versioned : (v : Version) → Stands c (First AwaitsClientVersion) (AwaitsSecurity v)
      (First (ClientVersion v) ∷ []) [] → Phase e c
  Typed : (v : Version) → Stands c (First (after_version v)) (AwaitsSecurity v) []
      (map (λ i. First i) (types_asked v)) → Phase e c
  Choosing37 : Stands c (First (AwaitsChoice V37)) (AwaitsInit V37)
      (First SecurityType ∷ shared_init e) [] → Phase e c
  Choosing38 : Stands c (First (AwaitsChoice V38)) (AwaitsResult V38) (First SecurityType ∷ []) [] →
      Phase e c
  Chosen : Stands c (First (AwaitsClientInit V38)) (AwaitsResult V38) []
      (First SecurityResult ∷ []) → Phase e c
  Sharing : (v : Version) → Stands c (First (AwaitsClientInit v)) (AwaitsInit v)
      (shared_init e) [] → Phase e c
  Begun : (v : Version) → Stands c (Second tt) (AwaitsInit v) []
      (map (λ i. First i) (init_asked e.serving.hello)) → Phase e c
  Named : (v : Version) → (n : ℕ) → (text : List ℕ) →
      Stands c (Second tt) (AwaitsName v e.serving.hello.width e.serving.hello.height n) []
      (First (Name text) ∷ []) → HasPicture e c → Phase e c
  Idling : (p : UpdatePoint) → Meets e c p → Idles c p → Phase e c
  Asking : (p : UpdatePoint) → Meets e c p → Asks c p → Phase e c
  Held : (p : UpdatePoint) → Meets e c p → Awaits c p → Phase e c
  Sent : (p : UpdatePoint) → Meets e c p → Sends c p → Phase e c

pub first_is : {A : Type 0} (x y : A) (xs ys : List A) → x ∷ xs ≡ y ∷ ys → (x ≡ y) × (xs ≡ ys)
first_is x y xs ys e = (cc, cc)

pub none_first : {A : Type 0} (x : A) (xs : List A) → [] ≡ x ∷ xs → ⊥
none_first x xs e = cc

-- ---- what else changes a link

-- a link with the same session point, size and picture meets too
pub meets_as : (e : Ends) (c d : Core) (p q : UpdatePoint) → Meets e c p → d.session.point
    ≡ Second tt → d.viewer.point ≡ Second q → d.viewer.picture ≡ c.viewer.picture → q.width
    ≡ p.width → q.height ≡ p.height → Meets e d q
meets_as e c d p q m session_at viewer_at same wide high = record {
  session_at = session_at;
  viewer_at = viewer_at;
  wide = wide ∙ m.wide;
  high = high ∙ m.high;
  picture =
      record {
        picture = m.picture.picture;
        picture_is = same ∙ m.picture.picture_is;
        whole = m.picture.whole;
        wide = m.picture.wide;
        high = m.picture.high;
      };
}
