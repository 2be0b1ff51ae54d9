-- What the steps `Screen` and `Ready` come of: one item at one point each, whose numbers they
-- have.
use Rattle.std.specs.Prelude.{◌≡◌, ◌<◌, ◌⊎◌, ℕ, Bool, List}
use Rattle.arrayvec.specs.ArrayVec.{ArrayVec}
use Rattle.rfb_hello.specs.declared.version.Version.{Version}
use Rattle.rfb_hello.specs.KeptText.{KeptText, no_text, kept_of}
use Rattle.rfb_hello.specs.ClientHandshake.{ClientPoint, AwaitsInit as AwaitsClientInit, Begun as ClientBegun}
use Rattle.rfb_hello.specs.ClientHandshake.{ClientItem, ClientInit, past_client_item}
use Rattle.rfb_hello.specs.ServerHandshake.{ServerPoint, AwaitsInit, AwaitsName, Begun, ServerItem, ServerInit, Name}
use Rattle.rfb_hello.specs.ServerHandshake.{past_server_item}
use Rattle.rfb_hello.specs.ServerEnd.{ServerSetup, as_reply, server_init_bytes}
use Rattle.rfb_hello.specs.ViewerEnd.{ViewerSetup}

-- the server's end is ready at ClientInit, with the version and the flag of its event, and answers
-- with ServerInit and the name; the client's part is then over
pub record IsReadyAt (setup : ServerSetup) (point : ClientPoint) (item : ClientItem)
    (reply : ArrayVec ℕ) (version : Version) (shared : Bool) : Type 0 where
  pub at_point : point ≡ AwaitsClientInit version
  pub item_is : item ≡ ClientInit shared
  pub reply_is : reply ≡ as_reply (server_init_bytes setup)
  pub after : past_client_item point item ≡ ClientBegun version shared

-- the viewer's end reports a screen at the ServerInit that has its size, before a name that has
-- bytes
pub record IsScreenAt (setup : ViewerSetup) (point : ServerPoint) (item : ServerItem)
    (width height : ℕ) : Type 0 where
  pub version : Version
  pub name_length : ℕ
  pub at_point : point ≡ AwaitsInit version
  pub item_is : item ≡ ServerInit width height name_length
  pub named : 0 < name_length
  pub after : past_server_item setup.limit point item ≡ AwaitsName version width height name_length

-- it is ready at a ServerInit before a name without bytes
pub record IsReadyUnnamed (point : ServerPoint) (item : ServerItem) (width height : ℕ)
    (version : Version) (name : KeptText) (name_length : ℕ) : Type 0 where
  pub at_point : point ≡ AwaitsInit version
  pub item_is : item ≡ ServerInit width height name_length
  pub name_is : name ≡ no_text
  pub unnamed : name_length ≡ 0

-- or at the name after the ServerInit that had the size and the name's length
pub record IsReadyNamed (setup : ViewerSetup) (point : ServerPoint) (item : ServerItem)
    (width height : ℕ) (version : Version) (name : KeptText) (name_length : ℕ) : Type 0 where
  pub text : List ℕ
  pub at_point : point ≡ AwaitsName version width height name_length
  pub item_is : item ≡ Name text
  pub name_is : name ≡ kept_of setup.text_limit name_length text

-- in either case the server's part of the handshake is then over
pub record IsViewerReadyAt (setup : ViewerSetup) (point : ServerPoint) (item : ServerItem)
    (width height : ℕ) (version : Version) (name : KeptText) (name_length : ℕ) : Type 0 where
  pub told_at : IsReadyUnnamed point item width height version name name_length
      ⊎ IsReadyNamed setup point item width height version name name_length
  pub after : past_server_item setup.limit point item ≡ Begun version width height
