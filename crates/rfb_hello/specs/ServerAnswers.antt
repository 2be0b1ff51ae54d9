-- What the handshake asks next of a server: the items of its own stream that answer a client's.
use Rattle.std.specs.Prelude.{ℕ, ◌<◌, ◌^◌, List, [], ◌∷◌, length}
use Rattle.rfb_hello.specs.declared.version.Version.{Version}
use Rattle.rfb_hello.specs.declared.version.Version.TheVariants.{V33, V37, V38}
use Rattle.rfb_hello.specs.ServerHandshake.{ServerItem, SecurityNone, SecurityTypes, SecurityResult, ServerInit, Name}
use Rattle.rfb_hello.specs.ServerHandshake.{IsAdmitted}
use Rattle.rfb_hello.specs.ServerEnd.{ServerSetup}

-- to a client's version: the security type None, alone
abbrev pub types_asked : Version → List ServerItem
types_asked V33 = SecurityNone ∷ []
types_asked V37 = SecurityTypes (1 ∷ []) ∷ []
types_asked V38 = SecurityTypes (1 ∷ []) ∷ []

-- to its choice: from 3.8 on a SecurityResult, and before it nothing
abbrev pub result_asked : Version → List ServerItem
result_asked V33 = []
result_asked V37 = []
result_asked V38 = SecurityResult ∷ []

-- a name, if it has a byte
abbrev pub name_asked : List ℕ → List ServerItem
name_asked [] = []
name_asked (byte ∷ name) = Name (byte ∷ name) ∷ []

-- to ClientInit: ServerInit, and the name
abbrev pub init_asked : ServerSetup → List ServerItem
init_asked setup = ServerInit setup.width setup.height (length setup.name) ∷ name_asked setup.name

-- a setup whose screen is admitted, and whose numbers have their sizes on the wire
pub record IsSetup (max_places : ℕ) (setup : ServerSetup) : Type 0 where
  pub admitted : IsAdmitted max_places setup.width setup.height
  pub width_fits : setup.width < 2 ^ 16
  pub height_fits : setup.height < 2 ^ 16
  pub name_fits : length setup.name < 2 ^ 32
