-- What the handshake asks next of a viewer: the items of its own stream that answer a server's.
use Rattle.std.specs.Prelude.{Bool, List, [], ◌∷◌, Option, Some, None, ℕ}
use Rattle.rfb_hello.specs.declared.version.Version.{Version}
use Rattle.rfb_hello.specs.declared.version.Version.TheVariants.{V33, V37, V38}
use Rattle.rfb_hello.specs.declared.step.ViewerStep.{ViewerStep}
use Rattle.rfb_hello.specs.declared.step.ViewerStep.TheVariants.{Reply, Screen, Ready}
use Rattle.rfb_hello.specs.ClientHandshake.{ClientItem, SecurityType, ClientInit}

-- to security types in a list: the choice of None; before 3.8 ClientInit follows at once
abbrev pub choice_asked : Version → Bool → List ClientItem
choice_asked V33 shared = SecurityType ∷ ClientInit shared ∷ []
choice_asked V37 shared = SecurityType ∷ ClientInit shared ∷ []
choice_asked V38 shared = SecurityType ∷ []

-- the bytes of an answer; a screen and the end of the handshake are answered by none
abbrev pub reply_bytes : Option ViewerStep → List ℕ
reply_bytes None = []
reply_bytes (Some (Reply reply)) = reply.items
reply_bytes (Some (Screen width height)) = []
reply_bytes (Some (Ready width height version name name_length)) = []
