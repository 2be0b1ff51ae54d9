-- What a client sends is read by its grammar, and a server is a machine over it.
use Rattle.std.proofs.Common.{◌≡◌, ℕ, List, Option, None, refl, sym}
use Rattle.rfb_wire.specs.stream.Grammar.{IsSpelled, IsGrammar}
use Rattle.rfb_wire.specs.stream.End.{IsMachine}
use Rattle.rfb_wire.specs.ClientMessage.{client_says}
use Rattle.rfb_wire.proofs.stream_laws.GrammarLaws.{spelled_grammar}
use Rattle.rfb_wire.proofs.stream_laws.SequelLaws.{sequel_spelled}
use Rattle.rfb_wire.proofs.ClientStreamLaws.{client_spelled}
use Rattle.rfb_hello.specs.declared.version.Version.{Version}
use Rattle.rfb_hello.specs.ClientHandshake.{client_item_says}
use Rattle.rfb_hello.proofs.ClientHandshakeLaws.{client_handshake_spelled}
use Rattle.rfb_pixel.specs.declared.colour.Colour.{Colour}
use Rattle.rfb_picture.specs.Grid.{Grid}
use Rattle.rfb_hello.specs.declared.server_hello.ServerHello.{ServerHello}
use Rattle.rfb_server.specs.declared.session.Session.{Session}
use Rattle.rfb_pixel.specs.Format.{PixelFormat}
use Rattle.rfb_picture.specs.Area.{Places}
use Rattle.rfb_wire.specs.declared.encoding.Encoding.{Encoding}
use Rattle.rfb_server.specs.declared.server.Server.{Server}
use Rattle.rfb_server.specs.declared.session.input.progress.Progress.{Progress}
use Rattle.rfb_server.specs.declared.session.input.progress.Progress.TheVariants.{Handshake, Head, Encodings, CutText}
use Rattle.rfb_server.specs.declared.session.input.progress.Progress.TheVariants.{Failed}
use Rattle.rfb_server.specs.ClientBytes.{ClientAt, client_two, client_bytes, client_bytes_say}
use Rattle.rfb_server.specs.Server.{Serving, ServerState, server}
use Rattle.rfb_server.specs.Progress.{ProgressStandsFor, fault_in}
use Rattle.rfb_server.specs.Model.{SessionStandsFor, StandsFor, session_fault, fault_of, with_screen, Notes}
use Rattle.rfb_server.specs.Model.{notes_in, notes_at}

pub client_bytes_spelled : (offer : Version) → IsSpelled (client_bytes offer) (client_bytes_say offer)
client_bytes_spelled offer = sequel_spelled (client_two offer) (client_item_says offer) (λ _. client_says)
    (client_handshake_spelled offer) client_spelled

pub client_bytes_laws : (offer : Version) → IsGrammar (client_bytes offer)
client_bytes_laws offer = spelled_grammar (client_bytes offer) (client_bytes_say offer) (client_bytes_spelled offer)

pub server_machine : (serving : Serving) → IsMachine (server serving)
server_machine serving = record { laws = client_bytes_laws serving.hello.offer; past = λ s i. refl }

going : (serving : Serving) (hello : ServerHello) (progress : Progress) (point : ClientAt) (prefix : List ℕ) →
    ProgressStandsFor serving hello progress point prefix → fault_in progress ≡ None
going serving hello Handshake point prefix stands = refl
going serving hello (Head bytes) point prefix stands = refl
going serving hello (Encodings left number list) point prefix stands = refl
going serving hello (CutText text_length left kept) point prefix stands = refl
going serving hello (Failed fault) point prefix stands = absurd stands

-- what a session stands for over one screen, it stands for over another with that one
pub session_over : (serving : Serving) (before after : Grid Colour) (session : Session)
    (s : ServerState) (prefix : List ℕ) →
    SessionStandsFor serving before session s prefix →
    SessionStandsFor serving after session (with_screen after s) prefix
session_over serving before after session s prefix stands = record {
  setup_is = stands.setup_is;
  limit_is = stands.limit_is;
  progress_is = stands.progress_is;
  screen_is = refl;
  known_is = stands.known_is;
  area_is = stands.area_is;
  form_is = stands.form_is;
  encodings_are = stands.encodings_are;
}

-- a session that stands for a state and a prefix has not failed
pub session_going : (serving : Serving) (screen : Grid Colour) (session : Session) (s : ServerState) (prefix : List ℕ) →
    SessionStandsFor serving screen session s prefix → session_fault session ≡ None
session_going serving screen session s prefix stands =
    going serving session.hello session.progress s.point prefix stands.progress_is

-- ---- its notes

abbrev notes : Grid (Option ℕ) → Places → PixelFormat → List Encoding → Notes
notes known area form encodings = record { known = known; area = area; form = form; encodings = encodings }

pub same_notes : (known record_now : Grid (Option ℕ)) (area places : Places) (form format : PixelFormat)
    (encodings list : List Encoding) →
    known ≡ record_now → area ≡ places → form ≡ format → encodings ≡ list →
    notes known area form encodings ≡ notes record_now places format list
same_notes known record_now area places form format encodings list a b c d = rw (a, b, c, d) refl

-- a session that stands for a state has its notes
pub session_noted : (serving : Serving) (screen : Grid Colour) (session : Session) (s : ServerState) (prefix : List ℕ) →
    SessionStandsFor serving screen session s prefix → notes_in session ≡ notes_at s
session_noted serving screen session s prefix now =
    same_notes session.known s.known session.area s.area session.format s.form session.encodings s.encodings
    (sym now.known_is) (sym now.area_is) (sym now.form_is) (sym now.encodings_are)

-- ---- a server

-- a server that stands for a state and a prefix has not failed
pub server_going : (serving : Serving) (server : Server) (s : ServerState) (prefix : List ℕ) →
    StandsFor serving server s prefix → fault_of server ≡ None
server_going serving server s prefix stands =
    going serving server.session.hello server.session.progress s.point prefix stands.progress_is
