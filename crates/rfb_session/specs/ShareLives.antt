-- The life of a seat. Its session stands for what all that was received there leads to, over the
-- screen that the drawings lead to. What was written and what waits are what it sent, in order.
use Rattle.std.specs.Prelude.{◌≡◌, ℕ, List, [], ◌++◌, Some}
use Rattle.rfb_pixel.specs.declared.colour.Colour.{Colour}
use Rattle.rfb_picture.specs.Grid.{Grid}
use Rattle.rfb_hello.specs.Version.{version_text}
use Rattle.rfb_server.specs.declared.fault.ServerFault.{ServerFault}
use Rattle.rfb_server.specs.declared.session.Session.{Session}
use Rattle.rfb_server.specs.Failed.{EndsAs}
use Rattle.rfb_server.specs.Server.{Serving, ServerState, first_server}
use Rattle.rfb_server.specs.Model.{SessionStandsFor, session_fault, with_screen}
use Rattle.rfb_server.specs.Told.{ServerTold}
use Rattle.rfb_session.specs.declared.share.Share.{Share}
use Rattle.rfb_session.specs.declared.share.seat.ShareSeat.{ShareSeat}
use Rattle.rfb_session.specs.EngineRun.{Step, Runs, fed_in, sent_in}
use Rattle.rfb_session.specs.LinkBytes.{session_driven}
use Rattle.rfb_session.specs.ServeEngine.{ServerAct}
use Rattle.rfb_session.specs.Share.{seat_in, screen_of}
use Rattle.rfb_session.specs.ShareSeats.{session_at, waiting_in}

-- steps have led from a session that was fed nothing to what this one stands for over the screen.
-- It was fed those bytes, updates were composed, and the screen was drawn on; the bytes that it
-- sent, its answers and updates, are these
pub record HasLived (serving : Serving) (screen : Grid Colour) (session : Session)
    (heard sent : List ℕ) : Type 0 where
  pub first : Grid Colour
  pub steps : List (Step ServerTold ServerAct)
  pub state : ServerState
  pub rest : List ℕ
  pub runs : Runs (session_driven first) serving (with_screen first (first_server serving)) []
      steps state rest
  pub stands : SessionStandsFor serving screen session state rest
  pub heard_is : heard ≡ fed_in steps
  pub sent_is : sent ≡ sent_in (session_driven first) steps

-- they had led so to a session that ended at a slice of the bytes, by its fault; bytes that came
-- later had no effect
pub record HasEnded (serving : Serving) (session : Session) (heard sent : List ℕ) : Type 0 where
  pub fault : ServerFault
  pub screen : Grid Colour
  pub last : Session
  pub fed : List ℕ
  pub slice : List ℕ
  pub later : List ℕ
  pub lived : HasLived serving screen last fed sent
  pub fails : session_fault session ≡ Some fault
  pub ends : EndsAs last slice fault session
  pub heard_is : heard ≡ fed ++ (slice ++ later)

-- so it is; and what was written of its bytes, and then what waits, are its greeting, RFC 6143
-- section 7.1.1, and then what it sent: none is lost, and none comes twice
pub data Lives (serving : Serving) (screen : Grid Colour) (seat : ShareSeat)
    (heard taken : List ℕ) : Type 0 where
  GoesOn : (sent : List ℕ) → HasLived serving screen (session_at seat) heard sent →
      taken ++ waiting_in seat ≡ version_text serving.hello.offer ++ sent →
      Lives serving screen seat heard taken
  Ended : (sent : List ℕ) → HasEnded serving (session_at seat) heard sent →
      taken ++ waiting_in seat ≡ version_text serving.hello.offer ++ sent →
      Lives serving screen seat heard taken

-- of the seat of number k, since it was taken: these bytes were received there, and those written
pub record LivesAt (serving : Serving) (share : Share) (k : ℕ) (heard taken : List ℕ)
    : Type 0 where
  pub seat : ShareSeat
  pub there : seat_in share k ≡ Some seat
  pub lives : Lives serving (screen_of share) seat heard taken
