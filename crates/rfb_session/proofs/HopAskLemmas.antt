-- Requests that ask for all, among the items that are sent to a server.
use Rattle.std.proofs.Common.{zero, List, [], ◌∷◌, ◌++◌, map}
use Rattle.rfb_wire.specs.ClientMessage.{SetPixelFormat, SetEncodings, FramebufferUpdateRequest}
use Rattle.rfb_wire.specs.ClientMessage.{KeyEvent, PointerEvent, ClientCutText}
use Rattle.rfb_wire.specs.stream.Sequel.{First, Second}
use Rattle.rfb_hello.specs.ClientHandshake.{ClientItem}
use Rattle.rfb_hello.specs.ServerHandshake.{ServerPoint, AwaitsSecurity}
use Rattle.rfb_hello.specs.ServerHandshake.{ServerItem, SecurityTypes, ServerInit}
use Rattle.rfb_hello.specs.ViewerAnswers.{choice_asked}
use Rattle.rfb_server.specs.ClientBytes.{FromClient}
use Rattle.rfb_viewer.specs.ServerBytes.{ServerAt, FromServer}
use Rattle.rfb_viewer.specs.Viewer.{ViewerState, shows}
use Rattle.rfb_session.specs.Answers.{answers_to_step, viewer_answers, viewer_replies}
use Rattle.rfb_session.specs.HopAreas.{AreForAll}
use Rattle.rfb_session.specs.Link.{Ends}

-- ---- items to the server

pub all_join : (e : Ends) (xs ys : List FromClient) → AreForAll e xs → AreForAll e ys → AreForAll e (xs ++ ys)
all_join e [] ys one two = two
all_join e (First step ∷ xs) ys one two = all_join e xs ys one two
all_join e (Second (SetPixelFormat form) ∷ xs) ys one two = all_join e xs ys one two
all_join e (Second (SetEncodings numbers) ∷ xs) ys one two = all_join e xs ys one two
all_join e (Second (FramebufferUpdateRequest incremental rect) ∷ xs) ys one two = (one.0, all_join e xs ys one.1 two)
all_join e (Second (KeyEvent down key) ∷ xs) ys one two = all_join e xs ys one two
all_join e (Second (PointerEvent buttons x y) ∷ xs) ys one two = all_join e xs ys one two
all_join e (Second (ClientCutText text) ∷ xs) ys one two = all_join e xs ys one two

pub all_left : (e : Ends) (xs ys : List FromClient) → AreForAll e (xs ++ ys) → AreForAll e xs × AreForAll e ys
all_left e [] ys all = (tt, all)
all_left e (First step ∷ xs) ys all = all_left e xs ys all
all_left e (Second (SetPixelFormat form) ∷ xs) ys all = all_left e xs ys all
all_left e (Second (SetEncodings numbers) ∷ xs) ys all = all_left e xs ys all
all_left e (Second (FramebufferUpdateRequest incremental rect) ∷ xs) ys all =
    let more = all_left e xs ys all.1 in ((all.0, more.0), more.1)
all_left e (Second (KeyEvent down key) ∷ xs) ys all = all_left e xs ys all
all_left e (Second (PointerEvent buttons x y) ∷ xs) ys all = all_left e xs ys all
all_left e (Second (ClientCutText text) ∷ xs) ys all = all_left e xs ys all

steps_all : (e : Ends) (steps : List ClientItem) → AreForAll e (map (λ step. First step) steps)
steps_all e [] = tt
steps_all e (step ∷ steps) = steps_all e steps

answers_step : (e : Ends) (point : ServerPoint) (step : ServerItem) →
    AreForAll e (answers_to_step e.viewing point step)
answers_step e (AwaitsSecurity v) (SecurityTypes types) = steps_all e (choice_asked v e.viewing.hello.shared)
answers_step e point (ServerInit width height zero) = tt
answers_step e point step = tt

answers_all : (e : Ends) (at : ServerAt) (item : FromServer) → AreForAll e (viewer_answers e.viewing at item)
answers_all e (First point) (First step) = answers_step e point step
answers_all e (First point) (Second item) = tt
answers_all e (Second p) (First step) = tt
answers_all e (Second p) (Second item) = tt

pub replies_all : (e : Ends) (s : ViewerState) (items : List FromServer) →
    AreForAll e (viewer_replies e.viewing s items)
replies_all e s [] = tt
replies_all e s (item ∷ items) =
    all_join e (viewer_answers e.viewing s.point item) (viewer_replies e.viewing (shows e.viewing s item) items)
    (answers_all e s.point item) (replies_all e (shows e.viewing s item) items)
