-- Steps of a script, one after another.
use Rattle.std.proofs.Common.{OnOk, Result, Ok, Err, true, ◌≡◌, ℕ, ◌+◌, ◌∙◌, zero, suc, List, [], ◌∷◌, ◌++◌, Option, ap}
use Rattle.std.proofs.Common.{sym, refl, subst, arith}
use Rattle.std.proofs.lemmas.List.{flat_map_more}
use Rattle.rfb_hello.specs.declared.version.Version.TheVariants.{V38}
use Rattle.rfb_pixel.specs.Format.{PixelFormat}
use Rattle.rfb_picture.specs.Grid.{uniform}
use Rattle.rfb_picture.proofs.GridLaws.{height-uniform, width-uniform}
use Rattle.rfb_wire.specs.declared.encoding.Encoding.{Encoding}
use Rattle.rfb_server.specs.declared.server.Server.{Server}
use Rattle.rfb_server.specs.Server.{black, first_server}
use Rattle.rfb_server.specs.Model.{StandsFor as ServerStandsFor}
use Rattle.rfb_viewer.specs.declared.viewer.Viewer.{Viewer}
use Rattle.rfb_viewer.specs.Viewer.{first_viewer}
use Rattle.rfb_viewer.specs.Model.{StandsFor as ViewerStandsFor, viewing_with}
use Rattle.rfb_session.specs.declared.event.Event.{Event}
use Rattle.rfb_session.specs.declared.event.Event.TheVariants.{ToServer, ToViewer}
use Rattle.rfb_session.specs.declared.told.Told.{Told}
use Rattle.rfb_session.specs.declared.world.World.{World}
use Rattle.rfb_session.specs.Link.{Ends}
use Rattle.rfb_session.specs.Network.{Network, StepsAll}
use Rattle.rfb_session.specs.World.{AreFresh, Does, Reaches}
use Rattle.rfb_session.specs.InFlight.{AreMade}
use Rattle.rfb_session.proofs.NetworkLaws.{first_reached, headline_holds}
use Rattle.rfb_session.proofs.RunLaws.{Any, neither_failed, reached_more, run_more, run_none}
use Rattle.rfb.specs.declared.script.line.Numbered.{Numbered}
use Rattle.rfb_session.specs.declared.language.screen.Screen.{Screen as Size}
use Rattle.rfb.specs.declared.script.line.Wants.{Wants}
use Rattle.rfb.specs.ScriptRun.{IsPlayed, StandsFresh, TakesStep, all_events, deliveries, encodings_of, ends_of}
use Rattle.rfb.specs.ScriptRun.{events_of, first_of, format_of}

steps_append : (e : Ends) (a b c : Network) (xs ys : List Event) → StepsAll e a xs b →
    StepsAll e b ys c → StepsAll e a (xs ++ ys) c
steps_append e a b c [] ys is steps = subst (λ (n : Network). StepsAll e n ys c) is steps
steps_append e a b c (event ∷ xs) ys (mid, one, more) steps = (mid, one, steps_append e mid b c xs ys more steps)

-- a run after a run
pub runs_append : (old mid new : World) (xs ys : List Event) → Reaches old xs mid Any → Reaches mid ys new Any →
    Reaches old (xs ++ ys) new Any
runs_append old mid new xs ys first second = λ e n made reached stands.
    let one = first e n made reached stands in
    let two = second e one.0 made (reached_more e n one.0 xs reached one.1) one.2 in
    (two.0, steps_append e n one.0 two.0 xs ys one.1 two.1, two.2, tt)

-- one event
pub one_event : (old new : World) (event : Event) (told : Told) → Does old event told new →
    Reaches old (event ∷ []) new Any
one_event old new event told does = run_more old old new [] event told (run_none old) does

-- one turn more
pub deliveries_more : (n : ℕ) → deliveries n ++ (ToServer 4294967295 ∷ ToViewer 4294967295 ∷ []) ≡ deliveries (suc n)
deliveries_more zero = refl
deliveries_more (suc n) = ap (λ (l : List Event). ToServer 4294967295 ∷ ToViewer 4294967295 ∷ l) (deliveries_more n)

-- a run, and one turn after it
pub turn_more : (n : ℕ) (old mid new : World) (turn : List Event) → turn ≡ ToServer 4294967295 ∷ ToViewer 4294967295
    ∷ [] → Reaches old (deliveries n) mid Any → Reaches mid turn new Any → Reaches old (deliveries (n + 1)) new Any
turn_more n old mid new turn is first second =
    subst (λ (events : List Event). Reaches old events new Any)
    (ap (λ (l : List Event). deliveries n ++ l) is ∙ deliveries_more n ∙ ap (λ (k : ℕ). deliveries k) next)
    (runs_append old mid new (deliveries n) turn first second)
  where
    next : suc n ≡ n + 1
    next = omega arith

-- eight turns
pub eight_turns : (n : ℕ) (old new : World) → n ≡ 8 → Reaches old (deliveries n) new Any →
    Reaches old (deliveries 8) new Any
eight_turns n old new is runs = subst (λ (k : ℕ). Reaches old (deliveries k) new Any) is runs

-- one step more
pub all_more : (steps : List Numbered) (step : Numbered) →
    all_events (steps ++ step ∷ []) ≡ all_events steps ++ events_of step.step
all_more steps step = sym (flat_map_more (λ (s : Numbered). events_of s.step) [] steps step)

-- after all steps
pub is_played : (size : Size) (wants : Option Wants) (steps : List Numbered) (first world : World) →
    StandsFresh size wants first → Reaches first (all_events steps) world Any → AreMade (ends_of size wants) →
    IsPlayed size wants steps world
is_played size wants steps first world fresh runs made =
    let e = ends_of size wants in
    let screen = uniform size.width size.height black in
    let reached = first_reached e screen (width-uniform size.width size.height black)
    (height-uniform size.width size.height black) in
    let one = runs e (first_of size wants) made reached fresh in (
      one.0,
      one.1,
      one.2,
      neither_failed e world one.0 one.2,
      headline_holds e one.0 (reached_more e (first_of size wants) one.0 (all_events steps) reached one.1),
    )

-- a run, and one step after it
pub step_more : (first mid new : World) (steps more : List Numbered) (step : Numbered) → more ≡ steps ++ step ∷ [] →
    Reaches first (all_events steps) mid Any → TakesStep mid step.step new → Reaches first (all_events more) new Any
step_more first mid new steps more step is runs takes =
    subst (λ (events : List Event). Reaches first events new Any) (sym (ap (λ (l : List Numbered). all_events l) is
    ∙ all_more steps step)) (runs_append first mid new (all_events steps) (events_of step.step) runs takes)

-- both ends are fresh
pub fresh_ends : (size : Size) (wants : Option Wants) (server : Server) (viewer : Viewer) (form : PixelFormat)
    (encodings : List Encoding) → form ≡ format_of wants → encodings ≡ encodings_of wants
    → ServerStandsFor (ends_of size wants).serving server (first_server (ends_of size wants).serving) [] →
    ViewerStandsFor (viewing_with form encodings V38 true 16777216 1024) viewer first_viewer []
    → AreFresh (ends_of size wants) server viewer (uniform size.width size.height black)
fresh_ends size wants server viewer form encodings same listed server_is viewer_is = record {
  width = width-uniform size.width size.height black;
  height = height-uniform size.width size.height black;
  server_is = server_is;
  viewer_is = subst (λ (xs : List Encoding). ViewerStandsFor (viewing_with (format_of wants) xs V38 true 16777216 1024)
      viewer first_viewer []) listed
      (subst (λ (f : PixelFormat). ViewerStandsFor (viewing_with f encodings V38 true 16777216 1024) viewer
      first_viewer []) same viewer_is);
}

-- what two facts of a good answer say together
pub on_ok_both : {A E : Type 0} (P Q R : Type 0) (r : Result A E) → (P → Q → R) → OnOk r P → OnOk r Q → OnOk r R
on_ok_both P Q R (Ok a) both p q = both p q
on_ok_both P Q R (Err e) both p q = tt
