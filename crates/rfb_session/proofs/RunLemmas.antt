-- Runs of a world: step after step, and what holds after them.
use Rattle.std.proofs.Common.{◌≡◌, ℕ, ◌+◌, ◌<◌, List, [], ◌∷◌, ◌++◌, length, get_or, take}
use Rattle.std.proofs.Common.{refl, sym, ap, ◌∙◌, subst}
use Rattle.std.proofs.lemmas.List.{take_more}
use Rattle.rfb_server.proofs.ServerLaws.{session_going}
use Rattle.rfb_viewer.proofs.ViewerLaws.{viewer_going}
use Rattle.rfb_session.specs.declared.event.Event.{Event}
use Rattle.rfb_session.specs.declared.told.Told.{Told}
use Rattle.rfb_session.specs.declared.world.World.{World}
use Rattle.rfb_session.specs.Link.{Ends}
use Rattle.rfb_session.specs.Network.{Network, StepsAll, IsReached}
use Rattle.rfb_session.specs.World.{StandsFor, Does, Reaches, NeitherFailed}
use Rattle.rfb_session.proofs.WorldLemmas.{reached_step, steps_last}

-- the first items of a list, and one item more
pub item_taken : {A : Type 0} (items : List A) (i : ℕ) (item : A) → i < length items →
    item ≡ get_or items i item → take (i + 1) items ≡ take i items ++ item ∷ []
item_taken {A} items i item within is =
    take_more items i item within ∙ ap (λ (x : A). take i items ++ x ∷ []) (sym is)

-- a network, and nothing said of it
abbrev pub Any : Ends → Network → Type 0
Any e n = Unit {0}

pub reached_more : (e : Ends) (n m : Network) (events : List Event) → IsReached e n →
    StepsAll e n events m → IsReached e m
reached_more e n m [] r is = subst (λ (x : Network). IsReached e x) (sym is) r
reached_more e n m (event ∷ events) r (mid, one, more) =
    reached_more e mid m events (reached_step e n mid event r one) more

pub run_none : (w : World) → Reaches w [] w Any
run_none w = λ e n made reached stands. (n, refl, stands, tt)

pub run_more : (old mid new : World) (events : List Event) (event : Event) (told : Told) →
    Reaches old events mid Any → Does mid event told new → Reaches old (events ++ event ∷ []) new Any
run_more old mid new events event told runs does = λ e n made reached stands.
    let one = runs e n made reached stands in
    let two = does e one.0 made (reached_more e n one.0 events reached one.1) one.2 in
    (two.0, steps_last e n one.0 two.0 events event one.1 two.1, two.3, tt)

-- a world that stands for a network has not failed
pub neither_failed : (e : Ends) (w : World) (n : Network) → StandsFor e w n → NeitherFailed w
neither_failed e w n stands = (
  session_going e.serving n.screen w.link.session _ _ stands.link_is.carries.server_is,
  viewer_going e.viewing w.link.viewer _ _ stands.link_is.carries.viewer_is,
)

-- what holds of all that is reached holds after a run
pub run_holds : (old new : World) (events : List Event) (Holds : Ends → Network → Type 0) →
    ((e : Ends) (m : Network) → IsReached e m → StandsFor e new m → Holds e m) →
    Reaches old events new Any → Reaches old events new Holds
run_holds old new events Holds holds runs = λ e n made reached stands.
    let one = runs e n made reached stands in
    (one.0, one.1, one.2, holds e one.0 (reached_more e n one.0 events reached one.1) one.2)
