-- What an event makes of a world, from what it makes of the screen and the link.
use Rattle.std.proofs.Common.{◌≡◌, false, ◌⊎◌, inl, inr, Result, Ok, Err, IfOk, IsOk, sym, subst}
use Rattle.rfb_pixel.specs.declared.colour.Colour.{Colour}
use Rattle.rfb_picture.specs.Grid.{Grid}
use Rattle.rfb_server.specs.Composition.{IsDue}
use Rattle.rfb_server.specs.Strokes.{Stroke, IsInside}
use Rattle.rfb_viewer.specs.declared.call.Call.{Call}
use Rattle.rfb_session.specs.declared.event.Event.{Event}
use Rattle.rfb_session.specs.declared.event.Event.TheVariants.{Compose}
use Rattle.rfb_session.specs.declared.told.NoMemory.{NoMemory}
use Rattle.rfb_session.specs.declared.told.Told.{Told}
use Rattle.rfb_session.specs.declared.world.World.{World}
use Rattle.rfb_session.specs.Link.{Ends, server_of}
use Rattle.rfb_session.specs.LinkCalls.{DoesCall, CallsOnBytes, IsRefusedCall}
use Rattle.rfb_session.specs.LinkBytes.{ActsOnBytes}
use Rattle.rfb_session.specs.LinkModel.{Arrives, LinkStandsFor, LinkDoesOver, LosesOn, ComposesNothingOver}
use Rattle.rfb_session.specs.Network.{Network, Steps, Strokes}
use Rattle.rfb_session.specs.Told.{RefusesUnless, Tells, TellsAlone}
use Rattle.rfb_session.specs.World.{Acts, HintsAs, DrawsWorld, IsDrawing, IsRefused, IsLost, ComposesNothing, hints_in}
use Rattle.rfb_session.specs.ends.WorldStep.{Happens, TakesNoMemory}
use Rattle.rfb_session.proofs.EventCallLemmas.{IsEventOf, does_event, refused_event}
use Rattle.rfb_session.proofs.WorldLemmas.{link_does, link_does_over}

-- ---- drawings

-- an event that is one: it is known by what it does, since its name would name a vector
pub drawing_happens : (old new : World) (event this : Event) (told : Told) (s : Stroke) → event ≡ this →
    DrawsWorld old s told new →
    ((e : Ends) (n m : Network) → Strokes s n m → Steps e n this m) →
    ((e : Ends) (n : Network) → RefusesUnless (IsInside n.screen s) told.refused → Tells e n this told) →
    Acts old this told new → TellsAlone this told → LosesOn old.link this told new.link →
    HintsAs old this told new → Happens old event told new
drawing_happens old new event this told s is draws steps tells acts alone loses hints =
    subst (λ (ev : Event). Happens old ev told new) (sym is)
    (record {
      does = λ e n made reached stands.
          let one = draws.does e n stands in
          (one.0, steps e n one.0 one.1, tells e n one.2, one.3);
      acts = acts;
      tells = alone;
      lost = record { link = loses; closed = draws.closed };
      hints = hints;
    })

-- ---- events of the link

-- bytes that arrive
pub arrived_happens : (old new : World) (event this : Event) (result : Result Told NoMemory) →
    event ≡ this → IfOk result (λ told. Arrives old.link this told new.link) →
    ((told : Told) → ActsOnBytes old.link this told new.link → Acts old this told new) →
    ((told : Told) → HintsAs old this told new) → new.screen ≡ old.screen → new.closed ≡ old.closed →
    IfOk result (λ told. Happens old event told new)
arrived_happens old new event this (Ok told) is arrives acts hints screens closed =
    subst (λ (ev : Event). Happens old ev told new) (sym is)
    (record {
      does = link_does old new this told arrives.does screens closed;
      acts = acts told arrives.bytes;
      tells = arrives.tells;
      lost = record { link = arrives.lost; closed = closed };
      hints = hints told;
    })
arrived_happens old new event this (Err error) is arrives acts hints screens closed = tt

-- a call of the viewer's
pub call_happens : (old new : World) (event this : Event) (call : Call)
    (result : Result Told NoMemory) → event ≡ this → IsEventOf this call →
    IfOk result (λ told. DoesCall old.link call told new.link) →
    IfOk result (λ told. CallsOnBytes old.link call told new.link) →
    IfOk result (λ told. (told.moved ≡ 0) × (told.composed ≡ false)) → hints_in new ≡ hints_in old →
    new.screen ≡ old.screen → new.closed ≡ old.closed →
    IfOk result (λ told. Happens old event told new)
call_happens old new event this call (Ok told) is of does bytes tells hints screens closed =
    subst (λ (ev : Event). Happens old ev told new) (sym is)
    (record {
      does = link_does old new this told (does_event this call old.link told new.link of tells does)
          screens closed;
      acts = of.only.world_acts old told new screens (of.acts old.link told new.link bytes);
      tells = of.only.tells told tells;
      lost = record { link = of.only.lost old.link told new.link; closed = closed };
      hints = of.only.world_hints old told new hints;
    })
call_happens old new event this call (Err error) is of does bytes tells hints screens closed = tt

-- a composing
pub composed_happens : (old new : World) (event : Event) (result : Result Told NoMemory) →
    event ≡ Compose → IfOk result (λ told. LinkDoesOver old.screen old.link Compose told new.link) →
    IfOk result (λ told. Acts old Compose told new) →
    IfOk result (λ told. TellsAlone Compose told) →
    IfOk result (λ told. HintsAs old Compose told new) → new.screen ≡ old.screen →
    new.closed ≡ old.closed → IfOk result (λ told. Happens old event told new)
composed_happens old new event (Ok told) is does acts tells hints screens closed =
    subst (λ (ev : Event). Happens old ev told new) (sym is)
    (record {
      does = link_does_over old new Compose told does screens closed;
      acts = acts;
      tells = tells;
      lost = record { link = tt; closed = closed };
      hints = hints;
    })
composed_happens old new event (Err error) is does acts tells hints screens closed = tt

pub any_ok : {A E : Type 0} (P : A → Type 0) (result : Result A E) → ((x : A) → P x) → IfOk result P
any_ok P (Ok x) all = all x
any_ok P (Err error) all = tt

-- ---- where memory is not wanting

pub is_sure : (world : World) (event this : Event) (result : Result Told NoMemory) → event ≡ this →
    (IsDrawing this → IsOk result) → (IsRefused world this → IsOk result) →
    (IsLost world this → IsOk result) → (ComposesNothing world this → IsOk result) →
    TakesNoMemory world event → IsOk result
is_sure world event this result is draws refuses loses composes free =
    by (subst (λ (ev : Event). TakesNoMemory world ev) is free).case
  where
    by : IsDrawing this ⊎ (IsRefused world this ⊎ (IsLost world this ⊎ ComposesNothing world this)) → IsOk result
    by (inl drawing) = draws drawing
    by (inr (inl refused)) = refuses refused
    by (inr (inr (inl lost))) = loses lost
    by (inr (inr (inr none))) = composes none

-- a call that is refused
pub call_is_sure : (world : World) (event this : Event) (call : Call)
    (result : Result Told NoMemory) → event ≡ this → IsEventOf this call →
    (IsRefusedCall world.link call → IsOk result) → TakesNoMemory world event → IsOk result
call_is_sure world event this call result is of spared =
    is_sure world event this result is (λ drawing. absurd (of.only.no_drawing drawing))
    (λ refused. spared (refused_event this call world.link of
    (refused.0, refused.1, refused.2, refused.3, refused.4.link_is, refused.5)))
    (λ lost. absurd (of.only.not_lost world.link lost)) (λ none. absurd (of.only.not_composing world none))

-- where a world composes nothing, its link composes nothing over its screen
pub nothing_over : (world : World) → ComposesNothing world Compose → ComposesNothingOver world.screen world.link
nothing_over world (e, n, stands, none) = (
  e,
  n.link,
  subst (λ (g : Grid Colour). LinkStandsFor e g world.link n.link) stands.screen_is stands.link_is,
  subst (λ (g : Grid Colour). IsDue (server_of g n.link.session) → ⊥) stands.screen_is none,
)
