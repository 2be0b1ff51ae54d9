-- What an event makes of a world: each fact is a clause of `World::step`.
use Rattle.std.specs.Prelude.{◌⊎◌}
use Rattle.rfb_session.specs.declared.event.Event.{Event}
use Rattle.rfb_session.specs.declared.told.Told.{Told}
use Rattle.rfb_session.specs.declared.world.World.{World}
use Rattle.rfb_session.specs.Told.{TellsAlone}
use Rattle.rfb_session.specs.World.{Does, Acts, LosesAs, HintsAs, IsDrawing, IsRefused, IsLost}
use Rattle.rfb_session.specs.World.{ComposesNothing}

-- all that becomes of it
pub record Happens (old : World) (event : Event) (told : Told) (new : World) : Type 0 where
  pub does : Does old event told new
  pub acts : Acts old event told new
  pub tells : TellsAlone event told
  pub lost : LosesAs old event told new
  pub hints : HintsAs old event told new

-- an event that takes no memory
pub record TakesNoMemory (world : World) (event : Event) : Type 0 where
  pub case : IsDrawing event
      ⊎ (IsRefused world event ⊎ (IsLost world event ⊎ ComposesNothing world event))
