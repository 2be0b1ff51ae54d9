-- Whom a loop asks for, and what it reports of the door that a newcomer gets.
use Rattle.std.specs.Prelude.{◌≡◌, ◌⊎◌, ℕ, Bool, true, false, List, Option, Some, None}
use Rattle.rfb_session.specs.declared.doors.host.Arrival.{Arrival}
use Rattle.rfb_session.specs.doors.Lives.{Opening, Declining}

-- what the arrivals may become when they are asked for a device, which comes or does not
abbrev pub Asking : Type 0 → Type 0 → Type 1
Asking A D = A → Option (Arrival D) → A → Type 0

-- what they may become when they are told the door of the device that came last, if it has one
abbrev pub Seating : Type 0 → Type 1
Seating A = A → Option ℕ → A → Type 0

module _ {A D : Type 0} where
  -- whom the core would have called is called; else the next one is asked for, where a newcomer is welcome; else
  -- nobody is
  abbrev pub AsksFor : Bool → Bool → Asking A D → Asking A D → A → Option (Arrival D) → A → Type 0
  AsksFor true welcome called asked old came new = called old came new
  AsksFor false true called asked old came new = asked old came new
  AsksFor false false called asked old came new = (came ≡ None) × (new ≡ old)

module _ {C A D : Type 0} where
  -- nobody came, and nothing changed; or the arrivals are told which door the newcomer has, or that it has none
  abbrev pub TellsDoor : Opening C → Declining C → Seating A → Option (Arrival D) → C → C → A → A → Type 0
  TellsDoor opens declines placed None old new mid arrivals = (new ≡ old) × (arrivals ≡ mid)
  TellsDoor opens declines placed (Some arrival) old new mid arrivals =
      ((door : ℕ) × (from : List ℕ) × opens old door from new × placed mid (Some door) arrivals)
      ⊎ ((from : List ℕ) × declines old from new × placed mid None arrivals)

  -- so it goes with one newcomer
  pub record LetsIn (calling welcoming : C → Bool) (called asked : Asking A D) (opens : Opening C)
      (declines : Declining C) (placed : Seating A) (old new : C) (before arrivals : A) : Type 0 where
    pub came : Option (Arrival D)
    pub mid : A
    pub asks : AsksFor (calling old) (welcoming old) called asked before came mid
    pub tells : TellsDoor opens declines placed came old new mid arrivals
