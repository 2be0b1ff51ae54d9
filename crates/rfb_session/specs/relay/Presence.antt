-- Whether the server of a relay is there.
use Rattle.std.specs.Prelude.{ℕ, Bool, true, false, Option, Some, None, nat_le, cond}
use Rattle.rfb_wire.specs.stream.FaultPlace.{counted_on}
use Rattle.rfb_session.specs.declared.relay.presence.Presence.{Presence}
use Rattle.rfb_session.specs.declared.relay.presence.Presence.TheVariants.{Coming, Shown, Gone}
use Rattle.rfb_session.specs.declared.relay.presence.Recall.{Recall}
use Rattle.rfb_session.specs.declared.relay.presence.Recall.TheVariants.{Unplanned, At, Due}
use Rattle.rfb_session.specs.console.Time.{IsBy}

-- it has gone away
abbrev pub is_gone : Presence → Bool
is_gone Coming = false
is_gone Shown = false
is_gone (Gone how recall) = true

-- its picture is shown
abbrev pub is_shown : Presence → Bool
is_shown Coming = false
is_shown Shown = true
is_shown (Gone how recall) = false

-- it is to be called now
abbrev pub is_now : Recall → Bool
is_now Unplanned = false
is_now (At time) = false
is_now (Due time) = true

abbrev pub is_called : Presence → Bool
is_called Coming = false
is_called Shown = false
is_called (Gone how recall) = is_now recall

-- the time at which it is to be called, as far as it is known; it may have come
abbrev pub recall_time : Recall → Option ℕ
recall_time Unplanned = None
recall_time (At time) = Some time
recall_time (Due time) = Some time

abbrev pub call_time : Presence → Option ℕ
call_time Coming = None
call_time Shown = None
call_time (Gone how recall) = recall_time recall

-- at a time, where there is such a pause before each call: one for which nobody came is made again
abbrev pub recall_planned : ℕ → ℕ → Recall → Recall
recall_planned now pause Unplanned = At (counted_on now pause)
recall_planned now pause (At time) = cond (nat_le time now) (Due time) (At time)
recall_planned now pause (Due time) = At (counted_on now pause)

abbrev pub planned : ℕ → ℕ → Presence → Presence
planned now pause Coming = Coming
planned now pause Shown = Shown
planned now pause (Gone how recall) = Gone how (recall_planned now pause recall)

-- the next turn is wanted when it is to be called
abbrev pub WakesToCall : Option ℕ → Option ℕ → Type 0
WakesToCall None next = Unit {0}
WakesToCall (Some time) next = IsBy time next
