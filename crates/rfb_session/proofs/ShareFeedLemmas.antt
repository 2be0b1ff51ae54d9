-- A share whose viewer was fed: what rests, and what its sessions are made with.
use Rattle.std.proofs.Common.{◌≡◌, ◌<◌, ℕ, Bool, true, false, List, length, Option, Some, None, refl}
use Rattle.std.proofs.Common.{sym, subst}
use Rattle.rfb_pixel.specs.declared.colour.Colour.{Colour}
use Rattle.rfb_picture.specs.declared.rect.Rect.{Rect}
use Rattle.rfb_picture.specs.Grid.{Grid, IsGrid}
use Rattle.rfb_picture.specs.Places.{has_bit}
use Rattle.rfb_codec.specs.Effect.{IsAlike}
use Rattle.rfb_viewer.specs.Damage.{IsSameOutside}
use Rattle.rfb_session.specs.declared.share.seat.ShareSeat.{ShareSeat}
use Rattle.rfb_session.specs.ShareWork.{OthersRest}
use Rattle.rfb_session.specs.Slots.{seat_at}
use Rattle.rfb_session.proofs.FollowLemmas.{AllFollow}
use Rattle.rfb_session.proofs.ShareRelayLemmas.{quiet_rests}
use Rattle.rfb_session.proofs.ShareWorkLemmas.{rest_of_all}

-- where each was told of something all may have work; else nothing has changed
pub told_rests : (told : Bool) (before screen : Grid Colour) (damage : Option Rect)
    (old new : List (Option ShareSeat)) (bits later : ℕ) → length new ≡ 8 →
    (told ≡ true → (k : ℕ) → k < 8 → has_bit later k ≡ true) → (told ≡ false → later ≡ bits) →
    (told ≡ false → damage ≡ None) → (told ≡ false → (k : ℕ) → seat_at k new ≡ seat_at k old) →
    AllFollow (λ seat. seat.session) before old → IsGrid screen → IsAlike screen before →
    IsSameOutside damage (Some before) (Some screen) → OthersRest before old bits → OthersRest screen new later
told_rests true before screen damage old new bits later eight all kept none same follow whole alike outside rest =
    rest_of_all screen new later eight (all refl)
told_rests false before screen damage old new bits later eight all kept none same follow whole alike outside rest =
    subst (λ (n : ℕ). OthersRest screen new n) (sym (kept refl))
    (quiet_rests before screen old new bits follow (same refl) whole alike
    (subst (λ (d : Option Rect). IsSameOutside d (Some before) (Some screen)) (none refl) outside) rest)
