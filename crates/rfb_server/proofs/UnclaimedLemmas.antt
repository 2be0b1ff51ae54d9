-- A session whose claim is put aside while an update is made.
use Rattle.std.proofs.Common.{◌≡◌, ℕ, Bool, true, false, List, Option, None}
use Rattle.rfb_pixel.specs.declared.colour.Colour.{Colour}
use Rattle.rfb_picture.specs.Grid.{Grid}
use Rattle.rfb_server.specs.declared.session.Session.{Session}
use Rattle.rfb_server.specs.KnownScreen.{Follows}
use Rattle.rfb_server.specs.update.Sends.{IsEnough, AreLimits}
use Rattle.rfb_server.specs.declared.claim.Claim.{Claim}
use Rattle.rfb_server.specs.declared.hint.Hint.{Hint}
use Rattle.rfb_server.specs.Claims.{IsClaimed}
use Rattle.rfb_server.specs.update.Copies.{SendsHint, FollowsHint}
use Rattle.rfb_server.proofs.ClaimLemmas.{nothing_claimed}

-- it follows what it did
pub follows_unclaimed : (screen : Grid Colour) (old new : Session) → new.known ≡ old.known → new.area ≡ old.area →
    new.format ≡ old.format → new.marks ≡ old.marks → new.hints ≡ old.hints → new.claim ≡ None →
    Follows screen old → Follows screen new
follows_unclaimed screen old new known area form marks hints claim follows = record {
  whole = follows.whole;
  alike = rw known follows.alike;
  caught_up = rw (known, area, form, marks) follows.caught_up;
  claimed = nothing_claimed screen new.known new.format new.claim claim;
}

-- what is enough room, and which cells may need sending, is not said of a claim
pub enough_unclaimed : (old new : Session) (across n room : ℕ) → new.known ≡ old.known → new.area ≡ old.area →
    new.format ≡ old.format → new.marks ≡ old.marks → IsEnough old across n room → IsEnough new across n room
enough_unclaimed old new across n room known area form marks enough = record {
  cost = enough.cost;
  costs = rw (known, area, form, marks) enough.costs;
  sum_is = enough.sum_is;
}

pub limits_unclaimed : (old new : Session) (first end : ℕ) → new.known ≡ old.known → new.area ≡ old.area →
    new.marks ≡ old.marks → AreLimits old first end → AreLimits new first end
limits_unclaimed old new first end known area marks limits = record {
  some = limits.some;
  within = rw known limits.within;
  before = rw (known, area, marks) limits.before;
  after = rw (known, area, marks) limits.after;
}

-- who is sent a hint's copy has what it brings
pub followed : (screen : Grid Colour) (hint : Hint) (old new : Session) (did : Bool) (before after : List ℕ) →
    SendsHint did screen hint old new before after → FollowsHint did screen hint old new
followed screen hint old new true before after sends = let (useful, appends, known) = sends in (useful, known)
followed screen hint old new false before after sends = (sends.0, sends.1)

-- a hint that is not used changes nothing that is known
pub left_known : (screen : Grid Colour) (hint : Hint) (old new : Session) (did : Bool) →
    did ≡ false → FollowsHint did screen hint old new → new.known ≡ old.known
left_known screen hint old new true left follows = let both : true ≡ false = left in absurd (not_both both)
  where
    not_both : true ≡ false → ⊥
    not_both e = cc
left_known screen hint old new false left follows = follows.1

-- what was claimed is claimed still, where what is known is the same
pub claimed_still : (screen : Grid Colour) (old new : Session) (before after : Option Claim) → after ≡ before →
    new.known ≡ old.known → new.format ≡ old.format →
    IsClaimed screen old.known old.format before → IsClaimed screen new.known new.format after
claimed_still screen old new before after same known form claimed = rw (same, known, form) claimed
