-- What a read and a write at a door do to what is known of it: the bytes that reads will give from here on and those
-- that were written, where these are known; and how many failures there were.
use Rattle.std.specs.Prelude.{◌≡◌, ℕ, ◌+◌, ◌<◌, ◌≤◌, List, Option, None, Some, take, length, ⊤, Bool, false}
use Rattle.std.specs.Prelude.{slice_get}
use Rattle.std.specs.Io.KnownBytes.{Appends, Consumes, Keeps, IsAtEnd}
use Rattle.rfb_session.specs.declared.doors.device.Answer.{Answer}
use Rattle.rfb_session.specs.declared.doors.device.Answer.TheVariants.{Moved, Ended, Again, Waits, Failed}

-- no byte went either way, and so many failures are new
pub record Stays (unread unread' written written' : Option (List ℕ)) (failed failed' more : ℕ)
    : Type 0 where
  pub none_came : Keeps unread unread'
  pub none_left : Keeps written written'
  pub count : failed' ≡ failed + more

-- a read gave so many bytes, which are at the front of the buffer
pub record Gave (count : ℕ) (unread unread' written written' : Option (List ℕ))
    (failed failed' : ℕ) (buf : List ℕ) : Type 0 where
  pub some : 0 < count
  pub bound : count ≤ length buf
  pub came : Consumes unread unread' (take count buf)
  pub none_left : Keeps written written'
  pub no_fault : failed' ≡ failed

-- a write took so many bytes from the front of the buffer
pub record Took (count : ℕ) (unread unread' written written' : Option (List ℕ))
    (failed failed' : ℕ) (buf : List ℕ) : Type 0 where
  pub some : 0 < count
  pub bound : count ≤ length buf
  pub none_came : Keeps unread unread'
  pub left : Appends written written' (take count buf)
  pub no_fault : failed' ≡ failed

-- what a read did, by its answer
abbrev pub Gives : Answer → Option (List ℕ) → Option (List ℕ) → Option (List ℕ) → Option (List ℕ) →
    ℕ → ℕ → List ℕ → Type 0
Gives (Moved count) u u' w w' f f' buf = Gave count u u' w w' f f' buf
Gives Ended u u' w w' f f' buf = IsAtEnd u' × Stays u u' w w' f f' 0
Gives Again u u' w w' f f' buf = Stays u u' w w' f f' 0
Gives Waits u u' w w' f f' buf = Stays u u' w w' f f' 0
Gives Failed u u' w w' f f' buf = Stays u u' w w' f f' 1

-- what a write did, by its answer; none of them is an end
abbrev pub Takes : Answer → Option (List ℕ) → Option (List ℕ) → Option (List ℕ) → Option (List ℕ) →
    ℕ → ℕ → List ℕ → Type 0
Takes (Moved count) u u' w w' f f' buf = Took count u u' w w' f f' buf
Takes Ended u u' w w' f f' buf = ⊥
Takes Again u u' w w' f f' buf = Stays u u' w w' f f' 0
Takes Waits u u' w w' f f' buf = Stays u u' w w' f f' 0
Takes Failed u u' w w' f f' buf = Stays u u' w w' f f' 1

-- bytes that were known are all read
abbrev pub HasEnded : Option (List ℕ) → Option (List ℕ) → Type 0
HasEnded None new = ⊤
HasEnded (Some bytes) new = IsAtEnd new

module _ {D : Type 0} where
  -- what is known at a door, or nothing where there is no such door
  abbrev pub known_of : (D → Option (List ℕ)) → Option D → Option (List ℕ)
  known_of known None = None
  known_of known (Some device) = known device

  abbrev pub known_at : (D → Option (List ℕ)) → List D → ℕ → Option (List ℕ)
  known_at known doors d = known_of known (slice_get doors d)

  -- how many failures there were at a door
  abbrev pub number_of : (D → ℕ) → Option D → ℕ
  number_of number None = 0
  number_of number (Some device) = number device

  abbrev pub number_at : (D → ℕ) → List D → ℕ → ℕ
  number_at number doors d = number_of number (slice_get doors d)

  -- whether anything is at a door
  abbrev pub flag_of : (D → Bool) → Option D → Bool
  flag_of flag None = false
  flag_of flag (Some device) = flag device

  abbrev pub flag_at : (D → Bool) → List D → ℕ → Bool
  flag_at flag doors d = flag_of flag (slice_get doors d)
