-- What calls on a `Session` change of it.
use Rattle.std.specs.Prelude.{◌≡◌, ℕ, zero, suc, ◌<◌, Bool, List, [], true, false, None}
use Rattle.rfb_pixel.specs.declared.colour.Colour.{Colour}
use Rattle.rfb_pixel.specs.Format.{PixelFormat}
use Rattle.rfb_picture.specs.declared.rect.Rect.{Rect}
use Rattle.rfb_picture.specs.Grid.{Grid, filled}
use Rattle.rfb_picture.specs.Area.{added}
use Rattle.rfb_wire.specs.declared.encoding.Encoding.{Encoding}
use Rattle.rfb_codec.specs.Effect.{IsAlike}
use Rattle.rfb_picture.specs.Box.{is_in}
use Rattle.rfb_hello.specs.ServerEnd.{as_reply}
use Rattle.rfb_hello.specs.ServerModel.{setup_of, is_open}
use Rattle.rfb_server.specs.Record.{forgotten, KeepsOrForgets}
use Rattle.rfb_server.specs.Claims.{IsClaimed}
use Rattle.rfb_server.specs.KnownScreen.{IsCaughtUp}
use Rattle.rfb_server.specs.Hints.{with_hint}
use Rattle.rfb_server.specs.declared.hint.Hint.{Hint}
use Rattle.rfb_server.specs.declared.session.Session.{Session}
use Rattle.rfb_server.specs.declared.session.input.progress.Progress.{Progress}
use Rattle.rfb_server.specs.declared.session.input.progress.Progress.TheVariants.{Handshake, Head, Encodings}

-- what the viewer and the owner set, and where the client's bytes are, is as it was
pub record KeepsSetting (old new : Session) : Type 0 where
  pub hello : new.hello ≡ old.hello
  pub progress : new.progress ≡ old.progress
  pub text_limit : new.text_limit ≡ old.text_limit
  pub format : new.format ≡ old.format
  pub encodings : new.encodings ≡ old.encodings

-- all but marks, hints and the claim is as it was
pub record IsSame (old new : Session) : Type 0 where
  pub setting : KeepsSetting old new
  pub known : new.known ≡ old.known
  pub area : new.area ≡ old.area

-- each place is marked
abbrev pub IsUnseen : Session → Type 0
IsUnseen session = (x y : ℕ) → x < session.known.width → y < session.known.height →
    is_in session.marks x y ≡ true

-- the rectangle is marked too
pub record IsMarked (rect : Rect) (old new : Session) : Type 0 where
  pub same : IsSame old new
  pub hints : new.hints ≡ old.hints
  pub marks : new.marks ≡ filled rect true old.marks
  pub claim : new.claim ≡ old.claim

-- there is one hint more, of at most sixteen
pub record IsHinted (hint : Hint) (old new : Session) : Type 0 where
  pub same : IsSame old new
  pub marks : new.marks ≡ old.marks
  pub hints : new.hints.items ≡ with_hint hint old.hints.items
  pub claim : new.claim ≡ old.claim

-- all but the handshake, the progress and the list of encodings is as it was
pub record KeepsRest (old new : Session) : Type 0 where
  pub text_limit : new.text_limit ≡ old.text_limit
  pub format : new.format ≡ old.format
  pub known : new.known ≡ old.known
  pub area : new.area ≡ old.area
  pub marks : new.marks ≡ old.marks
  pub hints : new.hints ≡ old.hints
  pub claim : new.claim ≡ old.claim

-- the handshake's end was fed, and its progress is the session's: while it goes on the session is
-- in the handshake, and once it is done between two messages
pub record IsGreeted (old new : Session) : Type 0 where
  pub setup : setup_of new.hello ≡ setup_of old.hello
  pub goes : is_open new.hello ≡ true → new.progress ≡ Handshake
  pub done : is_open new.hello ≡ false → new.progress ≡ Head (as_reply [])
  pub encodings : new.encodings ≡ old.encodings
  pub rest : KeepsRest old new

-- a message comes next
pub record BeginsMessage (old new : Session) : Type 0 where
  pub hello : new.hello ≡ old.hello
  pub progress : new.progress ≡ Head (as_reply [])
  pub encodings : new.encodings ≡ old.encodings
  pub rest : KeepsRest old new

-- that many numbers of a list come next. Without any the list is whole, with no encoding
abbrev pub progress_of_list : ℕ → Progress
progress_of_list zero = Head (as_reply [])
progress_of_list (suc n) = Encodings (suc n) (as_reply []) []

-- the list of a session, where that many numbers of a new one come next
abbrev pub encodings_after : ℕ → List Encoding → List Encoding
encodings_after zero list = []
encodings_after (suc n) list = list

-- a list of `count` numbers begins
pub record BeginsList (count : ℕ) (old new : Session) : Type 0 where
  pub hello : new.hello ≡ old.hello
  pub progress : new.progress ≡ progress_of_list count
  pub encodings : new.encodings ≡ encodings_after count old.encodings
  pub rest : KeepsRest old new

-- whatever the screen looks like, a session that had caught up with it still has
abbrev pub StaysCaughtUp : Session → Session → Type 0
StaysCaughtUp old new =
    (screen : Grid Colour) → IsAlike screen old.known →
    IsCaughtUp screen old.known old.area old.format old.marks →
    IsCaughtUp screen new.known new.area new.format new.marks

-- whatever the screen looks like, what a session claimed of it is true still
abbrev pub StaysClaimed : Session → Session → Type 0
StaysClaimed old new = (screen : Grid Colour) →
    IsClaimed screen old.known old.format old.claim →
    IsClaimed screen new.known new.format new.claim

-- whatever it is fed, a session keeps what it was made with, its places and its hints, that it had
-- caught up, and what it claims; what is known of its places it keeps or forgets
pub record KeepsUp (old new : Session) : Type 0 where
  pub setup : setup_of new.hello ≡ setup_of old.hello
  pub text_limit : new.text_limit ≡ old.text_limit
  pub columns : new.known.width ≡ old.known.width
  pub rows : new.known.height ≡ old.known.height
  pub hints : new.hints ≡ old.hints
  pub known : KeepsOrForgets old.known new.known
  pub caught_up : StaysCaughtUp old new
  pub claimed : StaysClaimed old new

-- the rectangle's places were asked for, and whole if that was asked
pub record IsAskedFor (rect : Rect) (whole : Bool) (old new : Session) : Type 0 where
  pub setting : KeepsSetting old new
  pub known : new.known ≡ old.known
  pub hints : new.hints ≡ old.hints
  pub area : new.area ≡ added rect whole old.area
  pub claim : new.claim ≡ old.claim

-- updates are sent in that format, and nothing is known that was sent
pub record HasFormat (form : PixelFormat) (old new : Session) : Type 0 where
  pub hello : new.hello ≡ old.hello
  pub progress : new.progress ≡ old.progress
  pub text_limit : new.text_limit ≡ old.text_limit
  pub format : new.format ≡ form
  pub encodings : new.encodings ≡ old.encodings
  pub known : new.known ≡ forgotten old.known
  pub hints : new.hints ≡ old.hints
  pub area : new.area ≡ old.area
  pub claim : new.claim ≡ None
