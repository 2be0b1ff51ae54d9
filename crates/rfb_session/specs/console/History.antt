-- What becomes of a console over many events. Its owner's bytes are lines, and each is obeyed once. What a seat has had
-- is the life of its session. Lines wait and leave in the order in which they were added.
use Rattle.std.specs.Prelude.{◌≡◌, ◌==◌, ℕ, Bool, true, false, cond, length, drop}
use Rattle.std.specs.Prelude.{List, [], ◌∷◌, ◌++◌, Option, Some, None}
use Rattle.rfb_server.specs.Server.{Serving}
use Rattle.rfb_session.specs.declared.console.Console.{Console}
use Rattle.rfb_session.specs.declared.console.desk.Desk.{Desk}
use Rattle.rfb_session.specs.declared.console.plan.Rules.{Rules}
use Rattle.rfb_session.specs.declared.language.screen.Screen.{Screen as Size}
use Rattle.rfb_session.specs.declared.owner.order.Order.{Order}
use Rattle.rfb_session.specs.doors.Events.{Received, Turned, came, left, left_by}
use Rattle.rfb_session.specs.doors.Tenants.{Happening, Told, Opened, Declined, events_in, Meets, Goes}
use Rattle.rfb_session.specs.owner.Reader.{ComesTo, Ends, known_after}
use Rattle.rfb_session.specs.Share.{seat_in}
use Rattle.rfb_session.specs.ShareLives.{LivesAt}
use Rattle.rfb_session.specs.console.Console.{Steps, OpensAs, DeclinesAs, Obeys, lines_on}

-- ---- the owner's bytes

-- a text spells these orders, one after the other, each by its line, and after the last of them there is this
-- part of one
pub data Reads : Option Size → List ℕ → List Order → List ℕ → Type 0 where
  Part : {known : Option Size} {rest : List ℕ} → Reads known rest [] rest
  Line : {known : Option Size} {text more rest : List ℕ} {order : Order} {orders : List Order} →
      Ends known text order → Reads (known_after known (Some order)) more orders rest →
      Reads known (text ++ more) (order ∷ orders) rest

-- what is done at a desk: an order of its owner's is obeyed, or something else happens to the console
pub data Deed : Type 0 where
  Obeyed : (order : Order) → Deed
  Met : (happening : Happening) → Deed

abbrev pub orders_in : List Deed → List Order
orders_in [] = []
orders_in (Obeyed order ∷ deeds) = order ∷ orders_in deeds
orders_in (Met happening ∷ deeds) = orders_in deeds

abbrev pub happenings_in : List Deed → List Happening
happenings_in [] = []
happenings_in (Obeyed order ∷ deeds) = happenings_in deeds
happenings_in (Met happening ∷ deeds) = happening ∷ happenings_in deeds

-- all that happens but that bytes of the owner's come
abbrev pub is_owners : Happening → Bool
is_owners (Told (Received door bytes)) = door == 0
is_owners happening = false

abbrev pub but_owners : List Happening → List Happening
but_owners [] = []
but_owners (happening ∷ more) = cond (is_owners happening) (but_owners more) (happening ∷ but_owners more)

module _ {S : Type 0} where
  -- one thing happens to a console
  abbrev pub Happens : Console S → Happening → Console S → Type 0
  Happens old happening new = Meets Steps OpensAs DeclinesAs old happening new

  -- these happen to it, one after the other, and nothing else does
  abbrev pub Lasts : Console S → List Happening → Console S → Type 0
  Lasts old happenings new = Goes Steps OpensAs DeclinesAs old happenings new

  -- of the owner's bytes this has come of a line; and there is no desk before one has said its size
  pub record HasRead (console : Console S) (part : List ℕ) : Type 0 where
    pub stands : ComesTo console.reader.screen part console.reader.stage
    pub known : console.reader.screen ≡ None → console.desk ≡ None

module _ (S : Type 0) where
  -- a deed changes a desk as it does at a console that goes on
  abbrev pub DoesDeed : List ℕ → Rules → Option Desk → Deed → Option Desk → Type 0
  DoesDeed name rules old (Obeyed order) new = Obeys name rules order old None new None
  DoesDeed name rules old (Met happening) new =
      (a : Console S) × (b : Console S) × (a.desk ≡ old) × (b.desk ≡ new) × (b.outcome ≡ None)
      × Happens a happening b

  abbrev pub DoesAll : List ℕ → Rules → Option Desk → List Deed → Option Desk → Type 0
  DoesAll name rules old [] new = new ≡ old
  DoesAll name rules old (deed ∷ deeds) new =
      (mid : Option Desk) × DoesDeed name rules old deed mid × DoesAll name rules mid deeds new

module _ {S : Type 0} where
  -- the owner's bytes, however they came, are orders by the lines that they spell. Each is obeyed, in order and once.
  -- Beside that only what else happens acts on the desk
  pub record IsObeyed (old : Console S) (part : List ℕ) (happenings : List Happening) (new : Console S)
      : Type 0 where
    pub deeds : List Deed
    pub rest : List ℕ
    pub reads : Reads old.reader.screen (part ++ came 0 (events_in happenings)) (orders_in deeds) rest
    pub stands : HasRead new rest
    pub others : happenings_in deeds ≡ but_owners happenings
    pub does : DoesAll S old.name.items old.rules old.desk deeds new.desk

-- ---- turns

abbrev pub is_turn : Happening → Bool
is_turn (Told (Turned now)) = true
is_turn happening = false

-- where there is a desk it stays, and with it the seat that is first in its next turn
abbrev pub KeepsFirst : Option Desk → Option Desk → Type 0
KeepsFirst None new = Unit {0}
KeepsFirst (Some old) None = ⊥
KeepsFirst (Some old) (Some new) = new.first ≡ old.first

-- ---- a seat's bytes

-- the seat of number k has lived so, where there is a desk; or nobody has it
abbrev pub SeatLives : Serving → Option Desk → ℕ → List ℕ → List ℕ → Type 0
SeatLives serving None k heard taken = ⊥
SeatLives serving (Some desk) k heard taken = LivesAt serving desk.share k heard taken

abbrev pub IsEmptySeat : Option Desk → ℕ → Type 0
IsEmptySeat None k = Unit {0}
IsEmptySeat (Some desk) k = seat_in desk.share k ≡ None

-- ---- lines

-- the bytes that left at a door by what happened
abbrev pub left_in : ℕ → Happening → List ℕ
left_in d (Told event) = left_by d event
left_in d (Opened door from) = []
left_in d (Declined from) = []

abbrev pub joined : List (List ℕ) → List ℕ
joined [] = []
joined (text ∷ texts) = text ++ joined texts

module _ {S : Type 0} where
  -- what is told of each thing that happens waits after what waited then
  abbrev pub TellsEach : Console S → List Happening → List (List ℕ) → Console S → Type 0
  TellsEach old [] [] new = new ≡ old
  TellsEach old (happening ∷ happenings) (text ∷ texts) new =
      (mid : Console S) × Happens old happening mid
      × (lines_on mid.desk ≡ drop (length (left_in 9 happening)) (lines_on old.desk) ++ text)
      × TellsEach mid happenings texts new
  TellsEach old happenings texts new = ⊥

  -- what left at the owner's lines, and what waits there, is what waited and what was told, in order
  pub record TellsAll (old : Console S) (happenings : List Happening) (new : Console S) : Type 0 where
    pub texts : List (List ℕ)
    pub each : TellsEach old happenings texts new
    pub order : left 9 (events_in happenings) ++ lines_on new.desk ≡ lines_on old.desk ++ joined texts
