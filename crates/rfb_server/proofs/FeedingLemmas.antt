-- What a step by bytes of one message is of a server, and what a session keeps at each.
use Rattle.std.proofs.Common.{◌≡◌, ℕ, List, [], ◌++◌, Option, None, Result, Ok, Err, refl, sym, ap, subst, ◌∙◌}
use Rattle.std.proofs.Common.{append-nil}
use Rattle.rfb_pixel.specs.declared.colour.Colour.{Colour}
use Rattle.rfb_pixel.specs.Format.{PixelFormat}
use Rattle.rfb_picture.specs.declared.rect.Rect.{Rect}
use Rattle.std.specs.Prelude.{Bool}
use Rattle.rfb_picture.specs.Grid.{Grid, at_or}
use Rattle.rfb_picture.proofs.GridLaws.{width-uniform, height-uniform}
use Rattle.rfb_wire.specs.stream.Prefix.{Next, More, Got, Bad}
use Rattle.rfb_wire.specs.stream.Parts.{named}
use Rattle.rfb_wire.specs.stream.Sequel.{First, Second}
use Rattle.rfb_wire.specs.stream.End.{Steps, StepsBy}
use Rattle.rfb_wire.specs.ClientMessage.{ClientMessage, ClientFault, SpellsClientMessage, FaultsClientMessage}
use Rattle.rfb_wire.specs.ClientStream.{client_message}
use Rattle.rfb_wire.proofs.ClientStreamLaws.{client_message_reads}
use Rattle.rfb_hello.specs.ServerEnd.{as_reply}
use Rattle.rfb_hello.specs.ServerModel.{setup_of}
use Rattle.rfb_hello.specs.declared.server_hello.ServerHello.{ServerHello}
use Rattle.arrayvec.specs.ArrayVec.{ArrayVec}
use Rattle.rfb_server.specs.declared.fault.ServerFault.{ServerFault}
use Rattle.rfb_server.specs.declared.session.Session.{Session}
use Rattle.rfb_server.specs.declared.session.input.progress.Progress.{Progress}
use Rattle.rfb_server.specs.declared.session.input.progress.Progress.TheVariants.{Head}
use Rattle.rfb_server.specs.Fault.{fault_of_message}
use Rattle.rfb_server.specs.ClientBytes.{ClientAt, FromClient, client_bytes}
use Rattle.rfb_server.specs.Told.{ServerTold, message_told}
use Rattle.rfb_server.specs.Server.{Serving, ServerState, server, serves, message_acts, item_told, AsksMemory}
use Rattle.rfb_server.specs.Progress.{ProgressStandsFor}
use Rattle.rfb_server.specs.Model.{SessionStandsFor}
use Rattle.rfb_server.specs.session.Sessions.{KeepsUp, KeepsRest, StaysCaughtUp, BeginsMessage, BeginsList}
use Rattle.rfb_server.specs.session.Sessions.{IsAskedFor, HasFormat}
use Rattle.rfb_server.proofs.ClaimLemmas.{nothing_claimed}
use Rattle.rfb_server.proofs.RecordLemmas.{none_forgotten}

-- ---- what is kept

-- a session that keeps all but its handshake, its progress and its list has caught up still
pub up_same : (old new : Session) → setup_of new.hello ≡ setup_of old.hello → KeepsRest old new →
    KeepsUp old new
up_same old new setup rest = record {
  setup = setup;
  text_limit = rest.text_limit;
  columns = ap (λ (g : Grid (Option ℕ)). g.width) rest.known;
  rows = ap (λ (g : Grid (Option ℕ)). g.height) rest.known;
  hints = rest.hints;
  known = λ _. rest.known;
  caught_up = λ screen size caught. rw (rest.known, rest.area, rest.format, rest.marks) caught;
  claimed = λ screen claimed. rw (rest.known, rest.format, rest.claim) claimed;
}

pub up_then : (old mid new : Session) → KeepsUp old mid → KeepsUp mid new → KeepsUp old new
up_then old mid new one two = record {
  setup = two.setup ∙ one.setup;
  text_limit = two.text_limit ∙ one.text_limit;
  columns = two.columns ∙ one.columns;
  rows = two.rows ∙ one.rows;
  hints = two.hints ∙ one.hints;
  known = λ some. two.known some
      ∙ one.known (λ none. some (ap (λ (g : Grid (Option ℕ)). at_or g 0 0 None) (two.known some) ∙ none));
  caught_up = λ screen size caught. two.caught_up screen
      (record { columns = size.columns ∙ sym one.columns; rows = size.rows ∙ sym one.rows })
      (one.caught_up screen size caught);
  claimed = λ screen claimed. two.claimed screen (one.claimed screen claimed);
}

pub up_begun : (old new : Session) → BeginsMessage old new → KeepsUp old new
up_begun old new begun = up_same old new (ap setup_of begun.hello) begun.rest

pub up_list : (count : ℕ) (old new : Session) → BeginsList count old new → KeepsUp old new
up_list count old new begun = up_same old new (ap setup_of begun.hello) begun.rest

pub up_asked : (rect : Rect) (whole : Bool) (old new : Session) → IsAskedFor rect whole old new →
    StaysCaughtUp old new → KeepsUp old new
up_asked rect whole old new asked caught = record {
  setup = ap setup_of asked.setting.hello;
  text_limit = asked.setting.text_limit;
  columns = ap (λ (g : Grid (Option ℕ)). g.width) asked.known;
  rows = ap (λ (g : Grid (Option ℕ)). g.height) asked.known;
  hints = asked.hints;
  known = λ _. asked.known;
  caught_up = caught;
  claimed = λ screen claimed. rw (asked.known, asked.setting.format, asked.claim) claimed;
}

pub up_format : (format : PixelFormat) (old new : Session) → HasFormat format old new → StaysCaughtUp old new →
    KeepsUp old new
up_format format old new has caught = record {
  setup = ap setup_of has.hello;
  text_limit = has.text_limit;
  columns = ap (λ (g : Grid (Option ℕ)). g.width) has.known ∙ width-uniform old.known.width old.known.height None;
  rows = ap (λ (g : Grid (Option ℕ)). g.height) has.known ∙ height-uniform old.known.width old.known.height None;
  hints = has.hints;
  known = λ some. absurd (some (ap (λ (g : Grid (Option ℕ)). at_or g 0 0 None) has.known
      ∙ none_forgotten old.known));
  caught_up = caught;
  claimed = λ screen claimed. nothing_claimed screen new.known new.format new.claim has.claim;
}

-- ---- what a session stands for

-- a session whose progress is known
pub here : (serving : Serving) (screen : Grid Colour) (session : Session) (p : Progress)
    (s : ServerState) (prefix : List ℕ) →
    session.progress ≡ p → SessionStandsFor serving screen session s prefix →
    ProgressStandsFor serving session.hello p s.point prefix
here serving screen session p s prefix was now =
    subst (λ (q : Progress). ProgressStandsFor serving session.hello q s.point prefix) was now.progress_is

at_head : (serving : Serving) (hello : ServerHello) (part : ArrayVec ℕ) (at : ClientAt) (prefix : List ℕ) →
    ProgressStandsFor serving hello (Head part) at prefix → (at ≡ Second tt) × (prefix ≡ part.items)
at_head serving hello part (First p) prefix h = absurd h
at_head serving hello part (Second q) prefix h = (refl, h.0)

pub in_head : (serving : Serving) (screen : Grid Colour) (session : Session) (part : ArrayVec ℕ)
    (s : ServerState) (prefix : List ℕ) →
    session.progress ≡ Head part → SessionStandsFor serving screen session s prefix →
    (s.point ≡ Second tt) × (prefix ≡ part.items)
in_head serving screen session part s prefix was now =
    at_head serving session.hello part s.point prefix (here serving screen session (Head part) s prefix was now)

-- only the progress of the session is another
pub record IsStill (old new : Session) : Type 0 where
  pub setup : setup_of new.hello ≡ setup_of old.hello
  pub text_limit : new.text_limit ≡ old.text_limit
  pub format : new.format ≡ old.format
  pub encodings : new.encodings ≡ old.encodings
  pub known : new.known ≡ old.known
  pub area : new.area ≡ old.area

pub stands_on : (serving : Serving) (screen : Grid Colour) (old new : Session)
    (s : ServerState) (prefix longer : List ℕ) →
    SessionStandsFor serving screen old s prefix → IsStill old new →
    ProgressStandsFor serving new.hello new.progress s.point longer →
    SessionStandsFor serving screen new s longer
stands_on serving screen old new s prefix longer now still progress = record {
  setup_is = still.setup ∙ now.setup_is;
  limit_is = still.text_limit ∙ now.limit_is;
  progress_is = progress;
  screen_is = now.screen_is;
  known_is = now.known_is ∙ sym still.known;
  area_is = now.area_is ∙ sym still.area;
  form_is = now.form_is ∙ sym still.format;
  encodings_are = now.encodings_are ∙ sym still.encodings;
}

-- the session has what the message makes of the state
pub record IsActed (s : ServerState) (m : ClientMessage) (new : Session) : Type 0 where
  pub screen : (message_acts s m).screen ≡ s.screen
  pub known : (message_acts s m).known ≡ new.known
  pub area : (message_acts s m).area ≡ new.area
  pub form : (message_acts s m).form ≡ new.format
  pub encodings : (message_acts s m).encodings ≡ new.encodings

stands_after : (serving : Serving) (screen : Grid Colour) (old new : Session) (s : ServerState)
    (prefix : List ℕ) (m : ClientMessage) →
    SessionStandsFor serving screen old s prefix → s.point ≡ Second tt → KeepsUp old new →
    new.progress ≡ Head (as_reply []) →
    IsActed s m new → SessionStandsFor serving screen new (serves serving s (Second m)) []
stands_after serving screen old new s prefix m now at up is acted = record {
  setup_is = up.setup ∙ now.setup_is;
  limit_is = up.text_limit ∙ now.limit_is;
  progress_is = rw (at, is) (refl, tt);
  screen_is = acted.screen ∙ now.screen_is;
  known_is = acted.known;
  area_is = acted.area;
  form_is = acted.form;
  encodings_are = acted.encodings;
}

-- ---- the three answers of a step

next_message : (serving : Serving) (s : ServerState) (bytes : List ℕ) (n : Next ClientMessage ClientFault) →
    s.point ≡ Second tt → client_message bytes ≡ n →
    (client_bytes serving.hello.offer).next s.point bytes ≡ named (λ m. Second m) fault_of_message n
next_message serving s bytes n at e =
    ap (λ (r : ClientAt). (client_bytes serving.hello.offer).next r bytes) at
    ∙ ap (λ (k : Next ClientMessage ClientFault). named (λ m. Second m) fault_of_message k) e

pub steps_more : (serving : Serving) (screen : Grid Colour) (old new : Session) (unit : List ℕ) →
    ((s : ServerState) (prefix : List ℕ) → SessionStandsFor serving screen old s prefix →
    (s.point ≡ Second tt) × (client_message (prefix ++ unit) ≡ More)
    × SessionStandsFor serving screen new s (prefix ++ unit)) →
    StepsBy (server serving) (SessionStandsFor serving screen) old unit (Ok None) new
steps_more serving screen old new unit step s prefix now =
    let h = step s prefix now in
    let next = next_message serving s (prefix ++ unit) More h.0 h.1 in
    subst (λ (n : Next FromClient ServerFault). Steps (server serving) (SessionStandsFor serving screen) new s
    (prefix ++ unit) n (Ok None)) (sym next) (refl, h.2)

steps_got : (serving : Serving) (screen : Grid Colour) (old new : Session) (unit : List ℕ) (told : Option ServerTold) →
    ((s : ServerState) (prefix : List ℕ) → SessionStandsFor serving screen old s prefix →
    (m : ClientMessage) × (s.point ≡ Second tt) × SpellsClientMessage m (prefix ++ unit)
    × (message_told serving.text_limit m ≡ told)
    × SessionStandsFor serving screen new (serves serving s (Second m)) []) →
    StepsBy (server serving) (SessionStandsFor serving screen) old unit (Ok told) new
steps_got serving screen old new unit told step s prefix now =
    let h = step s prefix now in
    let got : client_message (prefix ++ unit) ≡ Got h.0 [] =
    subst (λ (zs : List ℕ). client_message zs ≡ Got h.0 []) (append-nil (prefix ++ unit))
    (client_message_reads.only h.0 (prefix ++ unit) [] h.2) in
    let next = next_message serving s (prefix ++ unit) (Got h.0 []) h.1 got in
    let tells : item_told serving s.point (Second h.0) ≡ told =
    ap (λ (r : ClientAt). item_told serving r (Second h.0)) h.1 ∙ h.3 in
    subst (λ (n : Next FromClient ServerFault). Steps (server serving) (SessionStandsFor serving screen) new s
    (prefix ++ unit) n (Ok told)) (sym next) (refl, tells, h.4)

-- a message that is whole with the unit
pub steps_told : (serving : Serving) (screen : Grid Colour) (old new : Session) (unit : List ℕ)
    (told : Option ServerTold) →
    KeepsUp old new → new.progress ≡ Head (as_reply []) →
    ((s : ServerState) (prefix : List ℕ) → SessionStandsFor serving screen old s prefix →
    (m : ClientMessage) × (s.point ≡ Second tt) × SpellsClientMessage m (prefix ++ unit)
    × (message_told serving.text_limit m ≡ told) × IsActed s m new) →
    StepsBy (server serving) (SessionStandsFor serving screen) old unit (Ok told) new
steps_told serving screen old new unit told up is step =
    steps_got serving screen old new unit told (λ s prefix now.
    let h = step s prefix now in
    (h.0, h.1, h.2, h.3, stands_after serving screen old new s prefix h.0 now h.1 up is h.4))

pub steps_bad : (serving : Serving) (screen : Grid Colour) (old new : Session) (unit : List ℕ) (fault : ClientFault) →
    ((s : ServerState) (prefix : List ℕ) → SessionStandsFor serving screen old s prefix →
    (s.point ≡ Second tt) × FaultsClientMessage fault (prefix ++ unit)) →
    StepsBy (server serving) (SessionStandsFor serving screen) old unit (Err (fault_of_message fault)) new
steps_bad serving screen old new unit fault step s prefix now =
    let h = step s prefix now in
    let bad : client_message (prefix ++ unit) ≡ Bad fault =
    subst (λ (zs : List ℕ). client_message zs ≡ Bad fault) (append-nil (prefix ++ unit))
    (client_message_reads.blames fault (prefix ++ unit) [] h.1) in
    let next = next_message serving s (prefix ++ unit) (Bad fault) h.0 bad in
    subst (λ (n : Next FromClient ServerFault). Steps (server serving) (SessionStandsFor serving screen) new s
    (prefix ++ unit) n (Err (fault_of_message fault))) (sym next) refl

-- ---- a step that begins where another session stands for the same state

pub steps_from : (serving : Serving) (screen : Grid Colour) (old mid new : Session) (unit : List ℕ)
    (answer : Result (Option ServerTold) ServerFault) →
    StepsBy (server serving) (SessionStandsFor serving screen) mid unit answer new → IsStill old mid →
    mid.hello ≡ old.hello → mid.progress ≡ old.progress →
    StepsBy (server serving) (SessionStandsFor serving screen) old unit answer new
steps_from serving screen old mid new unit answer steps still hello progress s prefix now =
    steps s prefix (stands_on serving screen old mid s prefix prefix now still (rw (hello, progress) now.progress_is))

pub starved_from : (serving : Serving) (screen : Grid Colour) (old mid : Session) (unit : List ℕ) →
    ((s : ServerState) (prefix : List ℕ) → SessionStandsFor serving screen mid s prefix →
    AsksMemory s (prefix ++ unit)) →
    IsStill old mid → mid.hello ≡ old.hello → mid.progress ≡ old.progress →
    (s : ServerState) (prefix : List ℕ) → SessionStandsFor serving screen old s prefix → AsksMemory s (prefix ++ unit)
starved_from serving screen old mid unit out still hello progress s prefix now =
    out s prefix (stands_on serving screen old mid s prefix prefix now still (rw (hello, progress) now.progress_is))
