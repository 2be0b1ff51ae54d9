-- What the handshake's end takes and refuses, a session does.
use Rattle.std.proofs.Common.{◌≡◌, ℕ, Bool, true, false, List, [], ◌∷◌, ◌++◌, map, Option, Some, None, refl, sym, ap}
use Rattle.std.proofs.Common.{subst, ◌∙◌}
use Rattle.std.specs.Option.{IfSome}
use Rattle.rfb_pixel.specs.declared.colour.Colour.{Colour}
use Rattle.rfb_picture.specs.Grid.{Grid}
use Rattle.rfb_wire.specs.stream.Prefix.{Next, More}
use Rattle.rfb_wire.specs.stream.Parts.{named}
use Rattle.rfb_wire.specs.stream.Grammar.{ReadsAll}
use Rattle.rfb_wire.specs.stream.Sequel.{First, Second, StaysFirst, past_in}
use Rattle.rfb_wire.specs.stream.End.{acts, EndsWith, FedBy}
use Rattle.rfb_wire.proofs.stream_laws.EndLaws.{quiet_first}
use Rattle.rfb_wire.proofs.stream_laws.SequelLaws.{all_first}
use Rattle.rfb_hello.specs.declared.version.Version.TheVariants.{V33, V37, V38}
use Rattle.rfb_hello.specs.declared.fault.HelloFault.{HelloFault}
use Rattle.rfb_hello.specs.declared.step.ServerStep.{ServerStep}
use Rattle.rfb_hello.specs.declared.step.ServerStep.TheVariants.{Reply, Ready}
use Rattle.rfb_hello.specs.declared.server_hello.ServerHello.{ServerHello}
use Rattle.rfb_hello.specs.declared.server_hello.progress.Progress.{Progress as HelloProgress}
use Rattle.rfb_hello.specs.declared.server_hello.progress.Progress.TheVariants.{Version as VersionPart, Choice, Init}
use Rattle.rfb_hello.specs.declared.server_hello.progress.Progress.TheVariants.{Done, Failed}
use Rattle.rfb_hello.specs.ClientHandshake.{ClientPoint, AwaitsVersion, AwaitsChoice, AwaitsInit, Begun, ClientItem}
use Rattle.rfb_hello.specs.ClientHandshake.{ProtocolVersion, SecurityType, ClientInit, past_client_item}
use Rattle.rfb_hello.specs.ClientHandshake.{client_handshake}
use Rattle.rfb_hello.specs.ServerEnd.{ServerSetup, as_reply, server_tells as handshake_tells, server_end}
use Rattle.rfb_hello.specs.ServerProgress.{ProgressStandsFor as HelloProgressStandsFor, is_open as goes_on}
use Rattle.rfb_hello.specs.ServerModel.{StandsFor as HelloStandsFor, is_open}
use Rattle.rfb_server.specs.declared.session.Session.{Session}
use Rattle.rfb_server.specs.declared.session.input.progress.Progress.TheVariants.{Handshake, Head}
use Rattle.rfb_server.specs.Fault.{fault_of_hello}
use Rattle.rfb_server.specs.ClientBytes.{ClientAt, to_messages, client_two, client_bytes}
use Rattle.rfb_server.specs.Told.{step_told}
use Rattle.rfb_server.specs.Server.{Serving, ServerState, server, serves}
use Rattle.rfb_server.specs.Progress.{ProgressStandsFor, is_partial, progress_after}
use Rattle.rfb_server.specs.Model.{SessionStandsFor}
use Rattle.rfb_server.specs.session.Sessions.{IsGreeted}
use Rattle.rfb_server.proofs.ServerLaws.{client_bytes_laws}

-- ---- points of the handshake

-- the point lies after the handshake
abbrev pub is_begun : ClientPoint → Bool
is_begun AwaitsVersion = false
is_begun (AwaitsChoice version) = false
is_begun (AwaitsInit version) = false
is_begun (Begun version shared) = true

-- an end whose bytes go on is at a point of the handshake, and one whose bytes do not is past it
open_is : (progress : HelloProgress) (point : ClientPoint) (prefix : List ℕ) →
    HelloProgressStandsFor progress point prefix →
    (goes_on progress ≡ true → is_begun point ≡ false)
    × (goes_on progress ≡ false → (is_begun point ≡ true) × (prefix ≡ []))
open_is (VersionPart text) point prefix h = ((λ e. ap is_begun h.0), (λ e. absurd cc))
open_is (Choice version) point prefix h = ((λ e. ap is_begun h.0), (λ e. absurd cc))
open_is (Init version) point prefix h = ((λ e. ap is_begun h.0), (λ e. absurd cc))
open_is (Done version shared) point prefix h = ((λ e. absurd cc), (λ e. (ap is_begun h.0, h.1)))
open_is (Failed fault) point prefix h = absurd h

-- an item without an event does not lead over
over_told : (setup : ServerSetup) (p : ClientPoint) (i : ClientItem) →
    handshake_tells setup p i ≡ None → to_messages p i ≡ None
over_told setup AwaitsVersion (ProtocolVersion version) e = refl
over_told setup AwaitsVersion SecurityType e = refl
over_told setup AwaitsVersion (ClientInit shared) e = refl
over_told setup (AwaitsChoice version) (ProtocolVersion other) e = refl
over_told setup (AwaitsChoice version) SecurityType e = refl
over_told setup (AwaitsChoice version) (ClientInit shared) e = refl
over_told setup (AwaitsInit version) (ProtocolVersion other) e = refl
over_told setup (AwaitsInit version) SecurityType e = refl
over_told setup (AwaitsInit version) (ClientInit shared) e = absurd cc
over_told setup (Begun version flag) (ProtocolVersion other) e = refl
over_told setup (Begun version flag) SecurityType e = refl
over_told setup (Begun version flag) (ClientInit shared) e = refl

-- where a session is after items of the handshake
abbrev Landed : ClientAt → ClientPoint → Type 0
Landed at p = (is_begun p ≡ false → at ≡ First p) × (is_begun p ≡ true → at ≡ Second tt)

here : (p : ClientPoint) → is_begun p ≡ false → Landed (First p) p
here p still = ((λ e. refl), (λ e. absurd (apart (sym still ∙ e))))
  where
    apart : false ≡ true → ⊥
    apart e = cc

-- an item lands a session at the messages exactly where it ends the handshake
step_lands : (serving : Serving) (p : ClientPoint) (i : ClientItem) → is_begun p ≡ false →
    Landed (past_in (client_two serving.hello.offer) (First p) (First i)) (past_client_item p i)
step_lands serving AwaitsVersion (ProtocolVersion V33) still = here (AwaitsInit V33) refl
step_lands serving AwaitsVersion (ProtocolVersion V37) still = here (AwaitsChoice V37) refl
step_lands serving AwaitsVersion (ProtocolVersion V38) still = here (AwaitsChoice V38) refl
step_lands serving AwaitsVersion SecurityType still = here AwaitsVersion refl
step_lands serving AwaitsVersion (ClientInit shared) still = here AwaitsVersion refl
step_lands serving (AwaitsChoice version) (ProtocolVersion other) still = here (AwaitsChoice version) refl
step_lands serving (AwaitsChoice version) SecurityType still = here (AwaitsInit version) refl
step_lands serving (AwaitsChoice version) (ClientInit shared) still = here (AwaitsChoice version) refl
step_lands serving (AwaitsInit version) (ProtocolVersion other) still = here (AwaitsInit version) refl
step_lands serving (AwaitsInit version) SecurityType still = here (AwaitsInit version) refl
step_lands serving (AwaitsInit version) (ClientInit shared) still = ((λ e. absurd cc), (λ e. refl))
step_lands serving (Begun version flag) i still = absurd cc

-- an item that does not lead over leaves the handshake still
step_open : (p : ClientPoint) (i : ClientItem) → is_begun p ≡ false → to_messages p i ≡ None →
    is_begun (past_client_item p i) ≡ false
step_open AwaitsVersion (ProtocolVersion V33) still e = refl
step_open AwaitsVersion (ProtocolVersion V37) still e = refl
step_open AwaitsVersion (ProtocolVersion V38) still e = refl
step_open AwaitsVersion SecurityType still e = refl
step_open AwaitsVersion (ClientInit shared) still e = refl
step_open (AwaitsChoice version) (ProtocolVersion other) still e = refl
step_open (AwaitsChoice version) SecurityType still e = refl
step_open (AwaitsChoice version) (ClientInit shared) still e = refl
step_open (AwaitsInit version) (ProtocolVersion other) still e = refl
step_open (AwaitsInit version) SecurityType still e = refl
step_open (AwaitsInit version) (ClientInit shared) still e = absurd cc
step_open (Begun version flag) i still e = absurd cc

-- ---- items of the handshake, as a session's

-- after an item without an event it is at the next point of the handshake
goes_first : (serving : Serving) (s : ServerState) (p : ClientPoint) (i : ClientItem) → s.point ≡ First p →
    handshake_tells serving.hello p i ≡ None → (serves serving s (First i)).point ≡ First (past_client_item p i)
goes_first serving s p i e quiet = rw (e, over_told serving.hello p i quiet) refl

pub stays_first : (serving : Serving) (p : ClientPoint) (items : List ClientItem) (told : Option ServerStep) →
    EndsWith (server_end serving.hello) p items told → StaysFirst (client_two serving.hello.offer) p items
stays_first serving p [] told ends = tt
stays_first serving p (i ∷ []) told ends = tt
stays_first serving p (i ∷ j ∷ items) told ends =
    (over_told serving.hello p i ends.0, stays_first serving (past_client_item p i) (j ∷ items) told ends.1)

pub told_first : (serving : Serving) (s : ServerState) (p : ClientPoint) (items : List ClientItem)
    (told : Option ServerStep) →
    s.point ≡ First p → EndsWith (server_end serving.hello) p items told →
    EndsWith (server serving) s (map (λ i. First i) items) (step_told told)
told_first serving s p [] told e ends = ap step_told ends
told_first serving s p (i ∷ []) told e ends = rw e (ap step_told ends)
told_first serving s p (i ∷ j ∷ items) told e ends = (
  rw e (ap step_told ends.0),
  told_first serving (serves serving s (First i)) (past_client_item p i) (j ∷ items) told
      (goes_first serving s p i e ends.0) ends.1,
)

lands : (serving : Serving) (s : ServerState) (p : ClientPoint) (items : List ClientItem) (told : Option ServerStep) →
    s.point ≡ First p → is_begun p ≡ false → EndsWith (server_end serving.hello) p items told →
    Landed (acts (server serving) s (map (λ i. First i) items)).point (acts (server_end serving.hello) p items)
lands serving s p [] told e still ends = rw e (here p still)
lands serving s p (i ∷ []) told e still ends = rw e (step_lands serving p i still)
lands serving s p (i ∷ j ∷ items) told e still ends =
    lands serving (serves serving s (First i)) (past_client_item p i) (j ∷ items) told
    (goes_first serving s p i e ends.0)
    (step_open p i still (over_told serving.hello p i ends.0)) ends.1

pub quiet_stays : (serving : Serving) (s : ServerState) (p : ClientPoint) (items : List ClientItem) →
    s.point ≡ First p → EndsWith (server_end serving.hello) p items None →
    (acts (server serving) s (map (λ i. First i) items)).point ≡ First (acts (server_end serving.hello) p items)
quiet_stays serving s p [] e ends = e
quiet_stays serving s p (i ∷ items) e ends =
    let first = quiet_first (server_end serving.hello) p i items ends in
    quiet_stays serving (serves serving s (First i)) (past_client_item p i) items
    (goes_first serving s p i e first.0) first.1

-- nothing but the point changes in the handshake
pub record IsSameBut (s t : ServerState) : Type 0 where
  pub screen : t.screen ≡ s.screen
  pub known : t.known ≡ s.known
  pub area : t.area ≡ s.area
  pub form : t.form ≡ s.form
  pub encodings : t.encodings ≡ s.encodings

pub same_but : (serving : Serving) (s : ServerState) (items : List ClientItem) →
    IsSameBut s (acts (server serving) s (map (λ i. First i) items))
same_but serving s [] = record { screen = refl; known = refl; area = refl; form = refl; encodings = refl }
same_but serving s (i ∷ items) =
    let more = same_but serving (serves serving s (First i)) items in
    record { screen = more.screen; known = more.known; area = more.area; form = more.form; encodings = more.encodings }

-- ---- calls

-- a session in the handshake is at a point of it, with the handshake's end
pub at_hello : (serving : Serving) (hello : ServerHello) (at : ClientAt) (prefix : List ℕ) →
    ProgressStandsFor serving hello Handshake at prefix →
    (p : ClientPoint) × (at ≡ First p) × HelloStandsFor serving.hello hello p prefix × (is_open hello ≡ true)
at_hello serving hello (First p) prefix h = (p, refl, h.0, h.1)
at_hello serving hello (Second between) prefix h = absurd h

whole_told : (told : Option ServerStep) (rest : List ℕ) → IfSome told (λ _. rest ≡ []) →
    IfSome (step_told told) (λ _. rest ≡ [])
whole_told None rest h = tt
whole_told (Some (Reply reply)) rest h = h
whole_told (Some (Ready reply version shared)) rest h = h

-- the session's progress after a call, by whether the handshake goes on
lands_open : (serving : Serving) (old new : Session) (at : ClientAt) (p : ClientPoint) (rest : List ℕ) (goes : Bool) →
    is_open new.hello ≡ goes → IsGreeted old new → Landed at p → HelloStandsFor serving.hello new.hello p rest →
    (client_handshake serving.hello.offer).next p rest ≡ More →
    ProgressStandsFor serving new.hello new.progress at rest × ((client_bytes serving.hello.offer).next at rest ≡ More)
lands_open serving old new at p rest true e greeted landed after waits =
    let first = landed.0 ((open_is new.hello.progress p rest after.progress_is).0 e) in (
      rw (greeted.goes e, first) (after, e),
      rw first (ap (λ (n : Next ClientItem HelloFault). named (λ i. First i) fault_of_hello n) waits),
    )
lands_open serving old new at p rest false e greeted landed after waits =
    let done = (open_is new.hello.progress p rest after.progress_is).1 e in
    let second = landed.1 done.0 in
    (rw (greeted.done e, second, done.1) (refl, tt), rw done.1 ((client_bytes_laws serving.hello.offer).empty at))

pub greets : (serving : Serving) (screen : Grid Colour) (old new : Session) (bytes : List ℕ)
    (told : Option ServerStep) →
    old.progress ≡ Handshake → IsGreeted old new →
    FedBy (server_end serving.hello) (HelloStandsFor serving.hello) old.hello bytes told new.hello →
    FedBy (server serving) (SessionStandsFor serving screen) old bytes (step_told told) new
greets serving screen old new bytes told handshake greeted fed = λ s prefix now.
    let began = at_hello serving old.hello s.point prefix (rw handshake at now.progress_is) in
    let p = began.0 in
    let after = fed p prefix began.2 in
    let takes = after.3 in
    let items = takes.items in
    let t = acts (server serving) s (map (λ i. First i) items) in
    let still = (open_is old.hello.progress p prefix began.2.progress_is).0 began.3 in
    let landed : Landed t.point after.0 = rw (takes.state) (lands serving s p items told began.1 still takes.ends) in
    let comes = lands_open serving old new t.point after.0 after.1 (is_open new.hello) refl greeted
    landed after.2 takes.partial in
    let same = same_but serving s items in (
      t,
      after.1,
      record {
        setup_is = greeted.setup ∙ now.setup_is;
        limit_is = greeted.rest.text_limit ∙ now.limit_is;
        progress_is = comes.0;
        screen_is = same.screen ∙ now.screen_is;
        known_is = same.known ∙ (now.known_is ∙ sym greeted.rest.known);
        area_is = same.area ∙ (now.area_is ∙ sym greeted.rest.area);
        form_is = same.form ∙ (now.form_is ∙ sym greeted.rest.format);
        encodings_are = same.encodings ∙ (now.encodings_are ∙ sym greeted.encodings);
      },
      record {
        items = map (λ i. First i) items;
        reads = subst (λ (r : ClientAt). ReadsAll (client_bytes serving.hello.offer) r (prefix ++ bytes)
            (map (λ i. First i) items) after.1) (sym began.1) (all_first (client_two serving.hello.offer) p
            (prefix ++ bytes) items after.1 (stays_first serving p items told takes.ends) takes.reads);
        state = refl;
        ends = told_first serving s p items told began.1 takes.ends;
        partial = comes.1;
        whole = whole_told told after.1 takes.whole;
      },
    )

-- what comes after a call of the handshake's end is not all of an item
pub partial_after : (hello : ServerHello) (goes : Bool) → goes ≡ is_open hello →
    is_partial hello (progress_after goes) ≡ true
partial_after hello true is = sym is
partial_after hello false is = refl

pub goes_after : (goes : Bool) → goes ≡ true → progress_after goes ≡ Handshake
goes_after true e = refl
goes_after false e = absurd cc

pub done_after : (goes : Bool) → goes ≡ false → progress_after goes ≡ Head (as_reply [])
done_after true e = absurd cc
done_after false e = refl
