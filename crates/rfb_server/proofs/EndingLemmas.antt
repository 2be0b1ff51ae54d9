-- What a session keeps that fails, and what its fault says of the bytes.
use Rattle.std.proofs.Common.{◌≡◌, ◌≢◌, ℕ, List, [], ◌++◌, map, Option, None, Some, Result, Err, refl, sym, ap, subst}
use Rattle.std.proofs.Common.{◌∙◌, take, append-nil}
use Rattle.rfb_pixel.specs.declared.colour.Colour.{Colour}
use Rattle.rfb_picture.specs.Grid.{Grid}
use Rattle.rfb_wire.specs.stream.Prefix.{Next, More, Got, Bad}
use Rattle.rfb_wire.specs.stream.Parts.{named}
use Rattle.rfb_wire.specs.stream.Grammar.{ReadsAll}
use Rattle.rfb_wire.specs.stream.Sequel.{First}
use Rattle.rfb_wire.specs.stream.End.{RefusedBy, RunsOutBy, Steps, acts}
use Rattle.rfb_wire.proofs.stream_laws.FeedLaws.{memory_step}
use Rattle.rfb_wire.proofs.stream_laws.SequelLaws.{all_first}
use Rattle.rfb_hello.specs.declared.version.Version.{Version}
use Rattle.rfb_hello.specs.declared.fault.HelloFault.{HelloFault}
use Rattle.rfb_hello.specs.ClientHandshake.{ClientItem}
use Rattle.rfb_hello.specs.ServerEnd.{server_end}
use Rattle.rfb_hello.specs.ServerModel.{StandsFor as HelloStandsFor}
use Rattle.rfb_server.specs.declared.event.ServerEvent.{ServerEvent}
use Rattle.rfb_server.specs.declared.fault.ServerFault.{ServerFault}
use Rattle.rfb_server.specs.declared.fault.ServerFault.TheVariants.{NoMemory}
use Rattle.rfb_server.specs.declared.session.Session.{Session}
use Rattle.rfb_server.specs.declared.session.input.progress.Progress.TheVariants.{Handshake}
use Rattle.rfb_server.specs.Fault.{fault_of_hello}
use Rattle.rfb_server.specs.ClientBytes.{ClientAt, FromClient, client_two, client_bytes}
use Rattle.rfb_server.specs.Server.{Serving, ServerState, server, AsksMemory}
use Rattle.rfb_server.specs.Progress.{fault_in}
use Rattle.rfb_server.specs.Model.{SessionStandsFor, notes_in, notes_at}
use Rattle.rfb_server.specs.Failed.{EndsAt, EndsAs}
use Rattle.rfb_server.specs.session.Slice.{StepsAs, RunsOutAs}
use Rattle.rfb_server.proofs.ServerLaws.{server_machine, same_notes, session_noted}
use Rattle.rfb_server.proofs.GreetLemmas.{IsSameBut, same_but, at_hello, quiet_stays, stays_first, told_first}
use Rattle.rfb_server.proofs.SliceLemmas.{session_starts, not_memory, never_stands}

-- ---- notes

-- steps of the handshake leave them
same_noted : (s t : ServerState) → IsSameBut s t → notes_at t ≡ notes_at s
same_noted s t same = same_notes t.known s.known t.area s.area t.form s.form t.encodings s.encodings same.known
    same.area same.form same.encodings

-- ---- a step that fails

-- its bytes are at fault
steps_bad_at : (serving : Serving) (screen : Grid Colour) (new : Session) (s : ServerState) (bytes : List ℕ)
    (n : Next FromClient ServerFault) (fault : ServerFault) →
    Steps (server serving) (SessionStandsFor serving screen) new s bytes n (Err fault) → n ≡ Bad fault
steps_bad_at serving screen new s bytes More fault h = absurd h
steps_bad_at serving screen new s bytes (Got i rest) fault h = absurd h
steps_bad_at serving screen new s bytes (Bad f) fault h = ap (λ (g : ServerFault). Bad g) (sym h)

pub step_ends : (old new : Session) (n : ℕ) (bytes : List ℕ) (fault : ServerFault) →
    StepsAs old (take n bytes) (Err fault) new → RunsOutAs old (take n bytes) (Err fault) →
    notes_in new ≡ notes_in old →
    EndsAs old bytes fault new
step_ends old new n bytes fault steps out same = λ serving screen.
    let apart : fault ≢ NoMemory → ◌≢◌ {A = Result (Option ServerEvent) ServerFault} (Err fault) (Err NoMemory) =
    λ other e. other (let is : fault ≡ NoMemory = cc in is) in
    memory_step (server serving) (server_machine serving) (EndsAt serving fault screen (notes_in new))
    (SessionStandsFor serving screen) old old 0 n bytes (session_starts old serving screen)
    (λ s prefix now.
    record {
      items = [];
      front = prefix ++ take n bytes;
      later = [];
      reads = sym (append-nil (prefix ++ take n bytes));
      quiet = refl;
      asked = record {
        bad = λ other. steps_bad_at serving screen new s (prefix ++ take n bytes) _ fault
            (steps (apart other) serving screen s prefix now);
        asks = λ memory. out (ap (λ (f : ServerFault). Err f) memory) serving screen s prefix now;
        screen_is = sym now.screen_is;
        notes_are = same ∙ session_noted serving screen old s prefix now;
      };
    })

-- ---- a handshake that fails

named_bad : (n : Next ClientItem HelloFault) (fault : HelloFault) → n ≡ Bad fault →
    named {B = FromClient} (λ i. First i) fault_of_hello n ≡ Bad (fault_of_hello fault)
named_bad n fault e = ap (λ (m : Next ClientItem HelloFault). named {B = FromClient} (λ i. First i) fault_of_hello m) e

bad_without : (offer : Version) (at : ClientAt) (bytes : List ℕ) (fault : ServerFault) →
    (client_bytes offer).next at bytes ≡ Bad fault → fault ≡ NoMemory → ⊥
bad_without offer at bytes fault bad memory = not_memory offer at bytes (bad ∙ ap (λ (f : ServerFault). Bad f) memory)

pub greets_end : (old : Session) (bytes : List ℕ) (fault : HelloFault) → old.progress ≡ Handshake →
    ((serving : Serving) → RefusedBy (server_end serving.hello) (HelloStandsFor serving.hello) old.hello bytes fault) →
    EndsAs old bytes (fault_of_hello fault) old
greets_end old bytes fault handshake refused = λ serving screen s prefix now.
    let began = at_hello serving old.hello s.point prefix (rw handshake at now.progress_is) in
    let p = began.0 in
    let refuses = refused serving p prefix began.2 in
    let items = refuses.items in
    let t = acts (server serving) s (map (λ i. First i) items) in
    let stays = quiet_stays serving s p items began.1 refuses.quiet in
    let steps = same_but serving s items in
    let bad : (client_bytes serving.hello.offer).next t.point refuses.rest ≡ Bad (fault_of_hello fault) =
    rw stays (named_bad ((server_end serving.hello).grammar.next (acts (server_end serving.hello) p items) refuses.rest)
    fault refuses.bad) in
    record {
      items = map (λ i. First i) items;
      front = refuses.rest;
      later = [];
      reads = subst (λ (rest : List ℕ). ReadsAll (client_bytes serving.hello.offer) s.point (prefix ++ bytes)
          (map (λ i. First i) items) rest) (sym (append-nil refuses.rest))
          (subst (λ (r : ClientAt). ReadsAll (client_bytes serving.hello.offer) r (prefix ++ bytes)
          (map (λ i. First i) items) refuses.rest) (sym began.1) (all_first (client_two serving.hello.offer) p
          (prefix ++ bytes) items refuses.rest (stays_first serving p items None refuses.quiet) refuses.reads));
      quiet = told_first serving s p items None began.1 refuses.quiet;
      asked = record {
        bad = λ other. bad;
        asks =
            λ memory. absurd (bad_without serving.hello.offer t.point refuses.rest (fault_of_hello fault) bad memory);
        screen_is = sym (steps.screen ∙ now.screen_is);
        notes_are = session_noted serving screen old s prefix now ∙ sym (same_noted s t steps);
      };
    }

-- ---- what is said of the bytes alone

pub ends_refuse : (old new : Session) (bytes : List ℕ) (fault : ServerFault) →
    EndsAs old bytes fault new → fault ≢ NoMemory →
    (serving : Serving) (screen : Grid Colour) →
    RefusedBy (server serving) (SessionStandsFor serving screen) old bytes fault
ends_refuse old new bytes fault ends other serving screen s prefix now =
    let r = ends serving screen s prefix now in
    record {
      items = r.items;
      rest = r.front ++ r.later;
      reads = r.reads;
      quiet = r.quiet;
      bad = (server_machine serving).laws.bad (acts (server serving) s r.items).point r.front
          r.later fault (r.asked.bad other);
    }

pub ends_starve : (old new : Session) (bytes : List ℕ) (fault : ServerFault) →
    EndsAs old bytes fault new → fault ≡ NoMemory →
    (serving : Serving) (screen : Grid Colour) →
    RunsOutBy (server serving) AsksMemory (SessionStandsFor serving screen) old bytes
ends_starve old new bytes fault ends memory serving screen s prefix now =
    let r = ends serving screen s prefix now in
    record {
      items = r.items;
      front = r.front;
      later = r.later;
      reads = r.reads;
      quiet = r.quiet;
      asked = r.asked.asks memory;
    }

-- ---- a session that has failed stands for nothing

pub failed_ends : (old new : Session) (bytes : List ℕ) (fault : ServerFault) → fault_in old.progress ≡ Some fault →
    EndsAs old bytes fault new
failed_ends old new bytes fault e = λ serving screen s prefix now.
    absurd (never_stands serving old.hello old.progress fault s.point prefix e now.progress_is)
