-- With which byte of a slice a session fails.
use Rattle.std.proofs.Common.{◌≡◌, ◌≢◌, ℕ, ◌+◌, ◌-◌, ◌<◌, ◌≤◌, List, [], ◌∷◌, ◌++◌, Option, None, Result, Ok, Err}
use Rattle.std.proofs.Common.{length}
use Rattle.std.proofs.Common.{take, drop, refl, sym, subst, ◌∙◌, ap, arith, append_assoc, append-nil}
use Rattle.std.proofs.Common.{length-append, length-drop, length-take-le, take-append-drop}
use Rattle.std.proofs.lemmas.List.{take-take}
use Rattle.std.specs.Prelude.{IfErr}
use Rattle.arrayvec.specs.ArrayVec.{ArrayVec}
use Rattle.rfb_pixel.specs.declared.colour.Colour.{Colour}
use Rattle.rfb_picture.specs.Grid.{Grid}
use Rattle.rfb_wire.specs.declared.client_head.ClientHead.{ClientHead}
use Rattle.rfb_wire.specs.ClientHead.{SpellsClientHead}
use Rattle.rfb_wire.specs.stream.Prefix.{More}
use Rattle.rfb_wire.specs.stream.Sequel.{First, Second}
use Rattle.rfb_wire.specs.stream.End.{RunsOut}
use Rattle.rfb_wire.proofs.ClientStreamLaws.{client_headed}
use Rattle.rfb_wire.proofs.stream_laws.EndLaws.{runs_out_more}
use Rattle.rfb_wire.proofs.stream_laws.FeedLaws.{take_add, step_refuses}
use Rattle.rfb_wire.proofs.stream_laws.PlacingLaws.{waiting_taken, none_taken, refused_with_later}
use Rattle.rfb_wire.proofs.stream_laws.PlacingLaws.{runs_out_with_later}
use Rattle.rfb_hello.specs.declared.server_hello.ServerHello.{ServerHello}
use Rattle.rfb_server.specs.declared.event.ServerEvent.{ServerEvent}
use Rattle.rfb_server.specs.declared.fault.ServerFault.{ServerFault}
use Rattle.rfb_server.specs.declared.fault.ServerFault.TheVariants.{NoMemory}
use Rattle.rfb_server.specs.declared.session.Session.{Session}
use Rattle.rfb_server.specs.declared.session.input.progress.Progress.{Progress}
use Rattle.rfb_server.specs.declared.session.input.progress.Progress.TheVariants.{Head}
use Rattle.rfb_server.specs.ClientBytes.{ClientAt, client_bytes}
use Rattle.rfb_server.specs.Server.{Serving, ServerState, server, AsksMemory}
use Rattle.rfb_server.specs.Progress.{IsHeadBegun, ProgressStandsFor}
use Rattle.rfb_server.specs.Model.{SessionStandsFor, notes_in}
use Rattle.rfb_server.specs.Failed.{EndsAt, EndsAs}
use Rattle.rfb_server.specs.Counted.{IsPlacedIn}
use Rattle.rfb_server.specs.session.Slice.{AwaitsMore, FeedsAs, StepsAs, RunsOutAs}
use Rattle.rfb_server.proofs.ServerLaws.{server_machine}
use Rattle.rfb_server.proofs.SliceLemmas.{begun_waits, progress_waits}
use Rattle.rfb_server.proofs.EndingLemmas.{ends_refuse, ends_starve}

-- ---- up to the last byte of a head more is waited for

stands_waits : (old : Session) (serving : Serving) (screen : Grid Colour) (s : ServerState) (prefix : List ℕ) →
    SessionStandsFor serving screen old s prefix → (client_bytes serving.hello.offer).next s.point prefix ≡ More
stands_waits old serving screen s prefix stands =
    progress_waits serving old.hello old.progress s.point prefix stands.progress_is

-- after no bytes
pub none_awaits : (old : Session) → AwaitsMore old []
none_awaits old = λ serving screen s prefix stands.
    rw (append-nil prefix) (stands_waits old serving screen s prefix stands)

-- a head without its last bytes has begun
begun_before : (xs last : List ℕ) (head : ClientHead) → 0 < length last → SpellsClientHead head (xs ++ last) →
    IsHeadBegun xs
begun_before [] last head some spelled = tt
begun_before (first ∷ rest) last head some spelled = (
  length (first ∷ (rest ++ last)),
  (client_headed.only head (first ∷ (rest ++ last)) spelled).1,
  omega (arith, length-append rest last, some),
)

-- where a session is that has bytes of a head
at_part : (serving : Serving) (hello : ServerHello) (part : ArrayVec ℕ) (at : ClientAt) (prefix : List ℕ) →
    ProgressStandsFor serving hello (Head part) at prefix → (at ≡ Second tt) × (prefix ≡ part.items)
at_part serving hello part (First point) prefix h = absurd h
at_part serving hello part (Second tt) prefix h = (refl, h.0)

pub head_awaits : (old : Session) (part : ArrayVec ℕ) (n : ℕ) (bytes : List ℕ) (head : ClientHead) →
    old.progress ≡ Head part → SpellsClientHead head (part.items ++ take n bytes) → 0 < n → n ≤ length bytes →
    AwaitsMore old (take (n - 1) bytes)
head_awaits old part n bytes head was spelled some within = λ serving screen s prefix stands.
    let front = take (n - 1) bytes in
    let last = take 1 (drop (n - 1) bytes) in
    let count : n - 1 + 1 ≡ n = omega (arith, some) in
    let left : length (drop (n - 1) bytes) ≡ length bytes - (n - 1) = length-drop (n - 1) bytes in
    let one : length last ≡ 1 = length-take-le 1 (drop (n - 1) bytes) (omega (arith, left, within, some)) in
    let parts : take n bytes ≡ front ++ last =
    ap (λ (k : ℕ). take k bytes) (sym count) ∙ take_add (n - 1) 1 bytes in
    let all : part.items ++ take n bytes ≡ (part.items ++ front) ++ last =
    ap (λ (ys : List ℕ). part.items ++ ys) parts ∙ sym (append_assoc part.items front last) in
    let begun : IsHeadBegun (part.items ++ front) =
    begun_before (part.items ++ front) last head (omega (arith, one))
    (subst (λ (xs : List ℕ). SpellsClientHead head xs) all spelled) in
    let here = at_part serving old.hello part s.point prefix
    (subst (λ (p : Progress). ProgressStandsFor serving old.hello p s.point prefix) was stands.progress_is) in
    rw (here.0, here.1) (begun_waits serving (part.items ++ front) begun)

-- a type that no message has is the first byte of one
pub type_awaits : (old : Session) (part : List ℕ) (n : ℕ) (bytes : List ℕ) (kind : ℕ) →
    part ++ take n bytes ≡ kind ∷ [] → 0 < n → n ≤ length bytes → AwaitsMore old (take (n - 1) bytes)
type_awaits old part n bytes kind is some within =
    let long : length (take n bytes) ≡ n = length-take-le n bytes within in
    let all : length part + length (take n bytes) ≡ 1 = sym (length-append part (take n bytes)) ∙ ap length is in
    let none : n - 1 ≡ 0 = omega (arith, long, all, some) in
    rw none (none_awaits old)

pub if_err : {A E : Type 0} (r : Result A E) (P : Type 0) → P → IfErr r (λ _. P)
if_err (Ok x) P p = tt
if_err (Err e) P p = p

-- ---- a fault at that byte

-- of a step that fails by the first n bytes
pub placed_step : (old new : Session) (n : ℕ) (bytes : List ℕ) (fault : ServerFault) → 0 < n → n ≤ length bytes →
    StepsAs old (take n bytes) (Err fault) new → RunsOutAs old (take n bytes) (Err fault) →
    AwaitsMore old (take (n - 1) bytes) → IsPlacedIn n fault old bytes
placed_step old new n bytes fault some within steps out awaits = record {
  some = some;
  within = within;
  refused = λ other serving screen. record {
    refused = step_refuses (server serving) (SessionStandsFor serving screen) old new (take n bytes) fault
        (steps (apart other) serving screen);
    taken = waiting_taken (server serving) (SessionStandsFor serving screen) old (take (n - 1) bytes)
        (awaits serving screen);
  };
  starved = λ is serving screen. record {
    asked = λ s prefix now. record {
      items = [];
      front = prefix ++ take n bytes;
      later = [];
      reads = sym (append-nil (prefix ++ take n bytes));
      quiet = refl;
      asked = out (ap (λ (f : ServerFault). Err f) is) serving screen s prefix now;
    };
    taken = waiting_taken (server serving) (SessionStandsFor serving screen) old (take (n - 1) bytes)
        (awaits serving screen);
  };
}
  where
    apart : fault ≢ NoMemory → ◌≢◌ {A = Result (Option ServerEvent) ServerFault} (Err fault) (Err NoMemory)
    apart other e = other (let is : fault ≡ NoMemory = cc in is)

-- of a slice of one byte
pub placed_first : (old new : Session) (bytes : List ℕ) (fault : ServerFault) → 0 < length bytes →
    EndsAs old (take 1 bytes) fault new → IsPlacedIn 1 fault old bytes
placed_first old new bytes fault some ends = record {
  some = omega arith;
  within = omega (arith, some);
  refused = λ other serving screen. record {
    refused = ends_refuse old new (take 1 bytes) fault ends other serving screen;
    taken = none_taken (server serving) (SessionStandsFor serving screen) old (stands_waits old serving screen);
  };
  starved = λ is serving screen. record {
    asked = ends_starve old new (take 1 bytes) fault ends is serving screen;
    taken = none_taken (server serving) (SessionStandsFor serving screen) old (stands_waits old serving screen);
  };
}

-- ---- a slice with a part taken before

pub placed_later : (fault : ServerFault) (old mid : Session) (i n : ℕ) (bytes : List ℕ) → i ≤ length bytes →
    FeedsAs old (take i bytes) None mid → IsPlacedIn n fault mid (drop i bytes) → IsPlacedIn (i + n) fault old bytes
placed_later fault old mid i n bytes begun fed p =
    let some = p.some in
    let within = p.within in
    let left : length (drop i bytes) ≡ length bytes - i = length-drop i bytes in
    record {
      some = omega (arith, some);
      within = omega (arith, left, within, begun);
      refused = λ other serving screen. refused_with_later (server serving) (server_machine serving)
          (SessionStandsFor serving screen) old mid i n bytes fault some (fed serving screen)
          (p.refused other serving screen);
      starved = λ is serving screen. runs_out_with_later (server serving) (server_machine serving) AsksMemory
          (SessionStandsFor serving screen) old mid i n bytes some (fed serving screen)
          (p.starved is serving screen);
    }

-- bytes that come after those of the fault change nothing
pub ends_longer : (old new : Session) (n : ℕ) (bytes : List ℕ) (fault : ServerFault) →
    EndsAs old (take n bytes) fault new → EndsAs old bytes fault new
ends_longer old new n bytes fault ends = λ serving screen s prefix stands.
    let There = EndsAt serving fault screen (notes_in new) in
    subst (λ (xs : List ℕ). RunsOut (server serving) There s prefix xs) (take-append-drop n bytes)
    (runs_out_more (server serving) (server_machine serving) There s prefix (take n bytes) (drop n bytes)
    (ends serving screen s prefix stands))

-- what was taken of the first bytes was taken of all
pub feeds_longer : (old new : Session) (used n : ℕ) (bytes : List ℕ) (event : Option ServerEvent) → used ≤ n →
    FeedsAs old (take used (take n bytes)) event new → FeedsAs old (take used bytes) event new
feeds_longer old new used n bytes event few fed =
    subst (λ (xs : List ℕ). FeedsAs old xs event new) (take-take used n bytes few) fed
