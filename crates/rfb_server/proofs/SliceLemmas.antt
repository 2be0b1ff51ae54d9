-- What a session takes of a slice, item by item.
use Rattle.std.proofs.Common.{◌≡◌, ◌≢◌, ℕ, ◌+◌, ◌*◌, ◌<◌, ◌==◌, true, false, List, [], ◌∷◌, ◌++◌, Option, Some, None}
use Rattle.std.proofs.Common.{is_some, Result, Ok, Err, length, refl, sym, ap, ◌∙◌, length-append, arith}
use Rattle.rfb_wire.specs.stream.Prefix.{Next, More, Bad}
use Rattle.rfb_wire.specs.stream.Parts.{named}
use Rattle.rfb_wire.specs.stream.Sequel.{First, Second}
use Rattle.rfb_wire.specs.ClientMessage.{ClientMessage, ClientFault, BadFormat, UnknownType}
use Rattle.rfb_wire.specs.ClientStream.{client_message}
use Rattle.rfb_wire.proofs.stream_laws.PartLaws.{piece_short}
use Rattle.rfb_wire.proofs.stream_laws.PendingLaws.{length-pieces, head_pending}
use Rattle.rfb_wire.proofs.PendingLaws.{numbers_pending, client_text_pending}
use Rattle.rfb_wire.proofs.WaitLaws.{client_head_waits, encodings_wait, client_text_waits}
use Rattle.rfb_wire.proofs.stream_laws.FeedLaws.{fed_start, step_feeds}
use Rattle.rfb_pixel.specs.declared.fault.FormatFault.TheVariants.{BadBits, DepthTooLarge, NotTrueColour, BadMax}
use Rattle.rfb_pixel.specs.declared.fault.FormatFault.TheVariants.{ShiftTooLarge, FieldsOverlap}
use Rattle.rfb_hello.specs.declared.fault.HelloFault.{HelloFault}
use Rattle.rfb_hello.specs.declared.fault.HelloFault.TheVariants.{BadVersion, VersionTooHigh, BadSecurityChoice}
use Rattle.rfb_hello.specs.declared.fault.HelloFault.TheVariants.{NoneNotOffered, Refused, BadSecurityWord}
use Rattle.rfb_hello.specs.declared.fault.HelloFault.TheVariants.{SecurityFailed, ScreenEmpty, ScreenTooLarge}
use Rattle.rfb_hello.specs.declared.fault.HelloFault.TheVariants.{NoMemory as HelloMemory}
use Rattle.rfb_hello.specs.declared.version.Version.{Version}
use Rattle.rfb_hello.specs.declared.server_hello.ServerHello.{ServerHello}
use Rattle.rfb_hello.specs.declared.server_hello.progress.Progress.{Progress as HelloProgress}
use Rattle.rfb_hello.specs.declared.server_hello.progress.Progress.TheVariants.{Version as VersionPart, Choice, Init}
use Rattle.rfb_hello.specs.declared.server_hello.progress.Progress.TheVariants.{Done, Failed as HelloFailed}
use Rattle.rfb_hello.specs.ClientHandshake.{ClientPoint, AwaitsVersion, AwaitsChoice, AwaitsInit, Begun, ClientItem}
use Rattle.rfb_hello.specs.ClientHandshake.{FaultsClientItem, client_item}
use Rattle.rfb_hello.specs.ServerProgress.{ProgressStandsFor as HelloProgressStandsFor}
use Rattle.rfb_hello.specs.PendingBytes.{client_handshake_pending}
use Rattle.rfb_wire.specs.MessagePieces.{client_pending, client_piece_size}
use Rattle.rfb_wire.specs.ClientHead.{client_head_size}
use Rattle.rfb_wire.specs.declared.encoding.Encoding.{Encoding}
use Rattle.arrayvec.specs.ArrayVec.{ArrayVec}
use Rattle.rfb_hello.specs.KeptText.{KeptText}
use Rattle.rfb_hello.specs.ServerModel.{StandsFor as HelloStandsFor, setup_of}
use Rattle.std.specs.Prelude.{IfOk, IfErr}
use Rattle.std.proofs.lemmas.Bool.Decides.{nat_tests}
use Rattle.rfb_server.specs.declared.fault.ServerFault.{ServerFault}
use Rattle.rfb_server.specs.declared.fault.ServerFault.TheVariants.{NoMemory}
use Rattle.rfb_server.specs.declared.event.ServerEvent.{ServerEvent}
use Rattle.rfb_server.specs.declared.session.Session.{Session}
use Rattle.rfb_server.specs.declared.session.input.progress.Progress.{Progress}
use Rattle.rfb_server.specs.declared.session.input.progress.Progress.TheVariants.{Handshake, Head, Encodings, CutText}
use Rattle.rfb_server.specs.declared.session.input.progress.Progress.TheVariants.{Failed}
use Rattle.rfb_server.specs.Fault.{fault_of_hello, fault_of_message}
use Rattle.rfb_server.specs.ClientBytes.{ClientAt, client_bytes, client_bytes_pending, is_between}
use Rattle.rfb_server.specs.Told.{seen}
use Rattle.rfb_server.specs.Server.{Serving, server}
use Rattle.rfb_server.specs.Progress.{ProgressStandsFor, IsHeadBegun, fault_in, is_idle}
use Rattle.rfb_server.specs.Model.{SessionStandsFor}
use Rattle.rfb_server.specs.session.Slice.{StepsAs, FeedsAs}
use Rattle.rfb_server.specs.session.Sessions.{KeepsUp}
use Rattle.rfb_server.proofs.ServerLaws.{client_bytes_spelled, server_machine}
use Rattle.rfb_server.proofs.HeadLemmas.{begun_misses}

-- ---- a session waits for more

hello_waits : (offer : Version) (p : HelloProgress) (at : ClientPoint) (prefix : List ℕ) →
    HelloProgressStandsFor p at prefix → client_item offer at prefix ≡ More
hello_waits offer (VersionPart text) at prefix h = rw (h.0, h.1, piece_short {F = HelloFault} 12 text.items h.2) refl
hello_waits offer (Choice version) at prefix h = rw (h.0, h.1) refl
hello_waits offer (Init version) at prefix h = rw (h.0, h.1) refl
hello_waits offer (Done version shared) at prefix h = rw h.0 refl
hello_waits offer (HelloFailed fault) at prefix h = absurd h

head_waits : (bytes : List ℕ) → IsHeadBegun bytes → client_message bytes ≡ More
head_waits bytes begun = let misses = begun_misses bytes begun in client_head_waits misses.0 bytes misses.1

-- of a message's head that has begun more is waited for
pub begun_waits : (serving : Serving) (bytes : List ℕ) → IsHeadBegun bytes →
    (client_bytes serving.hello.offer).next (Second tt) bytes ≡ More
begun_waits serving bytes begun =
    ap (λ (n : Next ClientMessage ClientFault). named (λ m. Second m) fault_of_message n) (head_waits bytes begun)

pub progress_waits : (serving : Serving) (hello : ServerHello) (p : Progress) (at : ClientAt) (prefix : List ℕ) →
    ProgressStandsFor serving hello p at prefix →
    (client_bytes serving.hello.offer).next at prefix ≡ More
progress_waits serving hello Handshake (First at) prefix h =
    ap (λ (n : Next ClientItem HelloFault). named (λ i. First i) fault_of_hello n)
    (hello_waits serving.hello.offer hello.progress at prefix h.0.progress_is)
progress_waits serving hello Handshake (Second q) prefix h = absurd h
progress_waits serving hello (Head bytes) (First at) prefix h = absurd h
progress_waits serving hello (Head bytes) (Second q) prefix h = rw h.0 (begun_waits serving bytes.items h.1)
progress_waits serving hello (Encodings left number list) (First at) prefix h = absurd h
progress_waits serving hello (Encodings left number list) (Second q) prefix h =
    let long = length-pieces _ 4 (λ value bytes is. is.size) h.numbers h.units h.listed in
    let rest : length (h.units ++ number.items) < (length h.numbers + left) * 4 =
    omega (arith, length-append h.units number.items, long, h.short, h.some) in
    let waits : client_message prefix ≡ More =
    rw h.prefix_is (encodings_wait (length h.numbers + left) h.head (h.units ++ number.items) h.head_is rest) in
    ap (λ (n : Next ClientMessage ClientFault). named (λ m. Second m) fault_of_message n) waits
progress_waits serving hello (CutText text_length left kept) (First at) prefix h = absurd h
progress_waits serving hello (CutText text_length left kept) (Second q) prefix h =
    let waits : client_message prefix ≡ More =
    rw h.prefix_is (client_text_waits text_length h.head h.text h.head_is (omega (arith, h.count, h.some))) in
    ap (λ (n : Next ClientMessage ClientFault). named (λ m. Second m) fault_of_message n) waits
progress_waits serving hello (Failed fault) at prefix h = absurd h

pub session_starts : (session : Session) → FeedsAs session [] None session
session_starts session = λ serving screen.
    fed_start (server serving) (SessionStandsFor serving screen) session
    (λ s prefix now. progress_waits serving session.hello session.progress s.point prefix now.progress_is)

-- ---- want of memory is no fault of a client's bytes

not_hello : (offer : Version) (at : ClientPoint) (fault : HelloFault) (bytes : List ℕ) →
    NoMemory ≡ fault_of_hello fault → FaultsClientItem offer at fault bytes → ⊥
not_hello offer AwaitsVersion HelloMemory bytes e h = h
not_hello offer (AwaitsChoice version) HelloMemory bytes e h = h
not_hello offer (AwaitsInit version) HelloMemory bytes e h = h
not_hello offer (Begun version shared) HelloMemory bytes e h = h
not_hello offer at BadVersion bytes e h = cc
not_hello offer at VersionTooHigh bytes e h = cc
not_hello offer at BadSecurityChoice bytes e h = cc
not_hello offer at NoneNotOffered bytes e h = cc
not_hello offer at (Refused n) bytes e h = cc
not_hello offer at BadSecurityWord bytes e h = cc
not_hello offer at (SecurityFailed n) bytes e h = cc
not_hello offer at ScreenEmpty bytes e h = cc
not_hello offer at ScreenTooLarge bytes e h = cc

not_message : (fault : ClientFault) → NoMemory ≡ fault_of_message fault → ⊥
not_message (BadFormat BadBits) e = cc
not_message (BadFormat DepthTooLarge) e = cc
not_message (BadFormat NotTrueColour) e = cc
not_message (BadFormat BadMax) e = cc
not_message (BadFormat ShiftTooLarge) e = cc
not_message (BadFormat FieldsOverlap) e = cc
not_message (UnknownType kind) e = cc

pub not_memory : (offer : Version) (at : ClientAt) (bytes : List ℕ) →
    (client_bytes offer).next at bytes ≡ Bad NoMemory → ⊥
not_memory offer (First at) bytes e =
    let h = ((client_bytes_spelled offer).reads (First at)).blamed bytes NoMemory e in
    not_hello offer at h.3.0 h.0 h.3.1 h.3.2
not_memory offer (Second q) bytes e =
    let h = ((client_bytes_spelled offer).reads (Second q)).blamed bytes NoMemory e in not_message h.3.0 h.3.1

-- ---- a session that has failed

pub never_stands : (serving : Serving) (hello : ServerHello) (p : Progress) (fault : ServerFault) (at : ClientAt)
    (prefix : List ℕ) → fault_in p ≡ Some fault → ProgressStandsFor serving hello p at prefix → ⊥
never_stands serving hello Handshake fault at prefix e h = cc
never_stands serving hello (Head bytes) fault at prefix e h = cc
never_stands serving hello (Encodings left number list) fault at prefix e h = cc
never_stands serving hello (CutText text_length left kept) fault at prefix e h = cc
never_stands serving hello (Failed other) fault at prefix e h = h

-- ---- a step as a call

pub step_fed : (old new : Session) (unit : List ℕ) (event : Option ServerEvent) → StepsAs old unit (Ok event) new →
    FeedsAs old unit event new
step_fed old new unit event steps = λ serving screen.
    step_feeds (server serving) (server_machine serving) (SessionStandsFor serving screen) old new unit
    (seen event) (steps apart serving screen)
  where
    apart : ◌≢◌ {A = Result (Option ServerEvent) ServerFault} (Ok event) (Err NoMemory)
    apart e = cc

-- an event that is not there
pub none_told : (event : Option ServerEvent) → is_some event ≡ false → event ≡ None
none_told None e = refl
none_told (Some x) e = cc

pub some_told : (event : Option ServerEvent) → is_some event ≡ true → event ≡ None → ⊥
some_told None e none = cc
some_told (Some x) e none = cc

-- ---- between two messages, and what is pending

no_bytes : (bytes : List ℕ) → (length bytes == 0) ≡ is_between (Second tt) bytes
no_bytes [] = refl
no_bytes (first ∷ rest) = grind (arith, nat_tests)

some_bytes : (front rest : List ℕ) → 0 < length front → is_between (Second tt) (front ++ rest) ≡ false
some_bytes [] rest some = absurd (omega arith)
some_bytes (first ∷ front) rest some = refl

pub idle_is : (serving : Serving) (hello : ServerHello) (p : Progress) (at : ClientAt) (prefix : List ℕ) →
    ProgressStandsFor serving hello p at prefix →
    is_idle p ≡ is_between at prefix
idle_is serving hello Handshake (First at) prefix h = refl
idle_is serving hello Handshake (Second q) prefix h = absurd h
idle_is serving hello (Head bytes) (First at) prefix h = absurd h
idle_is serving hello (Head bytes) (Second q) prefix h = rw h.0 (no_bytes bytes.items)
idle_is serving hello (Encodings left number list) (First at) prefix h = absurd h
idle_is serving hello (Encodings left number list) (Second q) prefix h =
    rw h.prefix_is (sym (some_bytes h.head (h.units ++ number.items) (omega (arith, h.head_is.size))))
idle_is serving hello (CutText text_length left kept) (First at) prefix h = absurd h
idle_is serving hello (CutText text_length left kept) (Second q) prefix h =
    rw h.prefix_is (sym (some_bytes h.head h.text (omega (arith, h.head_is.size))))
idle_is serving hello (Failed fault) at prefix h = absurd h

pub failed_idle : (p : Progress) → fault_in p ≢ None → is_idle p ≡ false
failed_idle Handshake not = refl
failed_idle (Head bytes) not = absurd (not refl)
failed_idle (Encodings left number list) not = refl
failed_idle (CutText text_length left kept) not = refl
failed_idle (Failed fault) not = refl

pub hello_pending : (serving : Serving) (hello : ServerHello) (at : ClientAt) (prefix : List ℕ) (n : ℕ) →
    ProgressStandsFor serving hello Handshake at prefix →
    ((p : ClientPoint) (bytes : List ℕ) → HelloStandsFor serving.hello hello p bytes →
    n ≡ client_handshake_pending p bytes) →
    n ≡ client_bytes_pending at prefix
hello_pending serving hello (First p) prefix n h tells = tells p prefix h.0
hello_pending serving hello (Second q) prefix n h tells = absurd h

begun_pending : (bytes : List ℕ) → IsHeadBegun bytes → client_pending bytes ≡ length bytes
begun_pending [] h = refl
begun_pending (first ∷ rest) h = head_pending client_head_size client_piece_size first h.0 rest h.1 h.2

pub part_pending : (serving : Serving) (hello : ServerHello) (part : ArrayVec ℕ) (at : ClientAt) (prefix : List ℕ) →
    ProgressStandsFor serving hello (Head part) at prefix →
    length part.items ≡ client_bytes_pending at prefix
part_pending serving hello part (First p) prefix h = absurd h
part_pending serving hello part (Second q) prefix h = sym (ap client_pending h.0 ∙ begun_pending part.items h.1)

pub number_pending : (serving : Serving) (hello : ServerHello) (left : ℕ) (number : ArrayVec ℕ) (list : List Encoding)
    (at : ClientAt) (prefix : List ℕ) →
    ProgressStandsFor serving hello (Encodings left number list) at prefix →
    length number.items ≡ client_bytes_pending at prefix
number_pending serving hello left number list (First p) prefix h = absurd h
number_pending serving hello left number list (Second q) prefix h =
    sym (ap client_pending h.prefix_is
    ∙ numbers_pending (length h.numbers + left) h.numbers h.head h.units number.items h.head_is h.listed h.short)

pub text_pending : (serving : Serving) (hello : ServerHello) (n left : ℕ) (kept : KeptText)
    (at : ClientAt) (prefix : List ℕ) →
    ProgressStandsFor serving hello (CutText n left kept) at prefix → 0 ≡ client_bytes_pending at prefix
text_pending serving hello n left kept (First p) prefix h = absurd h
text_pending serving hello n left kept (Second q) prefix h =
    sym (ap client_pending h.prefix_is ∙ client_text_pending n h.head h.text h.head_is)

-- an answer that is good keeps what follows of it
pub ok_map : {A E : Type 0} (P Q : A → Type 0) (r : Result A E) → ((x : A) → P x → Q x) → IfOk r P → IfOk r Q
ok_map P Q (Ok x) f h = f x h
ok_map P Q (Err e) f h = tt

pub err_map : {A E : Type 0} (P Q : E → Type 0) (r : Result A E) → ((x : E) → P x → Q x) → IfErr r P → IfErr r Q
err_map P Q (Ok x) f h = tt
err_map P Q (Err e) f h = f e h

-- what a session was made with stays
abbrev pub made_as : Session → Serving
made_as session = record { hello = setup_of session.hello; text_limit = session.text_limit }

pub serving_kept : (old new : Session) → KeepsUp old new →
    made_as new ≡ made_as old
serving_kept old new up = rw (up.setup, up.text_limit) refl
