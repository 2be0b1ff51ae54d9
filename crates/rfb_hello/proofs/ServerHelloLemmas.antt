-- The server's end, step by step.
use Rattle.std.proofs.Common.{◌≡◌, ℕ, ◌+◌, ◌-◌, ◌<◌, ◌≤◌, ◌&&◌, if◌then◌else◌, nat_le, Bool, List, [], ◌∷◌, ◌++◌}
use Rattle.std.proofs.Common.{Option, Some, None, Result, is_some, true, false, Ok, Err, length, take, slice_index}
use Rattle.std.proofs.Common.{refl, sym, subst, ◌∙◌, ap, append-nil, length-append, arith}
use Rattle.std.proofs.lemmas.Bool.Decides.{nat_tests}
use Rattle.std.proofs.lemmas.List.{length-take}
use Rattle.rfb_wire.specs.stream.Prefix.{Got, Bad}
use Rattle.rfb_wire.specs.stream.End.{IsMachine, FedBy, RefusedBy, StepsBy}
use Rattle.rfb_wire.proofs.stream_laws.RepeatLaws.{checked_reads}
use Rattle.rfb_wire.proofs.stream_laws.FeedLaws.{step_feeds, front_refuses}
use Rattle.rfb_hello.specs.declared.version.Version.{Version}
use Rattle.rfb_hello.specs.declared.version.Version.TheVariants.{V33, V37, V38}
use Rattle.rfb_hello.specs.declared.fault.HelloFault.{HelloFault}
use Rattle.rfb_hello.specs.declared.fault.HelloFault.TheVariants.{BadVersion, VersionTooHigh}
use Rattle.rfb_hello.specs.declared.step.ServerStep.{ServerStep}
use Rattle.rfb_hello.specs.declared.step.ServerStep.TheVariants.{Reply}
use Rattle.rfb_hello.specs.declared.server_hello.ServerHello.{ServerHello}
use Rattle.rfb_hello.specs.declared.server_hello.progress.Progress.{Progress}
use Rattle.rfb_hello.specs.declared.server_hello.progress.Progress.TheVariants.{Version as VersionPart}
use Rattle.arrayvec.specs.ArrayVec.{ArrayVec}
use Rattle.rfb_hello.specs.Version.{is_version_text, minor_of, version_of}
use Rattle.rfb_hello.specs.ClientHandshake.{AwaitsVersion, ProtocolVersion, after_version, client_version_fault}
use Rattle.rfb_hello.specs.ClientHandshake.{client_item}
use Rattle.rfb_hello.specs.ServerEnd.{ServerSetup, as_reply, security_bytes, server_end}
use Rattle.rfb_hello.specs.ServerProgress.{ProgressStandsFor, least_left}
use Rattle.rfb_hello.specs.pieces.ServerPiece.{progress_after}
use Rattle.rfb_hello.specs.ServerModel.{StandsFor, setup_of}
use Rattle.rfb_hello.proofs.ClientHandshakeLaws.{client_handshake_laws}

pub server_machine : (setup : ServerSetup) → IsMachine (server_end setup)
server_machine setup = record { laws = client_handshake_laws setup.offer; past = λ s i. refl }

-- an event that is not there
pub none_told : {E : Type 0} (event : Option E) → is_some event ≡ false → event ≡ None
none_told None e = refl
none_told (Some x) e = cc

pub some_told : {E : Type 0} (event : Option E) → is_some event ≡ true → event ≡ None → ⊥
some_told None e none = cc
some_told (Some x) e none = cc

-- the first byte of a slice
pub first_byte : (bytes : List ℕ) → 0 < length bytes → take 1 bytes ≡ slice_index bytes 0 ∷ []
first_byte [] some = absurd (omega arith)
first_byte (x ∷ bytes) some = refl

-- a step by one byte feeds the first byte of a slice
pub one_fed : (setup : ServerSetup) (old new : ServerHello) (bytes : List ℕ) (event : Option ServerStep) →
    0 < length bytes → StepsBy (server_end setup) (StandsFor setup) old (slice_index bytes 0 ∷ []) (Ok event) new →
    FedBy (server_end setup) (StandsFor setup) old (take 1 bytes) event new
one_fed setup old new bytes event some steps = rw (first_byte bytes some) (step_feeds (server_end setup)
    (server_machine setup) (StandsFor setup) old new (slice_index bytes 0 ∷ []) event steps)

-- or refuses the slice
pub one_refused : (setup : ServerSetup) (old new : ServerHello) (bytes : List ℕ) (fault : HelloFault) →
    0 < length bytes → StepsBy (server_end setup) (StandsFor setup) old (slice_index bytes 0 ∷ []) (Err fault) new →
    RefusedBy (server_end setup) (StandsFor setup) old bytes fault
one_refused setup old new bytes fault some steps =
    let first = first_byte bytes some in
    front_refuses (server_end setup) (server_machine setup) (StandsFor setup) old new 1 bytes fault (subst
    (λ (unit : List ℕ). StepsBy (server_end setup) (StandsFor setup) old unit (Err fault) new) (sym first) steps)

-- what a client's version stands for once it is whole
stands_after : (v : Version) → ProgressStandsFor (progress_after v) (after_version v) []
stands_after V33 = (refl, refl)
stands_after V37 = (refl, refl)
stands_after V38 = (refl, refl)

-- the version that a text was read as
pub version_read : (size is_text : Bool) (v w : Version) →
    ◌≡◌ {A = Result Version HelloFault} (Ok w) (if size && is_text then Ok v else Err BadVersion) →
    (is_text ≡ true) × (w ≡ v)
version_read true true v w e = (refl, cc)
version_read true false v w e = cc
version_read false b v w e = cc

-- and why another was not
pub version_misread : (size is_text : Bool) (v : Version) (fault : HelloFault) →
    ◌≡◌ {A = Result Version HelloFault} (Err fault) (if size && is_text then Ok v else Err BadVersion) → size ≡ true →
    (is_text ≡ false) × (fault ≡ BadVersion)
version_misread true true v fault e whole = cc
version_misread true false v fault e whole = (refl, cc)
version_misread false b v fault e whole = cc

-- a version above the offer, and one within it
pub version_above : (offer : Version) (text : List ℕ) → is_version_text text ≡ true →
    minor_of offer < minor_of (version_of text) → Some VersionTooHigh ≡ client_version_fault offer text
version_above offer text is above =
    let no : nat_le (minor_of (version_of text)) (minor_of offer) ≡ false = grind (arith, nat_tests) in
    rw (is, no) refl

pub version_within : (offer : Version) (text : List ℕ) → is_version_text text ≡ true →
    minor_of (version_of text) ≤ minor_of offer → None ≡ client_version_fault offer text
version_within offer text is within =
    let yes_it_is : nat_le (minor_of (version_of text)) (minor_of offer) ≡ true = grind (arith, nat_tests) in
    rw (is, yes_it_is) refl

-- the last bytes of a version
pub version_told : (setup : ServerSetup) (old new : ServerHello) (text : ArrayVec ℕ) (unit all : List ℕ) →
    old.progress ≡ VersionPart text → all ≡ text.items ++ unit → length all ≡ 12 → client_version_fault old.offer all
    ≡ None → setup_of new ≡ setup_of old → new.progress ≡ progress_after (version_of all) → StepsBy (server_end setup)
    (StandsFor setup) old unit (Ok (Some (Reply (as_reply (security_bytes (version_of all)))))) new
version_told setup old new text unit all was whole size good same is s prefix stands =
    let here : ProgressStandsFor (VersionPart text) s prefix =
    subst (λ (p : Progress). ProgressStandsFor p s prefix) was stands.progress_is in
    let bytes : prefix ++ unit ≡ all = ap (λ (ys : List ℕ). ys ++ unit) here.1 ∙ sym whole in
    let offer : old.offer ≡ setup.offer = ap (λ (x : ServerSetup). x.offer) stands.setup_is in
    let fault : client_version_fault setup.offer all ≡ None =
    subst (λ (o : Version). client_version_fault o all ≡ None) offer good in
    let read : client_item setup.offer AwaitsVersion (all ++ []) ≡ Got (ProtocolVersion (version_of all)) [] =
    (checked_reads 12 (client_version_fault setup.offer) (λ zs. ProtocolVersion (version_of zs))).only
    (ProtocolVersion (version_of all)) all [] (size, fault, refl) in
    let next : client_item setup.offer s (prefix ++ unit) ≡ Got (ProtocolVersion (version_of all)) [] =
    rw (here.0, bytes) (subst (λ (zs : List ℕ). client_item setup.offer AwaitsVersion zs
    ≡ Got (ProtocolVersion (version_of all)) []) (append-nil all) read) in
    rw (next, here.0)
    (refl, refl, record { setup_is = same ∙ stands.setup_is; progress_is = rw is (stands_after (version_of all)) })

-- twelve bytes that are no version, or one above the offer
pub version_refused : (setup : ServerSetup) (old new : ServerHello)
    (text : ArrayVec ℕ) (unit all : List ℕ) (fault : HelloFault) → old.progress ≡ VersionPart text →
    all ≡ text.items ++ unit → length all ≡ 12 → client_version_fault old.offer all ≡ Some fault →
    StepsBy (server_end setup) (StandsFor setup) old unit (Err fault) new
version_refused setup old new text unit all fault was whole size bad s prefix stands =
    let here : ProgressStandsFor (VersionPart text) s prefix =
    subst (λ (p : Progress). ProgressStandsFor p s prefix) was stands.progress_is in
    let bytes : prefix ++ unit ≡ all = ap (λ (ys : List ℕ). ys ++ unit) here.1 ∙ sym whole in
    let offer : old.offer ≡ setup.offer = ap (λ (x : ServerSetup). x.offer) stands.setup_is in
    let bad_there : client_version_fault setup.offer all ≡ Some fault =
    subst (λ (o : Version). client_version_fault o all ≡ Some fault) offer bad in
    let read : client_item setup.offer AwaitsVersion (all ++ []) ≡ Bad fault =
    (checked_reads 12 (client_version_fault setup.offer) (λ zs. ProtocolVersion (version_of zs))).blames
    fault all [] (size, bad_there) in
    let next : client_item setup.offer s (prefix ++ unit) ≡ Bad fault = rw (here.0, bytes)
    (subst (λ (zs : List ℕ). client_item setup.offer AwaitsVersion zs ≡ Bad fault) (append-nil all) read) in
    rw next refl

-- ---- what is left

after_leaves : (version : Version) → 1 ≤ least_left (progress_after version)
after_leaves V33 = omega arith
after_leaves V37 = omega arith
after_leaves V38 = omega arith

-- of a version that came whole no more is counted than its bytes
pub version_leaves : (version : Version) (text whole bytes : List ℕ) (used : ℕ) →
    whole ≡ text ++ take used bytes → length whole ≡ 12 → used ≤ length bytes →
    12 - length text + 1 ≤ used + least_left (progress_after version)
version_leaves version text whole bytes used is twelve within =
    let both = ap length is ∙ length-append text (take used bytes) in
    omega (arith, after_leaves version, both, twelve, length-take used bytes, within)
