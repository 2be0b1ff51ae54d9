-- The viewer's end, step by step.
use Rattle.std.proofs.Common.{◌≡◌, ℕ, zero, suc, ◌+◌, ◌<◌, if◌then◌else◌}
use Rattle.std.proofs.Common.{true, List, [], ◌++◌, Option, Some, None, Result, Ok, length, take, drop}
use Rattle.std.proofs.Common.{refl, sym, subst, ◌∙◌, ap, append-nil, arith}
use Rattle.rfb_wire.specs.Fields.{u16_at, u32_at}
use Rattle.rfb_wire.specs.stream.Prefix.{More, Got}
use Rattle.rfb_wire.specs.stream.End.{FedBy, RunsOutBy, StepsBy}
use Rattle.rfb_wire.proofs.stream_laws.RepeatLaws.{checked_reads}
use Rattle.rfb_wire.proofs.stream_laws.PartLaws.{piece_short}
use Rattle.rfb_wire.proofs.stream_laws.FeedLaws.{fed_start, memory_step}
use Rattle.rfb_hello.specs.declared.version.Version.{Version}
use Rattle.rfb_hello.specs.declared.version.Version.TheVariants.{V33, V37, V38}
use Rattle.rfb_hello.specs.declared.fault.HelloFault.{HelloFault}
use Rattle.rfb_hello.specs.declared.fault.HelloFault.TheVariants.{BadVersion, NoneNotOffered, BadSecurityWord}
use Rattle.rfb_hello.specs.declared.step.ViewerStep.{ViewerStep}
use Rattle.rfb_hello.specs.declared.step.ViewerStep.TheVariants.{Reply, Screen, Ready}
use Rattle.rfb_hello.specs.declared.viewer_hello.ViewerHello.{ViewerHello}
use Rattle.rfb_hello.specs.declared.viewer_hello.progress.Progress.{Progress}
use Rattle.rfb_hello.specs.declared.viewer_hello.progress.Progress.TheVariants.{Version as VersionPart, Word, Count}
use Rattle.rfb_hello.specs.declared.viewer_hello.progress.Progress.TheVariants.{Types, Result as ResultPart}
use Rattle.rfb_hello.specs.declared.viewer_hello.progress.Progress.TheVariants.{ReasonLength, Reason, Init, Name, Done}
use Rattle.rfb_hello.specs.declared.viewer_hello.progress.Progress.TheVariants.{Failed}
use Rattle.arrayvec.specs.ArrayVec.{ArrayVec}
use Rattle.rfb_hello.specs.Version.{is_version_text, version_of, version_text, lower}
use Rattle.rfb_hello.specs.Offer.{offered_of, IsOfferedAt, KeepsOffer, IsOfferOn, TakesOffer}
use Rattle.rfb_hello.specs.declared.offered.Offered.{Offered}
use Rattle.rfb_hello.specs.KeptText.{KeptText}
use Rattle.rfb_hello.specs.ServerHandshake.{ServerPoint, AwaitsVersion, AwaitsSecurity, AwaitsInit, ProtocolVersion}
use Rattle.rfb_hello.specs.ServerHandshake.{ServerInit, after_init}
use Rattle.rfb_hello.specs.ServerItems.{name, security, screen_fault, server_item}
use Rattle.rfb_hello.specs.ServerEnd.{as_reply}
use Rattle.rfb_hello.specs.ViewerEnd.{ViewerSetup, viewer_end, told_of_init, AsksMemory}
use Rattle.rfb_hello.specs.pieces.ViewerPiece.{fault_for}
use Rattle.rfb_hello.specs.ViewerProgress.{ProgressStandsFor, fault_in}
use Rattle.rfb_hello.specs.pieces.ViewerPiece.{progress_after_version, progress_after_init}
use Rattle.rfb_hello.specs.ViewerModel.{StandsFor}
use Rattle.rfb_hello.proofs.ServerStreamLaws.{screen_admitted}
use Rattle.rfb_hello.proofs.ViewerReadingLaws.{opened, reason_short, reason_more, types_next, types_more}
use Rattle.rfb_hello.proofs.ViewerStepLemmas.{viewer_machine, got_step, asks_step, becomes, joined}

-- ---- the version

stands_after_version : (limit : ℕ) (v : Version) →
    ProgressStandsFor limit (progress_after_version v) (AwaitsSecurity v) []
stands_after_version limit V33 = (refl, refl, omega arith)
stands_after_version limit V37 = (refl, (λ (e : V37 ≡ V33). cc), refl)
stands_after_version limit V38 = (refl, (λ (e : V38 ≡ V33). cc), refl)

-- the types that are kept stay
pub version_keeps : (old new : ViewerHello) (part : ArrayVec ℕ) (unit : List ℕ) (reply : ArrayVec ℕ) →
    old.progress ≡ VersionPart part → offered_of new ≡ offered_of old →
    TakesOffer (Some (Reply reply)) old unit new
version_keeps old new part unit reply was same setup =
    asks_step (IsOfferOn (offered_of old) (offered_of new)) setup old (VersionPart part) unit was
    (λ s prefix h. rw h.0 same)

-- a version, and the answer to it
pub version_told : (setup : ViewerSetup) (old : ViewerHello) (part reply : ArrayVec ℕ) (unit whole : List ℕ)
    (v low : Version) (next : Progress) → old.progress ≡ VersionPart part → whole ≡ part.items ++ unit →
    length whole ≡ 12 → (is_version_text whole ≡ true) × (v ≡ version_of whole) →
    low ≡ lower old.limit v →
    reply ≡ as_reply (version_text low) → next ≡ progress_after_version low →
    StepsBy (viewer_end setup) (StandsFor setup) old unit (Ok (Some (Reply reply))) (record old { progress = next })
version_told setup old part reply unit whole v low next was is size text low_is reply_is next_is =
    becomes setup old unit (Ok (Some (Reply reply))) (progress_after_version low) next next_is
    (got_step setup old (VersionPart part) (progress_after_version low) unit (Some (Reply reply)) was
    (λ s prefix same h.
    let fault : List ℕ → Option HelloFault = λ zs. if is_version_text zs then None else Some BadVersion in
    let read : server_item setup.max_places AwaitsVersion (whole ++ []) ≡ Got (ProtocolVersion v) [] = (checked_reads 12
    fault (λ zs. ProtocolVersion (version_of zs))).only (ProtocolVersion v) whole []
    (size, rw text.0 refl, ap (λ (l : Version). ProtocolVersion l) text.1) in
    let limit : low ≡ lower setup.limit v =
    low_is ∙ ap (λ (l : Version). lower l v) (ap (λ (x : ViewerSetup). x.limit) same) in
    rw (h.0, joined prefix part.items unit whole h.1 is) (
      ProtocolVersion v,
      subst (λ (zs : List ℕ). server_item setup.max_places AwaitsVersion zs ≡ Got (ProtocolVersion v) [])
          (append-nil whole) read,
      ap (λ (r : ArrayVec ℕ). Some (Reply r)) (rw limit at (sym reply_is)),
      rw limit (stands_after_version setup.text_limit (lower setup.limit v)),
    )))

-- ---- ServerInit

-- neither does ServerInit change them
pub init_keeps : (old new : ViewerHello) (unit : List ℕ) (limit : ℕ) (version : Version) (w h n : ℕ)
    (step : ViewerStep) → step ≡ told_of_init limit version w h n → offered_of new ≡ offered_of old →
    TakesOffer (Some step) old unit new
init_keeps old new unit limit version w h n step is same = rw is (by n)
  where
    by : (k : ℕ) → TakesOffer (Some (told_of_init limit version w h k)) old unit new
    by zero = same
    by (suc k) = same

-- a screen that is admitted
pub init_told : (setup : ViewerSetup) (old : ViewerHello) (version : Version) (part : ArrayVec ℕ)
    (unit whole : List ℕ) (w h k : ℕ) (step : ViewerStep) (next : Progress) →
    old.progress ≡ Init version part → whole ≡ part.items ++ unit → length whole ≡ 24 →
    screen_fault old.max_places whole ≡ None → w ≡ u16_at 0 whole → h ≡ u16_at 2 whole →
    k ≡ u32_at 20 whole →
    step ≡ told_of_init old.text_limit version w h k → next ≡ progress_after_init old.text_limit version w h k →
    StepsBy (viewer_end setup) (StandsFor setup) old unit (Ok (Some step)) (record old { progress = next })
init_told setup old version part unit whole w h k step next was is size good w_is h_is k_is step_is next_is =
    rw (step_is, w_is, h_is, k_is) (becomes setup old unit
    (Ok (Some (told_of_init old.text_limit version (u16_at 0 whole) (u16_at 2 whole) (u32_at 20 whole))))
    (progress_after_init old.text_limit version (u16_at 0 whole) (u16_at 2 whole) (u32_at 20 whole)) next
    (rw (w_is, h_is, k_is) at next_is) (got_step setup old (Init version part)
    (progress_after_init old.text_limit version (u16_at 0 whole) (u16_at 2 whole) (u32_at 20 whole))
    unit (Some (told_of_init old.text_limit version (u16_at 0 whole) (u16_at 2 whole) (u32_at 20 whole)))
    was (λ s prefix same h.
    let width = u16_at 0 whole in
    let height = u16_at 2 whole in
    let n = u32_at 20 whole in
    let i = ServerInit width height n in
    let limit : old.text_limit ≡ setup.text_limit = ap (λ (x : ViewerSetup). x.text_limit) same in
    let max : old.max_places ≡ setup.max_places = ap (λ (x : ViewerSetup). x.max_places) same in
    let there : screen_fault setup.max_places whole ≡ None = subst (λ (k : ℕ). screen_fault k whole ≡ None) max good in
    let read : server_item setup.max_places (AwaitsInit version) (whole ++ []) ≡ Got i [] =
    (checked_reads 24 (screen_fault setup.max_places)
    (λ zs. ServerInit (u16_at 0 zs) (u16_at 2 zs) (u32_at 20 zs))).only i whole [] (size, there, refl) in
    let told : told_of_init setup.text_limit version width height n
    ≡ told_of_init old.text_limit version width height n =
    ap (λ (k : ℕ). told_of_init k version width height n) (sym limit) in
    rw (h.0, joined prefix part.items unit whole h.1 is) (
      i,
      subst (λ (zs : List ℕ). server_item setup.max_places (AwaitsInit version) zs ≡ Got i []) (append-nil whole) read,
      ap (λ (e : ViewerStep). Some e) told,
      subst (λ (k : ℕ). ProgressStandsFor setup.text_limit (progress_after_init k version width height n)
          (after_init version width height n) []) (sym limit) (stands width height n),
    ))))
  where
    stands : (width height n : ℕ) → ProgressStandsFor setup.text_limit
        (progress_after_init setup.text_limit version width height n) (after_init version width height n) []
    stands width height zero = (version, width, height, refl, refl)
    stands width height (suc n) = (refl, omega arith, refl)

-- where memory is asked for its name
pub init_asks : (setup : ViewerSetup) (old : ViewerHello) (version : Version)
    (part : ArrayVec ℕ) (unit whole : List ℕ) → old.progress ≡ Init version part → whole ≡ part.items ++ unit →
    length whole ≡ 24 → screen_fault old.max_places whole ≡ None → 0 < u32_at 20 whole →
    RunsOutBy (viewer_end setup) (AsksMemory setup) (StandsFor setup) old unit
init_asks setup old version part unit whole was is size good some s prefix stands =
    let max : old.max_places ≡ setup.max_places = ap (λ (x : ViewerSetup). x.max_places) stands.setup_is in
    let admitted =
    screen_admitted setup.max_places version whole size (subst (λ (k : ℕ). screen_fault k whole ≡ None) max good) in
    asks_step (AsksMemory setup) setup old (Init version part) unit was (λ s prefix h.
    rw (h.0, joined prefix part.items unit whole h.1 is) (
      u16_at 0 whole,
      u16_at 2 whole,
      u32_at 20 whole,
      record {
        size = size;
        width_is = refl;
        height_is = refl;
        name_length_is = refl;
      },
      admitted,
      some,
    )) s prefix stands

-- ---- what an end stands for waits for more

name_short : (n : ℕ) (bytes : List ℕ) → length bytes < n → name n bytes ≡ More
name_short zero bytes few = absurd (omega (arith, few))
name_short (suc n) bytes few = rw (piece_short {F = HelloFault} (suc n) bytes few) refl

security_empty : (version : Version) → security version [] ≡ More
security_empty V33 = refl
security_empty V37 = refl
security_empty V38 = refl

progress_waits : (max limit : ℕ) (p : Progress) (s : ServerPoint) (prefix : List ℕ) →
    ProgressStandsFor limit p s prefix → server_item max s prefix ≡ More
progress_waits max limit (VersionPart part) s prefix h =
    rw (h.0, h.1, piece_short {F = HelloFault} 12 part.items h.2) refl
progress_waits max limit (Word part) s prefix h = rw (h.0, h.1, piece_short {F = HelloFault} 4 part.items h.2) refl
progress_waits max limit (Count version) s prefix h = rw (h.0, h.2) (security_empty version)
progress_waits max limit (Types version list) s prefix h =
    let n = length list.types + (list.more + 1) in
    rw (h.0, h.2) (types_next version n list.types h.1 ∙ types_more n list.types (omega arith))
progress_waits max limit (ResultPart version part) s prefix h =
    rw (h.0, h.1, piece_short {F = HelloFault} 4 part.items h.2) refl
progress_waits max limit (ReasonLength cause part) s prefix h =
    rw h.2 (opened max cause s h.0 part.items h.1 ∙ reason_short (λ n. fault_for cause n) part.items h.3)
progress_waits max limit (Reason cause n more kept) s prefix h =
    let size = h.6 in
    rw h.4 (opened max cause s h.0 (h.1 ++ h.2) h.3
    ∙ reason_more (λ k. fault_for cause k) n h.1 h.2 h.5 (omega (arith, size)))
progress_waits max limit (Init version part) s prefix h =
    rw (h.0, h.1, piece_short {F = HelloFault} 24 part.items h.2) refl
progress_waits max limit (Name version width height n more kept) s prefix h =
    let size = h.1 in
    rw h.0 (name_short n prefix (omega (arith, size)))
progress_waits max limit Done s prefix h = rw h.3 refl
progress_waits max limit (Failed fault kept) s prefix h = absurd h

pub viewer_starts : (setup : ViewerSetup) (v : ViewerHello) → FedBy (viewer_end setup) (StandsFor setup) v [] None v
viewer_starts setup v = fed_start (viewer_end setup) (StandsFor setup) v
    (λ s prefix stands. progress_waits setup.max_places setup.text_limit v.progress s prefix stands.progress_is)

pub not_failed : (p : Progress) → ((fault : HelloFault) (kept : KeptText) → p ≡ Failed fault kept → ⊥) →
    fault_in p ≡ None
not_failed (Failed fault kept) not = absurd (not fault kept refl)
not_failed p not = refl

-- the same step of the same slice
pub step_there : (setup : ViewerSetup) (old new : ViewerHello)
    (n : ℕ) (slice there : List ℕ) (result known : Result (Option ViewerStep) HelloFault) →
    slice ≡ there → result ≡ known → StepsBy (viewer_end setup) (StandsFor setup) old (take n slice) result new →
    StepsBy (viewer_end setup) (StandsFor setup) old (take n there) known new
step_there setup old new n slice there result known same is steps =
    subst (λ (r : Result (Option ViewerStep) HelloFault). StepsBy (viewer_end setup)
    (StandsFor setup) old (take n there) r new) is
    (subst (λ (xs : List ℕ). StepsBy (viewer_end setup) (StandsFor setup) old (take n xs) result new) same steps)

-- ---- a slice with some bytes taken before, and the types that are kept

pub offer_later : (fault : HelloFault) (old mid new : ViewerHello) (i n : ℕ) (bytes : List ℕ) →
    ((setup : ViewerSetup) → FedBy (viewer_end setup) (StandsFor setup) old (take i bytes) None mid) →
    offered_of mid ≡ offered_of old → KeepsOffer fault mid (take n (drop i bytes)) new → KeepsOffer fault old bytes new
offer_later NoneNotOffered old mid new i n bytes fed same kept =
    λ setup. memory_step (viewer_end setup) (viewer_machine setup) (IsOfferedAt (offered_of new)) (StandsFor setup) old
    mid i n bytes (fed setup) (kept setup)
offer_later BadSecurityWord old mid new i n bytes fed same kept =
    λ setup. memory_step (viewer_end setup) (viewer_machine setup) (IsOfferedAt (offered_of new)) (StandsFor setup) old
    mid i n bytes (fed setup) (kept setup)
offer_later fault old mid new i n bytes fed same kept = kept ∙ same

pub taken_later : (event : Option ViewerStep) (old mid new : ViewerHello) (i n : ℕ) (bytes : List ℕ) →
    ((setup : ViewerSetup) → FedBy (viewer_end setup) (StandsFor setup) old (take i bytes) None mid) →
    offered_of mid ≡ offered_of old → TakesOffer event mid (take n (drop i bytes)) new → TakesOffer event old bytes new
taken_later (Some (Reply reply)) old mid new i n bytes fed same kept = λ setup.
    memory_step (viewer_end setup) (viewer_machine setup) (IsOfferOn (offered_of old) (offered_of new))
    (StandsFor setup) old mid i n bytes (fed setup)
    (subst (λ (o : Offered). RunsOutBy (viewer_end setup) (IsOfferOn o (offered_of new)) (StandsFor setup) mid
    (take n (drop i bytes))) same (kept setup))
taken_later (Some (Screen width height)) old mid new i n bytes fed same kept = kept ∙ same
taken_later (Some (Ready width height version name size)) old mid new i n bytes fed same kept = kept ∙ same
taken_later None old mid new i n bytes fed same kept = kept ∙ same
