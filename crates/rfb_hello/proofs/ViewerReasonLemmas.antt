-- Reasons that a viewer is told: their bytes, and what is kept of them.
use Rattle.std.proofs.Common.{◌≡◌, ◌≢◌, ℕ, ◌+◌, ◌<◌, ◌≤◌, List, [], ◌∷◌, ◌++◌}
use Rattle.std.proofs.Common.{Some, None, Ok, Err, length, take, drop, min, refl, sym, subst, ◌∙◌, ap, append-nil}
use Rattle.std.proofs.Common.{append_assoc, length-append, arith}
use Rattle.std.proofs.lemmas.List.{length-take-le}
use Rattle.rfb_wire.specs.stream.Prefix.{More}
use Rattle.rfb_wire.specs.stream.End.{FedBy, RunsOutBy, StepsBy}
use Rattle.rfb_wire.proofs.stream_laws.FeedLaws.{memory_step}
use Rattle.rfb_hello.specs.declared.version.Version.{Version}
use Rattle.rfb_hello.specs.declared.version.Version.TheVariants.{V33, V37, V38}
use Rattle.rfb_hello.specs.declared.fault.HelloFault.{HelloFault}
use Rattle.rfb_hello.specs.declared.fault.HelloFault.TheVariants.{Refused as RefusedFault}
use Rattle.rfb_hello.specs.declared.fault.HelloFault.TheVariants.{SecurityFailed as FailedFault}
use Rattle.rfb_hello.specs.declared.viewer_hello.ViewerHello.{ViewerHello}
use Rattle.rfb_hello.specs.declared.viewer_hello.progress.Cause.{Cause}
use Rattle.rfb_hello.specs.declared.viewer_hello.progress.Cause.TheVariants.{Refused, SecurityFailed}
use Rattle.rfb_hello.specs.declared.viewer_hello.progress.Progress.{Progress}
use Rattle.rfb_hello.specs.declared.viewer_hello.progress.Progress.TheVariants.{Word, Count, Result as ResultPart}
use Rattle.rfb_hello.specs.declared.viewer_hello.progress.Progress.TheVariants.{ReasonLength, Reason}
use Rattle.arrayvec.specs.ArrayVec.{ArrayVec}
use Rattle.rfb_hello.specs.KeptText.{KeptText, no_text, kept_of}
use Rattle.rfb_hello.specs.ServerHandshake.{ServerPoint, AwaitsSecurity, AwaitsInit, IsWord}
use Rattle.rfb_hello.specs.ServerItems.{server_item}
use Rattle.rfb_hello.specs.ViewerEnd.{ViewerSetup, viewer_end, OpensReason, AsksMemory, AsksForReason}
use Rattle.rfb_hello.specs.pieces.ViewerPiece.{fault_for, TakesPiece}
use Rattle.rfb_hello.specs.Offer.{offered_of}
use Rattle.rfb_hello.specs.ViewerProgress.{ProgressStandsFor, reason_in}
use Rattle.rfb_hello.specs.ViewerModel.{StandsFor, IsReasonKept, KeepsReason, fault_of, setup_of}
use Rattle.rfb_hello.proofs.TextLemmas.{kept_none}
use Rattle.rfb_hello.proofs.KeptTextLaws.{kept_on}
use Rattle.rfb_hello.proofs.ViewerReadingLaws.{opened, reason_short, reason_more, reason_bad}
use Rattle.rfb_hello.proofs.ViewerStepLemmas.{viewer_machine, more_step, bad_step, asks_step, becomes, refuses}

-- ---- the bytes before a reason, and its length

reason_comes : (setup : ViewerSetup) (old : ViewerHello) (p next : Progress) (cause : Cause) (unit : List ℕ) →
    old.progress ≡ p → next ≡ ReasonLength cause (record { items = [] }) →
    ((s : ServerPoint) (prefix : List ℕ) → ProgressStandsFor setup.text_limit p s prefix →
    OpensReason cause s (prefix ++ unit)) →
    StepsBy (viewer_end setup) (StandsFor setup) old unit (Ok None) (record old { progress = next })
reason_comes setup old p next cause unit was is opens =
    becomes setup old unit (Ok None) (ReasonLength cause (record { items = [] })) next is
    (more_step setup old p (ReasonLength cause (record { items = [] })) unit was (λ s prefix h.
    let intro = prefix ++ unit in
    let o = opens s prefix h in
    let none : server_item setup.max_places s (intro ++ []) ≡ More =
    opened setup.max_places cause s intro [] o ∙ reason_short (λ n. fault_for cause n) [] (omega arith) in (
      subst (λ (ys : List ℕ). server_item setup.max_places s ys ≡ More) (append-nil intro) none,
      (intro, o, sym (append-nil intro), omega arith),
    )))

-- no security types
pub count_of_none : (setup : ViewerSetup) (old : ViewerHello) (version : Version) (count : ℕ) (next : Progress) →
    old.progress ≡ Count version → count ≡ 0 → next ≡ ReasonLength Refused (record { items = [] }) →
    StepsBy (viewer_end setup) (StandsFor setup) old (count ∷ []) (Ok None) (record old { progress = next })
count_of_none setup old version count next was none is =
    reason_comes setup old (Count version) next Refused (count ∷ []) was is
    (λ s prefix h. rw (h.0, h.2, none) (opens version h.1))
  where
    opens : (v : Version) → v ≢ V33 → OpensReason Refused (AwaitsSecurity v) (0 ∷ [])
    opens V33 not = absurd (not refl)
    opens V37 not = refl
    opens V38 not = refl

-- a word of 0 in place of a security type
pub word_of_none : (setup : ViewerSetup) (old : ViewerHello) (part : ArrayVec ℕ) (unit : List ℕ) (next : Progress)
    →
    old.progress ≡ Word part → IsWord 0 (part.items ++ unit) →
    next ≡ ReasonLength Refused (record { items = [] }) →
    StepsBy (viewer_end setup) (StandsFor setup) old unit (Ok None) (record old { progress = next })
word_of_none setup old part unit next was word is =
    reason_comes setup old (Word part) next Refused unit was is (λ s prefix h. rw (h.0, h.1) word)

-- a SecurityResult that is not success
pub result_failed : (setup : ViewerSetup) (old : ViewerHello) (version : Version) (part : ArrayVec ℕ)
    (unit : List ℕ) (word : ℕ) (next : Progress) → old.progress ≡ ResultPart version part →
    IsWord word (part.items ++ unit) → word ≢ 0 → next ≡ ReasonLength SecurityFailed (record { items = [] }) →
    StepsBy (viewer_end setup) (StandsFor setup) old unit (Ok None) (record old { progress = next })
result_failed setup old version part unit word next was at_word not is =
    reason_comes setup old (ResultPart version part) next SecurityFailed unit was is
    (λ s prefix h. rw (h.0, h.1) (word, not, at_word))

-- ---- reasons

-- bytes after the intro of a reason
after_intro : (prefix intro part unit : List ℕ) → prefix ≡ intro ++ part → prefix ++ unit ≡ intro ++ (part ++ unit)
after_intro prefix intro part unit is = ap (λ (ys : List ℕ). ys ++ unit) is ∙ append_assoc intro part unit

-- after the fault it is given for, what is kept of it
reason_kept : (cause : Cause) (n : ℕ) (old new : ViewerHello) (unit : List ℕ) →
    ((setup : ViewerSetup) → RunsOutBy
    (viewer_end setup) (IsReasonKept setup.text_limit cause n (reason_in new.progress)) (StandsFor setup) old unit) →
    KeepsReason (fault_for cause n) old unit new
reason_kept Refused n old new unit h = h
reason_kept SecurityFailed n old new unit h = h

-- the step with that fault
pub reason_refuses : {old new : ViewerHello} {bytes : List ℕ} {used : ℕ} {result : HelloFault} (cause : Cause)
    (n : ℕ) → (0 < used) × (used ≤ length bytes) → result ≡ fault_for cause n → ((setup : ViewerSetup) →
    StepsBy (viewer_end setup) (StandsFor setup) old (take used bytes) (Err (fault_for cause n)) new) →
    fault_of new ≡ Some (fault_for cause n) → KeepsReason (fault_for cause n) old (take used bytes) new →
    offered_of new ≡ offered_of old → setup_of new ≡ setup_of old → TakesPiece old bytes used (Err result) new
reason_refuses Refused n some is steps fails reason offered setup =
    refuses some (RefusedFault n) is (λ e. cc) steps fails reason offered setup
reason_refuses SecurityFailed n some is steps fails reason offered setup =
    refuses some (FailedFault n) is (λ e. cc) steps fails reason offered setup

-- a part of its length
pub length_part : (setup : ViewerSetup) (old : ViewerHello) (cause : Cause) (part now : ArrayVec ℕ) (unit : List ℕ) →
    old.progress ≡ ReasonLength cause part → now.items ≡ part.items ++ unit → length now.items < 4 →
    StepsBy (viewer_end setup) (StandsFor setup) old unit (Ok None) (record old { progress = ReasonLength cause now })
length_part setup old cause part now unit was is few =
    more_step setup old (ReasonLength cause part) (ReasonLength cause now) unit was (λ s prefix h.
    let all : prefix ++ unit ≡ h.0 ++ now.items =
    after_intro prefix h.0 part.items unit h.2 ∙ ap (λ (ys : List ℕ). h.0 ++ ys) (sym is) in
    rw all (
      opened setup.max_places cause s h.0 now.items h.1 ∙ reason_short (λ n. fault_for cause n) now.items few,
      (h.0, h.1, refl, few),
    ))

-- all of its length, which is that number
module _ (old : ViewerHello) (cause : Cause) (part : ArrayVec ℕ) (unit : List ℕ) (n : ℕ)
    (was : old.progress ≡ ReasonLength cause part) (word : IsWord n (part.items ++ unit)) where
  -- the length, and no byte of the text
  no_text_yet : (prefix intro : List ℕ) → prefix ≡ intro ++ part.items →
      prefix ++ unit ≡ intro ++ ((part.items ++ unit) ++ [])
  no_text_yet prefix intro is = after_intro prefix intro part.items unit is
      ∙ ap (λ (ys : List ℕ). intro ++ ys) (sym (append-nil (part.items ++ unit)))

  -- a reason without bytes
  pub length_zero : (setup : ViewerSetup) (new : ViewerHello) → n ≡ 0 →
      StepsBy (viewer_end setup) (StandsFor setup) old unit (Err (fault_for cause n)) new
  length_zero setup new none = bad_step setup old new (ReasonLength cause part) unit (fault_for cause n) was
      (λ s prefix h. rw (no_text_yet prefix h.0 h.2)
      (opened setup.max_places cause s h.0 ((part.items ++ unit) ++ []) h.1
      ∙ reason_bad (λ k. fault_for cause k) n (part.items ++ unit) [] word (sym none)))

  -- nothing is kept of it
  pub none_kept : (new : ViewerHello) → n ≡ 0 → reason_in new.progress ≡ no_text →
      KeepsReason (fault_for cause n) old unit new
  none_kept new none kept =
      reason_kept cause n old new unit (λ setup. asks_step (IsReasonKept setup.text_limit cause n
      (reason_in new.progress)) setup old (ReasonLength cause part) unit was (λ s prefix h. (
        h.0,
        part.items ++ unit,
        [],
        no_text_yet prefix h.0 h.2,
        h.1,
        word,
        sym none,
        kept ∙ sym (rw none
            (kept_none setup.text_limit)),
      )))

  -- memory is asked for
  pub length_asks : (setup : ViewerSetup) → 0 < n →
      RunsOutBy (viewer_end setup) (AsksMemory setup) (StandsFor setup) old unit
  length_asks setup some =
      asks_step (AsksMemory setup) setup old (ReasonLength cause part) unit was (λ s prefix h.
      asks s (prefix ++ unit) h.0 h.1
      (cause, h.0, part.items ++ unit, n, after_intro prefix h.0 part.items unit h.2, h.1, word, some))
    where
      not_there : (version : Version) (intro : List ℕ) (k : Cause) → OpensReason k (AwaitsInit version) intro →
          ⊥
      not_there version intro Refused o = o
      not_there version intro SecurityFailed o = o

      asks : (s : ServerPoint) (bytes intro : List ℕ) → OpensReason cause s intro →
          AsksForReason s bytes → AsksMemory setup s bytes
      asks (AwaitsInit version) bytes intro o a = absurd (not_there version intro cause o)
      asks point bytes intro o a = a

  -- the text comes next
  pub length_told : (setup : ViewerSetup) (more : ℕ) (kept : KeptText) → n ≡ more + 1 →
      kept ≡ kept_of old.text_limit n [] → StepsBy (viewer_end setup) (StandsFor setup) old unit (Ok None)
      (record old { progress = Reason cause n more kept })
  length_told setup more kept count text s prefix stands =
      let limit : old.text_limit ≡ setup.text_limit = ap (λ (x : ViewerSetup). x.text_limit) stands.setup_is in
      let kept_is : kept ≡ kept_of setup.text_limit n [] = text ∙ ap (λ (k : ℕ). kept_of k n []) limit in
      more_step setup old (ReasonLength cause part) (Reason cause n more kept) unit was (λ s prefix h.
      rw (no_text_yet prefix h.0 h.2) (
        opened setup.max_places cause s h.0 ((part.items ++ unit) ++ []) h.1
            ∙ reason_more (λ k. fault_for cause k) n (part.items ++ unit) [] word (omega (arith, count)),
        (h.0, part.items ++ unit, [], h.1, refl, word, omega (arith, count), kept_is),
      )) s prefix stands

-- bytes of the text, after which that many are left
text_on : (limit : ℕ) (cause : Cause) (n more left used : ℕ) (kept now : KeptText) (bytes : List ℕ) →
    used ≤ length bytes → used + left ≡ more + 1 →
    now ≡ record kept { bytes = take kept.room (kept.bytes ++ take used bytes) } →
    (s : ServerPoint) (prefix : List ℕ) → ProgressStandsFor limit (Reason cause n more kept) s prefix →
    (intro word text : List ℕ) × OpensReason cause s intro × (prefix ++ take used bytes ≡ intro ++ (word ++ text))
    × IsWord n word × (length text + left ≡ n) × (now ≡ kept_of limit n text)
text_on limit cause n more left used kept now bytes within count is s prefix h =
    let unit = take used bytes in
    let text = h.2 in
    let size : length (text ++ unit) + left ≡ n =
    rw (length-append text unit) (omega (arith, count, length-take-le used bytes within, h.6)) in (
      h.0,
      h.1,
      text ++ unit,
      h.3,
      after_intro prefix h.0 (h.1 ++ text) unit h.4
          ∙ ap (λ (ys : List ℕ). h.0 ++ ys) (append_assoc h.1 text unit),
      h.5,
      size,
      is ∙ rw h.7 (ap (λ (ys : List ℕ). record { room = min n limit; bytes = ys })
          (kept_on limit n text unit (omega (arith, size)))),
    )

-- a part of the text
pub reason_part : (setup : ViewerSetup) (old : ViewerHello) (cause : Cause) (n more left used : ℕ)
    (kept now : KeptText) (bytes : List ℕ) → old.progress ≡ Reason cause n more kept → used ≤ length bytes →
    used + left ≡ more → now ≡ record kept { bytes = take kept.room (kept.bytes ++ take used bytes) } →
    StepsBy (viewer_end setup) (StandsFor setup) old (take used bytes) (Ok None)
    (record old { progress = Reason cause n left now })
reason_part setup old cause n more left used kept now bytes was within count is =
    more_step setup old (Reason cause n more kept) (Reason cause n left now) (take used bytes) was (λ s prefix h.
    let t =
    text_on setup.text_limit cause n more (left + 1) used kept now bytes within (omega (arith, count)) is s prefix h in
    let size = t.6 in
    rw t.4 (
      opened setup.max_places cause s t.0 (t.1 ++ t.2) t.3
          ∙ reason_more (λ k. fault_for cause k) n t.1 t.2 t.5 (omega (arith, size)),
      (t.0, t.1, t.2, t.3, refl, t.5, size, t.7),
    ))

-- the last bytes of the text
module _ (old new : ViewerHello) (cause : Cause) (n more used : ℕ) (kept : KeptText) (bytes : List ℕ)
    (was : old.progress ≡ Reason cause n more kept) (within : used ≤ length bytes) (count : used ≡ more + 1) where
  -- the fault comes with them
  pub reason_told : (setup : ViewerSetup) →
      StepsBy (viewer_end setup) (StandsFor setup) old (take used bytes) (Err (fault_for cause n)) new
  reason_told setup = bad_step setup old new (Reason cause n more kept) (take used bytes) (fault_for cause n) was
      (λ s prefix h.
      let t = text_on setup.text_limit cause n more 0 used kept
      (record kept { bytes = take kept.room (kept.bytes ++ take used bytes) }) bytes within (omega (arith, count)) refl
      s prefix h in
      let size = t.6 in
      rw t.4 (opened setup.max_places cause s t.0 (t.1 ++ t.2) t.3
      ∙ reason_bad (λ k. fault_for cause k) n t.1 t.2 t.5 (omega (arith, size))))

  -- what is kept of it
  pub text_kept : reason_in new.progress ≡ record kept { bytes = take kept.room (kept.bytes ++ take used bytes) } →
      KeepsReason (fault_for cause n) old (take used bytes) new
  text_kept is =
      reason_kept cause n old new (take used bytes) (λ setup. asks_step (IsReasonKept setup.text_limit cause n
      (reason_in new.progress)) setup old (Reason cause n more kept) (take used bytes) was (λ s prefix h.
      let t = text_on setup.text_limit cause n more 0 used kept (reason_in new.progress) bytes within
      (omega (arith, count)) is s prefix h in
      let size = t.6 in
      (t.0, t.1, t.2, t.4, t.3, t.5, omega (arith, size), t.7)))

-- ---- what is kept of a reason

-- a slice with some bytes taken before
pub kept_later : (fault : HelloFault) (old mid new : ViewerHello) (i n : ℕ) (bytes : List ℕ) →
    ((setup : ViewerSetup) → FedBy (viewer_end setup) (StandsFor setup) old (take i bytes) None mid) →
    KeepsReason fault mid (take n (drop i bytes)) new → KeepsReason fault old bytes new
kept_later (RefusedFault k) old mid new i n bytes fed kept = λ setup. memory_step (viewer_end setup)
    (viewer_machine setup) (IsReasonKept setup.text_limit Refused k (reason_in new.progress)) (StandsFor setup) old mid
    i n bytes (fed setup) (kept setup)
kept_later (FailedFault k) old mid new i n bytes fed kept = λ setup. memory_step (viewer_end setup)
    (viewer_machine setup) (IsReasonKept setup.text_limit SecurityFailed k (reason_in new.progress)) (StandsFor setup)
    old mid i n bytes (fed setup) (kept setup)
kept_later fault old mid new i n bytes fed kept = kept
