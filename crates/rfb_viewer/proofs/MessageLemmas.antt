-- What a viewer makes of messages: their heads.
use Rattle.std.proofs.Common.{◌≡◌, ℕ, zero, suc, ◌+◌, ◌*◌, ◌==◌, Bool, false, List, [], ◌∷◌, ◌++◌, Option}
use Rattle.std.proofs.Common.{Some, None, Ok, Err, if◌then◌else◌, length, take, drop, refl, sym, subst, ◌∙◌, ap}
use Rattle.std.proofs.Common.{arith, append-nil, append_assoc, take-append-drop}
use Rattle.arrayvec.specs.ArrayVec.{ArrayVec}
use Rattle.rfb_pixel.specs.declared.colour.Colour.{Colour}
use Rattle.rfb_picture.specs.Grid.{Grid}
use Rattle.rfb_wire.specs.declared.server_head.ServerHead.{ServerHead}
use Rattle.rfb_wire.specs.declared.server_head.ServerHead.TheVariants.{Update, ColourMap, Bell as BellHead}
use Rattle.rfb_wire.specs.declared.server_head.ServerHead.TheVariants.{CutText as CutTextHead}
use Rattle.rfb_wire.specs.declared.fault.WireFault.{WireFault}
use Rattle.rfb_wire.specs.declared.fault.WireFault.TheVariants.{UnknownMessage, UnknownEncoding, RectOutside}
use Rattle.rfb_wire.specs.Heads.{IsUnknown}
use Rattle.rfb_wire.specs.ServerHead.{SpellsServerHead}
use Rattle.rfb_wire.specs.stream.Prefix.{More, Got}
use Rattle.rfb_wire.specs.ServerMessage.{ServerMessage, FramebufferUpdate, SetColorMapEntries, Bell}
use Rattle.rfb_wire.specs.ServerMessage.{ServerCutText, UnknownType, SpellsServerMessage}
use Rattle.rfb_wire.specs.ServerMessage.{server_message}
use Rattle.rfb_wire.specs.stream.Sequel.{First, Second}
use Rattle.rfb_wire.specs.stream.End.{StepsBy, RunsOutBy}
use Rattle.rfb_wire.proofs.ServerMessageLaws.{server_message_reads}
use Rattle.rfb_wire.proofs.WaitLaws.{colours_wait, server_text_waits, server_type_faults}
use Rattle.rfb_codec.specs.UpdateStream.{UpdatePoint, UpdateItem, Message, InMessage, update_stream}
use Rattle.rfb_codec.proofs.UpdateWaitLaws.{past_left, message_got, message_waits, message_bad}
use Rattle.rfb_codec.proofs.EffectLaws.{effect_message}
use Rattle.rfb_hello.specs.KeptText.{KeptText, kept_of}
use Rattle.rfb_viewer.specs.declared.viewer.Viewer.{Viewer}
use Rattle.rfb_viewer.specs.declared.viewer.progress.Progress.{Progress}
use Rattle.rfb_viewer.specs.declared.viewer.progress.Progress.TheVariants.{Head, Colours, CutText}
use Rattle.rfb_viewer.specs.declared.viewer.progress.Request.{Request}
use Rattle.rfb_viewer.specs.Fault.{fault_of_wire}
use Rattle.rfb_viewer.specs.ServerBytes.{ServerAt}
use Rattle.rfb_viewer.specs.Told.{ViewerTold, ColourMapSkipped, CutText as CutTextTold, is_last, item_told}
use Rattle.rfb_viewer.specs.Viewer.{Viewing, ViewerState, viewer, shows, AsksAt, AsksMemory}
use Rattle.rfb_viewer.specs.Progress.{ProgressStandsFor, IsReadyAt, Stores, IsHeadBegun, AreColoursBegun, IsTextBegun}
use Rattle.rfb_viewer.specs.Model.{StandsFor, is_outstanding}
use Rattle.rfb_viewer.specs.steps.Steps.{at_message, progress_past, told_past, request_past, progress_after}
use Rattle.rfb_viewer.specs.steps.Steps.{told_after, request_after, AsksAfter}
use Rattle.rfb_viewer.proofs.StepLemmas.{IsMade, made_stands, ready_same, more_step, got_step, bad_step, past_stands}
use Rattle.rfb_viewer.proofs.StepLemmas.{past_progress, past_request, past_told}
use Rattle.rfb_viewer.proofs.HeadLemmas.{begun_waits}

-- a message that is whole is read as it is
got_message : (message : ServerMessage) (bytes : List ℕ) → SpellsServerMessage message bytes →
    server_message bytes ≡ Got message []
got_message message bytes s = subst (λ (ys : List ℕ). server_message ys ≡ Got message []) (append-nil bytes)
    (server_message_reads.only message bytes [] s)

-- ---- where a viewer stands

pub at_head : (viewing : Viewing) (v : Viewer) (part : ArrayVec ℕ) (at : ServerAt) (g : Option (Grid Colour))
    (prefix : List ℕ) → ProgressStandsFor viewing v (Head part) at g prefix → (q : UpdatePoint) × (at ≡ Second q)
    × IsReadyAt v q g 0 × Stores v g × (prefix ≡ part.items) × IsHeadBegun part.items
at_head viewing v part (First p) g prefix h = absurd h
at_head viewing v part (Second q) g prefix h = (q, refl, h.0, h.1, h.2, h.3)

pub at_colours : (viewing : Viewing) (v : Viewer) (more : ℕ) (at : ServerAt) (g : Option (Grid Colour))
    (prefix : List ℕ) → ProgressStandsFor viewing v (Colours more) at g prefix →
    (q : UpdatePoint) × (at ≡ Second q) × IsReadyAt v q g 0 × Stores v g × AreColoursBegun (more + 1) prefix
at_colours viewing v more (First p) g prefix h = absurd h
at_colours viewing v more (Second q) g prefix h = (q, refl, h.0, h.1, h.2)

pub at_text : (viewing : Viewing) (v : Viewer) (n more : ℕ) (kept : KeptText) (at : ServerAt) (g : Option (Grid Colour))
    (prefix : List ℕ) → ProgressStandsFor viewing v (CutText n more kept) at g prefix → (q : UpdatePoint)
    × (at ≡ Second q) × IsReadyAt v q g 0 × Stores v g × IsTextBegun viewing.hello.text_limit n (more + 1) kept
    prefix
at_text viewing v n more kept (First p) g prefix h = absurd h
at_text viewing v n more kept (Second q) g prefix h = (q, refl, h.0, h.1, h.2)

-- what a viewer stands for whose progress is known
pub here : (viewing : Viewing) (v : Viewer) (p : Progress) (s : ViewerState) (prefix : List ℕ) → v.progress ≡ p →
    StandsFor viewing v s prefix → ProgressStandsFor viewing v p s.point s.picture prefix
here viewing v p s prefix was stands =
    subst (λ (q : Progress). ProgressStandsFor viewing v q s.point s.picture prefix) was stands.progress_is

-- ---- after a message

module _ (viewing : Viewing) (old new : Viewer) where
  -- a viewer that goes on after a message that is whole
  whole_stands : (s : ViewerState) (prefix : List ℕ) (q : UpdatePoint) (message : ServerMessage) (left : ℕ)
      (p : Progress) (r : Request) → StandsFor viewing old s prefix → s.point ≡ Second q → IsReadyAt old q s.picture 0 →
      Stores old s.picture → IsMade old new p r old.picture → update_stream.past q (Message message)
      ≡ record q { left = left } → (if is_last q (Message message) then false else s.outstanding) ≡ is_outstanding r →
      ((g : Grid Colour) → new.picture ≡ Some g → IsReadyAt new (record q { left = left }) (Some g) left →
      ProgressStandsFor viewing new p (Second (record q { left = left })) (Some g) []) →
      StandsFor viewing new (shows viewing s (Second (Message message))) []
  whole_stands s prefix q message left p r stands at ready stores made past out progress =
      let picture : old.picture ≡ Some ready.screen = stores ∙ ready.picture_is in
      let made' : IsMade old new p r (Some ready.screen) =
      subst (λ (g : Option (Grid Colour)). IsMade old new p r g) picture made in
      past_stands viewing old new s prefix q (Message message) 0 left ready.screen p r stands at ready made' past
      (effect_message q message ready.screen) refl refl out (progress ready.screen made'.picture_is)

  -- one that goes to the next message
  pub next_stands : (s : ViewerState) (prefix : List ℕ) (q : UpdatePoint) (message : ServerMessage) →
      StandsFor viewing old s prefix → s.point ≡ Second q → IsReadyAt old q s.picture 0 → Stores old s.picture →
      IsMade old new at_message old.request old.picture →
      update_stream.past q (Message message) ≡ record q { left = q.left } → is_last q (Message message) ≡ false →
      StandsFor viewing new (shows viewing s (Second (Message message))) []
  next_stands s prefix q message stands at ready stores made past last =
      let none : record q { left = q.left } ≡ record q { left = 0 } =
      ap (λ (k : ℕ). record q { left = k }) ready.left_is in
      let out : (if is_last q (Message message) then false else s.outstanding) ≡ is_outstanding old.request =
      ap (λ (b : Bool). if b then false else s.outstanding) last ∙ stands.outstanding_is in
      whole_stands s prefix q message 0 at_message old.request stands at ready stores made (past ∙ none) out
      (λ g is now. (now, is, refl, tt))

  -- one that waits for the rest of a message
  pub part_stands : (s : ViewerState) (prefix rest : List ℕ) (q : UpdatePoint) (p : Progress) →
      StandsFor viewing old s prefix → s.point ≡ Second q → IsReadyAt old q s.picture 0 → Stores old s.picture →
      IsMade old new p old.request old.picture → (IsReadyAt new q s.picture 0 → Stores new s.picture →
      ProgressStandsFor viewing new p (Second q) s.picture rest) → StandsFor viewing new s rest
  part_stands s prefix rest q p stands at ready stores made progress =
      made_stands viewing old new p old.request old.picture s s prefix rest made stands stands.outstanding_is
      (subst (λ (a : ServerAt). ProgressStandsFor viewing new p a s.picture rest) (sym at) (progress
      (ready_same viewing old new p old.request old.picture s.picture q 0 made ready) (made.picture_is ∙ stores)))

  -- ---- a byte of a head

  pub head_part : (part now : ArrayVec ℕ) (unit : List ℕ) → old.progress ≡ Head part →
      now.items ≡ part.items ++ unit → IsHeadBegun now.items → IsMade old new (Head now) old.request old.picture →
      StepsBy (viewer viewing) (StandsFor viewing) old unit (Ok None) new
  head_part part now unit was is begun made =
      more_step viewing old new unit (λ s prefix stands.
      let h = at_head viewing old part s.point s.picture prefix (here viewing old (Head part) s prefix was stands) in
      let all : prefix ++ unit ≡ now.items = ap (λ (ys : List ℕ). ys ++ unit) h.4 ∙ sym is in (
        h.0,
        h.1,
        rw all (message_waits h.0 now.items h.2.left_is (begun_waits now.items begun)),
        rw all (part_stands s prefix now.items h.0 (Head now) stands h.1 h.2 h.3 made
            (λ ready stored. (ready, stored, refl, begun))),
      ))

  pub head_bad : (part : ArrayVec ℕ) (unit : List ℕ) (fault : WireFault) →
      old.progress ≡ Head part → IsUnknown SpellsServerHead fault (part.items ++ unit) →
      StepsBy (viewer viewing) (StandsFor viewing) old unit (Err (fault_of_wire fault)) new
  head_bad part unit (UnknownMessage first) was (rest, is, none) =
      bad_step viewing old new unit (InMessage (UnknownType first)) (λ s prefix stands.
      let h = at_head viewing old part s.point s.picture prefix (here viewing old (Head part) s prefix was stands) in
      let all : prefix ++ unit ≡ first ∷ rest = ap (λ (ys : List ℕ). ys ++ unit) h.4 ∙ is in (
        h.0,
        h.1,
        rw all (message_bad h.0 (first ∷ rest) (UnknownType first) h.2.left_is (server_type_faults first rest none)),
      ))
  head_bad part unit (UnknownEncoding number) was h = absurd h
  head_bad part unit RectOutside was h = absurd h

  -- a whole head, with which its message is whole or its rest begins
  pub got_whole : (s : ViewerState) (prefix unit front : List ℕ) (q : UpdatePoint)
      (message : ServerMessage) (event : Option ViewerTold) → prefix ++ unit ≡ front → s.point ≡ Second q →
      q.left ≡ 0 → SpellsServerMessage message front → item_told viewing.hello.text_limit q (Message message) ≡ event →
      StandsFor viewing new (shows viewing s (Second (Message message))) [] →
      (q : UpdatePoint) × (i : UpdateItem) × (s.point ≡ Second q) × (update_stream.next q (prefix ++ unit) ≡ Got i [])
      × (item_told viewing.hello.text_limit q i ≡ event) × StandsFor viewing new (shows viewing s (Second i)) []
  got_whole s prefix unit front q message event all at none spelled told stands = (
    q,
    Message message,
    at,
    rw all (message_got q front [] message none (got_message message front spelled)),
    told,
    stands,
  )

  pub head_got : (part : ArrayVec ℕ) (unit : List ℕ) (head : ServerHead) →
      old.progress ≡ Head part → ((begun : IsHeadBegun part.items) → SpellsServerHead head (part.items ++ unit)) →
      IsMade old new (progress_after old.text_limit head) (request_after head old.request) old.picture →
      StepsBy (viewer viewing) (StandsFor viewing) old unit (Ok (told_after head)) new
  head_got part unit (Update count) was spelled made =
      got_step viewing old new unit (told_past count) (λ s prefix stands.
      let h = at_head viewing old part s.point s.picture prefix (here viewing old (Head part) s prefix was stands) in
      let all : prefix ++ unit ≡ part.items ++ unit = ap (λ (ys : List ℕ). ys ++ unit) h.4 in
      got_whole s prefix unit (part.items ++ unit) h.0 (FramebufferUpdate count) (told_past count) all h.1 h.2.left_is
      (spelled h.5) (past_told count (count == 0) refl)
      (whole_stands s prefix h.0 (FramebufferUpdate count) count (progress_past count)
      (request_past count old.request) stands h.1 h.2 h.3 made (past_left h.0 (Message (FramebufferUpdate count)))
      (past_request count old.request s.outstanding (count == 0) refl stands.outstanding_is)
      (λ g is now. past_progress viewing old new count (record h.0 { left = count }) g is now)))
  head_got part unit (ColourMap first zero) was spelled made =
      got_step viewing old new unit (Some ColourMapSkipped) (λ s prefix stands.
      let h = at_head viewing old part s.point s.picture prefix (here viewing old (Head part) s prefix was stands) in
      let all : prefix ++ unit ≡ part.items ++ unit = ap (λ (ys : List ℕ). ys ++ unit) h.4 in
      got_whole s prefix unit (part.items ++ unit) h.0 (SetColorMapEntries first [])
      (Some ColourMapSkipped) all h.1 h.2.left_is
      (record {
        head = part.items ++ unit;
        list = [];
        whole = sym (append-nil (part.items ++ unit));
        head_is = spelled h.5;
        listed = refl;
      }) refl
      (next_stands s prefix h.0 (SetColorMapEntries first []) stands h.1 h.2 h.3 made
      (past_left h.0 (Message (SetColorMapEntries first []))) refl))
  head_got part unit (ColourMap first (suc more)) was spelled made =
      more_step viewing old new unit (λ s prefix stands.
      let h = at_head viewing old part s.point s.picture prefix (here viewing old (Head part) s prefix was stands) in
      let front = part.items ++ unit in
      let all : prefix ++ unit ≡ front = ap (λ (ys : List ℕ). ys ++ unit) h.4 in
      let waits : server_message (front ++ []) ≡ More =
      colours_wait first (suc more) front [] (spelled h.5) (omega arith) in (
        h.0,
        h.1,
        rw all (message_waits h.0 front h.2.left_is
            (subst (λ (ys : List ℕ). server_message ys ≡ More) (append-nil front) waits)),
        rw all (part_stands s prefix front h.0 (Colours (more * 6 + 5)) stands h.1 h.2 h.3 made (λ ready stored. (
          ready,
          stored,
          record {
            head = front;
            colours = [];
            first = first;
            count = suc more;
            prefix_is = sym (append-nil front);
            head_is = spelled h.5;
            missing = omega arith;
          },
        ))),
      ))
  head_got part unit BellHead was spelled made =
      got_step viewing old new unit (told_after BellHead) (λ s prefix stands.
      let h = at_head viewing old part s.point s.picture prefix (here viewing old (Head part) s prefix was stands) in
      let all : prefix ++ unit ≡ part.items ++ unit = ap (λ (ys : List ℕ). ys ++ unit) h.4 in
      got_whole s prefix unit (part.items ++ unit) h.0 Bell (told_after BellHead) all h.1 h.2.left_is (spelled h.5) refl
      (next_stands s prefix h.0 Bell stands h.1 h.2 h.3 made (past_left h.0 (Message Bell)) refl))
  head_got part unit (CutTextHead zero) was spelled made =
      got_step viewing old new unit (told_after (CutTextHead zero)) (λ s prefix stands.
      let h = at_head viewing old part s.point s.picture prefix (here viewing old (Head part) s prefix was stands) in
      let all : prefix ++ unit ≡ part.items ++ unit = ap (λ (ys : List ℕ). ys ++ unit) h.4 in
      got_whole s prefix unit (part.items ++ unit) h.0 (ServerCutText [])
      (told_after (CutTextHead zero)) all h.1 h.2.left_is
      (record { head = part.items ++ unit; whole = sym (append-nil (part.items ++ unit)); head_is = spelled h.5 })
      (none_kept viewing.hello.text_limit)
      (next_stands s prefix h.0 (ServerCutText []) stands h.1 h.2 h.3 made
      (past_left h.0 (Message (ServerCutText []))) refl))
    where
      none_kept : (n : ℕ) → Some (CutTextTold (take n []) (length {A = ℕ} [])) ≡ Some (CutTextTold [] 0)
      none_kept zero = refl
      none_kept (suc n) = refl
  head_got part unit (CutTextHead (suc more)) was spelled made =
      more_step viewing old new unit (λ s prefix stands.
      let h = at_head viewing old part s.point s.picture prefix (here viewing old (Head part) s prefix was stands) in
      let front = part.items ++ unit in
      let all : prefix ++ unit ≡ front = ap (λ (ys : List ℕ). ys ++ unit) h.4 in
      let waits : server_message (front ++ []) ≡ More =
      server_text_waits (suc more) front [] (spelled h.5) (omega arith) in (
        h.0,
        h.1,
        rw all (message_waits h.0 front h.2.left_is
            (subst (λ (ys : List ℕ). server_message ys ≡ More) (append-nil front) waits)),
        rw all (part_stands s prefix front h.0 (CutText (suc more) more (kept_of old.text_limit (suc more) [])) stands
            h.1 h.2 h.3 made (λ ready stored. (
              ready,
              stored,
              record {
                head = front;
                text = [];
                prefix_is = sym (append-nil front);
                head_is = spelled h.5;
                missing = omega arith;
                kept_is = ap (λ (k : ℕ). kept_of k (suc more) []) stands.limit_is;
              },
            ))),
      ))

  -- where memory is wanting for a text
  abbrev pub head_asks : (part : ArrayVec ℕ) (byte : ℕ) (bytes : List ℕ) (head : ServerHead) →
      old.progress ≡ Head part → take 1 bytes ≡ byte ∷ [] →
      ((begun : IsHeadBegun part.items) → SpellsServerHead head (part.items ++ byte ∷ [])) → AsksAfter head →
      RunsOutBy (viewer viewing) (AsksMemory viewing) (StandsFor viewing) old bytes
  head_asks part byte bytes (CutTextHead n) was one spelled asked = λ s prefix stands.
      let h = at_head viewing old part s.point s.picture prefix (here viewing old (Head part) s prefix was stands) in
      let front = part.items ++ byte ∷ [] in
      let all : prefix ++ bytes ≡ front ++ drop 1 bytes =
      ap (λ (ys : List ℕ). prefix ++ ys) (sym (take-append-drop 1 bytes) ∙ ap (λ (ys : List ℕ). ys ++ drop 1 bytes) one)
      ∙ (sym (append_assoc prefix (byte ∷ []) (drop 1 bytes))
      ∙ ap (λ (ys : List ℕ). (ys ++ byte ∷ []) ++ drop 1 bytes) h.4) in
      record {
        items = [];
        front = front;
        later = drop 1 bytes;
        reads = all;
        quiet = refl;
        asked = subst (λ (a : ServerAt). AsksAt viewing.hello a front) (sym h.1) (h.2.left_is, n, spelled h.5, asked);
      }
  head_asks part byte bytes (Update count) was one spelled asked = absurd asked
  head_asks part byte bytes (ColourMap first count) was one spelled asked = absurd asked
  head_asks part byte bytes BellHead was one spelled asked = absurd asked
