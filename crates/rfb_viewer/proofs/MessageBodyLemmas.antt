-- What a viewer makes of the colours and of the text that follow a head.
use Rattle.std.proofs.Common.{◌≡◌, ℕ, zero, suc, ◌+◌, ◌*◌, ◌≤◌, List, [], ◌∷◌, ◌++◌}
use Rattle.std.proofs.Common.{Some, None, Ok, length, take, drop, min, refl, sym, subst, ◌∙◌, ap}
use Rattle.std.proofs.Common.{arith, length-append, append_assoc, take-append-drop, length-drop}
use Rattle.std.proofs.lemmas.List.{length-take-le}
use Rattle.rfb_wire.specs.ServerHead.{SpellsColourMap, SpellsServerCutText}
use Rattle.rfb_wire.specs.stream.Prefix.{Listed}
use Rattle.rfb_wire.specs.ServerMessage.{MapColour, SetColorMapEntries}
use Rattle.rfb_wire.specs.ServerMessage.{ServerCutText, SpellsMapColour}
use Rattle.rfb_wire.specs.ServerMessage.{map_colour_of}
use Rattle.rfb_wire.specs.stream.End.{StepsBy}
use Rattle.rfb_wire.proofs.WaitLaws.{colours_wait, server_text_waits}
use Rattle.rfb_codec.specs.UpdateStream.{Message}
use Rattle.rfb_codec.proofs.UpdateWaitLaws.{past_left, message_waits}
use Rattle.rfb_hello.specs.KeptText.{KeptText}
use Rattle.rfb_hello.proofs.KeptTextLaws.{kept_on}
use Rattle.rfb_viewer.specs.declared.viewer.Viewer.{Viewer}
use Rattle.rfb_viewer.specs.declared.viewer.progress.Progress.TheVariants.{Colours, CutText}
use Rattle.rfb_viewer.specs.Told.{ColourMapSkipped, CutText as CutTextTold}
use Rattle.rfb_viewer.specs.Viewer.{Viewing, viewer}
use Rattle.rfb_viewer.specs.Model.{StandsFor}
use Rattle.rfb_viewer.specs.Progress.{AreColoursBegun, IsTextBegun}
use Rattle.rfb_viewer.specs.steps.Steps.{at_message}
use Rattle.rfb_viewer.proofs.StepLemmas.{IsMade, more_step, got_step}
use Rattle.rfb_viewer.proofs.MessageLemmas.{here, at_colours, at_text, part_stands, next_stands, got_whole}

-- ---- colours

-- six times `count` bytes are `count` colours
are_colours : (count : ℕ) (bytes : List ℕ) → length bytes ≡ count * 6 →
    (colors : List MapColour) × (length colors ≡ count) × Listed SpellsMapColour colors bytes
are_colours zero [] size = ([], refl, refl)
are_colours zero (byte ∷ bytes) size = absurd (omega (arith, size))
are_colours (suc count) bytes size =
    let few : 6 ≤ length bytes = omega (arith, size) in
    let rest = are_colours count (drop 6 bytes) (omega (arith, size, length-drop 6 bytes)) in
    let one : SpellsMapColour (map_colour_of (take 6 bytes)) (take 6 bytes) =
    record { size = length-take-le 6 bytes few; red_is = refl; green_is = refl; blue_is = refl } in
    let count_is = rest.1 in (
      map_colour_of (take 6 bytes) ∷ rest.0,
      omega (arith, count_is),
      (take 6 bytes, drop 6 bytes, sym (take-append-drop 6 bytes), one, rest.2),
    )

-- more of them have come
colours_on : (more left : ℕ) (prefix unit : List ℕ) → AreColoursBegun (more + 1) prefix →
    length unit + left ≡ more + 1 → AreColoursBegun left (prefix ++ unit)
colours_on more left prefix unit b count =
    let missing = b.missing in
    record {
      head = b.head;
      colours = b.colours ++ unit;
      first = b.first;
      count = b.count;
      prefix_is = ap (λ (ys : List ℕ). ys ++ unit) b.prefix_is ∙ append_assoc b.head b.colours unit;
      head_is = b.head_is;
      missing = omega (arith, missing, length-append b.colours unit, count);
    }

-- ---- texts of which the first bytes are kept

-- more of it has come
text_on : (limit n more left : ℕ) (kept now : KeptText) (prefix unit : List ℕ) →
    IsTextBegun limit n (more + 1) kept prefix → length unit + left ≡ more + 1 →
    now ≡ record kept { bytes = take kept.room (kept.bytes ++ unit) } →
    IsTextBegun limit n left now (prefix ++ unit)
text_on limit n more left kept now prefix unit b count made =
    let missing = b.missing in
    let size : length (b.text ++ unit) + left ≡ n = omega (arith, missing, length-append b.text unit, count) in
    record {
      head = b.head;
      text = b.text ++ unit;
      prefix_is = ap (λ (ys : List ℕ). ys ++ unit) b.prefix_is ∙ append_assoc b.head b.text unit;
      head_is = b.head_is;
      missing = size;
      kept_is = made ∙ rw b.kept_is (ap (λ (ys : List ℕ). record { room = min n limit; bytes = ys })
          (kept_on limit n b.text unit (omega (arith, size))));
    }

-- ---- after a part of a message

module _ (viewing : Viewing) (old new : Viewer) where
  -- ---- colours

  pub colours_part : (more left : ℕ) (unit : List ℕ) →
      old.progress ≡ Colours more → length unit + left ≡ more → IsMade old new (Colours left) old.request old.picture →
      StepsBy (viewer viewing) (StandsFor viewing) old unit (Ok None) new
  colours_part more left unit was count made =
      more_step viewing old new unit (λ s prefix stands.
      let h =
      at_colours viewing old more s.point s.picture prefix (here viewing old (Colours more) s prefix was stands) in
      let t = colours_on more (left + 1) prefix unit h.4 (omega (arith, count)) in
      let missing = t.missing in (
        h.0,
        h.1,
        rw t.prefix_is (message_waits h.0 (t.head ++ t.colours) h.2.left_is
            (colours_wait t.first t.count t.head t.colours t.head_is (omega (arith, missing)))),
        part_stands viewing old new s prefix (prefix ++ unit) h.0 (Colours left) stands h.1 h.2 h.3 made
            (λ ready stored. (ready, stored, t)),
      ))

  pub colours_got : (more : ℕ) (unit : List ℕ) →
      old.progress ≡ Colours more → length unit ≡ more + 1 → IsMade old new at_message old.request old.picture →
      StepsBy (viewer viewing) (StandsFor viewing) old unit (Ok (Some ColourMapSkipped)) new
  colours_got more unit was count made =
      got_step viewing old new unit (Some ColourMapSkipped) (λ s prefix stands.
      let h =
      at_colours viewing old more s.point s.picture prefix (here viewing old (Colours more) s prefix was stands) in
      let t = colours_on more 0 prefix unit h.4 (omega (arith, count)) in
      let missing = t.missing in
      let list = are_colours t.count t.colours (omega (arith, missing)) in
      got_whole viewing old new s prefix unit (t.head ++ t.colours) h.0 (SetColorMapEntries t.first list.0)
      (Some ColourMapSkipped) t.prefix_is h.1 h.2.left_is
      (record {
        head = t.head;
        list = t.colours;
        whole = refl;
        head_is = subst (λ (k : ℕ). SpellsColourMap t.first k t.head) (sym list.1) t.head_is;
        listed = list.2;
      }) refl
      (next_stands viewing old new s prefix h.0 (SetColorMapEntries t.first list.0) stands h.1 h.2 h.3 made
      (past_left h.0 (Message (SetColorMapEntries t.first list.0))) refl))

  -- ---- texts

  pub text_part : (n more left : ℕ) (kept now : KeptText) (unit : List ℕ) → old.progress ≡ CutText n more kept →
      length unit + left ≡ more → now ≡ record kept { bytes = take kept.room (kept.bytes ++ unit) } →
      IsMade old new (CutText n left now) old.request old.picture →
      StepsBy (viewer viewing) (StandsFor viewing) old unit (Ok None) new
  text_part n more left kept now unit was count is made =
      more_step viewing old new unit (λ s prefix stands.
      let h = at_text viewing old n more kept s.point s.picture prefix
      (here viewing old (CutText n more kept) s prefix was stands) in
      let t = text_on viewing.hello.text_limit n more (left + 1) kept now prefix unit h.4 (omega (arith, count)) is in
      let missing = t.missing in (
        h.0,
        h.1,
        rw t.prefix_is (message_waits h.0 (t.head ++ t.text) h.2.left_is
            (server_text_waits n t.head t.text t.head_is (omega (arith, missing)))),
        part_stands viewing old new s prefix (prefix ++ unit) h.0 (CutText n left now) stands h.1 h.2 h.3 made
            (λ ready stored. (ready, stored, t)),
      ))

  pub text_got : (n more : ℕ) (kept now : KeptText) (unit : List ℕ) → old.progress ≡ CutText n more kept →
      length unit ≡ more + 1 → now ≡ record kept { bytes = take kept.room (kept.bytes ++ unit) } →
      IsMade old new at_message old.request old.picture →
      StepsBy (viewer viewing) (StandsFor viewing) old unit (Ok (Some (CutTextTold now.bytes n))) new
  text_got n more kept now unit was count is made =
      got_step viewing old new unit (Some (CutTextTold now.bytes n)) (λ s prefix stands.
      let h = at_text viewing old n more kept s.point s.picture prefix
      (here viewing old (CutText n more kept) s prefix was stands) in
      let t = text_on viewing.hello.text_limit n more 0 kept now prefix unit h.4 (omega (arith, count)) is in
      let missing = t.missing in
      let size : length t.text ≡ n = omega (arith, missing) in
      let told : Some (CutTextTold (take viewing.hello.text_limit t.text) (length t.text))
      ≡ Some (CutTextTold now.bytes n) =
      ap (λ (k : ℕ). Some (CutTextTold (take viewing.hello.text_limit t.text) k)) size
      ∙ ap (λ (ys : List ℕ). Some (CutTextTold ys n)) (sym (ap (λ (k : KeptText). k.bytes) t.kept_is)) in
      got_whole viewing old new s prefix unit (t.head ++ t.text) h.0 (ServerCutText t.text)
      (Some (CutTextTold now.bytes n)) t.prefix_is h.1 h.2.left_is
      (record {
        head = t.head;
        whole = refl;
        head_is = subst (λ (k : ℕ). SpellsServerCutText k t.head) (sym size) t.head_is;
      }) told
      (next_stands viewing old new s prefix h.0 (ServerCutText t.text) stands h.1 h.2 h.3 made
      (past_left h.0 (Message (ServerCutText t.text))) refl))
