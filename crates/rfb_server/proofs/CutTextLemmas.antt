-- The text of ClientCutText, slice by slice.
use Rattle.std.proofs.Common.{◌≡◌, ℕ, ◌+◌, ◌<◌, ◌≤◌, List, [], ◌++◌, Some, Ok, None, Bool, true, false, nat_le, length}
use Rattle.std.proofs.Common.{take, min, refl, sym, ap, subst, ◌∙◌, append_assoc, length-append, arith}
use Rattle.std.proofs.lemmas.Bool.Decides.{nat_tests}
use Rattle.std.proofs.lemmas.List.{take-append-le, take_all, length-take-le}
use Rattle.rfb_pixel.specs.declared.colour.Colour.{Colour}
use Rattle.rfb_picture.specs.Grid.{Grid}
use Rattle.rfb_wire.specs.stream.Prefix.{More}
use Rattle.rfb_wire.specs.stream.Sequel.{First, Second}
use Rattle.rfb_wire.specs.stream.End.{StepsBy}
use Rattle.rfb_wire.specs.ClientMessage.{ClientCutText}
use Rattle.rfb_wire.specs.ClientStream.{client_message}
use Rattle.rfb_wire.proofs.WaitLaws.{client_text_waits}
use Rattle.rfb_hello.specs.KeptText.{KeptText}
use Rattle.rfb_hello.specs.ServerEnd.{as_reply}
use Rattle.rfb_hello.specs.declared.server_hello.ServerHello.{ServerHello}
use Rattle.rfb_server.specs.declared.session.Session.{Session}
use Rattle.rfb_server.specs.declared.session.input.progress.Progress.TheVariants.{Head, CutText as CutTextPart}
use Rattle.rfb_server.specs.ClientBytes.{ClientAt}
use Rattle.rfb_server.specs.Told.{CutText}
use Rattle.rfb_server.specs.Server.{Serving, ServerState, server}
use Rattle.rfb_server.specs.Progress.{ProgressStandsFor, IsTextBegun}
use Rattle.rfb_server.specs.Model.{SessionStandsFor}
use Rattle.rfb_server.specs.session.Sessions.{KeepsUp}
use Rattle.rfb_server.proofs.FeedingLemmas.{IsStill, here, stands_on, steps_more, steps_told}

-- what is kept of a text, when more of it has come
kept_on : (limit n : ℕ) (text unit : List ℕ) → length (text ++ unit) ≤ n →
    take (min n limit) (take limit text ++ unit) ≡ take limit (text ++ unit)
kept_on limit n text unit within = by (nat_le limit (length text)) (nat_le limit n) refl refl
  where
    some : length text ≤ n
    some = let size = length-append text unit in omega (arith, size, within)

    by : (a b : Bool) → nat_le limit (length text) ≡ a → nat_le limit n ≡ b →
        take (min n limit) (take limit text ++ unit) ≡ take limit (text ++ unit)
    by true b e f =
        let full : limit ≤ length text = grind (arith, nat_tests) in
        let least : min n limit ≡ limit = omega (arith, full, some) in
        let size : length (take limit text) ≡ limit = length-take-le limit text full in
        rw least (take-append-le limit (take limit text) unit (omega (arith, size))
        ∙ take_all limit (take limit text) (omega (arith, size)) ∙ sym (take-append-le limit text unit full))
    by false true e f =
        let short : length text ≤ limit = grind (arith, nat_tests) in
        let small : limit ≤ n = grind (arith, nat_tests) in
        let least : min n limit ≡ limit = omega (arith, small) in
        rw (least, take_all limit text short) refl
    by false false e f =
        let short : length text ≤ limit = grind (arith, nat_tests) in
        let large : n ≤ limit = grind (arith, nat_tests) in
        let least : min n limit ≡ n = omega (arith, large) in
        rw (least, take_all limit text short) (take_all n (text ++ unit) within
        ∙ sym (take_all limit (text ++ unit) (omega (arith, within, large))))

at_text : (serving : Serving) (hello : ServerHello) (n left : ℕ) (kept : KeptText) (at : ClientAt) (prefix : List ℕ) →
    ProgressStandsFor serving hello (CutTextPart n left kept) at prefix →
    (at ≡ Second tt) × IsTextBegun serving.text_limit n left kept prefix
at_text serving hello n left kept (First p) prefix h = absurd h
at_text serving hello n left kept (Second q) prefix h = (refl, h)

in_text : (serving : Serving) (screen : Grid Colour) (session : Session) (n left : ℕ) (kept : KeptText)
    (s : ServerState) (prefix : List ℕ) →
    session.progress ≡ CutTextPart n left kept → SessionStandsFor serving screen session s prefix →
    (s.point ≡ Second tt) × IsTextBegun serving.text_limit n left kept prefix
in_text serving screen session n left kept s prefix was now =
    at_text serving session.hello n left kept s.point prefix
    (here serving screen session (CutTextPart n left kept) s prefix was now)

-- what is kept of the text with the unit after it
kept_now : (limit n : ℕ) (kept now : KeptText) (text unit : List ℕ) → kept.room ≡ min n limit →
    kept.bytes ≡ take limit text →
    length (text ++ unit) ≤ n → now ≡ record kept { bytes = take kept.room (kept.bytes ++ unit) } →
    now.bytes ≡ take limit (text ++ unit)
kept_now limit n kept now text unit room bytes within is =
    ap (λ (k : KeptText). k.bytes) is ∙ ap (λ (k : ℕ). take k (kept.bytes ++ unit)) room
    ∙ ap (λ (ys : List ℕ). take (min n limit) (ys ++ unit)) bytes
    ∙ kept_on limit n text unit within

-- some bytes of a text
pub text_part : (serving : Serving) (screen : Grid Colour) (old new : Session) (n left more : ℕ)
    (kept longer : KeptText) (unit : List ℕ) →
    old.progress ≡ CutTextPart n left kept → new.progress ≡ CutTextPart n more longer → IsStill old new →
    length unit + more ≡ left → 0 < more → longer ≡ record kept { bytes = take kept.room (kept.bytes ++ unit) } →
    StepsBy (server serving) (SessionStandsFor serving screen) old unit (Ok None) new
text_part serving screen old new n left more kept longer unit was is still count some longer_is =
    steps_more serving screen old new unit (λ s prefix now.
    let in_it = in_text serving screen old n left kept s prefix was now in
    let b = in_it.1 in
    let all : prefix ++ unit ≡ b.head ++ (b.text ++ unit) =
    ap (λ (ys : List ℕ). ys ++ unit) b.prefix_is ∙ append_assoc b.head b.text unit in
    let size : length (b.text ++ unit) + more ≡ n = omega (arith, length-append b.text unit, count, b.count) in
    let waits : client_message (b.head ++ (b.text ++ unit)) ≡ More =
    client_text_waits n b.head (b.text ++ unit) b.head_is (omega (arith, size, some)) in
    let begun : IsTextBegun serving.text_limit n more longer (prefix ++ unit) =
    record {
      head = b.head;
      text = b.text ++ unit;
      prefix_is = all;
      head_is = b.head_is;
      some = some;
      count = size;
      room = ap (λ (k : KeptText). k.room) longer_is ∙ b.room;
      kept_is = kept_now serving.text_limit n kept longer b.text unit b.room b.kept_is (omega (arith, size)) longer_is;
    } in (
      in_it.0,
      subst (λ (zs : List ℕ). client_message zs ≡ More) (sym all) waits,
      stands_on serving screen old new s prefix (prefix ++ unit) now still (rw (is, in_it.0) begun),
    ))

-- the last bytes of a text
pub text_told : (serving : Serving) (screen : Grid Colour) (old new : Session) (n left : ℕ)
    (kept whole : KeptText) (unit : List ℕ) →
    old.progress ≡ CutTextPart n left kept → new.progress ≡ Head (as_reply []) → KeepsUp old new → IsStill old new →
    length unit ≡ left → whole ≡ record kept { bytes = take kept.room (kept.bytes ++ unit) } →
    StepsBy (server serving) (SessionStandsFor serving screen) old unit (Ok (Some (CutText whole.bytes n))) new
text_told serving screen old new n left kept whole unit was is up still count whole_is =
    steps_told serving screen old new unit (Some (CutText whole.bytes n)) up is (λ s prefix now.
    let in_it = in_text serving screen old n left kept s prefix was now in
    let b = in_it.1 in
    let text = b.text ++ unit in
    let size : length text ≡ n = omega (arith, length-append b.text unit, count, b.count) in
    let bytes : take serving.text_limit text ≡ whole.bytes =
    sym (kept_now serving.text_limit n kept whole b.text unit b.room b.kept_is (omega (arith, size)) whole_is) in
    let told : Some (CutText (take serving.text_limit text) (length text)) ≡ Some (CutText whole.bytes n) =
    rw (bytes, size) refl in (
      ClientCutText text,
      in_it.0,
      record {
        head = b.head;
        whole = ap (λ (ys : List ℕ). ys ++ unit) b.prefix_is ∙ append_assoc b.head b.text unit;
        head_is = rw size b.head_is;
      },
      told,
      record {
        screen = refl;
        known = now.known_is ∙ sym still.known;
        area = now.area_is ∙ sym still.area;
        form = now.form_is ∙ sym still.format;
        encodings = now.encodings_are ∙ sym still.encodings;
      },
    ))
