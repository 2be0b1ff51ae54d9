-- Messages that are whole with their head, and what follows the others' heads.
use Rattle.std.proofs.Common.{◌≡◌, ℕ, ℤ, zero, suc, ◌+◌, ◌<◌, not, Bool, true, List, [], ◌++◌, Option, Some, None, Ok}
use Rattle.std.proofs.Common.{Err, length, take, min, refl, sym, ap, subst, ◌∙◌, append-nil, arith}
use Rattle.std.proofs.lemmas.List.{take_all}
use Rattle.rfb_pixel.specs.declared.colour.Colour.{Colour}
use Rattle.rfb_pixel.specs.declared.fault.FormatFault.{FormatFault}
use Rattle.rfb_pixel.specs.Format.{PixelFormat}
use Rattle.rfb_pixel.specs.FormatBytes.{Spells, first_fault}
use Rattle.rfb_picture.specs.declared.rect.Rect.{Rect}
use Rattle.rfb_picture.specs.Grid.{Grid}
use Rattle.rfb_picture.specs.Area.{Places, added}
use Rattle.arrayvec.specs.ArrayVec.{ArrayVec}
use Rattle.rfb_wire.specs.stream.Prefix.{More}
use Rattle.rfb_wire.specs.stream.Sequel.{Second}
use Rattle.rfb_wire.specs.stream.End.{StepsBy}
use Rattle.rfb_wire.specs.ClientHead.{SpellsSetPixelFormat, SpellsSetEncodings, SpellsRequest, SpellsKey, SpellsPointer}
use Rattle.rfb_wire.specs.ClientHead.{SpellsClientCutText}
use Rattle.rfb_wire.specs.ClientMessage.{ClientMessage, SetPixelFormat, SetEncodings, FramebufferUpdateRequest}
use Rattle.rfb_wire.specs.ClientMessage.{KeyEvent, PointerEvent, ClientCutText, ClientFault, BadFormat, UnknownType}
use Rattle.rfb_wire.specs.ClientMessage.{SpellsClientMessage, FaultsClientMessage}
use Rattle.rfb_wire.specs.ClientStream.{client_message}
use Rattle.rfb_wire.proofs.WaitLaws.{client_head_waits, encodings_wait, client_text_waits}
use Rattle.rfb_hello.specs.ServerEnd.{as_reply}
use Rattle.rfb_hello.specs.ServerModel.{setup_of}
use Rattle.rfb_hello.specs.KeptText.{KeptText, kept_of}
use Rattle.rfb_server.specs.declared.session.Session.{Session}
use Rattle.rfb_server.specs.declared.session.input.progress.Progress.TheVariants.{Head, CutText as CutTextPart}
use Rattle.rfb_server.specs.Fault.{fault_of_format, fault_of_message}
use Rattle.rfb_server.specs.Record.{forgotten}
use Rattle.rfb_server.specs.Told.{ServerTold, Key, Pointer, CutText, message_told}
use Rattle.rfb_server.specs.Server.{Serving, ServerState, server, message_acts, AsksMemory}
use Rattle.rfb_server.specs.ClientBytes.{ClientAt}
use Rattle.rfb_server.specs.Progress.{ProgressStandsFor, IsHeadBegun, is_head_begun}
use Rattle.rfb_server.proofs.HeadLemmas.{begun_is, begun_misses}
use Rattle.rfb_server.specs.Model.{SessionStandsFor}
use Rattle.rfb_server.specs.session.Sessions.{BeginsMessage, BeginsList, IsAskedFor, HasFormat, KeepsUp, StaysCaughtUp}
use Rattle.rfb_server.proofs.FeedingLemmas.{IsStill, IsActed, in_head, stands_on, steps_more, steps_told, steps_bad}
use Rattle.rfb_server.proofs.FeedingLemmas.{up_begun, up_then, up_asked, up_format, up_list}

-- ---- messages without more than a head

whole_head : (serving : Serving) (screen : Grid Colour) (old new : Session) (part : ArrayVec ℕ) (unit : List ℕ)
    (m : ClientMessage) (told : Option ServerTold) →
    old.progress ≡ Head part → SpellsClientMessage m (part.items ++ unit) → KeepsUp old new →
    new.progress ≡ Head (as_reply []) →
    message_told serving.text_limit m ≡ told →
    ((s : ServerState) (prefix : List ℕ) → SessionStandsFor serving screen old s prefix → IsActed s m new) →
    StepsBy (server serving) (SessionStandsFor serving screen) old unit (Ok told) new
whole_head serving screen old new part unit m told was spelled up is tells acted =
    steps_told serving screen old new unit told up is (λ s prefix now.
    let at = in_head serving screen old part s prefix was now in
    let there : SpellsClientMessage m (prefix ++ unit) =
    subst (λ (zs : List ℕ). SpellsClientMessage m (zs ++ unit)) (sym at.1) spelled in
    (m, at.0, there, tells, acted s prefix now))

-- what a message leaves that changes nothing
unchanged : (serving : Serving) (screen : Grid Colour) (old new : Session) (s : ServerState)
    (prefix : List ℕ) (m : ClientMessage) →
    message_acts s m ≡ s → BeginsMessage old new → SessionStandsFor serving screen old s prefix → IsActed s m new
unchanged serving screen old new s prefix m same begun now = record {
  screen = ap (λ (t : ServerState). t.screen) same;
  known = ap (λ (t : ServerState). t.known) same ∙ now.known_is ∙ sym begun.rest.known;
  area = ap (λ (t : ServerState). t.area) same ∙ now.area_is ∙ sym begun.rest.area;
  form = ap (λ (t : ServerState). t.form) same ∙ now.form_is ∙ sym begun.rest.format;
  encodings = ap (λ (t : ServerState). t.encodings) same ∙ now.encodings_are ∙ sym begun.encodings;
}

pub key_told : (serving : Serving) (screen : Grid Colour) (old new : Session) (part : ArrayVec ℕ)
    (unit : List ℕ) (down : Bool) (key : ℕ) →
    old.progress ≡ Head part → SpellsKey down key (part.items ++ unit) → BeginsMessage old new →
    StepsBy (server serving) (SessionStandsFor serving screen) old unit (Ok (Some (Key down key))) new
key_told serving screen old new part unit down key was s begun =
    whole_head serving screen old new part unit (KeyEvent down key) (Some (Key down key)) was s
    (up_begun old new begun) begun.progress refl
    (λ st prefix now. unchanged serving screen old new st prefix (KeyEvent down key) refl begun now)

pub pointer_told : (serving : Serving) (screen : Grid Colour) (old new : Session) (part : ArrayVec ℕ)
    (unit : List ℕ) (buttons x y : ℕ) →
    old.progress ≡ Head part → SpellsPointer buttons x y (part.items ++ unit) → BeginsMessage old new →
    StepsBy (server serving) (SessionStandsFor serving screen) old unit (Ok (Some (Pointer buttons x y))) new
pointer_told serving screen old new part unit buttons x y was s begun =
    whole_head serving screen old new part unit (PointerEvent buttons x y) (Some (Pointer buttons x y)) was s
    (up_begun old new begun) begun.progress refl
    (λ st prefix now. unchanged serving screen old new st prefix (PointerEvent buttons x y) refl begun now)

pub request_taken : (serving : Serving) (screen : Grid Colour) (old mid new : Session) (part : ArrayVec ℕ)
    (unit : List ℕ) (incremental : Bool) (rect : Rect) →
    old.progress ≡ Head part → SpellsRequest incremental rect (part.items ++ unit) →
    IsAskedFor rect (not incremental) old mid → StaysCaughtUp old mid → BeginsMessage mid new →
    StepsBy (server serving) (SessionStandsFor serving screen) old unit (Ok None) new
request_taken serving screen old mid new part unit incremental rect was s asked caught begun =
    whole_head serving screen old new part unit (FramebufferUpdateRequest incremental rect) None was s
    (up_then old mid new (up_asked rect (not incremental) old mid asked caught) (up_begun mid new begun))
    begun.progress refl
    (λ st prefix now. record {
      screen = refl;
      known = now.known_is ∙ sym (begun.rest.known ∙ asked.known);
      area = ap (λ (area : Places). added rect (not incremental) area) now.area_is
          ∙ sym (begun.rest.area ∙ asked.area);
      form = now.form_is ∙ sym (begun.rest.format ∙ asked.setting.format);
      encodings = now.encodings_are ∙ sym (begun.encodings ∙ asked.setting.encodings);
    })

pub format_taken : (serving : Serving) (screen : Grid Colour) (old mid new : Session) (part : ArrayVec ℕ)
    (unit bytes : List ℕ) (format : PixelFormat) →
    old.progress ≡ Head part → SpellsSetPixelFormat bytes (part.items ++ unit) →
    Spells format bytes → first_fault bytes ≡ None →
    HasFormat format old mid → StaysCaughtUp old mid → BeginsMessage mid new →
    StepsBy (server serving) (SessionStandsFor serving screen) old unit (Ok None) new
format_taken serving screen old mid new part unit bytes format was s spelled passes has caught begun =
    whole_head serving screen old new part unit (SetPixelFormat format) None was
    (record { pixel_format = bytes; head = s; spelled = spelled; passes = passes })
    (up_then old mid new (up_format format old mid has caught) (up_begun mid new begun)) begun.progress refl
    (λ st prefix now. record {
      screen = refl;
      known = ap (λ (known : Grid (Option ℕ)). forgotten known) now.known_is
          ∙ sym (begun.rest.known ∙ has.known);
      area = now.area_is ∙ sym (begun.rest.area ∙ has.area);
      form = sym (begun.rest.format ∙ has.format);
      encodings = now.encodings_are ∙ sym (begun.encodings ∙ has.encodings);
    })

-- ---- heads at fault

bad_head : (serving : Serving) (screen : Grid Colour) (old new : Session) (part : ArrayVec ℕ)
    (unit : List ℕ) (fault : ClientFault) →
    old.progress ≡ Head part → FaultsClientMessage fault (part.items ++ unit) →
    StepsBy (server serving) (SessionStandsFor serving screen) old unit (Err (fault_of_message fault)) new
bad_head serving screen old new part unit fault was bad =
    steps_bad serving screen old new unit fault (λ s prefix now.
    let at = in_head serving screen old part s prefix was now in
    (at.0, subst (λ (zs : List ℕ). FaultsClientMessage fault (zs ++ unit)) (sym at.1) bad))

pub type_refused : (serving : Serving) (screen : Grid Colour) (old new : Session) (part : ArrayVec ℕ)
    (unit : List ℕ) (kind : ℕ) →
    old.progress ≡ Head part → FaultsClientMessage (UnknownType kind) (part.items ++ unit) →
    StepsBy (server serving) (SessionStandsFor serving screen) old unit (Err (fault_of_message (UnknownType kind))) new
type_refused serving screen old new part unit kind was bad =
    bad_head serving screen old new part unit (UnknownType kind) was bad

pub format_refused : (serving : Serving) (screen : Grid Colour) (old new : Session) (part : ArrayVec ℕ)
    (unit bytes : List ℕ) (fault : FormatFault) →
    old.progress ≡ Head part → SpellsSetPixelFormat bytes (part.items ++ unit) → first_fault bytes ≡ Some fault →
    StepsBy (server serving) (SessionStandsFor serving screen) old unit (Err (fault_of_format fault)) new
format_refused serving screen old new part unit bytes fault was s bad =
    bad_head serving screen old new part unit (BadFormat fault) was (bytes, s, bad)

-- ---- a message that goes on after the unit

-- what a session stands for that was in a head, where the message goes on
pub head_goes_on : (serving : Serving) (screen : Grid Colour) (old new : Session) (part : ArrayVec ℕ) (unit : List ℕ) →
    old.progress ≡ Head part → IsStill old new → client_message (part.items ++ unit) ≡ More →
    ProgressStandsFor serving new.hello new.progress (Second tt) (part.items ++ unit) →
    StepsBy (server serving) (SessionStandsFor serving screen) old unit (Ok None) new
head_goes_on serving screen old new part unit was still waits stands =
    steps_more serving screen old new unit (λ s prefix now.
    let at = in_head serving screen old part s prefix was now in
    let there : client_message (prefix ++ unit) ≡ More =
    subst (λ (zs : List ℕ). client_message (zs ++ unit) ≡ More) (sym at.1) waits in
    let here : ProgressStandsFor serving new.hello new.progress s.point (part.items ++ unit) =
    subst (λ (r : ClientAt). ProgressStandsFor serving new.hello new.progress r (part.items ++ unit))
    (sym at.0) stands in
    let holds : ProgressStandsFor serving new.hello new.progress s.point (prefix ++ unit) =
    subst (λ (zs : List ℕ). ProgressStandsFor serving new.hello new.progress s.point (zs ++ unit)) (sym at.1) here in
    (at.0, there, stands_on serving screen old new s prefix (prefix ++ unit) now still holds))

pub head_part : (serving : Serving) (screen : Grid Colour) (old new : Session)
    (part longer : ArrayVec ℕ) (unit : List ℕ) →
    old.progress ≡ Head part → new.progress ≡ Head longer → IsStill old new → longer.items ≡ part.items ++ unit →
    is_head_begun longer.items ≡ true →
    StepsBy (server serving) (SessionStandsFor serving screen) old unit (Ok None) new
head_part serving screen old new part longer unit was is still items partial =
    let begun : IsHeadBegun longer.items = begun_is longer.items partial in
    let misses = begun_misses longer.items begun in
    let waits : client_message (part.items ++ unit) ≡ More =
    subst (λ (zs : List ℕ). client_message zs ≡ More) items (client_head_waits misses.0 longer.items misses.1) in
    head_goes_on serving screen old new part unit was still waits (rw is (sym items, begun))

-- ---- lists

pub list_begins : (serving : Serving) (screen : Grid Colour) (old new : Session) (part : ArrayVec ℕ)
    (unit : List ℕ) (count : ℕ) →
    old.progress ≡ Head part → SpellsSetEncodings count (part.items ++ unit) → BeginsList count old new →
    StepsBy (server serving) (SessionStandsFor serving screen) old unit (Ok None) new
list_begins serving screen old new part unit zero was s begun =
    whole_head serving screen old new part unit (SetEncodings []) None was
    (record {
      head = part.items ++ unit;
      list = [];
      whole = sym (append-nil (part.items ++ unit));
      head_is = s;
      listed = refl;
    })
    (up_list zero old new begun) begun.progress refl
    (λ st prefix now. record {
      screen = refl;
      known = now.known_is ∙ sym begun.rest.known;
      area = now.area_is ∙ sym begun.rest.area;
      form = now.form_is ∙ sym begun.rest.format;
      encodings = sym begun.encodings;
    })
list_begins serving screen old new part unit (suc n) was s begun =
    let whole = part.items ++ unit in
    let still : IsStill old new = record {
      setup = ap setup_of begun.hello;
      text_limit = begun.rest.text_limit;
      format = begun.rest.format;
      encodings = begun.encodings;
      known = begun.rest.known;
      area = begun.rest.area;
    } in
    let waits : client_message (whole ++ []) ≡ More = encodings_wait (suc n) whole [] s (omega arith) in
    let count : suc n ≡ length {A = ℤ} [] + suc n = omega arith in
    head_goes_on serving screen old new part unit was still
    (subst (λ (zs : List ℕ). client_message zs ≡ More) (append-nil whole) waits)
    (rw (begun.progress)
    (record {
      head = whole;
      units = [];
      numbers = [];
      prefix_is = sym (append-nil whole);
      head_is = subst (λ (k : ℕ). SpellsSetEncodings k whole) count s;
      listed = refl;
      some = omega arith;
      short = omega arith;
      list_is = refl;
    }))

-- ---- texts

pub text_none : (serving : Serving) (screen : Grid Colour) (old new : Session)
    (part : ArrayVec ℕ) (unit kept : List ℕ) →
    old.progress ≡ Head part → SpellsClientCutText 0 (part.items ++ unit) → BeginsMessage old new → kept ≡ [] →
    StepsBy (server serving) (SessionStandsFor serving screen) old unit (Ok (Some (CutText kept 0))) new
text_none serving screen old new part unit kept was s begun none =
    whole_head serving screen old new part unit (ClientCutText []) (Some (CutText kept 0)) was
    (record { head = part.items ++ unit; whole = sym (append-nil (part.items ++ unit)); head_is = s })
    (up_begun old new begun) begun.progress
    (ap (λ (ys : List ℕ). Some (CutText ys 0)) (take_all {A = ℕ} serving.text_limit [] (omega arith) ∙ sym none))
    (λ st prefix now. unchanged serving screen old new st prefix (ClientCutText []) refl begun now)

pub text_begins : (serving : Serving) (screen : Grid Colour) (old new : Session) (part : ArrayVec ℕ)
    (unit : List ℕ) (n : ℕ) (kept : KeptText) →
    old.progress ≡ Head part → SpellsClientCutText n (part.items ++ unit) → 0 < n →
    new.progress ≡ CutTextPart n n kept →
    kept ≡ kept_of old.text_limit n [] → IsStill old new →
    StepsBy (server serving) (SessionStandsFor serving screen) old unit (Ok None) new
text_begins serving screen old new part unit n kept was s some is room still st prefix now =
    let whole = part.items ++ unit in
    let limit : old.text_limit ≡ serving.text_limit = now.limit_is in
    let waits : client_message (whole ++ []) ≡ More = client_text_waits n whole [] s some in
    head_goes_on serving screen old new part unit was still
    (subst (λ (zs : List ℕ). client_message zs ≡ More) (append-nil whole) waits)
    (rw is
    (record {
      head = whole;
      text = [];
      prefix_is = sym (append-nil whole);
      head_is = s;
      some = some;
      count = omega arith;
      room = ap (λ (k : KeptText). k.room) room ∙ ap (λ (k : ℕ). min n k) limit;
      kept_is = ap (λ (k : KeptText). k.bytes) room ∙ ap (λ (k : ℕ). take k []) limit;
    })) st prefix now

pub text_asks : (serving : Serving) (screen : Grid Colour) (old : Session) (part : ArrayVec ℕ) (unit : List ℕ) (n : ℕ) →
    old.progress ≡ Head part → SpellsClientCutText n (part.items ++ unit) → 0 < n →
    (st : ServerState) (prefix : List ℕ) → SessionStandsFor serving screen old st prefix →
    AsksMemory st (prefix ++ unit)
text_asks serving screen old part unit n was s some = λ st prefix now.
    let at = in_head serving screen old part st prefix was now in
    (at.0, n, subst (λ (zs : List ℕ). SpellsClientCutText n (zs ++ unit)) (sym at.1) s, some)
