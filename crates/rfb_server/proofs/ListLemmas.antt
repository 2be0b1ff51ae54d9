-- The list of SetEncodings, number by number.
use Rattle.std.proofs.Common.{◌≡◌, ℕ, ℤ, zero, suc, pos, negsuc, ◌+◌, ◌*◌, ◌<◌, List, [], ◌∷◌, ◌++◌, Some, None, Ok}
use Rattle.std.proofs.Common.{length, refl, sym, ap, subst, ◌∙◌, append_assoc, append-nil, length-append, arith}
use Rattle.rfb_pixel.specs.declared.colour.Colour.{Colour}
use Rattle.rfb_picture.specs.Grid.{Grid}
use Rattle.arrayvec.specs.ArrayVec.{ArrayVec}
use Rattle.rfb_wire.specs.declared.encoding.Encoding.{Encoding}
use Rattle.rfb_wire.specs.declared.encoding.Encoding.TheVariants.{Raw, CopyRect, Rre, Hextile}
use Rattle.rfb_wire.specs.Encoding.{number_of, IsNoEncoding}
use Rattle.rfb_wire.specs.RectStream.{encoding_of}
use Rattle.rfb_wire.specs.Fields.{s32_at}
use Rattle.rfb_wire.specs.stream.Prefix.{Listed, More}
use Rattle.rfb_wire.specs.stream.Sequel.{First, Second}
use Rattle.rfb_wire.specs.stream.End.{StepsBy}
use Rattle.rfb_wire.specs.ClientMessage.{SetEncodings, SpellsNumber}
use Rattle.rfb_wire.specs.ClientStream.{client_message}
use Rattle.rfb_wire.proofs.WaitLaws.{encodings_wait}
use Rattle.rfb_wire.proofs.stream_laws.PendingLaws.{length-pieces}
use Rattle.rfb_hello.specs.ServerEnd.{as_reply}
use Rattle.rfb_hello.specs.declared.server_hello.ServerHello.{ServerHello}
use Rattle.rfb_server.specs.declared.session.Session.{Session}
use Rattle.rfb_server.specs.declared.session.input.progress.Progress.TheVariants.{Head, Encodings}
use Rattle.rfb_server.specs.ClientBytes.{ClientAt}
use Rattle.rfb_server.specs.Encodings.{with_encoding, known_among}
use Rattle.rfb_server.specs.Server.{Serving, ServerState, server}
use Rattle.rfb_server.specs.Progress.{ProgressStandsFor, IsListBegun}
use Rattle.rfb_server.specs.Model.{SessionStandsFor}
use Rattle.rfb_server.specs.session.Sessions.{KeepsUp}
use Rattle.rfb_server.proofs.FeedingLemmas.{IsStill, here, stands_on, steps_more, steps_told}

-- ---- the encoding of a number

pub encoding_is : (number : ℤ) (encoding : Encoding) → number_of encoding ≡ number → encoding_of number ≡ Some encoding
encoding_is number Raw e = rw (sym e) refl
encoding_is number CopyRect e = rw (sym e) refl
encoding_is number Rre e = rw (sym e) refl
encoding_is number Hextile e = rw (sym e) refl

pub encoding_none : (number : ℤ) → IsNoEncoding number → encoding_of number ≡ None
encoding_none (negsuc n) none = refl
encoding_none (pos zero) none = absurd (none Raw refl)
encoding_none (pos (suc zero)) none = absurd (none CopyRect refl)
encoding_none (pos (suc (suc zero))) none = absurd (none Rre refl)
encoding_none (pos (suc (suc (suc zero)))) none = refl
encoding_none (pos (suc (suc (suc (suc zero))))) none = refl
encoding_none (pos (suc (suc (suc (suc (suc zero)))))) none = absurd (none Hextile refl)
encoding_none (pos (suc (suc (suc (suc (suc (suc n))))))) none = refl

-- ---- one number more

listed_more : (numbers : List ℤ) (units : List ℕ) (number : ℤ) (unit : List ℕ) → Listed SpellsNumber numbers units →
    SpellsNumber number unit →
    Listed SpellsNumber (numbers ++ number ∷ []) (units ++ unit)
listed_more [] units number unit e s = rw e (unit, [], sym (append-nil unit), s, refl)
listed_more (n ∷ numbers) units number unit h s = (
  h.0,
  h.1 ++ unit,
  ap (λ (ys : List ℕ). ys ++ unit) h.2 ∙ append_assoc h.0 h.1 unit,
  h.3,
  listed_more numbers h.1 number unit h.4 s,
)

known_more : (numbers : List ℤ) (number : ℤ) (list : List Encoding) →
    known_among (numbers ++ number ∷ []) list ≡ with_encoding (known_among numbers list) (encoding_of number)
known_more [] number list = refl
known_more (n ∷ numbers) number list = known_more numbers number (with_encoding list (encoding_of n))

numbers_long : (numbers : List ℤ) (units : List ℕ) → Listed SpellsNumber numbers units →
    length units ≡ length numbers * 4
numbers_long numbers units listed = length-pieces SpellsNumber 4 (λ number bytes is. is.size) numbers units listed

-- ---- a session in a list

at_list : (serving : Serving) (hello : ServerHello) (left : ℕ) (number : ArrayVec ℕ) (list : List Encoding)
    (at : ClientAt) (prefix : List ℕ) →
    ProgressStandsFor serving hello (Encodings left number list) at prefix →
    (at ≡ Second tt) × IsListBegun left number.items list prefix
at_list serving hello left number list (First p) prefix h = absurd h
at_list serving hello left number list (Second q) prefix h = (refl, h)

in_list : (serving : Serving) (screen : Grid Colour) (session : Session) (left : ℕ) (number : ArrayVec ℕ)
    (list : List Encoding) (s : ServerState) (prefix : List ℕ) →
    session.progress ≡ Encodings left number list → SessionStandsFor serving screen session s prefix →
    (s.point ≡ Second tt) × IsListBegun left number.items list prefix
in_list serving screen session left number list s prefix was now =
    at_list serving session.hello left number list s.point prefix
    (here serving screen session (Encodings left number list) s prefix was now)

-- bytes after those that came
after_numbers : (prefix head units number unit : List ℕ) → prefix ≡ head ++ (units ++ number) →
    prefix ++ unit ≡ head ++ (units ++ (number ++ unit))
after_numbers prefix head units number unit e =
    ap (λ (ys : List ℕ). ys ++ unit) e ∙ append_assoc head (units ++ number) unit
    ∙ ap (λ (ys : List ℕ). head ++ ys) (append_assoc units number unit)

-- some bytes of a number
pub number_part : (serving : Serving) (screen : Grid Colour) (old new : Session) (left : ℕ) (number longer : ArrayVec ℕ)
    (list : List Encoding) (unit : List ℕ) →
    old.progress ≡ Encodings left number list → new.progress ≡ Encodings left longer list → IsStill old new →
    longer.items ≡ number.items ++ unit → length longer.items < 4 →
    StepsBy (server serving) (SessionStandsFor serving screen) old unit (Ok None) new
number_part serving screen old new left number longer list unit was is still items few =
    steps_more serving screen old new unit (λ s prefix now.
    let in_it = in_list serving screen old left number list s prefix was now in
    let b = in_it.1 in
    let all : prefix ++ unit ≡ b.head ++ (b.units ++ longer.items) =
    after_numbers prefix b.head b.units number.items unit b.prefix_is
    ∙ ap (λ (ys : List ℕ). b.head ++ (b.units ++ ys)) (sym items) in
    let long = numbers_long b.numbers b.units b.listed in
    let waits : client_message (b.head ++ (b.units ++ longer.items)) ≡ More =
    encodings_wait (length b.numbers + left) b.head (b.units ++ longer.items) b.head_is
    (omega (arith, length-append b.units longer.items, long, few, b.some)) in
    let begun : IsListBegun left longer.items list (prefix ++ unit) =
    record {
      head = b.head;
      units = b.units;
      numbers = b.numbers;
      prefix_is = all;
      head_is = b.head_is;
      listed = b.listed;
      some = b.some;
      short = few;
      list_is = b.list_is;
    } in (
      in_it.0,
      subst (λ (zs : List ℕ). client_message zs ≡ More) (sym all) waits,
      stands_on serving screen old new s prefix (prefix ++ unit) now still (rw (is, in_it.0) begun),
    ))

-- a whole number more: the list has it, and as many are missing as follow
number_added : (left more : ℕ) (number unit prefix : List ℕ) (list : List Encoding)
    (b : IsListBegun left number list prefix) → length (number ++ unit) ≡ 4 → left ≡ more + 1 →
    Listed SpellsNumber (b.numbers ++ s32_at 0 (number ++ unit) ∷ []) (b.units ++ (number ++ unit))
    × (length b.numbers + left ≡ length (b.numbers ++ s32_at 0 (number ++ unit) ∷ []) + more)
number_added left more number unit prefix list b size count =
    let value = s32_at 0 (number ++ unit) in (
      listed_more b.numbers b.units value (number ++ unit) b.listed (record { size = size; number_is = refl }),
      omega (arith, length-append b.numbers (value ∷ []), count),
    )

-- the last byte of a number, and others follow
pub number_more : (serving : Serving) (screen : Grid Colour) (old new : Session) (left more : ℕ)
    (number none : ArrayVec ℕ) (list now_list : List Encoding) (unit : List ℕ) →
    old.progress ≡ Encodings left number list → new.progress ≡ Encodings more none now_list → IsStill old new →
    length (number.items ++ unit) ≡ 4 → left ≡ more + 1 → 0 < more → none.items ≡ [] →
    now_list ≡ with_encoding list (encoding_of (s32_at 0 (number.items ++ unit))) →
    StepsBy (server serving) (SessionStandsFor serving screen) old unit (Ok None) new
number_more serving screen old new left more number none list now_list unit was is still size count some empty listed =
    steps_more serving screen old new unit (λ s prefix now.
    let in_it = in_list serving screen old left number list s prefix was now in
    let b = in_it.1 in
    let piece = number.items ++ unit in
    let value = s32_at 0 piece in
    let numbers = b.numbers ++ value ∷ [] in
    let units = b.units ++ piece in
    let (units_are, total) = number_added left more number.items unit prefix list b size count in
    let long = numbers_long numbers units units_are in
    let all : prefix ++ unit ≡ b.head ++ (units ++ none.items) =
    after_numbers prefix b.head b.units number.items unit b.prefix_is
    ∙ ap (λ (ys : List ℕ). b.head ++ ys) (sym (append-nil units) ∙ ap (λ (ys : List ℕ). units ++ ys) (sym empty)) in
    let rest : length (units ++ none.items) ≡ length units =
    length-append units none.items ∙ ap (λ (ys : List ℕ). length units + length ys) empty ∙ omega arith in
    let waits : client_message (b.head ++ (units ++ none.items)) ≡ More =
    encodings_wait (length b.numbers + left) b.head (units ++ none.items) b.head_is
    (omega (arith, rest, long, total, some)) in
    let begun : IsListBegun more none.items now_list (prefix ++ unit) =
    record {
      head = b.head;
      units = units;
      numbers = numbers;
      prefix_is = all;
      head_is = rw (sym total) b.head_is;
      listed = units_are;
      some = some;
      short = rw empty (omega arith);
      list_is = listed ∙ ap (λ (xs : List Encoding). with_encoding xs (encoding_of value)) b.list_is
          ∙ sym (known_more b.numbers value []);
    } in (
      in_it.0,
      subst (λ (zs : List ℕ). client_message zs ≡ More) (sym all) waits,
      stands_on serving screen old new s prefix (prefix ++ unit) now still (rw (is, in_it.0) begun),
    ))

-- the last byte of the last number: the list takes the place of the one before it
pub number_last : (serving : Serving) (screen : Grid Colour) (old new : Session) (left : ℕ) (number : ArrayVec ℕ)
    (list : List Encoding) (unit : List ℕ) →
    old.progress ≡ Encodings left number list → new.progress ≡ Head (as_reply []) → KeepsUp old new →
    new.format ≡ old.format → new.known ≡ old.known → new.area ≡ old.area →
    length (number.items ++ unit) ≡ 4 → left ≡ 1 →
    new.encodings ≡ with_encoding list (encoding_of (s32_at 0 (number.items ++ unit))) →
    StepsBy (server serving) (SessionStandsFor serving screen) old unit (Ok None) new
number_last serving screen old new left number list unit was is up format known area size count listed =
    steps_told serving screen old new unit None up is (λ s prefix now.
    let in_it = in_list serving screen old left number list s prefix was now in
    let b = in_it.1 in
    let value = s32_at 0 (number.items ++ unit) in
    let (units_are, all) = number_added left 0 number.items unit prefix list b size count in
    let total : length b.numbers + left ≡ length (b.numbers ++ value ∷ []) = omega (arith, all) in (
      SetEncodings (b.numbers ++ value ∷ []),
      in_it.0,
      record {
        head = b.head;
        list = b.units ++ (number.items ++ unit);
        whole = after_numbers prefix b.head b.units number.items unit b.prefix_is;
        head_is = rw (sym total) b.head_is;
        listed = units_are;
      },
      refl,
      record {
        screen = refl;
        known = now.known_is ∙ sym known;
        area = now.area_is ∙ sym area;
        form = now.form_is ∙ sym format;
        encodings = known_more b.numbers value []
            ∙ ap (λ (xs : List Encoding). with_encoding xs (encoding_of value)) (sym b.list_is) ∙ sym listed;
      },
    ))
