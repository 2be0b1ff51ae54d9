-- The messages that a viewer sends are what RFC 6143 section 7.5 says of their bytes.
use Rattle.std.proofs.Common.{◌≡◌, ℕ, ◌<◌, ◌^◌, List, [], ◌∷◌, length, map, refl, sym, subst, arith}
use Rattle.std.proofs.lemmas.List.{length-map}
use Rattle.std.specs.List.{flat_map}
use Rattle.byteorder.specs.Numbers.{big_number-reads_back}
use Rattle.rfb_pixel.specs.Format.{PixelFormat, IsFormat}
use Rattle.rfb_pixel.specs.FormatBytes.{format_bytes}
use Rattle.rfb_pixel.proofs.ReadingLaws.{spells_written, spells-accepted}
use Rattle.rfb_wire.specs.declared.encoding.Encoding.{Encoding}
use Rattle.rfb_wire.specs.declared.encoding.Encoding.TheVariants.{Raw, CopyRect, Rre, Hextile}
use Rattle.rfb_wire.specs.declared.client_head.ClientHead.TheVariants.{SetEncodings, CutText}
use Rattle.rfb_wire.specs.Encoding.{number_of}
use Rattle.rfb_wire.specs.ClientHead.{SpellsSetEncodings, client_head_bytes}
use Rattle.rfb_wire.specs.ClientMessage.{SpellsFormatMessage, SpellsNumber, SpellsEncodingsMessage, SpellsTextMessage}
use Rattle.rfb_wire.specs.stream.Prefix.{Listed}
use Rattle.rfb_viewer.specs.Messages.{format_message, encoding_bytes, encodings_message, text_message}

-- SetPixelFormat
pub format_spelled : (form : PixelFormat) → IsFormat form → SpellsFormatMessage form (format_message form)
format_spelled form is =
    let s = spells_written form is in
    let size = s.whole in
    record {
      pixel_format = format_bytes form;
      head = record { size = omega (arith, size); message_type = refl; pixel_format_is = refl };
      spelled = s;
      passes = spells-accepted form (format_bytes form) is s;
    }

-- a number of SetEncodings
number_spelled : (encoding : Encoding) → SpellsNumber (number_of encoding) (encoding_bytes encoding)
number_spelled Raw = record { size = refl; number_is = refl }
number_spelled CopyRect = record { size = refl; number_is = refl }
number_spelled Rre = record { size = refl; number_is = refl }
number_spelled Hextile = record { size = refl; number_is = refl }

numbers_spelled : (encodings : List Encoding) →
    Listed SpellsNumber (map (λ e. number_of e) encodings) (flat_map encoding_bytes encodings)
numbers_spelled [] = refl
numbers_spelled (encoding ∷ encodings) = (
  encoding_bytes encoding,
  flat_map encoding_bytes encodings,
  refl,
  number_spelled encoding,
  numbers_spelled encodings,
)

-- SetEncodings
pub encodings_spelled : (encodings : List Encoding) → length encodings < 2 ^ 16 →
    SpellsEncodingsMessage (map (λ e. number_of e) encodings) (encodings_message encodings)
encodings_spelled encodings few =
    let count : length (map (λ e. number_of e) encodings) ≡ length encodings =
    length-map encodings (λ e. number_of e) in
    let head : SpellsSetEncodings (length encodings) (client_head_bytes (SetEncodings (length encodings))) =
    record { size = refl; message_type = refl; number_is = big_number-reads_back 2 (length encodings) [] few } in
    record {
      head = client_head_bytes (SetEncodings (length encodings));
      list = flat_map encoding_bytes encodings;
      whole = refl;
      head_is = subst (λ (n : ℕ). SpellsSetEncodings n (client_head_bytes (SetEncodings (length encodings))))
          (sym count) head;
      listed = numbers_spelled encodings;
    }

-- ClientCutText
pub text_spelled : (text : List ℕ) → length text < 2 ^ 32 → SpellsTextMessage text (text_message text)
text_spelled text few = record {
  head = client_head_bytes (CutText (length text));
  whole = refl;
  head_is = record { size = refl; message_type = refl; length_is = big_number-reads_back 4 (length text) [] few };
}
