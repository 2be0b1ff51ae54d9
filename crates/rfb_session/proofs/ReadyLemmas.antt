-- What a viewer sends at the end of the handshake is read as a format and a list of encodings.
use Rattle.std.proofs.Common.{◌≡◌, ◌<◌, ◌^◌, ℕ, List, [], ◌∷◌, ◌++◌, map, length, refl, subst, append-nil}
use Rattle.rfb_pixel.specs.Format.{PixelFormat, IsFormat}
use Rattle.rfb_wire.specs.declared.encoding.Encoding.{Encoding}
use Rattle.rfb_wire.specs.Encoding.{number_of}
use Rattle.rfb_wire.specs.stream.Prefix.{Got}
use Rattle.rfb_wire.specs.stream.Grammar.{ReadsAll}
use Rattle.rfb_wire.specs.ClientMessage.{ClientMessage, SetPixelFormat, SetEncodings, SpellsClientMessage}
use Rattle.rfb_wire.specs.ClientStream.{client_message, client_stream}
use Rattle.rfb_wire.proofs.ClientStreamLaws.{client_message_reads}
use Rattle.rfb_viewer.specs.Messages.{format_message, encodings_message, ready_bytes}
use Rattle.rfb_viewer.proofs.SendingLaws.{format_spelled, encodings_spelled}

-- a message that is spelled is read
pub message_read : (message : ClientMessage) (bytes rest : List ℕ) →
    SpellsClientMessage message bytes → client_message (bytes ++ rest) ≡ Got message rest
message_read message bytes rest spelled = client_message_reads.only message bytes rest spelled

pub one_read : (message : ClientMessage) (bytes : List ℕ) → SpellsClientMessage message bytes →
    ReadsAll client_stream tt bytes (message ∷ []) []
one_read message bytes spelled = (
  [],
  subst (λ (ys : List ℕ). client_message ys ≡ Got message []) (append-nil bytes)
      (message_read message bytes [] spelled),
  refl,
)

pub ready_read : (form : PixelFormat) (encodings : List Encoding) → IsFormat form →
    length encodings < 2 ^ 16 → ReadsAll client_stream tt (ready_bytes form encodings)
    (SetPixelFormat form ∷ SetEncodings (map (λ encoding. number_of encoding) encodings) ∷ []) []
ready_read form encodings is few = (
  encodings_message encodings,
  message_read (SetPixelFormat form) (format_message form)
      (encodings_message encodings) (format_spelled form is),
  one_read
      (SetEncodings (map (λ encoding. number_of encoding) encodings))
      (encodings_message encodings) (encodings_spelled encodings few),
)
