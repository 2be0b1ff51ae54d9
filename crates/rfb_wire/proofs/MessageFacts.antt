-- Whole messages as RFC 6143 lays them out, computed from the readings: a wrong
-- byte here fails the check.
use Rattle.std.proofs.Common.{◌≡◌, [], ◌∷◌, true, refl, negsuc}
use Rattle.std.specs.Prelude.{pos}
use lib.Count.{ones}
use Rattle.rfb_pixel.specs.declared.fault.FormatFault.TheVariants.{NotTrueColour}
use Rattle.rfb_pixel.specs.Format.{rgb888}
use Rattle.rfb_wire.specs.stream.Prefix.{More, Got, Bad}
use Rattle.rfb_wire.specs.ClientMessage.{SetPixelFormat, SetEncodings, FramebufferUpdateRequest, KeyEvent, PointerEvent}
use Rattle.rfb_wire.specs.ClientMessage.{ClientCutText, BadFormat, UnknownType}
use Rattle.rfb_wire.specs.ClientStream.{client_message}
use Rattle.rfb_wire.specs.ServerMessage.{FramebufferUpdate, SetColorMapEntries, Bell, ServerCutText}
use Rattle.rfb_wire.specs.ServerMessage.{UnknownType as UnknownServerType, server_message}

-- SetPixelFormat of 32 bits a pixel, with a byte of the next message after it
set_pixel_format : client_message
    (0 ∷ 0 ∷ 0 ∷ 0 ∷ 32 ∷ 24 ∷ 0 ∷ 1 ∷ 0 ∷ 255 ∷ 0 ∷ 255 ∷ 0 ∷ 255 ∷ 16 ∷ 8 ∷ 0 ∷ 0 ∷ 0 ∷ 0 ∷ 3
    ∷ []) ≡ Got (SetPixelFormat rgb888) (3 ∷ [])
unfolding client_message ones
set_pixel_format = refl

-- the same with a colour map asked for is refused at its last byte, and waits before it
no_true_colour : client_message
    (0 ∷ 0 ∷ 0 ∷ 0 ∷ 32 ∷ 24 ∷ 0 ∷ 0 ∷ 0 ∷ 255 ∷ 0 ∷ 255 ∷ 0 ∷ 255 ∷ 16 ∷ 8 ∷ 0 ∷ 0 ∷ 0 ∷ 0 ∷ [])
    ≡ Bad (BadFormat NotTrueColour)
unfolding client_message
no_true_colour = refl

not_judged_yet : client_message
    (0 ∷ 0 ∷ 0 ∷ 0 ∷ 32 ∷ 24 ∷ 0 ∷ 0 ∷ 0 ∷ 255 ∷ 0 ∷ 255 ∷ 0 ∷ 255 ∷ 16 ∷ 8 ∷ 0 ∷ 0 ∷ 0 ∷ []) ≡ More
unfolding client_message
not_judged_yet = refl

-- SetEncodings of Hextile and -223
set_encodings : client_message (2 ∷ 0 ∷ 0 ∷ 2 ∷ 0 ∷ 0 ∷ 0 ∷ 5 ∷ 255 ∷ 255 ∷ 255 ∷ 33 ∷ [])
    ≡ Got (SetEncodings (pos 5 ∷ negsuc 222 ∷ [])) []
unfolding client_message
set_encodings = refl

-- SetEncodings of none
set_no_encodings : client_message (2 ∷ 9 ∷ 0 ∷ 0 ∷ []) ≡ Got (SetEncodings []) []
unfolding client_message
set_no_encodings = refl

-- an incremental request for 2 by 1 at the origin
request : client_message (3 ∷ 1 ∷ 0 ∷ 0 ∷ 0 ∷ 0 ∷ 0 ∷ 2 ∷ 0 ∷ 1 ∷ [])
    ≡ Got (FramebufferUpdateRequest true (record { x = 0; y = 0; w = 2; h = 1 })) []
unfolding client_message
request = refl

-- a key, the letter a, pressed; the pointer at (258, 3) with its first button down
key : client_message (4 ∷ 1 ∷ 7 ∷ 7 ∷ 0 ∷ 0 ∷ 0 ∷ 97 ∷ []) ≡ Got (KeyEvent true 97) []
unfolding client_message
key = refl

pointer : client_message (5 ∷ 1 ∷ 1 ∷ 2 ∷ 0 ∷ 3 ∷ []) ≡ Got (PointerEvent 1 258 3) []
unfolding client_message
pointer = refl

-- a text of two bytes, and one that lacks its last
cut_text : client_message (6 ∷ 0 ∷ 0 ∷ 0 ∷ 0 ∷ 0 ∷ 0 ∷ 2 ∷ 65 ∷ 66 ∷ 67 ∷ [])
    ≡ Got (ClientCutText (65 ∷ 66 ∷ [])) (67 ∷ [])
unfolding client_message
cut_text = refl

cut_text_short : client_message (6 ∷ 0 ∷ 0 ∷ 0 ∷ 0 ∷ 0 ∷ 0 ∷ 2 ∷ 65 ∷ []) ≡ More
unfolding client_message
cut_text_short = refl

-- type 1 is no client message's
unknown : client_message (1 ∷ []) ≡ Bad (UnknownType 1)
unfolding client_message
unknown = refl

-- an update of one rectangle, which begins after its head
update : server_message (0 ∷ 0 ∷ 0 ∷ 1 ∷ 0 ∷ []) ≡ Got (FramebufferUpdate 1) (0 ∷ [])
unfolding server_message
update = refl

-- a colour map of one colour
colour_map : server_message (1 ∷ 0 ∷ 0 ∷ 4 ∷ 0 ∷ 1 ∷ 255 ∷ 255 ∷ 1 ∷ 2 ∷ 0 ∷ 3 ∷ [])
    ≡ Got (SetColorMapEntries 4 (record { red = 65535; green = 258; blue = 3 } ∷ [])) []
unfolding server_message
colour_map = refl

-- a bell before a text of one byte
bell : server_message (2 ∷ 3 ∷ 0 ∷ []) ≡ Got Bell (3 ∷ 0 ∷ [])
unfolding server_message
bell = refl

server_cut_text : server_message (3 ∷ 0 ∷ 0 ∷ 0 ∷ 0 ∷ 0 ∷ 0 ∷ 1 ∷ 65 ∷ [])
    ≡ Got (ServerCutText (65 ∷ [])) []
unfolding server_message
server_cut_text = refl

-- type 4 is no server message's
unknown_server : server_message (4 ∷ []) ≡ Bad (UnknownServerType 4)
unfolding server_message
unknown_server = refl
