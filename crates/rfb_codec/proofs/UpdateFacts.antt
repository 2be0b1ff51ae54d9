-- What comes next in all that a server sends, computed from the grammar, on a screen of 2 by 1.
use Rattle.std.proofs.Common.{◌≡◌, [], ◌∷◌, refl}
use Rattle.std.specs.Prelude.{negsuc}
use Rattle.rfb_pixel.specs.Format.{bgr233}
use Rattle.rfb_wire.specs.declared.encoding.Encoding.TheVariants.{Raw}
use Rattle.rfb_wire.specs.declared.fault.WireFault.TheVariants.{UnknownEncoding, RectOutside}
use Rattle.rfb_wire.specs.stream.Prefix.{More, Got, Bad}
use Rattle.rfb_wire.specs.RectStream.{rect_head}
use Rattle.rfb_wire.specs.ServerMessage.{FramebufferUpdate, Bell, UnknownType, server_message}
use Rattle.rfb_codec.specs.declared.fault.PaintFault.TheVariants.{SubrectOutside}
use Rattle.rfb_codec.specs.Raw.{raw}
use Rattle.rfb_codec.specs.Rre.{rre}
use Rattle.rfb_codec.specs.RectData.{rect_data}
use Rattle.rfb_codec.specs.UpdateStream.{UpdatePoint, Message, Rectangle, InMessage, InHead, InData, update_stream}

-- between two messages, and where a rectangle is left of an update
between : UpdatePoint
between = record { width = 2; height = 1; form = bgr233; left = 0 }

inside : UpdatePoint
inside = record { width = 2; height = 1; form = bgr233; left = 1 }

a_message_stands_between : update_stream.next between (2 ∷ 9 ∷ []) ≡ Got (Message Bell) (9 ∷ [])
unfolding update_stream server_message between
a_message_stands_between = refl

an_update_leads_to_its_rectangles : update_stream.past between (Message (FramebufferUpdate 3))
    ≡ record { width = 2; height = 1; form = bgr233; left = 3 }
unfolding update_stream between
an_update_leads_to_its_rectangles = refl

an_unknown_type_is_reported_at_its_byte : update_stream.next between (4 ∷ []) ≡ Bad (InMessage (UnknownType 4))
unfolding update_stream server_message between
an_unknown_type_is_reported_at_its_byte = refl

a_rectangle_has_its_data : update_stream.next inside (0 ∷ 0 ∷ 0 ∷ 0 ∷ 0 ∷ 2 ∷ 0 ∷ 1 ∷ 0 ∷ 0 ∷ 0 ∷ 0 ∷ 7 ∷ 56 ∷ 2 ∷ [])
    ≡ Got (Rectangle (record { rect = record { x = 0; y = 0; w = 2; h = 1 }; encoding = Raw }) (7 ∷ 56 ∷ [])) (2 ∷ [])
unfolding update_stream rect_head rect_data raw inside
a_rectangle_has_its_data = refl

the_last_rectangle_leads_back : update_stream.past inside
    (Rectangle (record { rect = record { x = 0; y = 0; w = 2; h = 1 }; encoding = Raw }) (7 ∷ 56 ∷ [])) ≡ between
unfolding update_stream inside between
the_last_rectangle_leads_back = refl

an_unknown_encoding_is_reported_at_the_head : update_stream.next inside
    (0 ∷ 1 ∷ 0 ∷ 0 ∷ 0 ∷ 2 ∷ 0 ∷ 1 ∷ 255 ∷ 255 ∷ 255 ∷ 33 ∷ []) ≡ Bad (InHead (UnknownEncoding (negsuc 222)))
unfolding update_stream rect_head inside
an_unknown_encoding_is_reported_at_the_head = refl

a_rectangle_outside_is_reported_at_its_head : update_stream.next inside
    (0 ∷ 1 ∷ 0 ∷ 0 ∷ 0 ∷ 2 ∷ 0 ∷ 1 ∷ 0 ∷ 0 ∷ 0 ∷ 0 ∷ []) ≡ Bad (InHead RectOutside)
unfolding update_stream rect_head inside
a_rectangle_outside_is_reported_at_its_head = refl

a_fault_in_its_data_is_reported_there : update_stream.next inside (0 ∷ 0 ∷ 0 ∷ 0 ∷ 0 ∷ 2 ∷ 0 ∷ 1 ∷ 0 ∷ 0 ∷ 0 ∷ 2 ∷ 255
    ∷ 255 ∷ 255 ∷ 255 ∷ 16 ∷ 32 ∷ 0 ∷ 2 ∷ 0 ∷ 0 ∷ 0 ∷ 1 ∷ 0 ∷ 1 ∷ []) ≡ Bad (InData SubrectOutside)
unfolding update_stream rect_head rect_data rre inside
a_fault_in_its_data_is_reported_there = refl

data_that_are_not_all_there_are_waited_for : update_stream.next inside
    (0 ∷ 0 ∷ 0 ∷ 0 ∷ 0 ∷ 2 ∷ 0 ∷ 1 ∷ 0 ∷ 0 ∷ 0 ∷ 0 ∷ 7 ∷ []) ≡ More
unfolding update_stream rect_head rect_data raw inside
data_that_are_not_all_there_are_waited_for = refl
