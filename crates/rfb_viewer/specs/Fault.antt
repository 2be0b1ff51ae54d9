-- The faults of the handshake, of a message, of a rectangle's head and of its data, as faults of a
-- viewer; and their numbers.
use Rattle.std.specs.Prelude.{ℕ}
use Rattle.rfb_wire.specs.declared.fault.WireFault.{WireFault}
use Rattle.rfb_wire.specs.declared.fault.WireFault.TheVariants.{UnknownMessage as WireMessage}
use Rattle.rfb_wire.specs.declared.fault.WireFault.TheVariants.{UnknownEncoding as WireEncoding}
use Rattle.rfb_wire.specs.declared.fault.WireFault.TheVariants.{RectOutside as WireOutside}
use Rattle.rfb_wire.specs.ServerMessage.{UnknownType}
use Rattle.rfb_codec.specs.declared.fault.PaintFault.{PaintFault}
use Rattle.rfb_codec.specs.declared.fault.PaintFault.TheVariants.{SubrectOutside as Subrect, NoBackground as Background}
use Rattle.rfb_codec.specs.declared.fault.PaintFault.TheVariants.{NoForeground as Foreground, BothColourBits as Both}
use Rattle.rfb_codec.specs.declared.fault.PaintFault.TheVariants.{SourceOutside as Source}
use Rattle.rfb_codec.specs.UpdateStream.{UpdateFault, InMessage, InHead, InData}
use Rattle.rfb_hello.specs.declared.fault.HelloFault.{HelloFault}
use Rattle.rfb_hello.specs.declared.fault.HelloFault.TheVariants.{BadVersion as Version, VersionTooHigh as High}
use Rattle.rfb_hello.specs.declared.fault.HelloFault.TheVariants.{BadSecurityChoice as Choice}
use Rattle.rfb_hello.specs.declared.fault.HelloFault.TheVariants.{NoneNotOffered as NotOffered, Refused as Refusal}
use Rattle.rfb_hello.specs.declared.fault.HelloFault.TheVariants.{BadSecurityWord as Word, SecurityFailed as Failure}
use Rattle.rfb_hello.specs.declared.fault.HelloFault.TheVariants.{ScreenEmpty as Empty, ScreenTooLarge as Large}
use Rattle.rfb_hello.specs.declared.fault.HelloFault.TheVariants.{NoMemory as Memory}
use Rattle.rfb_viewer.specs.declared.fault.ViewerFault.{ViewerFault}
use Rattle.rfb_viewer.specs.declared.fault.ViewerFault.TheVariants.{UnknownMessage, UnknownEncoding, RectOutside}
use Rattle.rfb_viewer.specs.declared.fault.ViewerFault.TheVariants.{SubrectOutside, NoBackground, NoForeground}
use Rattle.rfb_viewer.specs.declared.fault.ViewerFault.TheVariants.{BothColourBits, SourceOutside, BadVersion}
use Rattle.rfb_viewer.specs.declared.fault.ViewerFault.TheVariants.{NoneNotOffered, Refused, BadSecurityWord}
use Rattle.rfb_viewer.specs.declared.fault.ViewerFault.TheVariants.{SecurityFailed, ScreenEmpty, ScreenTooLarge}
use Rattle.rfb_viewer.specs.declared.fault.ViewerFault.TheVariants.{NoMemory}

-- of the handshake's faults the second and the third are a client's, and never come of a server's
-- bytes
abbrev pub fault_of_hello : HelloFault → ViewerFault
fault_of_hello Version = BadVersion
fault_of_hello High = BadVersion
fault_of_hello Choice = BadVersion
fault_of_hello NotOffered = NoneNotOffered
fault_of_hello (Refusal reason_length) = Refused reason_length
fault_of_hello Word = BadSecurityWord
fault_of_hello (Failure reason_length) = SecurityFailed reason_length
fault_of_hello Empty = ScreenEmpty
fault_of_hello Large = ScreenTooLarge
fault_of_hello Memory = NoMemory

-- of a head
abbrev pub fault_of_wire : WireFault → ViewerFault
fault_of_wire (WireMessage message_type) = UnknownMessage message_type
fault_of_wire (WireEncoding number) = UnknownEncoding number
fault_of_wire WireOutside = RectOutside

-- of a rectangle's data
abbrev pub fault_of_paint : PaintFault → ViewerFault
fault_of_paint Subrect = SubrectOutside
fault_of_paint Background = NoBackground
fault_of_paint Foreground = NoForeground
fault_of_paint Both = BothColourBits
fault_of_paint Source = SourceOutside

-- of what a server sends after the handshake
abbrev pub fault_of_update : UpdateFault → ViewerFault
fault_of_update (InMessage (UnknownType message_type)) = UnknownMessage message_type
fault_of_update (InHead fault) = fault_of_wire fault
fault_of_update (InData fault) = fault_of_paint fault

-- the number of a fault
abbrev pub fault_number : ViewerFault → ℕ
fault_number (UnknownMessage message_type) = 7
fault_number (UnknownEncoding number) = 8
fault_number RectOutside = 9
fault_number SubrectOutside = 10
fault_number NoBackground = 11
fault_number NoForeground = 12
fault_number BothColourBits = 13
fault_number SourceOutside = 14
fault_number BadVersion = 15
fault_number NoneNotOffered = 18
fault_number (Refused reason_length) = 19
fault_number BadSecurityWord = 20
fault_number (SecurityFailed reason_length) = 21
fault_number ScreenEmpty = 22
fault_number ScreenTooLarge = 23
fault_number NoMemory = 30
