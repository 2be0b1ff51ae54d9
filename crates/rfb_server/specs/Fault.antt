-- The faults of the handshake, of a format and of a message, as faults of a session; and their
-- numbers.
use Rattle.std.specs.Prelude.{ℕ}
use Rattle.rfb_pixel.specs.declared.fault.FormatFault.{FormatFault}
use Rattle.rfb_pixel.specs.declared.fault.FormatFault.TheVariants.{BadBits, DepthTooLarge, NotTrueColour, BadMax}
use Rattle.rfb_pixel.specs.declared.fault.FormatFault.TheVariants.{ShiftTooLarge, FieldsOverlap}
use Rattle.rfb_wire.specs.ClientMessage.{ClientFault, BadFormat, UnknownType}
use Rattle.rfb_hello.specs.declared.fault.HelloFault.{HelloFault}
use Rattle.rfb_hello.specs.declared.fault.HelloFault.TheVariants.{BadVersion, VersionTooHigh, BadSecurityChoice}
use Rattle.rfb_hello.specs.declared.fault.HelloFault.TheVariants.{NoneNotOffered, Refused, BadSecurityWord}
use Rattle.rfb_hello.specs.declared.fault.HelloFault.TheVariants.{SecurityFailed, ScreenEmpty, ScreenTooLarge, NoMemory}
use Rattle.rfb_server.specs.declared.fault.ServerFault.{ServerFault}
use Rattle.rfb_server.specs.declared.fault.ServerFault.TheVariants.{BadBits as Bits, DepthTooLarge as Depth}
use Rattle.rfb_server.specs.declared.fault.ServerFault.TheVariants.{NotTrueColour as Colours, BadMax as Max}
use Rattle.rfb_server.specs.declared.fault.ServerFault.TheVariants.{ShiftTooLarge as Shift, FieldsOverlap as Overlap}
use Rattle.rfb_server.specs.declared.fault.ServerFault.TheVariants.{UnknownMessage, BadVersion as Version}
use Rattle.rfb_server.specs.declared.fault.ServerFault.TheVariants.{VersionTooHigh as High, BadSecurityChoice as Choice}
use Rattle.rfb_server.specs.declared.fault.ServerFault.TheVariants.{NoMemory as Memory}

-- of the handshake's faults, a client's bytes show the first three alone; the next six are a
-- server's
abbrev pub fault_of_hello : HelloFault → ServerFault
fault_of_hello BadVersion = Version
fault_of_hello VersionTooHigh = High
fault_of_hello BadSecurityChoice = Choice
fault_of_hello NoneNotOffered = Version
fault_of_hello (Refused n) = Version
fault_of_hello BadSecurityWord = Version
fault_of_hello (SecurityFailed n) = Version
fault_of_hello ScreenEmpty = Version
fault_of_hello ScreenTooLarge = Version
fault_of_hello NoMemory = Memory

-- each check of a format has its fault
abbrev pub fault_of_format : FormatFault → ServerFault
fault_of_format BadBits = Bits
fault_of_format DepthTooLarge = Depth
fault_of_format NotTrueColour = Colours
fault_of_format BadMax = Max
fault_of_format ShiftTooLarge = Shift
fault_of_format FieldsOverlap = Overlap

-- a message is at fault for its format or for its type
abbrev pub fault_of_message : ClientFault → ServerFault
fault_of_message (BadFormat fault) = fault_of_format fault
fault_of_message (UnknownType message_type) = UnknownMessage message_type

-- the number of a fault
abbrev pub fault_number : ServerFault → ℕ
fault_number Bits = 1
fault_number Depth = 2
fault_number Colours = 3
fault_number Max = 4
fault_number Shift = 5
fault_number Overlap = 6
fault_number (UnknownMessage message_type) = 7
fault_number Version = 15
fault_number High = 16
fault_number Choice = 17
fault_number Memory = 30
