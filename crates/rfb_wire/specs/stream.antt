-- Streams of bytes, whatever their items are: what bytes begin with, the grammar of a
-- stream, an end that is fed one in slices, and two grammars one after the other.
-- Nothing here knows a message.
pub mod Prefix
pub mod Parts
pub mod Heads
pub mod Grammar
pub mod End
pub mod FaultPlace
pub mod Sequel
pub mod Both
pub mod Session
pub mod PendingBytes
