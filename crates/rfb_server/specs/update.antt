-- What an update is made of: words of private contracts alone, which a reader can skip.
pub mod Rectangle
pub mod Needs
pub mod Sends
pub mod Composed
pub mod Copies
pub mod Gains
