-- What a session keeps: words of private contracts alone, which a reader can skip.
pub mod Marks
pub mod Ended
pub mod NewSession
pub mod Sessions
pub mod Twins
pub mod Slice
