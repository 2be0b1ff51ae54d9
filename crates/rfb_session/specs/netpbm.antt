-- Files of Netpbm: which bytes spell which picture.
pub mod Side
pub mod Number
pub mod Head
pub mod Places
pub mod File
pub mod Gaps
pub mod PlacesRead
