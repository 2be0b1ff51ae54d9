-- How rectangles are encoded: words of private contracts alone, which a reader can skip.
pub mod Encode
pub mod Cover
pub mod Palette
pub mod Background
pub mod TileSpelling
pub mod Carried
pub mod Announced
