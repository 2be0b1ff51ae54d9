-- How rectangles are decoded: words of private contracts alone, which a reader can skip.
pub mod TileRead
pub mod Step
