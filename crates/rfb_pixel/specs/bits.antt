-- Bits of a pixel, as private contracts alone read them; a reader of promises can skip these words.
pub mod Fields
pub mod Lanes
