-- What crates above cite of the lemmas in `FormatLemmas`.
pub use Rattle.rfb_pixel.proofs.FormatLemmas.{pixel_number-pixel_bytes, pixel_number-take, rgb888-is_format}
