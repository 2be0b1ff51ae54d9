-- What crates above cite of the lemmas in `GridLemmas`.
pub use Rattle.rfb_picture.proofs.GridLemmas.{at-changed, at-filled, at-uniform, at-with_row, changed_is, changed_twice}
pub use Rattle.rfb_picture.proofs.GridLemmas.{contains_more, contains_row, contains_true, height-changed}
pub use Rattle.rfb_picture.proofs.GridLemmas.{height-uniform, index_in_row, length-row_of, place_below, same_changes}
pub use Rattle.rfb_picture.proofs.GridLemmas.{same_grid, slice_index_or-row_of, some_in_row, whole-changed}
pub use Rattle.rfb_picture.proofs.GridLemmas.{whole-uniform, whole_before, width-changed, width-uniform}
