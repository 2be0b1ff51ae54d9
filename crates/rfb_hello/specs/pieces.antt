-- A handshake piece by piece: words of private contracts alone, which a reader can skip.
pub mod ServerPiece
pub mod ViewerPiece
