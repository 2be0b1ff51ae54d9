pub mod Desk
pub mod SeatLines
pub mod Time
pub mod Viewers
pub mod Updates
pub mod Turns
pub mod Console
pub mod History
