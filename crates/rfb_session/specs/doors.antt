-- A loop that moves bytes between numbered doors and a core.
pub mod Events
pub mod Devices
pub mod Wants
pub mod Turns
pub mod CountedDuplex
pub mod Places
pub mod Lives
pub mod Arrivals
pub mod Tenants
pub mod Echo
