pub mod Octets
pub mod Told
pub mod Laws
