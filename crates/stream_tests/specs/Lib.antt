pub mod Element
pub mod Laws
pub mod Modulus
