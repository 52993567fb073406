pub mod Modulus
pub mod Element
pub mod Laws
