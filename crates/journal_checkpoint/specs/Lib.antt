pub mod Faults
pub mod Heads
pub mod Laws
pub mod Made
pub mod MemberLaws
pub mod Packing
pub mod Pair
pub mod Steps
