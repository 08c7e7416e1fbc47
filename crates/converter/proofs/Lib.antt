pub mod Clean
pub mod Refusing
pub mod Rewriting
pub mod Converting
pub mod Cases
pub mod Claims
