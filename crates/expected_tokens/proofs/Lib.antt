pub mod Reading
pub mod Could
pub mod Sifting
pub mod Beginning
