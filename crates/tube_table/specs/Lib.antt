pub mod Tube
