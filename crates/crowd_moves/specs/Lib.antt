pub mod Beyond
pub mod Pairs
pub mod Laws
pub mod Steps
pub mod Keyed
pub mod Contacts
pub mod Finding
pub mod Wishes
