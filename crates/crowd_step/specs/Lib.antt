pub mod Steered
pub mod Orders
pub mod Lists
pub mod Kept
pub mod Slim
