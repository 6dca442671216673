pub mod Meshes
