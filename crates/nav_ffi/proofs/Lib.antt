mod Opened
mod Rastered
