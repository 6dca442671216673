mod Numbers
mod ShapeLaws
mod Whole
mod Bytes
mod Pairs
mod Loops
