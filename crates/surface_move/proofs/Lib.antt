mod Numbers
mod NearPoints
mod Turns
mod Reaches
