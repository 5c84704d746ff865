mod Ranges
mod Corners
mod EdgesApart
mod Faults
mod Fits
