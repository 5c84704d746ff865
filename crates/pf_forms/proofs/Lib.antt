mod Counts
mod Places
mod Totals
