mod Held
mod Parts
mod Needs
mod Normal
mod Readied
mod Alone
