mod Copying
mod Alike
