mod Apart
mod Putting
mod Same
