mod Found
mod Kept
