mod Weights
mod Costs
mod Checked
mod PlacedMass
mod Bytes
mod OfText
