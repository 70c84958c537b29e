pub mod Moments
pub mod PastMoments
