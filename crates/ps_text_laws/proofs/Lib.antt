pub mod LetsRead
