pub mod HostileLaws
