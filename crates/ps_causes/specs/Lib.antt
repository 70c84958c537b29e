pub mod Source
pub mod Runs
pub mod Command
pub mod Steps
pub use Rattle.ps_args.specs.ps_scan as ps_scan
pub use Rattle.ps_parse.specs as ps_parse
pub use Rattle.ps_meaning.specs.ps_typing as ps_typing
pub use Rattle.ps_meaning.specs.ps_heap as ps_heap
pub use Rattle.ps_meaning.specs as ps_meaning
pub use Rattle.ps_volumes.specs.obj_store as obj_store
pub use Rattle.ps_args.specs as ps_args
pub use Rattle.ps_volumes.specs.ps_reports as ps_reports
pub use Rattle.ps_volumes.specs as ps_volumes
pub use Rattle.device_runs.specs as device_runs
