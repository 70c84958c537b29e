pub mod OpenLaws
pub mod BitLaws
pub mod RootLaws
pub mod FaultLaws
pub mod UseLaws
pub mod CountLaws
pub mod WriteLaws
pub mod EnterLaws
pub mod StayLaws
pub mod FetchLaws
pub mod NextLaws
pub use Rattle.table_nodes.proofs as of_table_nodes
