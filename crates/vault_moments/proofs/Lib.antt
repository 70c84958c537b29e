pub mod VaultLaws
