pub mod RolledBack
