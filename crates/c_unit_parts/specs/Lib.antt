pub mod PartsIn
