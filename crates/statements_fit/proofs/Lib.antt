pub mod lemmas
mod examples
