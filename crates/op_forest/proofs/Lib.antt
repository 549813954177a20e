pub mod lemmas
mod FrameLaws
