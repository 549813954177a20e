pub mod StandingLists
