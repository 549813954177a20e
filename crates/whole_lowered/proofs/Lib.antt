mod Each
mod Risings
mod Known
mod examples
