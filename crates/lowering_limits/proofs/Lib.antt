mod examples
mod NodeRows
mod Counting
mod Seen
mod Told
mod OneFault
