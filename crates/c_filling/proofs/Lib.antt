mod Characters
mod FilledPlaces
mod Started
