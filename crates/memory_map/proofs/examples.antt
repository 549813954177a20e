mod WordExamples
mod PlaceExamples
mod ByteExamples
mod StartExamples
