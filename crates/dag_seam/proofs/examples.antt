mod TurnExamples
mod OpenExamples
mod RoomExamples
mod FitExamples
