mod MoveExamples
mod CheckedExamples
