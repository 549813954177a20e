mod TreeExamples
mod CoreExamples
