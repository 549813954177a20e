mod BodyExamples
