mod MarkExamples
