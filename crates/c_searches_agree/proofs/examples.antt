mod TableExamples
