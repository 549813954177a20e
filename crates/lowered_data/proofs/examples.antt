mod DataExamples
