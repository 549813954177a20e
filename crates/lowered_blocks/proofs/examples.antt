mod KnownExamples
