mod KeptExamples
