mod WholeExamples
